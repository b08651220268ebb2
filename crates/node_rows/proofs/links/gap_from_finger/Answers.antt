use Rattle.std.proofs.Common.{◌≡◌, Some, None, sym, ◌∙◌, ap, arith, drop}
use Rattle.std.proofs.lemmas.List.{get_or_read}
use Rattle.node_rows.specs.Segments.{start_of}
use Rattle.node_rows.specs.Shown.{no_row}
use Rattle.node_rows.proofs.Join.{start_within, start_get, prev_on, kids, length-shown}
use Rattle.node_rows.proofs.Siblings.{start_short}
use Rattle.node_rows.proofs.links.gap_from_finger.Goals as goal

pub index-requires : goal.index-requires
index-requires c =
    let rs = c.args.rows.now.items in
    let xs = kids rs c.args.p in
    let x = c.args.finger in
    let e : Some x.node ≡ start_of (drop x.place xs) None = sym (start_get xs x.place ∙ c.requires.finger) in
    let b = start_within rs c.requires.sound c.args.p c.requires.given x.place x.node e in
    omega (arith, c.args.rows.now.ok.0)

pub some-requires : goal.some-requires
some-requires c =
    let rs = c.args.rows.now.items in
    let xs = kids rs c.args.p in
    let x = c.args.finger in
    let e : Some x.node ≡ start_of (drop x.place xs) None = sym (start_get xs x.place ∙ c.requires.finger) in
    let b = start_within rs c.requires.sound c.args.p c.requires.given x.place x.node e in
    omega (arith, c.requires.sound.sound.few, length-shown rs)

pub gap_onward-requires-clause-before : goal.gap_onward-requires-clause-before
gap_onward-requires-clause-before c =
    let rs = c.args.rows.now.items in
    let xs = kids rs c.args.p in
    let x = c.args.finger in
    let e : Some x.node ≡ start_of (drop x.place xs) None = sym (start_get xs x.place ∙ c.requires.finger) in
    let b = start_within rs c.requires.sound c.args.p c.requires.given x.place x.node e in
    let r = get_or_read rs x.node c.index.result.now b c.index.ensures no_row in
    ap (λ y. y.before) r ∙ prev_on rs c.requires.sound c.args.p c.requires.given x.place x.node e

pub gap_onward-requires-clause-after : goal.gap_onward-requires-clause-after
gap_onward-requires-clause-after c = c.some.ensures ∙ sym (start_get (kids c.args.rows.now.items c.args.p) c.args.finger.place ∙ c.requires.finger)

pub gap_back-requires-clause-inside : goal.gap_back-requires-clause-inside
gap_back-requires-clause-inside c =
    let xs = kids c.args.rows.now.items c.args.p in
    let x = c.args.finger in
    let b = start_short xs x.place x.node (sym (start_get xs x.place ∙ c.requires.finger)) in
    omega (arith, b)

pub gap_back-requires-clause-before : goal.gap_back-requires-clause-before
gap_back-requires-clause-before c =
    let rs = c.args.rows.now.items in
    let xs = kids rs c.args.p in
    let x = c.args.finger in
    let e : Some x.node ≡ start_of (drop x.place xs) None = sym (start_get xs x.place ∙ c.requires.finger) in
    let b = start_within rs c.requires.sound c.args.p c.requires.given x.place x.node e in
    let r = get_or_read rs x.node c.index.result.now b c.index.ensures no_row in
    ap (λ y. y.before) r ∙ prev_on rs c.requires.sound c.args.p c.requires.given x.place x.node e

pub gap_back-requires-clause-after : goal.gap_back-requires-clause-after
gap_back-requires-clause-after c = c.some.ensures ∙ sym (start_get (kids c.args.rows.now.items c.args.p) c.args.finger.place ∙ c.requires.finger)
