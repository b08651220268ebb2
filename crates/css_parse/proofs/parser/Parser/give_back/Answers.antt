use Rattle.std.proofs.Common.{◌≡◌, ◌<◌, ◌-◌, ◌++◌, ap, ◌∙◌, sym, subst, arith, [], ◌∷◌, List, length, length-append, take, drop}
use Rattle.std.proofs.lemmas.Grind.{common_steps}
use Rattle.css_tree.specs.Pieces.{is_blank, last_end}
use Rattle.css_tree.specs.Classes.{Each}
use Rattle.css_tree.proofs.Split.{solid, tail}
use Rattle.css_tree.proofs.Trim.{trim-all, trim-tail}
use Rattle.css_parse.specs.Machine.{leaf_node}
use Rattle.css_parse.specs.Model.{model}
use Rattle.css_parse.specs.Standing.{sheet, gap_text, IsBehind}
use Rattle.css_parse.proofs.FieldTexts.{rest-from}
use Rattle.css_parse.proofs.Standing.{gap, behind-front, behind-back}
use Rattle.css_parse.proofs.ParserPlaces.{no-gap}
use Rattle.css_parse.proofs.Giving.{given_nodes, given_behind, give-back, given-idle, solid-some}
use Rattle.css_parse.proofs.parser.Parser.give_back.Goals as goal

pub returns-then-is_empty-clause-model : goal.returns-then-is_empty-clause-model
returns-then-is_empty-clause-model c =
    let e : c.args.self.now.run ≡ [] = grind (arith, common_steps) in
    sym (given-idle (model c.args.self.now) e)

pub returns-then-is_empty-clause-behind : goal.returns-then-is_empty-clause-behind
returns-then-is_empty-clause-behind c =
    let e : c.args.self.now.run ≡ [] = grind (arith, common_steps) in
    subst (IsBehind (sheet c.args.self.now.texts) c.args.self.now.gap) e c.requires.behind

pub leaf_node-requires-clause-some : goal.leaf_node-requires-clause-some
leaf_node-requires-clause-some c =
    let n : c.args.self.now.run ≡ [] → ⊥ = λ e. grind (arith, common_steps) in
    let t = ap (take c.solid_len-n.result) (c.as_slice-3.ensures ∙ sym c.as_slice-2.ensures) ∙ (c.solid_len-n.ensures.front ∙ ap solid c.as_slice-2.ensures) in
    subst (λ z. 0 < length z) (sym t) (solid-some c.args.self.now.run n c.requires.ready.begun)

pub leaf_node-requires-clause-behind : goal.leaf_node-requires-clause-behind
leaf_node-requires-clause-behind c =
    let s = c.args.self.now in
    subst (λ z. IsBehind (sheet s.texts) s.gap (take c.solid_len-n.result z)) (sym c.as_slice-3.ensures) (behind-front (sheet s.texts) s.gap c.solid_len-n.result s.run c.requires.behind)

pub settle-requires-clause-blanks : goal.settle-requires-clause-blanks
settle-requires-clause-blanks c =
    let t = rest-from c.solid_len-n.result c.as_slice-4.result.now ∙ (ap (drop c.solid_len-n.result) (c.as_slice-4.ensures ∙ sym c.as_slice-2.ensures) ∙ (c.solid_len-n.ensures.back ∙ ap tail c.as_slice-2.ensures)) in
    subst (λ z. Each is_blank z) (sym t) (trim-tail is_blank c.args.self.now.run)

pub settle-requires-clause-room : goal.settle-requires-clause-room
settle-requires-clause-room c =
    let s = c.args.self.now in
    let n : s.run ≡ [] → ⊥ = λ e. grind (arith, common_steps) in
    let t = rest-from c.solid_len-n.result c.as_slice-4.result.now ∙ (ap (drop c.solid_len-n.result) (c.as_slice-4.ensures ∙ sym c.as_slice-2.ensures) ∙ (c.solid_len-n.ensures.back ∙ ap tail c.as_slice-2.ensures)) in
    omega (
      arith,
      ap length t,
      ap length (trim-all is_blank s.run),
      length-append (solid s.run) (tail s.run),
      solid-some s.run n c.requires.ready.begun,
      ap length c.in_ok-push.ensures,
      length-append s.nodes (c.in_ok-node.node ∷ []),
      c.requires.small,
    )

pub settle-requires-clause-known : goal.settle-requires-clause-known
settle-requires-clause-known c =
    let s = c.args.self.now in
    omega (arith, ap length c.in_ok-push.ensures, length-append s.nodes (c.in_ok-node.node ∷ []), c.requires.ready.known)

pub settle-requires-clause-behind : goal.settle-requires-clause-behind
settle-requires-clause-behind c =
    let s = c.args.self.now in
    let n = c.solid_len-n.result in
    let e : c.at-self.result ≡ gap (last_end s.gap.end (take n s.run)) (last_end s.gap.end (take n s.run)) =
    c.at-self.ensures ∙ ap (λ z. gap z z) (c.last_end.ensures ∙ ap (λ r. last_end s.gap.end (take n r)) c.as_slice-3.ensures) in
    let t = rest-from n c.as_slice-4.result.now ∙ ap (drop n) c.as_slice-4.ensures in
    subst (λ z. IsBehind (sheet s.texts) z (take (length c.as_slice-4.result.now - n) (drop n c.as_slice-4.result.now))) (sym e)
    (subst (IsBehind (sheet s.texts) (gap (last_end s.gap.end (take n s.run)) (last_end s.gap.end (take n s.run)))) (sym t) (behind-back (sheet s.texts) s.gap n s.run c.requires.behind))

pub returns-clause-model : goal.returns-clause-model
unfolding given_nodes given_behind
returns-clause-model c =
    let s = c.args.self.now in
    let bs = sheet s.texts in
    let n : s.run ≡ [] → ⊥ = λ e. grind (arith, common_steps) in
    let blanks = take (length c.as_slice-4.result.now - c.solid_len-n.result) (drop c.solid_len-n.result c.as_slice-4.result.now) in
    let b : blanks ≡ tail s.run = rest-from c.solid_len-n.result c.as_slice-4.result.now ∙ (ap (drop c.solid_len-n.result) (c.as_slice-4.ensures ∙ sym c.as_slice-2.ensures) ∙ (c.solid_len-n.ensures.back ∙ ap tail c.as_slice-2.ensures)) in
    let f = ap (take c.solid_len-n.result) (c.as_slice-3.ensures ∙ sym c.as_slice-2.ensures) ∙ (c.solid_len-n.ensures.front ∙ ap solid c.as_slice-2.ensures) in
    let x = c.in_ok-node.ensures ∙ ap (leaf_node s.number (gap_text bs s.gap)) f in
    let i = c.in_ok-push.ensures ∙ ap (λ z. s.nodes ++ z ∷ []) x in
    let k : gap_text bs c.at-self.result ≡ [] = no-gap bs c.last_end.result c.at-self.result c.at-self.ensures in
    let m : List _ = s.nodes ++ leaf_node s.number (gap_text bs s.gap) (solid s.run) ∷ [] in
    rw c.clear.ensures
    (give-back (model s) c.settle.new.nodes (gap_text bs c.settle.new.gap) n
    (c.in_ok-settle.ensures.nodes ∙ (ap (λ z. given_nodes s.number z (gap_text bs c.at-self.result) blanks) i ∙ (ap (λ z. given_nodes s.number m z blanks) k ∙ ap (λ z. given_nodes s.number m [] z) b)))
    (c.in_ok-settle.ensures.gap ∙ (ap (λ z. given_behind z blanks) k ∙ ap (λ z. given_behind [] z) b)))
