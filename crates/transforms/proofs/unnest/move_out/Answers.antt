use Rattle.std.proofs.Common.{◌≡◌, [], ◌∷◌, ◌++◌, ℕ, suc, List, rules, true, false, nat_eq, ap, sym, ◌∙◌, subst}
use Rattle.std.specs.Prelude.{is_ok, IsSome}
use Rattle.std.specs.List.{position_or_len}
use Rattle.std.specs.Str.{chars}
use Rattle.css_tree.specs.declared.node.Field.TheVariants as F
use Rattle.node_rows.specs.Nodes.{text_of, place_of}
use Rattle.node_rows.proofs.SameLinks.{SameLinks}
use Rattle.node_store.specs.declared.item.Edit.{Edit}
use Rattle.node_store.specs.declared.item.Edit.TheVariants.{Set, Insert, Remove}
use Rattle.plugin_api.specs.Effect.{changing, own_selector}
use Rattle.transforms.specs.Fronts.{MakesFront}
use Rattle.transforms.specs.Reads.{selector_of}
use Rattle.transforms.proofs.Going.{front-stopped, front-then, front-ok, selector-links}
use Rattle.transforms.proofs.unnest.move_out.Goals as goal

pub returns-in_err-set_selector : goal.returns-in_err-set_selector
returns-in_err-set_selector c = λ p e.
    let f = c.args.work.now in
    let ns = f.nodes in
    let n = c.args.rule in
    let m = c.args.child in
    let t = selector_of (text_of ns n) ++ own_selector (text_of ns m) in
    let text : chars c.as_str.result.now ≡ t = c.as_str.ensures.characters ∙ c.in_ok-selector.ensures in
    let fs : List Edit = Remove m ∷ Insert m p (suc (place_of ns p n)) ∷ [] in
    let err : is_ok c.set_selector.result ≡ false = search rules in
    let s = c.from_residual-in_err-set_selector.result in
    let stopped : is_ok s ≡ false = search rules in
    let made = subst (λ x. MakesFront f c.set_selector.new.work (changing ns (Set F.Selector m x ∷ [])) c.set_selector.result) text c.set_selector.ensures in
    front-stopped f c.set_selector.new.work (changing ns (Set F.Selector m t ∷ [])) fs c.set_selector.result s made err stopped

pub move_behind-requires-clause-rule : goal.move_behind-requires-clause-rule
move_behind-requires-clause-rule c =
    let f = c.args.work.now in
    let mid = c.set_selector.new.work in
    let t = chars c.as_str.result.now in
    let ok : is_ok c.set_selector.result ≡ true = search rules in
    let es = changing f.nodes (Set F.Selector c.args.child t ∷ []) in
    let made = front-ok f mid es c.set_selector.result c.set_selector.ensures ok in
    let l = subst (SameLinks f.nodes) (sym made.edited.nodes) (selector-links f.nodes c.args.child t) in
    subst (λ o. IsSome o) (sym (l.parents c.args.rule)) c.requires.rule

pub move_behind-requires-clause-child : goal.move_behind-requires-clause-child
move_behind-requires-clause-child c =
    let f = c.args.work.now in
    let mid = c.set_selector.new.work in
    let t = chars c.as_str.result.now in
    let ok : is_ok c.set_selector.result ≡ true = search rules in
    let es = changing f.nodes (Set F.Selector c.args.child t ∷ []) in
    let made = front-ok f mid es c.set_selector.result c.set_selector.ensures ok in
    let l = subst (SameLinks f.nodes) (sym made.edited.nodes) (selector-links f.nodes c.args.child t) in
    l.parents c.args.child ∙ c.requires.child

pub returns : goal.returns
returns c = λ p e.
    let f = c.args.work.now in
    let ns = f.nodes in
    let mid = c.set_selector.new.work in
    let new = c.move_behind.new.work in
    let n = c.args.rule in
    let m = c.args.child in
    let t = selector_of (text_of ns n) ++ own_selector (text_of ns m) in
    let text : chars c.as_str.result.now ≡ t = c.as_str.ensures.characters ∙ c.in_ok-selector.ensures in
    let ok : is_ok c.set_selector.result ≡ true = search rules in
    let set = subst (λ x. MakesFront f mid (changing ns (Set F.Selector m x ∷ [])) c.set_selector.result) text c.set_selector.ensures in
    let es = changing ns (Set F.Selector m t ∷ []) in
    let made = front-ok f mid es c.set_selector.result set ok in
    let l = subst (SameLinks ns) (sym made.edited.nodes) (selector-links ns m t) in
    let place : place_of mid.nodes p n ≡ place_of ns p n = ap (position_or_len (nat_eq n)) (l.lists p) in
    let moved = c.move_behind.ensures p (l.parents n ∙ e) in
    let fs : ℕ → List Edit = λ i. Remove m ∷ Insert m p (suc i) ∷ [] in
    subst (λ i. MakesFront f new (es ++ fs i) c.move_behind.result) place (front-then f mid new es (fs (place_of mid.nodes p n)) c.move_behind.result made moved)
