use Rattle.std.proofs.Common.{◌≡◌, ◌∷◌, [], ℕ, List, map, filter, refl, ap, sym, ◌∙◌}
use Rattle.std.proofs.lemmas.Iterator.{YieldsList-from_chars}
use Rattle.std.proofs.lemmas.Iterator.Consumers.{YieldsList-end}
use Rattle.std.proofs.lemmas.List.Elements.{filter-append}
use Rattle.css_text.specs.Characters.{is_space}
use Rattle.stringify.specs.Sheet.{put}
use Rattle.stringify.proofs.Puts.{put-none, put-put}
use Rattle.stringify.proofs.output.Output.push_spaces.Goals as goal

map_id : (xs : List ℕ) → map (λ x. x) xs ≡ xs
map_id [] = refl
map_id (x ∷ xs) = ap (λ l. x ∷ l) (map_id xs)

pub loop-c-init : goal.loop-c-init
loop-c-init c = put-none c.args.self.now

pub loop-c-preserved : goal.loop-c-preserved
loop-c-preserved c =
    let x = c.args.self.now in
    let ys = c.loop-c.yielded in
    let ch = c.in-Some.c in
    c.in_ok-push_if_space.ensures
    ∙ (ap (put (filter is_space (ch ∷ []))) c.loop-c.invariant
    ∙ (put-put (filter is_space ys) (filter is_space (ch ∷ [])) x ∙ ap (λ l. put l x) (sym (filter-append is_space ys (ch ∷ [])))))

pub returns : goal.returns
returns c =
    let t = YieldsList-end (YieldsList-from_chars c.args.s.now c.utf8.s cc) c.loop-c.yielded _ c.loop-c.yielded_by _ _ c.in-None.is c.next.ensures.steps in
    c.loop-c.invariant ∙ ap (λ l. put (filter is_space l) c.args.self.now) (sym (map_id c.loop-c.yielded) ∙ t.0)
