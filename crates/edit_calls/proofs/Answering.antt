-- How a call that is checked, and then makes its edits, answers its plan.
use Rattle.std.proofs.Common.{◌≡◌, ℕ, List, [], ◌∷◌, Bool, true, false, ◌&&◌, length, Result, Ok, Err, refl, ap, sym, ◌∙◌, subst}
use Rattle.std.specs.Prelude.{not, if◌then◌else◌, is_ok, MatchResult}
use Rattle.std.specs.declared.alloc.AllocError.{AllocError}
use Rattle.std.specs.Result.{IsErrAnd}
use Rattle.std.proofs.lemmas.Bool.{false≢true}
use Rattle.css_text.specs.declared.stop.Stop.{Stop}
use Rattle.css_text.specs.declared.stop.Stop.TheVariants.{Memory}
use Rattle.node_store.specs.declared.fault.TreeFault.{TreeFault}
use Rattle.node_store.specs.declared.item.Edit.{Edit}
use Rattle.node_store.specs.Forest.{Forest, unreserved}
use Rattle.node_store.specs.Edits.{is_allowed, changes, edited, edited_where}
use Rattle.edit_calls.specs.Plans.{plan, where_changing}
use Rattle.edit_calls.specs.Checks.{checked}
use Rattle.edit_calls.specs.Answers.{Makes, Answers, AnswersNew}

plan_if : (b : Bool) (f : TreeFault) (rs : List (Bool × TreeFault)) (es : List Edit) → (checked rs ≡ Ok tt → plan rs es ≡ Ok es) → (let r : Result (Unit {0}) TreeFault = if b then Err f else checked rs in r ≡ Ok tt) → (let r : Result (List Edit) TreeFault = if b then Err f else plan rs es in r ≡ Ok es)
plan_if true f rs es g h = absurd cc
plan_if false f rs es g h = g h

-- where no test holds, the edits are made
pub plan-ok : (rs : List (Bool × TreeFault)) (es : List Edit) → checked rs ≡ Ok tt → plan rs es ≡ Ok es
plan-ok [] es h = refl
plan-ok (r ∷ rs) es h = plan_if r.0 r.1 rs es (plan-ok rs es) h

-- a check that passed
pub passed : (rs : List (Bool × TreeFault)) (a : Result (Unit {0}) TreeFault) (r : Result (Unit {0}) (Stop TreeFault)) (x : Unit {0}) → is_ok r ≡ is_ok a → r ≡ Ok x → a ≡ checked rs → checked rs ≡ Ok tt
passed rs (Ok x) r y e h k = sym k
passed rs (Err f) r y e h k = absurd (false≢true (sym e ∙ ap is_ok h))

-- what was answered before its fault was wrapped
pub unwrapped : {A E : Type 0} (P : E → Stop TreeFault → Type 0) (a : Result A E) (r : Result A (Stop TreeFault)) (x : A) → MatchResult a (λ y. r ≡ Ok y) (λ e. IsErrAnd r (P e)) → r ≡ Ok x → a ≡ Ok x
unwrapped P (Ok y) r x h e = let j : y ≡ x = cc in ap Ok j
unwrapped P (Err d) r x h e = absurd (subst (λ s. IsErrAnd s (P d)) e h)

-- neither of two tests holds
pub neither : (a b : Bool) (f g : TreeFault) → checked ((not a, f) ∷ (not b, g) ∷ []) ≡ Ok tt → (a && b) ≡ true
neither true true f g h = refl
neither true false f g h = absurd cc
neither false b f g h = absurd cc

makes_if : (before after : Forest) (e : Edit) → is_allowed before.nodes e ≡ true → (b : Bool) → changes before.nodes e ≡ b → (let f : Forest = if b then edited (unreserved before) e else unreserved before in unreserved after ≡ f) → (let es : List Edit = if b then e ∷ [] else [] in Makes before after es)
makes_if before after e a true c h = record { met = ap (λ x. (x && changes before.nodes e) && true) a ∙ ap (λ x. (true && x) && true) c; made = h }
makes_if before after e a false c h = record { met = refl; made = h }

-- an edit that may change nothing
pub makes-where : (before after : Forest) (e : Edit) → is_allowed before.nodes e ≡ true → unreserved after ≡ edited_where (unreserved before) e → Makes before after (where_changing before.nodes e)
makes-where before after e a h = makes_if before after e a (changes before.nodes e) refl h

pub makes-one : (before after : Forest) (e : Edit) → is_allowed before.nodes e ≡ true → changes before.nodes e ≡ true → unreserved after ≡ edited (unreserved before) e → Makes before after (e ∷ [])
makes-one before after e a c h = makes_if before after e a true c h

-- what a call answers that makes the edits of its plan, or wants memory
pub answered : (p : Result (List Edit) TreeFault) (es : List Edit) (before after : Forest) (r : Result (Unit {0}) AllocError) (s : Result (Unit {0}) (Stop TreeFault)) → p ≡ Ok es
    → MatchResult r (λ _. Makes before after es) (λ _. unreserved after ≡ unreserved before) → MatchResult r (λ x. s ≡ Ok x) (λ e. IsErrAnd s (λ y. y ≡ Memory e)) → Answers p before after s
answered p es before after (Ok x) (Ok y) e m t = (es, e, m)
answered p es before after (Ok x) (Err y) e m t = absurd cc
answered p es before after (Err d) (Ok y) e m t = absurd t
answered p es before after (Err d) (Err y) e m t = subst (λ z. Answers p before after (Err z)) (sym t) (ap is_ok e, m)

pub answered-new : (p : Result (List Edit) TreeFault) (es : List Edit) (before after : Forest) (r : Result ℕ AllocError) (s : Result ℕ (Stop TreeFault)) → p ≡ Ok es
    → MatchResult r (λ n. (n ≡ length before.nodes) × Makes before after es) (λ _. unreserved after ≡ unreserved before) → MatchResult r (λ x. s ≡ Ok x) (λ e. IsErrAnd s (λ y. y ≡ Memory e)) → AnswersNew p before after s
answered-new p es before after (Ok x) (Ok y) e m t = let j : y ≡ x = cc in (j ∙ m.0, es, e, m.1)
answered-new p es before after (Ok x) (Err y) e m t = absurd cc
answered-new p es before after (Err d) (Ok y) e m t = absurd t
answered-new p es before after (Err d) (Err y) e m t = subst (λ z. AnswersNew p before after (Err z)) (sym t) (ap is_ok e, m)
