-- A copy of a tree answers the plan of a clone.
use Rattle.std.proofs.Common.{◌≡◌, ℕ, ◌<◌, ◌≤◌, List, [], ◌∷◌, ◌++◌, Bool, true, false, Result, Ok, Err, refl, ap, sym, ◌∙◌}
use Rattle.std.specs.Prelude.{is_ok, nat_eq}
use Rattle.std.proofs.lemmas.Bool.{lt-ltb, le-ltb, eqb-false}
use Rattle.css_text.specs.declared.stop.Stop.{Stop}
use Rattle.css_text.specs.declared.stop.Stop.TheVariants.{Fault, Memory}
use Rattle.node_store.specs.declared.fault.TreeFault.{TreeFault}
use Rattle.node_store.specs.declared.fault.TreeFault.TheVariants.{NoSuchNode, IsRoot, Full}
use Rattle.node_store.specs.declared.item.Edit.{Edit}
use Rattle.node_store.specs.Forest.{Forest, IsForest, unreserved}
use Rattle.node_store.specs.Edits.{edited_all}
use Rattle.node_store.specs.Answers.{IsCopyAnswer, size_with_copy}
use Rattle.node_store.specs.Copies.{CopiesCan, copied, tree_size}
use Rattle.edit_calls.specs.Plans.{plan, is_unknown, is_full, refused_root, cloning}
use Rattle.edit_calls.specs.Checks.{checked}
use Rattle.edit_calls.specs.Answers.{Makes, AnswersNew}
use Rattle.edit_calls.proofs.Beside.{past, given}

go_on : (b : Bool) (f : TreeFault) (rs : List (Bool × TreeFault)) (es : List Edit) (r : Result (List Edit) TreeFault) → b ≡ false → plan rs es ≡ r → plan ((b, f) ∷ rs) es ≡ r
go_on true f rs es r e h = absurd cc
go_on false f rs es r e h = h

stop : (b : Bool) (f : TreeFault) (rs : List (Bool × TreeFault)) (es : List Edit) → b ≡ true → plan ((b, f) ∷ rs) es ≡ Err f
stop true f rs es e = refl
stop false f rs es e = absurd cc

module _ (f : Forest) (n : ℕ) (h : checked (refused_root f.nodes n) ≡ Ok tt) where
  abbrev full : Bool
  full = is_full f.nodes (tree_size f.nodes n)

  abbrev last : List (Bool × TreeFault)
  last = (full, Full) ∷ []

  abbrev root : List (Bool × TreeFault)
  root = (nat_eq n 0, IsRoot) ∷ []

  known : (is_unknown f.nodes n ≡ false) × (checked root ≡ Ok tt)
  known = past (is_unknown f.nodes n) NoSuchNode root h

  not_root : nat_eq n 0 ≡ false
  not_root = (past (nat_eq n 0) IsRoot [] known.1).0

  planned : (r : Result (List Edit) TreeFault) → plan last (copied f.nodes n) ≡ r → cloning f.nodes n ≡ r
  planned r e = go_on (is_unknown f.nodes n) NoSuchNode (root ++ last) (copied f.nodes n) r known.0 (go_on (nat_eq n 0) IsRoot last (copied f.nodes n) r not_root e)

  fits : size_with_copy f n ≤ 5000000 → cloning f.nodes n ≡ Ok (copied f.nodes n)
  fits b = planned (Ok (copied f.nodes n)) (go_on full Full [] (copied f.nodes n) (Ok (copied f.nodes n)) (le-ltb 5000000 (size_with_copy f n) b) refl)

  is_too_big : 5000000 < size_with_copy f n → cloning f.nodes n ≡ Err Full
  is_too_big b = planned (Err Full) (stop full Full [] (copied f.nodes n) (lt-ltb 5000000 (size_with_copy f n) b))

  copied-met : CopiesCan → IsForest f → size_with_copy f n ≤ 5000000 → (g : Forest) → unreserved g ≡ edited_all (unreserved f) (copied f.nodes n) → Makes f g (copied f.nodes n)
  copied-met law k b g e = record { met = law f k n (given f.nodes n known.0) (eqb-false n 0 not_root) b; made = e }

pub copy-answers : CopiesCan → (f g : Forest) (n : ℕ) (r : Result ℕ (Stop TreeFault)) → IsForest f → checked (refused_root f.nodes n) ≡ Ok tt → IsCopyAnswer f g n r → AnswersNew (cloning f.nodes n) f g r
copy-answers law f g n (Ok m) k h a = (a.1, copied f.nodes n, fits f n h a.0, copied-met f n h law k a.0 g a.2)
copy-answers law f g n (Err (Fault e)) k h a = (is_too_big f n h a.0 ∙ ap Err (sym a.1), a.2)
copy-answers law f g n (Err (Memory e)) k h a = (ap is_ok (fits f n h a.0), a.1)
