-- What an edit call answers, and what it leaves.
use Rattle.std.specs.Prelude.{◌≡◌, ℕ, List, true, length, Result, Ok, Err, IsOk}
use Rattle.css_text.specs.declared.stop.Stop.{Stop}
use Rattle.css_text.specs.declared.stop.Stop.TheVariants.{Fault, Memory}
use Rattle.node_store.specs.declared.fault.TreeFault.{TreeFault}
use Rattle.node_store.specs.declared.item.Edit.{Edit}
use Rattle.node_store.specs.Forest.{Forest, unreserved}
use Rattle.node_store.specs.Edits.{all_can, edited_all}

-- The forest changed by these edits in turn, each of which could be made and changed something.
pub record Makes (before after : Forest) (edits : List Edit) : Type 0 where
  pub met : all_can before.nodes edits ≡ true
  pub made : unreserved after ≡ edited_all (unreserved before) edits

-- The call makes the edits of its plan, or is refused as the plan says. A refused call leaves all as it was, and so does
-- one that wants memory.
abbrev pub Answers : Result (List Edit) TreeFault → Forest → Forest → Result (Unit {0}) (Stop TreeFault) → Type 0
Answers plan before after (Ok _) = (edits : List Edit) × (plan ≡ Ok edits) × Makes before after edits
Answers plan before after (Err (Fault f)) = (plan ≡ Err f) × (unreserved after ≡ unreserved before)
Answers plan before after (Err (Memory e)) = IsOk plan × (unreserved after ≡ unreserved before)

-- The same of a call that makes nodes: it answers the first new number.
abbrev pub AnswersNew : Result (List Edit) TreeFault → Forest → Forest → Result ℕ (Stop TreeFault) → Type 0
AnswersNew plan before after (Ok n) = (n ≡ length before.nodes) × (edits : List Edit) × (plan ≡ Ok edits) × Makes before after edits
AnswersNew plan before after (Err (Fault f)) = (plan ≡ Err f) × (unreserved after ≡ unreserved before)
AnswersNew plan before after (Err (Memory e)) = IsOk plan × (unreserved after ≡ unreserved before)

-- the call doesn't want memory
abbrev pub HasMemory : {A : Type 0} → Result A (Stop TreeFault) → Type 0
HasMemory (Err (Memory e)) = ⊥
HasMemory _ = Unit {0}
