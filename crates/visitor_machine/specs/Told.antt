-- The history that a state keeps is that of its log.
use Rattle.std.specs.Prelude.{◌≡◌, ◌<◌, List, [], ◌∷◌, Some, length, slice_get}
use Rattle.node_store.specs.declared.item.Item.{Item}
use Rattle.node_store.specs.declared.item.Item.TheVariants as I
use Rattle.visitor_machine.specs.Machine.{Visit, Frame, State}

-- a visit's places are those of its Enter and its Leave in the log
pub record IsVisitOf (log : List Item) (v : Visit) : Type 0 where
  pub enters : slice_get log v.entered ≡ Some (I.Enter v.node)
  pub leaves : slice_get log v.left ≡ Some (I.Leave v.node)
  pub order : v.entered < v.left
  pub inside : v.left < length log

pub record IsOpenIn (log : List Item) (f : Frame) : Type 0 where
  pub enters : slice_get log f.entered ≡ Some (I.Enter f.node)
  pub inside : f.entered < length log

abbrev pub Each : {A : Type 0} → (A → Type 0) → List A → Type 0
Each P [] = Unit {0}
Each P (x ∷ xs) = P x × Each P xs

pub record IsTold (log : List Item) (s : State) : Type 0 where
  pub count : s.count ≡ length log
  pub visits : Each (IsVisitOf log) s.visits
  pub frames : Each (IsOpenIn log) s.frames
