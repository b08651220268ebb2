-- What a call makes of the edits that it is to make.
use Rattle.std.specs.Prelude.{◌≡◌, List, ◌++◌, Result, Ok, Err}
use Rattle.std.specs.declared.alloc.AllocError.{AllocError}
use Rattle.css_text.specs.declared.stop.Stop.{Stop}
use Rattle.css_text.specs.declared.stop.Stop.TheVariants.{Fault, Memory}
use Rattle.node_store.specs.declared.fault.TreeFault.{TreeFault}
use Rattle.node_store.specs.declared.item.Edit.{Edit}
use Rattle.node_store.specs.Forest.{Forest}
use Rattle.plugin_api.specs.Alone.{EditedAlone}

-- All of the edits are made; before want of memory a front of them.
abbrev pub MakesFront : Forest → Forest → List Edit → Result (Unit {0}) AllocError → Type 0
MakesFront before after edits (Ok _) = EditedAlone before after edits
MakesFront before after edits (Err _) = (made : List Edit) × (rest : List Edit) × (edits ≡ made ++ rest) × EditedAlone before after made

-- an edit call that isn't refused
abbrev pub IsUnrefused : Result (Unit {0}) (Stop TreeFault) → Type 0
IsUnrefused (Ok _) = Unit {0}
IsUnrefused (Err (Fault _)) = ⊥
IsUnrefused (Err (Memory _)) = Unit {0}
