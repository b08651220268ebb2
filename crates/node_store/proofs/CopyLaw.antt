-- Each edit of a copy may be made at its turn.
use Rattle.std.proofs.Common.{◌≡◌, ◌≢◌, ℕ, ◌+◌, ◌<◌, ◌≤◌, [], length, true}
use Rattle.node_store.specs.Forest.{Forest, IsForest}
use Rattle.node_store.specs.Edits.{all_can}
use Rattle.node_store.specs.Copies.{copied, tree_size}
use Rattle.node_store.specs.Seats.{bare, IsStored}
use Rattle.node_store.proofs.Growing.{planned}
use Rattle.node_store.proofs.CopyPlan.{copied-plan, copied-spans}

pub copies-can : (f : Forest) → IsForest f → (n : ℕ) → n < length f.nodes → n ≢ 0 → length f.nodes + tree_size f.nodes n ≤ 5000000 → all_can f.nodes (copied f.nodes n) ≡ true
copies-can f i n b z few =
    let forest : IsForest (bare f.text f.nodes) = record { sound = i.sound; some = i.some; root = i.root; others = i.others; containers = i.containers; spans = i.spans; cursors = λ serial. tt } in
    let stored : IsStored f.text f.nodes [] = record { forest = forest; seats_in = λ serial. tt } in
    (planned f.text [] (copied f.nodes n) f.nodes stored (copied-plan f.text f.nodes forest n b z few) (copied-spans f.text f.nodes forest n)).allowed
