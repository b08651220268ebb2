-- Logs without an edit, and what the tree prints as after a walk that made none.
use Rattle.std.proofs.Common.{◌≡◌, ℕ, zero, suc, ◌+◌, ◌<◌, List, [], ◌∷◌, ◌++◌, length, get_or, take, Result, refl, ap, sym, ◌∙◌, subst, arith}
use Rattle.std.specs.declared.alloc.AllocError.{AllocError}
use Rattle.std.proofs.lemmas.List.{take_more}
use Rattle.css_tree.specs.Print.{print}
use Rattle.node_rows.specs.NumberTrees.{tree_at}
use Rattle.node_store.specs.declared.item.Edit.{Edit}
use Rattle.node_store.specs.declared.item.Item.{Item}
use Rattle.node_store.specs.declared.item.Item.TheVariants as I
use Rattle.node_store.specs.Forest.{Forest, IsForest, tree_of}
use Rattle.node_store.specs.Fresh.{IsFresh}
use Rattle.plugin_api.specs.Shelf.{PluginSeen}
use Rattle.visitor_machine.specs.Calls.{IsQuiet}
use Rattle.visitor_machine.proofs.Kept.{quiet_sheet}
use Rattle.visitor_walk.specs.declared.walk_end.WalkEnd.{WalkEnd}
use Rattle.visitor_walk.specs.Picked.{picked_hooks}
use Rattle.visitor_walk.specs.Walk.{Walks}
use Rattle.css_job.specs.Walked.{KeepsText}

abbrev pub IsNoEdit : Item → Type 0
IsNoEdit i = (e : Edit) → i ≡ I.Edit e → ⊥

quiet_first : (i : Item) (is : List Item) → IsQuiet (i ∷ is) → IsNoEdit i
quiet_first i is q e h = subst (λ x. IsQuiet (x ∷ is)) h q

quiet_rest : (i : Item) (is : List Item) → IsQuiet (i ∷ is) → IsQuiet is
quiet_rest I.Pass is q = q
quiet_rest (I.Enter n) is q = q
quiet_rest (I.Call p k m) is q = q
quiet_rest (I.Edit e) is q = absurd q
quiet_rest (I.Back o) is q = q
quiet_rest (I.Leave n) is q = q
quiet_rest I.End is q = q

quiet_with : (i : Item) (is : List Item) → IsNoEdit i → IsQuiet is → IsQuiet (i ∷ is)
quiet_with I.Pass is n q = q
quiet_with (I.Enter x) is n q = q
quiet_with (I.Call p k m) is n q = q
quiet_with (I.Edit e) is n q = n e refl
quiet_with (I.Back o) is n q = q
quiet_with (I.Leave x) is n q = q
quiet_with I.End is n q = q

quiet_joined : (is js : List Item) → IsQuiet is → IsQuiet js → IsQuiet (is ++ js)
quiet_joined [] js q r = r
quiet_joined (i ∷ is) js q r = quiet_with i (is ++ js) (quiet_first i is q) (quiet_joined is js (quiet_rest i is q) r)

-- one more item that is no edit
pub quiet_more : (is : List Item) (k : ℕ) (d : Item) → k < length is → IsNoEdit (get_or is k d) → IsQuiet (take k is) → IsQuiet (take (k + 1) is)
quiet_more is k d b n q = subst IsQuiet (sym (take_more is k d b)) (quiet_joined (take k is) (get_or is k d ∷ []) q (quiet_with (get_or is k d) [] n tt))

-- an edit in the log
pub not_quiet : (is : List Item) (k : ℕ) (d : Item) (e : Edit) → k < length is → get_or is k d ≡ I.Edit e → IsQuiet is → ⊥
not_quiet [] k d e b g q = absurd (omega arith)
not_quiet (i ∷ is) zero d e b g q = quiet_first i is q e g
not_quiet (i ∷ is) (suc k) d e b g q = not_quiet is k d e (omega arith) g (quiet_rest i is q)

-- The walk began with the fresh forest of the text, and its log is taken.
pub keeps_text : (f g h : Forest) (sound : IsForest f) (fresh : IsFresh f) (old new : List PluginSeen) (picked : List ℕ) (budget most : ℕ) (r : Result WalkEnd AllocError) (log xs : List Item) → Walks f g old new picked budget most r → log ≡ g.log → h ≡ record g { log = []; spare = 0 } → xs ≡ log → KeepsText xs h
keeps_text f g h sound fresh old new picked budget most r log xs w taken left lent q =
    let items : xs ≡ w.items = lent ∙ (taken ∙ (w.log ∙ ap (λ x. x ++ w.items) fresh.no_log)) in
    let kept : print (tree_at w.state.nodes 0) ≡ f.text = quiet_sheet (picked_hooks old picked) most f w.items w.state sound fresh (subst IsQuiet items q) w.run in
    ap (λ x. print (tree_of x)) left ∙ (ap (λ ns. print (tree_at ns 0)) w.nodes ∙ (kept ∙ (sym w.text ∙ sym (ap (λ x. x.text) left))))
