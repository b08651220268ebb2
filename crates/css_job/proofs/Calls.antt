-- The plugin that was called last, from the log's end on.
use Rattle.std.proofs.Common.{◌≡◌, ℕ, List, [], ◌∷◌, ◌++◌, length, refl, ap, ◌∙◌, arith, slice_index_or}
use Rattle.node_store.specs.declared.item.Item.{Item}
use Rattle.node_store.specs.declared.item.Item.TheVariants as I
use Rattle.node_store.specs.declared.item.Moment.{Moment}
use Rattle.css_job.specs.Trace.{called_last, caller}

-- of two logs, one after the other, the second's last call counts, or else the first's
called-append : (names : List (List ℕ)) (name : List ℕ) (xs ys : List Item) → called_last name names (xs ++ ys) ≡ called_last (called_last name names xs) names ys
called-append names name [] ys = refl
called-append names name (I.Pass ∷ xs) ys = called-append names name xs ys
called-append names name (I.Enter node ∷ xs) ys = called-append names name xs ys
called-append names name (I.Call plugin hook moment ∷ xs) ys = called-append names (slice_index_or names plugin []) xs ys
called-append names name (I.Edit e ∷ xs) ys = called-append names name xs ys
called-append names name (I.Back fault ∷ xs) ys = called-append names name xs ys
called-append names name (I.Leave node ∷ xs) ys = called-append names name xs ys
called-append names name (I.End ∷ xs) ys = called-append names name xs ys

-- the last item is a call
pub caller_call : (names : List (List ℕ)) (log rest : List Item) (item : Item) (plugin hook : ℕ) (moment : Moment) → log ≡ rest ++ item ∷ [] → item ≡ I.Call plugin hook moment → caller names log ≡ slice_index_or names plugin []
unfolding caller
caller_call names log rest item plugin hook moment e f =
    ap (called_last [] names) (e ∙ ap (λ i. rest ++ i ∷ []) f) ∙ called-append names [] rest (I.Call plugin hook moment ∷ [])

no_call : (names : List (List ℕ)) (name : List ℕ) (item : Item) → ((plugin hook : ℕ) (moment : Moment) → item ≡ I.Call plugin hook moment → ⊥) → called_last name names (item ∷ []) ≡ name
no_call names name I.Pass h = refl
no_call names name (I.Enter node) h = refl
no_call names name (I.Call plugin hook moment) h = absurd (h plugin hook moment refl)
no_call names name (I.Edit e) h = refl
no_call names name (I.Back fault) h = refl
no_call names name (I.Leave node) h = refl
no_call names name I.End h = refl

-- the last item is no call
pub caller_other : (names : List (List ℕ)) (log rest : List Item) (item : Item) → log ≡ rest ++ item ∷ [] → ((plugin hook : ℕ) (moment : Moment) → item ≡ I.Call plugin hook moment → ⊥) → caller names log ≡ caller names rest
unfolding caller
caller_other names log rest item e h =
    ap (called_last [] names) e ∙ (called-append names [] rest (item ∷ []) ∙ no_call names (called_last [] names rest) item h)

pub caller_none : (names : List (List ℕ)) (log : List Item) → length log ≡ 0 → caller names log ≡ []
unfolding caller
caller_none names [] h = refl
caller_none names (i ∷ is) h = absurd (omega arith)
