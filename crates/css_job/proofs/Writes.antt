-- The writes after a walk.
use Rattle.std.proofs.Common.{◌≡◌, ◌≢◌, ℕ, List, [], ◌∷◌, ◌++◌, Bool, true, false, refl, sym, ap, ◌∙◌, map, append-nil}
use Rattle.std.specs.Prelude.{encode_utf8_all}
use Rattle.std.specs.Str.{chars, IsUtf8}
use Rattle.std.proofs.lemmas.List.{map-append}
use Rattle.std.proofs.lemmas.Str.{encodes-chars}
use Rattle.css_tree.specs.Print.{print}
use Rattle.node_rows.specs.Nodes.{Node}
use Rattle.node_store.specs.declared.item.Item.{Item}
use Rattle.node_store.specs.Forest.{Forest, tree_of}
use Rattle.visitor_walk.specs.declared.walk_end.WalkEnd.{WalkEnd}
use Rattle.visitor_walk.specs.declared.walk_end.WalkEnd.TheVariants as W
use Rattle.css_job.specs.Trace.{trace}
use Rattle.css_job.specs.Plan.{Piece, to_err, to_out}
use Rattle.css_job.specs.TransformPlan.{traced, printed}
use Rattle.css_job.specs.Stages.{piece_of}
use Rattle.css_job.specs.declared.plan.Write.{Write}
use Rattle.css_job.specs.declared.target.Target.TheVariants.{StdOut, StdErr}

abbrev err_write : List ℕ → Write
err_write text = record { to = StdErr; text = text }

abbrev out_write : List ℕ → Write
out_write text = record { to = StdOut; text = text }

-- the trace
pub wrote_trace : (ws us : List Write) (text bytes : List ℕ) (b : Bool) (names : List (List ℕ)) (log : List Item) → ws ≡ us ++ err_write text ∷ [] → us ≡ [] → text ≡ chars bytes → IsUtf8 bytes → bytes ≡ trace names log → b ≡ true → map piece_of ws ≡ traced b names log
wrote_trace ws us text bytes b names log p n t u k h =
    ap (map piece_of) (p ∙ ap (λ xs. xs ++ err_write text ∷ []) n)
    ∙ (ap (λ z. to_err z ∷ []) (ap encode_utf8_all t ∙ (encodes-chars bytes u ∙ k)) ∙ ap (λ x. traced x names log) (sym h))

pub wrote_none : (ws : List Write) (b : Bool) (names : List (List ℕ)) (log : List Item) → ws ≡ [] → b ≡ false → map piece_of ws ≡ traced b names log
wrote_none ws b names log e h = ap (map piece_of) e ∙ ap (λ x. traced x names log) (sym h)

-- then the printing
pub wrote_printing : (ws us : List Write) (text : List ℕ) (end : WalkEnd) (f : Forest) (first : List Piece) → ws ≡ us ++ out_write text ∷ [] → map piece_of us ≡ first → text ≡ print (tree_of f) → end ≡ W.Done → map piece_of ws ≡ first ++ printed end f.nodes
wrote_printing ws us text end f first p i t d =
    ap (map piece_of) p
    ∙ (map-append piece_of us (out_write text ∷ [])
    ∙ (ap (λ xs. xs ++ to_out (encode_utf8_all text) ∷ []) i
    ∙ (ap (λ z. first ++ to_out (encode_utf8_all z) ∷ []) t ∙ sym (ap (λ x. first ++ printed x f.nodes) d))))

unprinted : (end : WalkEnd) (ns : List Node) → end ≢ W.Done → printed end ns ≡ []
unprinted W.Done ns h = absurd (h refl)
unprinted (W.Failed text moment) ns h = refl
unprinted (W.BudgetSpent calls next) ns h = refl
unprinted (W.EditBudgetSpent edits at) ns h = refl

pub wrote_no_printing : (ws us : List Write) (end : WalkEnd) (f : Forest) (first : List Piece) → ws ≡ us → map piece_of us ≡ first → end ≢ W.Done → map piece_of ws ≡ first ++ printed end f.nodes
wrote_no_printing ws us end f first e i d = ap (map piece_of) e ∙ (i ∙ (sym (append-nil first) ∙ ap (λ x. first ++ x) (sym (unprinted end f.nodes d))))
