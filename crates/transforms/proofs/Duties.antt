-- A duty is met by its edits, or by a front of them before want of memory.
use Rattle.std.proofs.Common.{◌≡◌, ℕ, ◌+◌, List, [], ◌∷◌, true, Option, Some, Result, Ok, Err, ap, sym, ◌∙◌, subst}
use Rattle.std.specs.Prelude.{filter, reverse, if◌then◌else◌, MatchResult}
use Rattle.std.specs.List.{flat_map}
use Rattle.std.specs.Result.{IsErrAnd}
use Rattle.std.specs.declared.alloc.AllocError.{AllocError}
use Rattle.std.proofs.lemmas.Bool.{false≢true}
use Rattle.css_text.specs.ValueParts.{written}
use Rattle.css_text.proofs.ValueParts.{one_value}
use Rattle.css_tree.specs.declared.node.Field.TheVariants as F
use Rattle.css_tree.specs.declared.node.NodeText.{NodeText}
use Rattle.css_tree.specs.declared.node.NodeText.TheVariants.{Rule, Declaration}
use Rattle.node_rows.specs.Nodes.{Node, text_of, parent_of, children_of}
use Rattle.node_store.specs.declared.item.Event.{Event}
use Rattle.node_store.specs.declared.item.Event.TheVariants as E
use Rattle.node_store.specs.declared.item.Moment.{Moment}
use Rattle.node_store.specs.declared.item.Edit.{Edit}
use Rattle.node_store.specs.declared.item.Edit.TheVariants.{Set}
use Rattle.node_store.specs.Forest.{Forest}
use Rattle.plugin_api.specs.declared.visitor.Duty.{Duty}
use Rattle.plugin_api.specs.declared.visitor.VisitFault.TheVariants.{Memory}
use Rattle.plugin_api.specs.Visit.{Answer}
use Rattle.plugin_api.specs.Calls.{Met}
use Rattle.plugin_api.specs.Effect.{IsEffect, IsShort, IsShortened, shortened, changing, below_parent, unnested, moved_out, is_movable}
use Rattle.transforms.specs.Fronts.{MakesFront}
use Rattle.transforms.specs.Reads.{selector_of, unnests}

pub met-front : (d : Duty) (before after : Forest) (m : Moment) (es : List Edit) (r : Result (Unit {0}) AllocError) (s : Answer) → IsEffect d before.nodes m es
    → ((all : List Edit) → IsEffect d before.nodes m all → all ≡ es) → MakesFront before after es r
    → MatchResult r (λ x. s ≡ Ok x) (λ e. IsErrAnd s (λ y. y ≡ Memory e)) → Met (Some d) 0 0 before after m s
met-front d before after m es (Ok x) (Ok y) effect one made t = record { edits = es; edited = made.edited; does = effect; leaves = ap (λ n. n + 0) made.total }
met-front d before after m es (Ok x) (Err y) effect one made t = absurd cc
met-front d before after m es (Err e) (Ok y) effect one made t = absurd t
met-front d before after m es (Err e) (Err y) effect one made t =
    subst (λ z. Met (Some d) 0 0 before after m (Err z)) (sym t) (record { edits = made.0; edited = made.3.edited; does = λ all h. (made.1, one all h ∙ made.2); leaves = tt })

one_text : (s x y : List ℕ) → IsShort s x → IsShort s y → x ≡ y
one_text s x y h g = h.text ∙ (ap (λ p. written (shortened p)) (one_value s h.parts g.parts h.are g.are) ∙ sym g.text)

-- there is one list of edits
pub one-short : (ns : List Node) (n : ℕ) (ev : Event) (t : NodeText) (o : Option ℕ) (a b : List Edit) → IsShortened ns n ev t o a → IsShortened ns n ev t o b → a ≡ b
one-short ns n E.Declaration (Declaration before prop between val important important_raw tail) (Some p) a b h g =
    h.2 ∙ (ap (λ s. changing ns (Set F.Value n s ∷ [])) (one_text val.source h.0 g.0 h.1 g.1) ∙ sym g.2)
one-short ns n _ _ _ a b h g = h ∙ sym g

unnested-is : (ns : List Node) (n p : ℕ) (ev : Event) (t : NodeText) → unnests ev t ≡ true
    → unnested ns n ev t p ≡ flat_map (moved_out ns n p (selector_of t)) (reverse (filter (λ m. is_movable (text_of ns m)) (children_of ns n)))
unnested-is ns n p E.RuleExit (Rule before selector between block) h =
    let all = flat_map (moved_out ns n p selector.clean) (reverse (filter (λ m. is_movable (text_of ns m)) (children_of ns n))) in
    ap (λ b. if b then all else []) h
unnested-is ns n p _ _ h = absurd (false≢true h)

pub unnest-effect : (ns : List Node) (n p : ℕ) (ev : Event) → parent_of ns n ≡ Some p → unnests ev (text_of ns n) ≡ true
    → flat_map (moved_out ns n p (selector_of (text_of ns n))) (reverse (filter (λ m. is_movable (text_of ns m)) (children_of ns n))) ≡ below_parent (parent_of ns n) (λ q. unnested ns n ev (text_of ns n) q)
unnest-effect ns n p ev e h = sym (ap (λ o. below_parent o (λ q. unnested ns n ev (text_of ns n) q)) e ∙ unnested-is ns n p ev (text_of ns n) h)
