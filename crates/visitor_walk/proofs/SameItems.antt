-- Items that the machine takes for one another are the same.
use Rattle.std.proofs.Common.{◌≡◌, ℕ, Option, Some, None, true, refl, ap, sym, ◌∙◌}
use Rattle.std.specs.Prelude.{◌&&◌, nat_eq}
use Rattle.std.proofs.lemmas.Bool.{false≢true, and_parts}
use Rattle.node_rows.proofs.Climb.{same_from_eqb}
use Rattle.node_store.specs.declared.item.Event.{Event}
use Rattle.node_store.specs.declared.item.Event.TheVariants as E
use Rattle.node_store.specs.declared.item.Item.{Item}
use Rattle.node_store.specs.declared.item.Item.TheVariants as I
use Rattle.node_store.specs.declared.item.Moment.{Moment}
use Rattle.visitor_machine.specs.Hooks.{event_number, same_event}
use Rattle.visitor_machine.specs.Follow.{same_item, is_item}

event_is : (e d : Event) → event_number e ≡ event_number d → e ≡ d
event_is E.Once E.Once h = refl
event_is E.Root E.Root h = refl
event_is E.RootExit E.RootExit h = refl
event_is E.AtRule E.AtRule h = refl
event_is E.AtRuleExit E.AtRuleExit h = refl
event_is E.Rule E.Rule h = refl
event_is E.RuleExit E.RuleExit h = refl
event_is E.Declaration E.Declaration h = refl
event_is E.DeclarationExit E.DeclarationExit h = refl
event_is E.Comment E.Comment h = refl
event_is E.CommentExit E.CommentExit h = refl
event_is E.OnceExit E.OnceExit h = refl
event_is _ _ h = absurd cc

call_is : (p q k l : ℕ) (m o : Moment) → p ≡ q → k ≡ l → m.event ≡ o.event → m.node ≡ o.node → I.Call p k m ≡ I.Call q l o
call_is p q k l m o a b c d =
    ap (λ x. I.Call x k m) a
    ∙ (ap (λ x. I.Call q x m) b
    ∙ (ap (λ x. I.Call q l (record { event = x; node = m.node })) c
    ∙ ap (λ x. I.Call q l (record { event = o.event; node = x })) d))

pub item_is : (i j : Item) → same_item i j ≡ true → i ≡ j
item_is I.Pass I.Pass h = refl
item_is (I.Enter n) (I.Enter m) h = ap (λ x. I.Enter x) (same_from_eqb n m h)
item_is (I.Call p k m) (I.Call q l o) h =
    let a = and_parts (nat_eq p q) (nat_eq k l && (same_event m.event o.event && nat_eq m.node o.node)) h in
    let b = and_parts (nat_eq k l) (same_event m.event o.event && nat_eq m.node o.node) a.1 in
    let c = and_parts (same_event m.event o.event) (nat_eq m.node o.node) b.1 in
    call_is p q k l m o (same_from_eqb p q a.0) (same_from_eqb k l b.0) (event_is m.event o.event (same_from_eqb (event_number m.event) (event_number o.event) c.0)) (same_from_eqb m.node o.node c.1)
item_is (I.Leave n) (I.Leave m) h = ap (λ x. I.Leave x) (same_from_eqb n m h)
item_is I.End I.End h = refl
item_is _ _ h = absurd (false≢true h)

-- at most one item comes next
pub one_item : (i j : Item) (o : Option Item) → is_item i o ≡ true → is_item j o ≡ true → i ≡ j
one_item i j None h g = absurd (false≢true h)
one_item i j (Some k) h g = item_is i k h ∙ sym (item_is j k g)
