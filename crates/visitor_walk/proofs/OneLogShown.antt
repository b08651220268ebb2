-- The small walk whose visitor has a duty.
use Rattle.std.proofs.Common.{◌≡◌, ℕ, zero, suc, List, [], ◌∷◌, Option, Some, None, refl, subst, arith}
use Rattle.std.specs.Prelude.{codes}
use Rattle.std.proofs.lemmas.List.Elements.{All-nil, All-cons}
use Rattle.node_rows.specs.Marks.{mark, dirtied}
use Rattle.node_store.specs.declared.item.Item.{Item}
use Rattle.plugin_api.specs.declared.visitor.Duty.TheVariants.{DropComment}
use Rattle.plugin_api.specs.Shelf.{PluginSeen}
use Rattle.visitor_machine.specs.Hooks.{PickedHook}
use Rattle.visitor_machine.specs.Machine.{State}
use Rattle.visitor_machine.specs.Follow.{step, start}
use Rattle.visitor_walk.specs.Picked.{picked_hooks}
use Rattle.visitor_walk.specs.Ran.{IsKept, Keeps}
use Rattle.visitor_walk.specs.OneLog.{duty_at, HasDuty}
use Rattle.visitor_walk.specs.OneLogExamples.{dropping, commented, dropped, DropsOne, DutyAlone}
use Rattle.visitor_walk.proofs.Going.{all_duties}

-- what each call owes, along the states that the machine comes to
abbrev KeptBy : List PluginSeen → List PickedHook → ℕ → Option State → List Item → Type 0
KeptBy shelf hs most None is = Unit {0}
KeptBy shelf hs most (Some s) [] = Unit {0}
KeptBy shelf hs most (Some s) (i ∷ is) = IsKept shelf s i is × KeptBy shelf hs most (step hs most s i) is

keeps_by : (shelf : List PluginSeen) (hs : List PickedHook) (most : ℕ) (s : State) (is : List Item) → KeptBy shelf hs most (Some s) is → Keeps shelf hs most s is
keeps_by shelf hs most s [] k = tt
keeps_by shelf hs most s (i ∷ is) k = (k.0, λ t e. keeps_by shelf hs most t is (subst (λ o. KeptBy shelf hs most o is) e k.1))

abbrev shelf : List PluginSeen
shelf = dropping None []

abbrev hooks : List PickedHook
hooks = picked_hooks shelf (0 ∷ [])

kept : KeptBy shelf hooks 1 (Some (start hooks commented)) dropped
unfolding mark dirtied
kept = (tt, (tt, (tt, (refl, (tt, (tt, (tt, (tt, (tt, (tt, (tt, (tt, tt))))))))))))

pub drops_one : DropsOne
unfolding mark dirtied
drops_one = (
  record {
    state = _;
    run = refl;
    duties = all_duties shelf hooks 1 commented dropped (keeps_by shelf hooks 1 (start hooks commented) dropped kept);
    paid = omega arith;
    ends = refl;
  },
  All-cons (HasDuty shelf) _ [] (record { seen = _; duty = DropComment; there = refl; owes = refl }) (All-nil (HasDuty shelf)),
)

same_places : (i j : ℕ) → duty_at shelf i j ≡ duty_at (dropping (Some []) (codes "no" ∷ [])) i j
same_places zero zero = refl
same_places zero (suc j) = refl
same_places (suc i) j = refl

pub duty_alone : DutyAlone
duty_alone = (same_places, refl, refl, refl)
