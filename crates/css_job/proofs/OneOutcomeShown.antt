-- The examples of shelves and duties.
use Rattle.std.proofs.Common.{◌≡◌, ℕ, zero, suc, List, [], Option, Some, None, IsSome, refl, ap, subst}
use Rattle.std.proofs.lemmas.Bool.{false≢true}
use Rattle.std.proofs.lemmas.List.Elements.{All-nil, All-cons, All-head}
use Rattle.plugin_api.specs.Shelf.{HookSeen, PluginSeen, hook_at}
use Rattle.visitor_walk.specs.OneLogExamples.{dropping}
use Rattle.plugin_api.specs.declared.visitor.Duty.{Duty}
use Rattle.css_job.specs.OneOutcomeExamples.{free, ToldAlone, DutyCounts, DropOwes, FreeOwesNone}

pub told_alone : ToldAlone
told_alone = refl

-- the duty of a shelf's first hook
abbrev duty_of_hook : Option HookSeen → Option Duty
duty_of_hook None = None
duty_of_hook (Some h) = h.duty

pub duty_counts : DutyCounts
duty_counts e =
    let d = ap (λ s. duty_of_hook (hook_at s 0 0)) e in
    absurd cc

abbrev OwesAt : List PluginSeen → ℕ → Type 0
OwesAt shelf i = (j : ℕ) (h : HookSeen) → hook_at shelf i j ≡ Some h → IsSome h.duty

owes_first : OwesAt (dropping None []) 0
owes_first zero h e = subst (λ o. IsSome (duty_of_hook o)) e refl
owes_first (suc j) h e = absurd cc

pub drop_owes : DropOwes
drop_owes = All-cons (OwesAt (dropping None [])) 0 [] owes_first (All-nil (OwesAt (dropping None [])))

pub free_owes_none : FreeOwesNone
free_owes_none = (λ a. false≢true (All-head (OwesAt free) 0 [] a 0 _ refl), All-nil (OwesAt free))
