-- Two shelves that are the same but for what their visitors told and said.
use Rattle.std.proofs.Common.{◌≡◌, ℕ, zero, suc, List, [], ◌∷◌, ◌++◌, Option, Some, None, IsSome, refl, ap, sym, ◌∙◌, map}
use Rattle.std.specs.Prelude.{slice_get}
use Rattle.std.specs.List.{All, slice_index_or}
use Rattle.std.specs.Option.{option_map}
use Rattle.std.proofs.lemmas.Bool.{false≢true}
use Rattle.std.proofs.lemmas.List.Elements.{All-nil, All-cons, All-head, All-tail, All-append}
use Rattle.plugin_api.specs.declared.visitor.Duty.{Duty}
use Rattle.plugin_api.specs.Shelf.{HookSeen, PluginSeen, hooks_of, hook_at}
use Rattle.visitor_machine.specs.Hooks.{PickedHook}
use Rattle.visitor_walk.specs.Picked.{hooks_from, picked_hooks}
use Rattle.visitor_walk.specs.OneLog.{duty_at, SameDuties, HasDuty}
use Rattle.visitor_walk.proofs.Picking.{picked_there}
use Rattle.command_words.specs.Words.{command_of}
use Rattle.css_job.specs.Stated.{names_of}
use Rattle.css_job.specs.OneOutcome.{untold, untold_plugin, SameShelf, AllOwe, OneCommand}

names_untold : (shelf : List PluginSeen) → names_of (map untold_plugin shelf) ≡ names_of shelf
names_untold [] = refl
names_untold (p ∷ ps) = ap (λ ns. p.name ∷ ns) (names_untold ps)

pub same_names : (a b : List PluginSeen) → SameShelf a b → names_of a ≡ names_of b
same_names a b e = sym (names_untold a) ∙ (ap names_of e ∙ names_untold b)

pub one_command : OneCommand
one_command words a b e = ap (λ names. command_of names words) (same_names a b e)

abbrev picked_hook : ℕ → ℕ → HookSeen → PickedHook
picked_hook plugin hook h = record { plugin = plugin; hook = hook; event = h.event; filter = h.filter }

from_untold : (i k : ℕ) (hs : List HookSeen) → hooks_from i k (map untold hs) ≡ hooks_from i k hs
from_untold i k [] = refl
from_untold i k (h ∷ hs) = ap (λ l. picked_hook i k h ∷ l) (from_untold i (suc k) hs)

hooks_untold : (shelf : List PluginSeen) (i : ℕ) → hooks_of (slice_get (map untold_plugin shelf) i) ≡ map untold (hooks_of (slice_get shelf i))
hooks_untold [] i = refl
hooks_untold (p ∷ ps) zero = refl
hooks_untold (p ∷ ps) (suc i) = hooks_untold ps i

picked_untold : (shelf : List PluginSeen) (picked : List ℕ) → picked_hooks (map untold_plugin shelf) picked ≡ picked_hooks shelf picked
picked_untold shelf [] = refl
picked_untold shelf (i ∷ is) =
    ap (λ hs. hooks_from i 0 hs ++ picked_hooks (map untold_plugin shelf) is) (hooks_untold shelf i)
    ∙ (ap (λ l. l ++ picked_hooks (map untold_plugin shelf) is) (from_untold i 0 (hooks_of (slice_get shelf i)))
    ∙ ap (λ l. hooks_from i 0 (hooks_of (slice_get shelf i)) ++ l) (picked_untold shelf is))

-- the picked hooks are the same
pub same_hooks : (a b : List PluginSeen) (picked : List ℕ) → SameShelf a b → picked_hooks a picked ≡ picked_hooks b picked
same_hooks a b picked e = sym (picked_untold a picked) ∙ (ap (λ s. picked_hooks s picked) e ∙ picked_untold b picked)

abbrev duty_in : List HookSeen → ℕ → Option (Option Duty)
duty_in hs j = option_map (λ (h : HookSeen). h.duty) (slice_get hs j)

duty_untold : (hs : List HookSeen) (j : ℕ) → duty_in (map untold hs) j ≡ duty_in hs j
duty_untold [] j = refl
duty_untold (h ∷ hs) zero = refl
duty_untold (h ∷ hs) (suc j) = duty_untold hs j

duties_untold : (shelf : List PluginSeen) (i j : ℕ) → duty_at (map untold_plugin shelf) i j ≡ duty_at shelf i j
duties_untold shelf i j = ap (λ hs. duty_in hs j) (hooks_untold shelf i) ∙ duty_untold (hooks_of (slice_get shelf i)) j

-- and so are the duties
pub same_duties : (a b : List PluginSeen) → SameShelf a b → SameDuties a b
same_duties a b e i j = sym (duties_untold a i j) ∙ (ap (λ s. duty_at s i j) e ∙ duties_untold b i j)

-- every hook of that plugin has a duty
abbrev OwesAt : List PluginSeen → ℕ → Type 0
OwesAt shelf i = (j : ℕ) (h : HookSeen) → hook_at shelf i j ≡ Some h → IsSome h.duty

abbrev Owing : List PluginSeen → PickedHook → Type 0
Owing shelf x = OwesAt shelf x.plugin

from_owe : (shelf : List PluginSeen) (i k : ℕ) (hs : List HookSeen) → OwesAt shelf i → All (Owing shelf) (hooks_from i k hs)
from_owe shelf i k [] q = All-nil (Owing shelf)
from_owe shelf i k (h ∷ hs) q = All-cons (Owing shelf) (picked_hook i k h) (hooks_from i (suc k) hs) q (from_owe shelf i (suc k) hs q)

picked_owe : (shelf : List PluginSeen) (picked : List ℕ) → AllOwe shelf picked → All (Owing shelf) (picked_hooks shelf picked)
picked_owe shelf [] q = All-nil (Owing shelf)
picked_owe shelf (i ∷ is) q = All-append (Owing shelf) (hooks_from i 0 (hooks_of (slice_get shelf i))) (picked_hooks shelf is) (from_owe shelf i 0 (hooks_of (slice_get shelf i)) (All-head (OwesAt shelf) i is q)) (picked_owe shelf is (All-tail (OwesAt shelf) i is q))

duty_there : (shelf : List PluginSeen) (x : PickedHook) (h : HookSeen) (o : Option Duty) → hook_at shelf x.plugin x.hook ≡ Some h → h.duty ≡ o → IsSome o → HasDuty shelf x
duty_there shelf x h None e d s = absurd (false≢true s)
duty_there shelf x h (Some d) e i s = record { seen = h; duty = d; there = e; owes = i }

hook_owes : (shelf : List PluginSeen) (x : PickedHook) (o : Option HookSeen) → hook_at shelf x.plugin x.hook ≡ o → IsSome o → Owing shelf x → HasDuty shelf x
hook_owes shelf x None e s q = absurd (false≢true s)
hook_owes shelf x (Some h) e s q = duty_there shelf x h h.duty e refl (q x.hook h e)

-- each picked hook has a duty
pub all_owe : (shelf : List PluginSeen) (picked : List ℕ) → AllOwe shelf picked → All (HasDuty shelf) (picked_hooks shelf picked)
all_owe shelf picked q = λ k d l.
    let x = slice_index_or (picked_hooks shelf picked) k d in
    hook_owes shelf x (hook_at shelf x.plugin x.hook) refl (picked_there shelf picked k d l) (picked_owe shelf picked q k d l)
