-- The hooks that were picked: those of Once and OnceExit, and that each is on the shelf.
use Rattle.std.proofs.Common.{◌≡◌, ℕ, suc, zero, ◌+◌, List, [], ◌∷◌, ◌++◌, Bool, false, Option, Some, IsSome, refl, ap, sym, ◌∙◌, subst, arith, append-nil, cond, slice_get}
use Rattle.std.specs.Prelude.{filter, nat_eq, ◌&&◌, not}
use Rattle.std.specs.List.{All}
use Rattle.std.proofs.lemmas.List.Elements.{All-nil, All-cons, All-head, All-tail, All-filter, All-append}
use Rattle.node_store.specs.declared.item.Event.{Event}
use Rattle.node_store.specs.declared.item.Event.TheVariants as E
use Rattle.plugin_api.specs.Shelf.{HookSeen, PluginSeen, hooks_of, hook_at}
use Rattle.visitor_machine.specs.Hooks.{PickedHook, event_number, takes_filter, is_filter, is_filtered, is_at, hooks_at}
use Rattle.visitor_walk.specs.declared.hooks.RunHook.{RunHook}
use Rattle.visitor_walk.specs.declared.hooks.RunHooks.{RunHooks}
use Rattle.visitor_walk.specs.Picked.{hooks_from, picked_hooks}
use Rattle.visitor_walk.specs.Groups.{shown_hook, shown_hooks, group_of, IsGrouped}
use Rattle.visitor_walk.specs.Turns.{AllOnShelf, AreOnShelf}

-- filters don't count at Once and OnceExit
once_in : (d : Event) (b : Bool) → (nat_eq 0 (event_number d) && not (takes_filter d && b)) ≡ nat_eq 0 (event_number d)
once_in E.Once b = refl
once_in E.Root b = refl
once_in E.RootExit b = refl
once_in E.AtRule b = refl
once_in E.AtRuleExit b = refl
once_in E.Rule b = refl
once_in E.RuleExit b = refl
once_in E.Declaration b = refl
once_in E.DeclarationExit b = refl
once_in E.Comment b = refl
once_in E.CommentExit b = refl
once_in E.OnceExit b = refl

once_out : (d : Event) (b : Bool) → (nat_eq 0 (event_number d) && (takes_filter d && b)) ≡ false
once_out E.Once b = refl
once_out E.Root b = refl
once_out E.RootExit b = refl
once_out E.AtRule b = refl
once_out E.AtRuleExit b = refl
once_out E.Rule b = refl
once_out E.RuleExit b = refl
once_out E.Declaration b = refl
once_out E.DeclarationExit b = refl
once_out E.Comment b = refl
once_out E.CommentExit b = refl
once_out E.OnceExit b = refl

exit_in : (d : Event) (b : Bool) → (nat_eq 11 (event_number d) && not (takes_filter d && b)) ≡ nat_eq 11 (event_number d)
exit_in E.Once b = refl
exit_in E.Root b = refl
exit_in E.RootExit b = refl
exit_in E.AtRule b = refl
exit_in E.AtRuleExit b = refl
exit_in E.Rule b = refl
exit_in E.RuleExit b = refl
exit_in E.Declaration b = refl
exit_in E.DeclarationExit b = refl
exit_in E.Comment b = refl
exit_in E.CommentExit b = refl
exit_in E.OnceExit b = refl

exit_out : (d : Event) (b : Bool) → (nat_eq 11 (event_number d) && (takes_filter d && b)) ≡ false
exit_out E.Once b = refl
exit_out E.Root b = refl
exit_out E.RootExit b = refl
exit_out E.AtRule b = refl
exit_out E.AtRuleExit b = refl
exit_out E.Rule b = refl
exit_out E.RuleExit b = refl
exit_out E.Declaration b = refl
exit_out E.DeclarationExit b = refl
exit_out E.Comment b = refl
exit_out E.CommentExit b = refl
exit_out E.OnceExit b = refl

filter_same : (p q : PickedHook → Bool) → ((h : PickedHook) → p h ≡ q h) → (hs : List PickedHook) → filter p hs ≡ filter q hs
filter_same p q e [] = refl
filter_same p q e (h ∷ hs) = ap (λ b. cond b (h ∷ filter p hs) (filter p hs)) (e h) ∙ ap (λ l. cond (q h) (h ∷ l) l) (filter_same p q e hs)

filter_none : (p : PickedHook → Bool) → ((h : PickedHook) → p h ≡ false) → (hs : List PickedHook) → filter p hs ≡ []
filter_none p e [] = refl
filter_none p e (h ∷ hs) = ap (λ b. cond b (h ∷ filter p hs) (filter p hs)) (e h) ∙ filter_none p e hs

pub once_hooks : (hs : List PickedHook) → hooks_at E.Once hs ≡ filter (is_at E.Once) hs
once_hooks hs =
    let a : filter (λ h. is_at E.Once h && not (is_filtered h)) hs ≡ filter (is_at E.Once) hs = filter_same _ _ (λ h. once_in h.event (is_filter h.filter)) hs in
    let b : filter (λ h. is_at E.Once h && is_filtered h) hs ≡ [] = filter_none _ (λ h. once_out h.event (is_filter h.filter)) hs in
    ap (λ l. l ++ filter (λ h. is_at E.Once h && is_filtered h) hs) a ∙ (ap (λ l. filter (is_at E.Once) hs ++ l) b ∙ append-nil (filter (is_at E.Once) hs))

pub exit_hooks : (hs : List PickedHook) → hooks_at E.OnceExit hs ≡ filter (is_at E.OnceExit) hs
exit_hooks hs =
    let a : filter (λ h. is_at E.OnceExit h && not (is_filtered h)) hs ≡ filter (is_at E.OnceExit) hs = filter_same _ _ (λ h. exit_in h.event (is_filter h.filter)) hs in
    let b : filter (λ h. is_at E.OnceExit h && is_filtered h) hs ≡ [] = filter_none _ (λ h. exit_out h.event (is_filter h.filter)) hs in
    ap (λ l. l ++ filter (λ h. is_at E.OnceExit h && is_filtered h) hs) a ∙ (ap (λ l. filter (is_at E.OnceExit) hs ++ l) b ∙ append-nil (filter (is_at E.OnceExit) hs))

-- every hook that was picked is on the shelf
abbrev pub IsThere : List PluginSeen → PickedHook → Type 0
IsThere shelf h = IsSome (hook_at shelf h.plugin h.hook)

some_there : (o : Option HookSeen) (h : HookSeen) → o ≡ Some h → IsSome o
some_there o h e = subst (λ x. IsSome x) (sym e) refl

from_there : (shelf : List PluginSeen) (i k : ℕ) (hs : List HookSeen) → ((j : ℕ) (h : HookSeen) → slice_get hs j ≡ Some h → IsSome (hook_at shelf i (k + j))) → All (IsThere shelf) (hooks_from i k hs)
from_there shelf i k [] t = All-nil (IsThere shelf)
from_there shelf i k (h ∷ hs) t =
    let z : k + 0 ≡ k = omega arith in
    let one : IsSome (hook_at shelf i k) = subst (λ n. IsSome (hook_at shelf i n)) z (t 0 h refl) in
    All-cons (IsThere shelf) (record { plugin = i; hook = k; event = h.event; filter = h.filter }) (hooks_from i (suc k) hs) one (from_there shelf i (suc k) hs (λ j g e. let n : k + suc j ≡ suc k + j = omega arith in subst (λ n. IsSome (hook_at shelf i n)) n (t (suc j) g e)))

pub picked_there : (shelf : List PluginSeen) (picked : List ℕ) → All (IsThere shelf) (picked_hooks shelf picked)
picked_there shelf [] = All-nil (IsThere shelf)
picked_there shelf (i ∷ is) = All-append (IsThere shelf) (hooks_from i 0 (hooks_of (slice_get shelf i))) (picked_hooks shelf is) (from_there shelf i 0 (hooks_of (slice_get shelf i)) (λ j h e. let z : j ≡ 0 + j = omega arith in subst (λ n. IsSome (hook_at shelf i n)) z (some_there (hook_at shelf i j) h e))) (picked_there shelf is)

shown_there : (shelf : List PluginSeen) (hooks : List RunHook) → All (IsThere shelf) (shown_hooks hooks) → AreOnShelf shelf hooks
shown_there shelf [] a at h e = absurd cc
shown_there shelf (x ∷ xs) a zero h e = let i : x ≡ h = cc in subst (λ (y : RunHook). IsSome (hook_at shelf y.plugin y.hook)) i (All-head (IsThere shelf) (shown_hook x) (shown_hooks xs) a)
shown_there shelf (x ∷ xs) a (suc at) h e = shown_there shelf xs (All-tail (IsThere shelf) (shown_hook x) (shown_hooks xs) a) at h e

pub all_there : (shelf : List PluginSeen) (picked : List ℕ) (hooks : RunHooks) → IsGrouped hooks (picked_hooks shelf picked) → AllOnShelf shelf hooks
all_there shelf picked hooks gr e =
    let hs = picked_hooks shelf picked in
    let t = picked_there shelf picked in
    shown_there shelf (group_of hooks e) (subst (All (IsThere shelf)) (sym (gr e)) (All-append (IsThere shelf) (filter (λ h. is_at e h && not (is_filtered h)) hs) (filter (λ h. is_at e h && is_filtered h) hs) (All-filter _ (IsThere shelf) hs t) (All-filter _ (IsThere shelf) hs t)))
