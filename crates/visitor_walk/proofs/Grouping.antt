-- Grouping of hooks by event.
use Rattle.std.proofs.Common.{◌≡◌, ℕ, zero, suc, ◌+◌, ◌<◌, ◌≤◌, List, [], ◌∷◌, ◌++◌, Bool, true, false, length, get_or, Option, Some, None, refl, ap, sym, ◌∙◌, arith, drop, slice_get, append_assoc, append-nil}
use Rattle.std.specs.Prelude.{filter, nat_eq, ◌&&◌}
use Rattle.std.specs.Option.{option_map}
use Rattle.std.specs.declared.alloc.Global.{Global}
use Rattle.std.specs.declared.dyn_box.DynBox.{DynBox}
use Rattle.std.proofs.lemmas.Option.{slice_get-map}
use Rattle.std.proofs.lemmas.List.{map-append}
use Rattle.std.proofs.lemmas.List.Elements.{filter-append}
use Rattle.node_store.specs.declared.item.Event.{Event}
use Rattle.plugin_api.specs.declared.hook.Hook.{Hook}
use Rattle.plugin_api.specs.declared.plugin.Plugin.{Plugin}
use Rattle.plugin_api.specs.declared.visitor.Told.{Told}
use Rattle.plugin_api.specs.declared.visitor.Duty.{Duty}
use Rattle.plugin_api.specs.Shelf.{hooks_of, hooks_seen, plugin_seen, shelf_seen}
use Rattle.visitor_machine.specs.Hooks.{PickedHook, event_number, is_filtered}
use Rattle.visitor_walk.specs.declared.hooks.RunHook.{RunHook}
use Rattle.visitor_walk.specs.Picked.{hooks_from, picked_hooks}
use Rattle.visitor_walk.specs.Groups.{in_group, same_flag, shown_hook, shown_hooks, listed_from, hooks_in, listed_hooks}

pub read_at : {A : Type 0} (xs : List A) (at : ℕ) (d : A) → at < length xs → slice_get xs at ≡ Some (get_or xs at d)
read_at [] at d l = absurd (omega arith)
read_at (x ∷ xs) zero d l = refl
read_at (x ∷ xs) (suc at) d l = read_at xs at d (omega arith)

pub wanted_is : (e : Event) (b : Bool) (h : PickedHook) → in_group e b h ≡ (nat_eq (event_number e) (event_number h.event) && same_flag b (is_filtered h))
wanted_is e true h = refl
wanted_is e false h = refl

pub drop_at : {A : Type 0} (xs : List A) (at : ℕ) (x : A) → slice_get xs at ≡ Some x → drop at xs ≡ x ∷ drop (at + 1) xs
drop_at [] at x e = absurd cc
drop_at (y ∷ ys) zero x e = let i : y ≡ x = cc in rw i refl
drop_at (y ∷ ys) (suc at) x e = let n : suc at + 1 ≡ suc (at + 1) = omega arith in drop_at ys at x e ∙ ap (λ k. x ∷ drop k (y ∷ ys)) (sym n)

pub drop_all : {A : Type 0} (xs : List A) (at : ℕ) → length xs ≤ at → drop at xs ≡ []
drop_all [] zero h = refl
drop_all [] (suc at) h = refl
drop_all (x ∷ xs) zero h = absurd (omega arith)
drop_all (x ∷ xs) (suc at) h = drop_all xs at (omega arith)

module _ {X : Type 0} {F : X → Type 0} where
  module _ (test : PickedHook → Bool) (plugin : ℕ) (hooks : List (Hook X F)) (out : List PickedHook) where
    pub hook_taken : (group more : List RunHook) (at : ℕ) (h : Hook X F) (r : RunHook) → slice_get hooks at ≡ Some h → shown_hook r ≡ record { plugin = plugin; hook = at; event = h.event; filter = h.filter } → test (record { plugin = plugin; hook = at; event = h.event; filter = h.filter }) ≡ true → more ≡ group ++ r ∷ []
        → shown_hooks group ++ filter test (listed_from plugin at (drop at hooks)) ≡ out → shown_hooks more ++ filter test (listed_from plugin (at + 1) (drop (at + 1) hooks)) ≡ out
    hook_taken group more at h r e s t m w =
        let n : suc at ≡ at + 1 = omega arith in
        let rest = filter test (listed_from plugin (at + 1) (drop (at + 1) hooks)) in
        let t' : test (shown_hook r) ≡ true = ap test s ∙ t in
        let i : filter test (shown_hook r ∷ listed_from plugin (at + 1) (drop (at + 1) hooks)) ≡ shown_hook r ∷ rest = rw t' refl in
        let j : filter test (listed_from plugin at (drop at hooks)) ≡ shown_hook r ∷ rest = ap (λ xs. filter test (listed_from plugin at xs)) (drop_at hooks at h e) ∙ (ap (λ k. filter test (record { plugin = plugin; hook = at; event = h.event; filter = h.filter } ∷ listed_from plugin k (drop (at + 1) hooks))) n ∙ (ap (λ p. filter test (p ∷ listed_from plugin (at + 1) (drop (at + 1) hooks))) (sym s) ∙ i)) in
        ap (λ xs. shown_hooks xs ++ rest) m ∙ (ap (λ xs. xs ++ rest) (map-append shown_hook group (r ∷ [])) ∙ (append_assoc (shown_hooks group) (shown_hook r ∷ []) rest ∙ (ap (λ xs. shown_hooks group ++ xs) (sym j) ∙ w)))

    pub hook_left : (group : List RunHook) (at : ℕ) (h : Hook X F) → slice_get hooks at ≡ Some h → test (record { plugin = plugin; hook = at; event = h.event; filter = h.filter }) ≡ false
        → shown_hooks group ++ filter test (listed_from plugin at (drop at hooks)) ≡ out → shown_hooks group ++ filter test (listed_from plugin (at + 1) (drop (at + 1) hooks)) ≡ out
    hook_left group at h e t w =
        let n : suc at ≡ at + 1 = omega arith in
        let i : filter test (record { plugin = plugin; hook = at; event = h.event; filter = h.filter } ∷ listed_from plugin (at + 1) (drop (at + 1) hooks)) ≡ filter test (listed_from plugin (at + 1) (drop (at + 1) hooks)) = rw t refl in
        let j : filter test (listed_from plugin at (drop at hooks)) ≡ filter test (listed_from plugin (at + 1) (drop (at + 1) hooks)) = ap (λ xs. filter test (listed_from plugin at xs)) (drop_at hooks at h e) ∙ (ap (λ k. filter test (record { plugin = plugin; hook = at; event = h.event; filter = h.filter } ∷ listed_from plugin k (drop (at + 1) hooks))) n ∙ i) in
        ap (λ xs. shown_hooks group ++ xs) (sym j) ∙ w

    pub hooks_end : (group : List RunHook) (at : ℕ) → length hooks ≤ at → shown_hooks group ++ filter test (listed_from plugin at (drop at hooks)) ≡ out → shown_hooks group ≡ out
    hooks_end group at l w = sym (append-nil (shown_hooks group)) ∙ (ap (λ xs. shown_hooks group ++ filter test (listed_from plugin at xs)) (sym (drop_all hooks at l)) ∙ w)

  module _ (test : PickedHook → Bool) (shelf : List (Plugin X F)) (picked : List ℕ) (out : List PickedHook) where
    pub picked_taken : (group more : List RunHook) (at i : ℕ) (p : Plugin X F) → slice_get picked at ≡ Some i → slice_get shelf i ≡ Some p → shown_hooks more ≡ shown_hooks group ++ filter test (listed_from i 0 p.hooks.items)
        → shown_hooks group ++ filter test (listed_hooks shelf (drop at picked)) ≡ out → shown_hooks more ++ filter test (listed_hooks shelf (drop (at + 1) picked)) ≡ out
    picked_taken group more at i p e f m w =
        let rest = listed_hooks shelf (drop (at + 1) picked) in
        let own : listed_from i 0 (hooks_in (slice_get shelf i)) ≡ listed_from i 0 p.hooks.items = ap (λ o. listed_from i 0 (hooks_in o)) f in
        let j : filter test (listed_hooks shelf (drop at picked)) ≡ filter test (listed_from i 0 p.hooks.items) ++ filter test rest = ap (λ xs. filter test (listed_hooks shelf xs)) (drop_at picked at i e) ∙ (ap (λ xs. filter test (xs ++ rest)) own ∙ filter-append test (listed_from i 0 p.hooks.items) rest) in
        ap (λ xs. xs ++ filter test rest) m ∙ (append_assoc (shown_hooks group) (filter test (listed_from i 0 p.hooks.items)) (filter test rest) ∙ (ap (λ xs. shown_hooks group ++ xs) (sym j) ∙ w))

    pub picked_end : (group : List RunHook) (at : ℕ) → length picked ≤ at → shown_hooks group ++ filter test (listed_hooks shelf (drop at picked)) ≡ out → shown_hooks group ≡ out
    picked_end group at l w = sym (append-nil (shown_hooks group)) ∙ (ap (λ xs. shown_hooks group ++ filter test (listed_hooks shelf xs)) (sym (drop_all picked at l)) ∙ w)

  module _ (told : DynBox X Global F → Option (List Told)) (said : DynBox X Global F → List (List ℕ)) (duty : DynBox X Global F → Option Duty) (left : DynBox X Global F → ℕ) where
    from_seen : (plugin hook : ℕ) (hs : List (Hook X F)) → listed_from plugin hook hs ≡ hooks_from plugin hook (hooks_seen told said duty left hs)
    from_seen plugin hook [] = refl
    from_seen plugin hook (h ∷ hs) = ap (λ xs. record { plugin = plugin; hook = hook; event = h.event; filter = h.filter } ∷ xs) (from_seen plugin (suc hook) hs)

    hooks_of_seen : (o : Option (Plugin X F)) → hooks_seen told said duty left (hooks_in o) ≡ hooks_of (option_map (plugin_seen told said duty left) o)
    hooks_of_seen None = refl
    hooks_of_seen (Some p) = refl

    -- what is read from the shelf is what is seen of it
    pub listed_seen : (shelf : List (Plugin X F)) (picked : List ℕ) → listed_hooks shelf picked ≡ picked_hooks (shelf_seen told said duty left shelf) picked
    listed_seen shelf [] = refl
    listed_seen shelf (i ∷ is) =
        let a : listed_from i 0 (hooks_in (slice_get shelf i)) ≡ hooks_from i 0 (hooks_of (slice_get (shelf_seen told said duty left shelf) i)) = from_seen i 0 (hooks_in (slice_get shelf i)) ∙ (ap (λ x. hooks_from i 0 x) (hooks_of_seen (slice_get shelf i)) ∙ ap (λ x. hooks_from i 0 (hooks_of x)) (sym (slice_get-map (plugin_seen told said duty left) shelf i))) in
        ap (λ xs. xs ++ listed_hooks shelf is) a ∙ ap (λ xs. hooks_from i 0 (hooks_of (slice_get (shelf_seen told said duty left shelf) i)) ++ xs) (listed_seen shelf is)
