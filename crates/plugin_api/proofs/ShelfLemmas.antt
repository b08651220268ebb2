-- A shelf seen through a map.
use Rattle.std.proofs.Common.{◌≡◌, ℕ, zero, suc, ◌<◌, List, [], ◌∷◌, length, map, get_or, slice_get, slice_set, Some, IsSome, refl, subst, ap, ◌∙◌, arith, rules}
use Rattle.std.proofs.lemmas.Option.{slice_get-map, slice_get_read}
use Rattle.std.specs.Option.{option_map}
use Rattle.node_store.specs.declared.item.Moment.{Moment}
use Rattle.node_store.specs.Forest.{Forest}
use Rattle.plugin_api.specs.Visit.{Answer}
use Rattle.plugin_api.specs.Shelf.{PluginSeen, HookSeen, hook_at, VisitedAt}

pub seen_at : {A B : Type 0} (f : A → B) (xs : List A) (i : ℕ) (x : A) → i < length xs → x ≡ get_or xs i x → slice_get (map f xs) i ≡ Some (f x)
seen_at f xs i x l e = slice_get-map f xs i ∙ ap (option_map f) (slice_get_read xs (length xs) i x refl l e)

-- a pair of places that has a hook is on the shelf
pub place_in : {A : Type 0} (f : A → PluginSeen) (ps : List A) (i j : ℕ) → IsSome (hook_at (map f ps) i j) → i < length ps
place_in f [] i j h = search rules
place_in f (p ∷ ps) zero j h = omega arith
place_in f (p ∷ ps) (suc i) j h = let k : i < length ps = place_in f ps i j h in omega arith

-- a call of one hook changes what is seen of no other
pub get_other : {A : Type 0} (xs : List A) (i k : ℕ) (a : A) → ¬ (k ≡ i) → slice_get (slice_set xs i a) k ≡ slice_get xs k
get_other [] i k a n = refl
get_other (x ∷ xs) zero zero a n = absurd (n refl)
get_other (x ∷ xs) zero (suc k) a n = refl
get_other (x ∷ xs) (suc i) zero a n = refl
get_other (x ∷ xs) (suc i) (suc k) a n = get_other xs i k a (λ e. n (ap suc e))

pub get_same : {A : Type 0} (xs : List A) (i : ℕ) (x a : A) → slice_get xs i ≡ Some x → slice_get (slice_set xs i a) i ≡ Some a
get_same [] i x a e = absurd (cc)
get_same (y ∷ xs) zero x a e = refl
get_same (y ∷ xs) (suc i) x a e = get_same xs i x a e

-- a call leaves a hook wherever one was
pub get_kept : {A : Type 0} (xs : List A) (i k : ℕ) (a : A) → IsSome (slice_get xs k) → IsSome (slice_get (slice_set xs i a) k)
get_kept [] i k a h = h
get_kept (x ∷ xs) zero zero a h = search rules
get_kept (x ∷ xs) zero (suc k) a h = h
get_kept (x ∷ xs) (suc i) zero a h = h
get_kept (x ∷ xs) (suc i) (suc k) a h = get_kept xs i k a h

pub place_set : (ps : List PluginSeen) (i : ℕ) (p : PluginSeen) (j : ℕ) (h : HookSeen) → slice_get ps i ≡ Some p → (k l : ℕ) → IsSome (hook_at ps k l)
    → IsSome (hook_at (slice_set ps i (record { name = p.name; hooks = slice_set p.hooks j h })) k l)
place_set [] i p j h e k l s = s
place_set (x ∷ ps) zero p j h e zero l s = let same : x ≡ p = cc in get_kept p.hooks j l h (subst (λ (y : PluginSeen). IsSome (slice_get y.hooks l)) same s)
place_set (x ∷ ps) zero p j h e (suc k) l s = s
place_set (x ∷ ps) (suc i) p j h e zero l s = s
place_set (x ∷ ps) (suc i) p j h e (suc k) l s = place_set ps i p j h e k l s

pub place_kept : {old new : List PluginSeen} {i j : ℕ} {before after : Forest} {m : Moment} {r : Answer} → VisitedAt old new i j before after m r → (k l : ℕ) → IsSome (hook_at old k l) → IsSome (hook_at new k l)
place_kept {old = old} {i = i} {j = j} v k l s =
    let h : v.hooks ≡ slice_set v.was.hooks j v.visited.is = v.visited.set in
    rw (v.set, h) (place_set old i v.was j v.visited.is v.at k l s)
