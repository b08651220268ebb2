-- A shelf to which plugins are put one after another, as a contract sees it.
use Rattle.std.proofs.Common.{◌≡◌, ℕ, zero, suc, ◌<◌, List, [], ◌∷◌, ◌++◌, length, Option, sym, ap, subst, ◌∙◌, arith}
use Rattle.std.specs.List.{All}
use lib.ListN.{get_or}
use Rattle.std.proofs.Math.ListN.{get_or-map}
use Rattle.transforms.specs.declared.shelf.Visitors.{Visitors}
use Rattle.transforms.specs.Shipped.{shipped_plugins}
use Rattle.std.proofs.lemmas.List.{map-append, length-map}
use Rattle.std.specs.declared.alloc.Global.{Global}
use Rattle.std.specs.declared.dyn_box.DynBox.{DynBox}
use Rattle.plugin_api.specs.declared.visitor.Told.{Told}
use Rattle.plugin_api.specs.declared.visitor.Duty.{Duty}
use Rattle.plugin_api.specs.declared.hook.Hook.{Hook}
use Rattle.plugin_api.specs.declared.plugin.Plugin.{Plugin}
use Rattle.plugin_api.specs.Shelf.{HookSeen, PluginSeen, hook_seen, hooks_seen, plugin_seen, shelf_seen}

abbrev made : List ℕ → List HookSeen → PluginSeen
made name hooks = record { name = name; hooks = hooks }

module _ {X : Type 0} {F : X → Type 0}
    (told : DynBox X Global F → Option (List Told)) (said : DynBox X Global F → List (List ℕ)) (duty : DynBox X Global F → Option Duty) (left : DynBox X Global F → ℕ) where
  pub one_hook : (p : Plugin X F) (name : List ℕ) (h : Hook X F) (s : HookSeen) → p.name ≡ name → p.hooks.items ≡ h ∷ [] → hook_seen told said duty left h ≡ s → plugin_seen told said duty left p ≡ record { name = name; hooks = s ∷ [] }
  one_hook p name h s n e k = ap (λ x. made x (hooks_seen told said duty left p.hooks.items)) n ∙ (ap (λ hs. made name (hooks_seen told said duty left hs)) e ∙ ap (λ x. made name (x ∷ [])) k)

  pub two_hooks : (p : Plugin X F) (name : List ℕ) (h i : Hook X F) (s t : HookSeen) → p.name ≡ name → p.hooks.items ≡ h ∷ i ∷ [] → hook_seen told said duty left h ≡ s → hook_seen told said duty left i ≡ t → plugin_seen told said duty left p ≡ record { name = name; hooks = s ∷ t ∷ [] }
  two_hooks p name h i s t n e k l = ap (λ x. made x (hooks_seen told said duty left p.hooks.items)) n ∙ (ap (λ hs. made name (hooks_seen told said duty left hs)) e ∙ (ap (λ x. made name (x ∷ hook_seen told said duty left i ∷ [])) k ∙ ap (λ x. made name (s ∷ x ∷ [])) l))

  pub put : (ps qs : List (Plugin X F)) (p : Plugin X F) (ss : List PluginSeen) (s : PluginSeen) → qs ≡ ps ++ p ∷ [] → shelf_seen told said duty left ps ≡ ss → plugin_seen told said duty left p ≡ s → shelf_seen told said duty left qs ≡ ss ++ s ∷ []
  put ps qs p ss s e h k = ap (shelf_seen told said duty left) e ∙ (map-append (plugin_seen told said duty left) ps (p ∷ []) ∙ (ap (λ x. x ++ plugin_seen told said duty left p ∷ []) h ∙ ap (λ x. ss ++ x ∷ []) k))

  few_hooks : (ps : List (Plugin X F)) → All (λ s. length s.hooks < 4294967296) (shelf_seen told said duty left ps) → All (λ p. length p.hooks.items < 4294967296) ps
  few_hooks ps h = λ k d l.
      let seen = h k (plugin_seen told said duty left d) (subst (λ n. k < n) (sym (length-map ps (plugin_seen told said duty left))) l) in
      subst (λ n. n < 4294967296) (length-map (get_or ps k d).hooks.items (hook_seen told said duty left)) (subst (λ s. length s.hooks < 4294967296) (get_or-map (plugin_seen told said duty left) ps k d) seen)

  shipped_hooks : (v : Visitors X F) (k : ℕ) (d : PluginSeen) → k < 4 → length (get_or (shipped_plugins told said duty left v) k d).hooks < 4294967296
  shipped_hooks v zero d l = omega arith
  shipped_hooks v (suc zero) d l = omega arith
  shipped_hooks v (suc (suc zero)) d l = omega arith
  shipped_hooks v (suc (suc (suc zero))) d l = omega arith
  shipped_hooks v (suc (suc (suc (suc k)))) d l = absurd (omega (arith, l))

  pub shipped_few : (ps : List (Plugin X F)) (v : Visitors X F) → shelf_seen told said duty left ps ≡ shipped_plugins told said duty left v → All (λ p. length p.hooks.items < 4294967296) ps
  shipped_few ps v e = few_hooks ps (subst (All (λ s. length s.hooks < 4294967296)) (sym e) (shipped_hooks v))

  pub shipped_four : (ps : List (Plugin X F)) (v : Visitors X F) → shelf_seen told said duty left ps ≡ shipped_plugins told said duty left v → length ps ≡ 4
  shipped_four ps v e = sym (length-map ps (plugin_seen told said duty left)) ∙ ap length e
