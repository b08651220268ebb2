-- The walk over the nodes finds what is listed.
use Rattle.std.proofs.Common.{◌≡◌, ℕ, ◌+◌, List, ◌++◌, length, refl, sym, ap, subst, ◌∙◌}
use Rattle.std.specs.List.{flat_map}
use Rattle.std.specs.List.Sorted.{IsPermutation}
use Rattle.std.proofs.lemmas.List.Sorted.{IsPermutation-sym, IsPermutation-trans}
use Rattle.lint_config.specs.declared.found.Site.{Site}
use Rattle.lint_config.specs.declared.setting.Setting.{Setting}
use Rattle.node_store.specs.Forest.{Forest, IsForest, tree_of}
use Rattle.node_store.specs.Fresh.{IsFresh}
use Rattle.rule_sites.specs.Context.{Context, contexts}
use Rattle.rule_sites.specs.ContextAt.{context_at}
use Rattle.rule_sites.specs.Finding.{sites_at, all_sites}
use Rattle.rule_sites.specs.Ordered.{AreInOrder, IsListed}
use Rattle.rule_sites.proofs.Exchange.{by_nodes}
use Rattle.rule_sites.proofs.Walks.{found_before, found_more, found_all}
use Rattle.rules_tree.specs.Findings.{findings}

module _ (f : Forest) (settings : List Setting) where
  -- the sites of all settings at one node
  abbrev sites_here : Context → List Site
  sites_here c = flat_map (λ setting. sites_at findings f.text setting c) settings

pub walk_more : (f : Forest) (settings given : List Setting) (n m : ℕ) (old new : List Site) → given ≡ settings → m ≡ n → old ≡ found_before (sites_here f settings) f.nodes n → new ≡ old ++ sites_here f given (context_at f.nodes m) → new ≡ found_before (sites_here f settings) f.nodes (n + 1)
walk_more f settings given n m old new g e h k =
    k ∙ (ap (λ z. old ++ sites_here f z (context_at f.nodes m)) g
    ∙ (ap (λ z. old ++ sites_here f settings (context_at f.nodes z)) e
    ∙ (ap (λ z. z ++ sites_here f settings (context_at f.nodes n)) h ∙ found_more (sites_here f settings) f.nodes n)))

pub walked : (f : Forest) → IsForest f → IsFresh f → (settings : List Setting) (n : ℕ) (sites sorted : List Site) → n ≡ length f.nodes → sites ≡ found_before (sites_here f settings) f.nodes n → IsPermutation sites sorted → AreInOrder sorted → IsListed findings f.text (contexts (tree_of f)) settings sorted
walked f i h settings n sites sorted e k p o =
    let all : sites ≡ flat_map (sites_here f settings) (contexts (tree_of f)) = k ∙ (ap (found_before (sites_here f settings) f.nodes) e ∙ found_all (sites_here f settings) f i h) in
    let there : IsPermutation (flat_map (sites_here f settings) (contexts (tree_of f))) sorted = subst (λ z. IsPermutation z sorted) all p in
    record {
      all = IsPermutation-trans _ _ _ (IsPermutation-sym _ _ (by_nodes findings f.text (contexts (tree_of f)) settings)) there;
      in_order = o;
    }
