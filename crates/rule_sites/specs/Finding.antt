-- What a rule finds at a node, and the sites that settings ask for.
use Rattle.std.specs.Prelude.{ℕ, List, map, Option, Some, None}
use Rattle.std.specs.List.{flat_map}
use Rattle.css_text.specs.Place.{place_of}
use Rattle.lint_config.specs.declared.rule.Rule.{Rule}
use Rattle.lint_config.specs.declared.setting.Choice.{Choice}
use Rattle.lint_config.specs.declared.setting.Setting.{Setting}
use Rattle.lint_config.specs.declared.found.Repair.{Repair}
use Rattle.lint_config.specs.declared.found.Site.{Site}

-- the byte in the sheet that it stands at, its message, and the change of the sheet that mends it
pub record Finding : Type 0 where
  pub at : ℕ
  pub text : List ℕ
  pub repair : Option Repair

-- what is not mended
abbrev pub unmended : ℕ → List ℕ → Finding
unmended at text = record { at = at; text = text; repair = None }

-- what is mended by this text in place of the bytes from one to another
abbrev pub mended : ℕ → List ℕ → ℕ → ℕ → List ℕ → Finding
mended at text start end by = record { at = at; text = text; repair = Some (record { span = record { start = start; end = end }; text = by }) }

-- the site of a finding of that rule in the sheet s
abbrev pub site_of : List ℕ → Rule → Finding → Site
site_of s rule f = record { rule = rule; at = f.at; place = place_of s f.at; text = f.text; repair = f.repair }

-- what rules find, under a choice, at a node that is seen as an X: with what stands around it, and whatever more was read of it
abbrev pub Finds : Type 0 → Type 0
Finds X = Rule → Choice → X → List Finding

-- the sites of one setting at one node
abbrev pub sites_at : {X : Type 0} → Finds X → List ℕ → Setting → X → List Site
sites_at find s setting x = map (site_of s setting.rule) (find setting.rule setting.choice x)

-- the sites of one setting at the nodes of a sheet s
abbrev pub sites_of : {X : Type 0} → Finds X → List ℕ → List X → Setting → List Site
sites_of find s xs setting = flat_map (sites_at find s setting) xs

-- the sites of all settings, rule by rule
unfoldable pub all_sites : {X : Type 0} → Finds X → List ℕ → List X → List Setting → List Site
all_sites find s xs settings = flat_map (sites_of find s xs) settings
