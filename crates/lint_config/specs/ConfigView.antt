-- What the parts of a configuration stand for.
use Rattle.std.specs.Prelude.{ℕ, List, map, String, string_bytes}
use Rattle.std.specs.declared.alloc.Global.{Global}
use Rattle.lint_config.specs.declared.config.Named.{Named}
use Rattle.lint_config.specs.declared.config.Override.{Override}
use Rattle.lint_config.specs.declared.config.Contents.{Contents}
use Rattle.lint_config.specs.ConfigOf.{NamedMode, OverrideData, ConfigData}

abbrev pub named_view : Named → NamedMode
named_view n = record { name = string_bytes n.name; mode = n.mode }

abbrev pub rules_view : List Named → List NamedMode
rules_view ns = map named_view ns

abbrev pub texts_view : List (String Global) → List (List ℕ)
texts_view ts = map (λ t. string_bytes t) ts

abbrev pub override_view : Override → OverrideData
override_view o = record { patterns = texts_view o.patterns.items; rules = rules_view o.rules.items }

abbrev pub overrides_view : List Override → List OverrideData
overrides_view os = map override_view os

abbrev pub contents_view : Contents → ConfigData
contents_view c = record {
  severity = c.severity;
  ignore = c.ignore;
  needless = c.needless;
  overrides = overrides_view c.overrides.items;
  rules = rules_view c.rules.items;
}
