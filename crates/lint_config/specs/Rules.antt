-- The table of the rules: the name of each, and the primary options that it takes.
use Rattle.std.specs.Prelude.{ℕ, List, [], ◌∷◌, Option, Some, None, codes, bytes_eq, if◌then◌else◌}
use Rattle.lint_config.specs.declared.rule.Rule.{Rule}
use Rattle.lint_config.specs.declared.rule.Rule.TheVariants.{BlockNoEmpty, CommentNoEmpty, CommentWhitespaceInside, NoEmptySource, NoInvalidPositionAtImportRule, MaxNestingDepth, DeclarationBlockNoDuplicateCustomProperties, DeclarationBlockNoDuplicateProperties, DeclarationBlockNoShorthandPropertyOverrides, DeclarationNoImportant, KeyframeDeclarationNoImportant, ShorthandPropertyNoRedundantValues, ColorNoInvalidHex, ColorHexLength, LengthZeroNoUnit, UnitNoUnknown, NoDuplicateSelectors, SelectorMaxId, SelectorMaxSpecificity, SelectorPseudoElementColonNotation}
use Rattle.lint_config.specs.declared.rule.Primary.{Primary}
use Rattle.lint_config.specs.declared.rule.Primary.TheVariants.{Flag, AlwaysWord, ShortOrLong, SingleOrDouble, Thousand, Specificity}

pub record Entry : Type 0 where
  pub name : List ℕ
  pub primary : Primary

unfoldable pub entry_of : Rule → Entry
entry_of BlockNoEmpty = record { name = codes "block-no-empty"; primary = Flag }
entry_of CommentNoEmpty = record { name = codes "comment-no-empty"; primary = Flag }
entry_of CommentWhitespaceInside = record { name = codes "comment-whitespace-inside"; primary = AlwaysWord }
entry_of NoEmptySource = record { name = codes "no-empty-source"; primary = Flag }
entry_of NoInvalidPositionAtImportRule = record { name = codes "no-invalid-position-at-import-rule"; primary = Flag }
entry_of MaxNestingDepth = record { name = codes "max-nesting-depth"; primary = Thousand }
entry_of DeclarationBlockNoDuplicateCustomProperties = record { name = codes "declaration-block-no-duplicate-custom-properties"; primary = Flag }
entry_of DeclarationBlockNoDuplicateProperties = record { name = codes "declaration-block-no-duplicate-properties"; primary = Flag }
entry_of DeclarationBlockNoShorthandPropertyOverrides = record { name = codes "declaration-block-no-shorthand-property-overrides"; primary = Flag }
entry_of DeclarationNoImportant = record { name = codes "declaration-no-important"; primary = Flag }
entry_of KeyframeDeclarationNoImportant = record { name = codes "keyframe-declaration-no-important"; primary = Flag }
entry_of ShorthandPropertyNoRedundantValues = record { name = codes "shorthand-property-no-redundant-values"; primary = Flag }
entry_of ColorNoInvalidHex = record { name = codes "color-no-invalid-hex"; primary = Flag }
entry_of ColorHexLength = record { name = codes "color-hex-length"; primary = ShortOrLong }
entry_of LengthZeroNoUnit = record { name = codes "length-zero-no-unit"; primary = Flag }
entry_of UnitNoUnknown = record { name = codes "unit-no-unknown"; primary = Flag }
entry_of NoDuplicateSelectors = record { name = codes "no-duplicate-selectors"; primary = Flag }
entry_of SelectorMaxId = record { name = codes "selector-max-id"; primary = Thousand }
entry_of SelectorMaxSpecificity = record { name = codes "selector-max-specificity"; primary = Specificity }
entry_of SelectorPseudoElementColonNotation = record { name = codes "selector-pseudo-element-colon-notation"; primary = SingleOrDouble }

-- the order in which rules are listed
unfoldable pub all_rules : List Rule
all_rules = BlockNoEmpty ∷ CommentNoEmpty ∷ CommentWhitespaceInside ∷ NoEmptySource ∷ NoInvalidPositionAtImportRule ∷ MaxNestingDepth ∷ DeclarationBlockNoDuplicateCustomProperties ∷ DeclarationBlockNoDuplicateProperties ∷ DeclarationBlockNoShorthandPropertyOverrides ∷ DeclarationNoImportant ∷ KeyframeDeclarationNoImportant ∷ ShorthandPropertyNoRedundantValues ∷ ColorNoInvalidHex ∷ ColorHexLength ∷ LengthZeroNoUnit ∷ UnitNoUnknown ∷ NoDuplicateSelectors ∷ SelectorMaxId ∷ SelectorMaxSpecificity ∷ SelectorPseudoElementColonNotation ∷ []

abbrev pub name_of : Rule → List ℕ
name_of r = (entry_of r).name

abbrev pub primary_of : Rule → Primary
primary_of r = (entry_of r).primary

-- the first rule of a list that has the name
abbrev pub named_in : List Rule → List ℕ → Option Rule
named_in [] name = None
named_in (r ∷ rs) name = if bytes_eq name (name_of r) then Some r else named_in rs name

-- the rule of a name
abbrev pub rule_named : List ℕ → Option Rule
rule_named name = named_in all_rules name
