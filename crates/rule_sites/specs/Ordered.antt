-- Sites in the order of byte, rule name and text.
use Rattle.std.specs.Prelude.{◌≡◌, ℕ, List, [], ◌∷◌, Bool, true, encode_utf8_all}
use Rattle.std.specs.declared.cmp.Ordering.{Ordering}
use Rattle.std.specs.Ordering.{nat_cmp, ordering_then, is_le}
use Rattle.std.specs.Cmp.Lexicographic.{slice_cmp}
use Rattle.std.specs.List.Sorted.{IsPermutation}
use Rattle.lint_config.specs.Rules.{name_of}
use Rattle.lint_config.specs.declared.setting.Setting.{Setting}
use Rattle.lint_config.specs.declared.found.Site.{Site}
use Rattle.rule_sites.specs.Finding.{Finds, all_sites}

-- by the names of their rules, then by their texts
abbrev pub text_cmp : Site → Site → Ordering
text_cmp a b = ordering_then (slice_cmp nat_cmp (name_of a.rule) (name_of b.rule)) (slice_cmp nat_cmp (encode_utf8_all a.text) (encode_utf8_all b.text))

-- how a site stands to another: by their bytes first
abbrev pub site_cmp : Site → Site → Ordering
site_cmp a b = ordering_then (nat_cmp a.at b.at) (text_cmp a b)

-- a may stand before b in a list of sites
abbrev pub is_up_to_site : Site → Site → Bool
is_up_to_site a b = is_le (site_cmp a b)

abbrev pub AreInOrder : List Site → Type 0
AreInOrder [] = Unit {0}
AreInOrder (a ∷ []) = Unit {0}
AreInOrder (a ∷ b ∷ rest) = (is_up_to_site a b ≡ true) × AreInOrder (b ∷ rest)

-- the list has each site that the settings ask for at the nodes of the sheet s, and no other, in order
pub record IsListed {X : Type 0} (find : Finds X) (s : List ℕ) (xs : List X) (settings : List Setting) (sites : List Site) : Type 0 where
  pub all : IsPermutation (all_sites find s xs settings) sites
  pub in_order : AreInOrder sites
