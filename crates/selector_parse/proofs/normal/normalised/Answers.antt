use Rattle.std.proofs.Common.{map, ap, ◌∙◌, subst}
use Rattle.std.specs.String.{string_bytes}
use Rattle.std.specs.Ordering.{nat_cmp, is_lt}
use Rattle.std.specs.Cmp.Lexicographic.{slice_cmp}
use Rattle.std.specs.List.Sorted.{IsPermutation}
use Rattle.std.proofs.lemmas.List.Sorted.{IsPermutation-map}
use Rattle.std.proofs.lemmas.Str.{encodes-chars, IsUtf8-string_bytes}
use lib.Utf8.{encodes}
use Rattle.selector_parse.specs.Normal.{joined, normal_bytes}
use Rattle.selector_parse.proofs.Printed.{sorted_map}
use Rattle.selector_parse.proofs.Rows.{if_ok_map}
use Rattle.selector_parse.proofs.normal.normalised.Goals as goal

pub returns : goal.returns
returns c = if_ok_map c.from_string.result _ _ (λ text same. record {
  texts = map string_bytes c.sort.new.self.items;
  permutation = subst (λ xs. IsPermutation xs (map string_bytes c.sort.new.self.items)) (c.in_ok-texts.ensures ∙ ap (λ xs. map normal_bytes xs) c.deref.ensures.value)
      (IsPermutation-map string_bytes c.in_ok-texts.texts.items c.sort.new.self.items c.in_ok-sort.ensures.permutation);
  sorted = sorted_map string_bytes (λ x y. is_lt (slice_cmp nat_cmp x y)) c.sort.new.self.items c.in_ok-sort.ensures.sorted;
  is = ap encodes same ∙ encodes-chars (string_bytes c.in_ok-text.text) (IsUtf8-string_bytes c.in_ok-text.text) ∙ c.in_ok-text.ensures ∙ ap (λ xs. joined (map string_bytes xs)) c.as_slice.ensures.value;
}) c.from_string.ensures
