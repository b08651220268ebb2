-- What stands between a comment's markers, in the bytes of its sheet.
use Rattle.std.proofs.Common.{◌≡◌, ℕ, ◌+◌, ◌-◌, ◌≤◌, List, [], ◌∷◌, ◌++◌, length, take, drop, Some, None, refl, sym, ap, subst, ◌∙◌, append_assoc, arith}
use Rattle.std.specs.Prelude.{Option, encode_utf8_all}
use Rattle.std.specs.Str.{IsCharBoundary, IsUtf8, chars}
use Rattle.css_text.specs.Ahead.{byte_len}
use Rattle.css_text.specs.declared.lexer.Span.{Span}
use Rattle.css_text.proofs.Slices.{IsSlice, IsFrom, byte_len-append, from_middle, from_whole, slice_chars, slice_length}
use Rattle.css_tree.specs.declared.node.NodeText.{NodeText}
use Rattle.css_tree.specs.declared.node.NodeText.TheVariants as N
use Rattle.css_tree.specs.Print.{opening}
use Rattle.rule_sites.specs.Blocks.{span_start}
use Rattle.rule_sites.specs.Stands.{Stands}
use Rattle.rule_sites.proofs.Places.{place_within, place_few, start_is}
use Rattle.rules_tree.specs.CommentWhitespaceInside.{inner_of}

opening_is : (text : NodeText) (inner : List ℕ) → inner_of text ≡ Some inner → opening text ≡ (47 ∷ 42 ∷ inner) ++ 42 ∷ 47 ∷ []
opening_is (N.Comment before left text right) inner e =
    let k : left ++ (text ++ right) ≡ inner = cc in
    ap (λ z. 47 ∷ 42 ∷ z) (simp append_assoc at (ap (λ z. z ++ 42 ∷ 47 ∷ []) k))
opening_is (N.AtRule before name after_name params between block) inner e = cc
opening_is (N.Rule before selector between block) inner e = cc
opening_is (N.Root bom block) inner e = cc
opening_is (N.Declaration before prop between value important raw tail) inner e = cc

module _ (s : List ℕ) (text : NodeText) (span : Option Span) (h : Stands s text span) (inner : List ℕ) (e : inner_of text ≡ Some inner) where
  two_more : span_start span + byte_len (47 ∷ 42 ∷ inner) ≡ span_start span + 2 + byte_len inner
  two_more = omega (arith, byte_len-append (47 ∷ 42 ∷ []) inner)

  pub inner_few : span_start span + 2 + byte_len inner ≤ byte_len s
  inner_few = omega (arith, two_more, place_few s text span h (47 ∷ 42 ∷ inner) (42 ∷ 47 ∷ []) (opening_is text inner e))

  pub inner_end : IsCharBoundary (encode_utf8_all s) (span_start span + 2 + byte_len inner)
  inner_end = subst (IsCharBoundary (encode_utf8_all s)) two_more (place_within s text span h (47 ∷ 42 ∷ inner) (42 ∷ 47 ∷ []) (opening_is text inner e))

  all_is : s ≡ (h.front ++ 47 ∷ 42 ∷ []) ++ (inner ++ (42 ∷ 47 ∷ h.rest))
  all_is = h.all ∙ (ap (λ z. h.front ++ (z ++ h.rest)) (opening_is text inner e) ∙ simp append_assoc)

  -- a slice of bytes that spell the sheet
  pub inner_slice : (bs : List ℕ) → IsUtf8 bs → chars bs ≡ s → IsSlice bs (span_start span + 2) (span_start span + 2 + byte_len inner) inner
  inner_slice bs u k =
      let w = from_middle bs 0 (h.front ++ 47 ∷ 42 ∷ []) inner (42 ∷ 47 ∷ h.rest) (subst (IsFrom bs 0) (k ∙ all_is) (from_whole bs u)) in
      let n : 0 + byte_len (h.front ++ 47 ∷ 42 ∷ []) ≡ span_start span + 2 = omega (arith, byte_len-append h.front (47 ∷ 42 ∷ []), start_is span (byte_len h.front) h.start) in
      subst (λ m. IsSlice bs m (m + byte_len inner) inner) n w

  -- from a place, so many bytes
  pub slice_at : (bs : List ℕ) → IsUtf8 bs → chars bs ≡ s → (a size : ℕ) → a ≡ span_start span + 2 → size ≡ byte_len inner → IsSlice bs a (a + size) inner
  slice_at bs u k a size p q =
      let to : span_start span + 2 + byte_len inner ≡ a + size = omega arith in
      subst (λ m. IsSlice bs m (a + size) inner) (sym p) (subst (λ m. IsSlice bs (span_start span + 2) m inner) to (inner_slice bs u k))
