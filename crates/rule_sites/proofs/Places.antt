-- Places in a node's body, in bytes of its sheet.
use Rattle.std.proofs.Common.{◌≡◌, ℕ, ◌+◌, ◌≤◌, List, [], ◌∷◌, ◌++◌, length, Some, None, refl, sym, ap, subst, ◌∙◌, append_assoc, arith, drop}
use Rattle.std.specs.Prelude.{Option, encode_utf8_all}
use Rattle.std.specs.Str.{IsCharBoundary}
use Rattle.std.proofs.lemmas.Str.{encodes-append}
use Rattle.std.proofs.lemmas.List.{drop_at, length-append}
use Rattle.css_text.specs.Ahead.{byte_len}
use Rattle.css_text.specs.declared.lexer.Span.{Span}
use Rattle.css_text.proofs.Slices.{byte_len-append, boundary}
use Rattle.css_text.proofs.Transport.{length-bytes}
use Rattle.css_tree.specs.declared.node.NodeText.{NodeText}
use Rattle.css_tree.specs.Laws.{start_of}
use Rattle.css_tree.specs.Print.{opening}
use Rattle.rule_sites.specs.Blocks.{span_start}
use Rattle.rule_sites.specs.Stands.{Stands}

-- a place after some characters of a text is a boundary
pub after_front : (s front rest : List ℕ) → s ≡ front ++ rest → IsCharBoundary (encode_utf8_all s) (byte_len front)
after_front s front rest e =
    let bytes : encode_utf8_all s ≡ encode_utf8_all front ++ encode_utf8_all rest = ap encode_utf8_all e ∙ encodes-append front rest in
    boundary (encode_utf8_all s) rest (byte_len front)
    (omega (arith, ap length bytes, length-append (encode_utf8_all front) (encode_utf8_all rest), length-bytes front))
    (ap (drop (byte_len front)) bytes ∙ drop_at (encode_utf8_all front) (encode_utf8_all rest) (byte_len front) (length-bytes front))

-- the front of a text takes no more bytes than the text
pub front_short : (s front rest : List ℕ) → s ≡ front ++ rest → byte_len front ≤ byte_len s
front_short s front rest e = omega (arith, ap byte_len e, byte_len-append front rest)

-- the start of a span that is there
pub start_is : (span : Option Span) (n : ℕ) → start_of span ≡ n ∷ [] → span_start span ≡ n
start_is None n h = cc
start_is (Some y) n h = let b : y.start ≡ n = cc in b

pub some_span : (span : Option Span) (n : ℕ) → start_of span ≡ n ∷ [] → None ≡ span → ⊥
some_span None n h e = cc
some_span (Some y) n h e = cc

module _ (s : List ℕ) (text : NodeText) (span : Option Span) (h : Stands s text span) (front rest : List ℕ) (e : opening text ≡ front ++ rest) where
  parted : s ≡ (h.front ++ front) ++ (rest ++ h.rest)
  parted = h.all ∙ (ap (λ z. h.front ++ (z ++ h.rest)) e ∙ (ap (λ z. h.front ++ z) (append_assoc front rest h.rest) ∙ sym (append_assoc h.front front (rest ++ h.rest))))

  at : byte_len (h.front ++ front) ≡ span_start span + byte_len front
  at = byte_len-append h.front front ∙ ap (λ k. k + byte_len front) (sym (start_is span (byte_len h.front) h.start))

  -- the place after the front of a node's body is a boundary of the sheet
  pub place_within : IsCharBoundary (encode_utf8_all s) (span_start span + byte_len front)
  place_within = subst (IsCharBoundary (encode_utf8_all s)) at (after_front s (h.front ++ front) (rest ++ h.rest) parted)

  -- and no later than its end
  pub place_few : span_start span + byte_len front ≤ byte_len s
  place_few = omega (arith, at, front_short s (h.front ++ front) (rest ++ h.rest) parted)

-- the start of a node's body is a boundary
pub start_boundary : (s : List ℕ) (text : NodeText) (span : Option Span) → Stands s text span → IsCharBoundary (encode_utf8_all s) (span_start span)
start_boundary s text span h = let e : span_start span + 0 ≡ span_start span = omega arith in subst (IsCharBoundary (encode_utf8_all s)) e (place_within s text span h [] (opening text) refl)

pub string_len : (bytes cs : List ℕ) → bytes ≡ encode_utf8_all cs → length bytes ≡ byte_len cs
string_len bytes cs e = ap length e ∙ length-bytes cs
