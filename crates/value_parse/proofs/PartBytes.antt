-- The first part of a text has in its bytes the kind and the characters that it has in its characters.
use Rattle.std.proofs.Common.{◌≡◌, ℕ, suc, ◌+◌, ◌<◌, ◌≤◌, Bool, true, false, cond, eqb, List, [], ◌∷◌, ◌++◌, length, take, drop, Option, Some, None, refl, ap, sym, ◌∙◌, inl, inr, add-zero, suc-add, one-add, zero-add, add_assoc, arith, lit<}
use Rattle.std.specs.Prelude.{◌&&◌, not}
use Rattle.std.specs.Option.{option_map}
use Rattle.std.specs.Char.{to_ascii_lowercase, len_utf8}
use lib.Utf8.{encode, encodes}
use Rattle.std.proofs.lemmas.Bool.{le-ltb, eqb-true, ne_eqb, cases_lt, and_parts, false≢true}
use Rattle.std.proofs.lemmas.List.{take_all}
use Rattle.std.proofs.lemmas.List.Sums.{sum_by-cons}
use Rattle.std.proofs.lemmas.Str.{encode_ascii, length-encode}
use Rattle.css_text.specs.declared.lexer.PieceKind.{PieceKind}
use Rattle.css_text.specs.declared.lexer.PieceKind.TheVariants.{Space, Comment, Quoted, Url, Word}
use Rattle.css_text.specs.Characters.{is_space, is_quote}
use Rattle.css_text.specs.Forms.{begins, begins_with, begins_url, url_open, quote_first, space_len, through, through_comment}
use Rattle.css_text.specs.Ahead.{byte_len}
use Rattle.css_text.specs.ValueParts.{ends_value, value_len, end_or, part, first_part, plain}
use Rattle.css_text.proofs.Bytes.{AllHigh, High, low_or_high, weigh, weigh-suc, drop_weigh, front_low, front_high, space_len-bytes, begins-bytes, through-bytes, comment-bytes, is_space-high, is_quote-high, is_single-high}
use Rattle.css_text.proofs.Transport.{AllLow, begins_url-bytes, length-bytes}
use Rattle.value_parse.specs.Found.{found, first_at}

ends_value-high : (c : ℕ) → 128 ≤ c → ends_value c ≡ false
unfolding ends_value
ends_value-high c h = rw (is_space-high c h, is_quote-high c h, is_single-high c h, ne_eqb c 47 (λ e. omega arith)) refl

-- Words
value_len-past : (xs ys : List ℕ) → AllHigh xs → value_len false (xs ++ ys) ≡ length xs + value_len false ys
value_len-past [] ys h = sym (zero-add (value_len false ys))
value_len-past (x ∷ xs) ys h = rw (ends_value-high x h.0, ne_eqb x 92 (λ e. omega arith), value_len-past xs ys h.1) (omega arith)

value_step : (c : ℕ) (cs : List ℕ) (b : Bool) (n : ℕ) → value_len b (encodes cs) ≡ weigh cs n → (c < 128) × (encode c ≡ c ∷ []) → suc (value_len b (encodes cs)) ≡ weigh (c ∷ cs) (suc n)
value_step c cs b n e l = rw (e, l.1) refl

value_step_high : (c : ℕ) (cs : List ℕ) (n : ℕ) (h : High c) → value_len false (encodes cs) ≡ weigh cs n → suc (value_len false (h.tail ++ encodes cs)) ≡ weigh (c ∷ cs) (suc n)
value_step_high c cs n h e = rw (value_len-past h.tail (encodes cs) h.tail_high, e, weigh-suc c cs n, h.is) (omega arith)

value_len-bytes_low : (c : ℕ) (cs : List ℕ) → (c < 128) × (encode c ≡ c ∷ []) → value_len (eqb c 92) (encodes cs) ≡ weigh cs (value_len (eqb c 92) cs) → (b : Bool) → ends_value c ≡ b
    → value_len false (c ∷ encodes cs) ≡ weigh (c ∷ cs) (value_len false (c ∷ cs))
value_len-bytes_low c cs l ih true e = rw e refl
value_len-bytes_low c cs l ih false e = rw e (value_step c cs (eqb c 92) _ ih l)

high_value : (c : ℕ) (cs : List ℕ) → 128 ≤ c → value_len false (c ∷ cs) ≡ suc (value_len false cs)
high_value c cs a = rw (ends_value-high c a, ne_eqb c 92 (λ e. omega arith)) refl

value_len-bytes : (b : Bool) (cs : List ℕ) → value_len b (encodes cs) ≡ weigh cs (value_len b cs)
value_len-bytes b [] = refl
value_len-bytes true (c ∷ cs) = elim (low_or_high c) [
  | inl l ↦ ap (value_len true) (front_low c cs l) ∙ value_step c cs false _ (value_len-bytes false cs) l
  | inr h ↦ ap (value_len true) (front_high c cs h) ∙ value_step_high c cs _ h (value_len-bytes false cs)
]
value_len-bytes false (c ∷ cs) = elim (low_or_high c) [
  | inl l ↦ ap (value_len false) (front_low c cs l) ∙ value_len-bytes_low c cs l (value_len-bytes (eqb c 92) cs) (ends_value c) refl
  | inr h ↦ let a = h.past in let b = h.head_high in
      ap (value_len false) (front_high c cs h) ∙ rw (ends_value-high h.head b, ne_eqb h.head 92 (λ e. omega arith)) (value_step_high c cs _ h (value_len-bytes false cs))
      ∙ ap (weigh (c ∷ cs)) (sym (high_value c cs a))
]

-- a text that begins with ASCII characters begins with as many bytes
lower_test-high : (c p : ℕ) → 128 ≤ c → p < 128 → eqb (to_ascii_lowercase c) p ≡ false
lower_test-high c p h l = rw (le-ltb c 65 (omega arith), le-ltb c 91 (omega arith)) (ne_eqb c p (λ e. omega arith))

low_from_begins : (p c : ℕ) → p < 128 → eqb (to_ascii_lowercase c) p ≡ true → c < 128
low_from_begins p c l e = elim (cases_lt c 128) [ inl k ↦ k | inr h ↦ absurd (false≢true (sym (lower_test-high c p h l) ∙ e)) ]

weigh-begins : (ps cs : List ℕ) (n : ℕ) → AllLow ps → begins_with ps cs ≡ true → weigh cs (length ps + n) ≡ length ps + weigh (drop (length ps) cs) n
weigh-begins [] cs n l e = rw (zero-add n, zero-add (weigh cs n)) refl
weigh-begins (p ∷ ps) [] n l e = absurd (false≢true e)
weigh-begins (p ∷ ps) (c ∷ cs) n l e =
    let parts = and_parts (eqb (to_ascii_lowercase c) p) (begins_with ps cs) e in
    let low = low_from_begins p c l.0 parts.0 in
    ap (weigh (c ∷ cs)) (suc-add (length ps) n) ∙ weigh-suc c cs (length ps + n) ∙ rw (encode_ascii c low, weigh-begins ps cs n l.1 parts.1) (omega arith)

drop-begins : (ps cs : List ℕ) → AllLow ps → begins_with ps cs ≡ true → drop (length ps) (encodes cs) ≡ encodes (drop (length ps) cs)
drop-begins ps cs l e = ap (λ k. drop k (encodes cs)) (sym (weigh-begins ps cs 0 l e ∙ add-zero (length ps)) ∙ ap (weigh cs) (add-zero (length ps))) ∙ drop_weigh cs (length ps)

-- the bytes of an answer about characters
abbrev weighed : List ℕ → PieceKind × ℕ → PieceKind × ℕ
weighed cs p = (p.0, weigh cs p.1)

weighed-cond : (cs : List ℕ) (b : Bool) (x y : PieceKind × ℕ) → weighed cs (cond b x y) ≡ cond b (weighed cs x) (weighed cs y)
weighed-cond cs true x y = refl
weighed-cond cs false x y = refl

choose : (cs : List ℕ) (b b' : Bool) (x y z w : PieceKind × ℕ) → b ≡ b' → (b' ≡ true → x ≡ weighed cs z) → (b' ≡ false → y ≡ weighed cs w) → cond b x y ≡ weighed cs (cond b' z w)
choose cs b true x y z w s e f = rw s (e refl)
choose cs b false x y z w s e f = rw s (f refl)

all_bytes : (cs : List ℕ) → length (encodes cs) ≡ weigh cs (length cs)
all_bytes cs = ap (λ x. length (encodes x)) (sym (take_all (length cs) cs (omega arith)))

end_bytes : (cs ds : List ℕ) (kind : PieceKind) (k : ℕ) (o p : Option ℕ) → ((n : ℕ) → weigh cs (k + n) ≡ k + weigh ds n) → o ≡ option_map (weigh ds) p
    → part kind (end_or k o (length (encodes cs))) ≡ weighed cs (part kind (end_or k p (length cs)))
end_bytes cs ds kind k o None w e = rw e (ap (part kind) (all_bytes cs))
end_bytes cs ds kind k o (Some n) w e = rw e (ap (part kind) (sym (w n)))

url_same : (c : ℕ) (cs : List ℕ) → c < 128 → begins_url (c ∷ encodes cs) ≡ begins_url (c ∷ cs)
url_same c cs l = sym (ap begins_url (front_low c cs (l, encode_ascii c l))) ∙ begins_url-bytes (c ∷ cs)

comment_bytes : (cs : List ℕ) → begins 42 cs ≡ true → part Comment (end_or 1 (through_comment (drop 1 (encodes cs))) (length (encodes cs))) ≡ weighed cs (part Comment (end_or 1 (through_comment (drop 1 cs)) (length cs)))
comment_bytes [] e = absurd (false≢true e)
comment_bytes (d ∷ ds) e =
    let f : d ≡ 42 = eqb-true d 42 e in
    let low : encode d ≡ d ∷ [] = encode_ascii d (omega arith) in
    let rest : drop 1 (encodes (d ∷ ds)) ≡ encodes ds = ap (λ x. drop 1 (x ++ encodes ds)) low in
    end_bytes (d ∷ ds) ds Comment 1 _ (through_comment ds) (λ n. ap (weigh (d ∷ ds)) (one-add n) ∙ weigh-suc d ds n ∙ ap (λ x. length x + weigh ds n) low) (ap through_comment rest ∙ comment-bytes ds)

url_bytes : (c : ℕ) (cs : List ℕ) → begins_url (c ∷ cs) ≡ true → part Url (end_or 3 (through 41 false (drop 3 (encodes cs))) (length (encodes cs))) ≡ weighed cs (part Url (end_or 3 (through 41 false (drop 3 cs)) (length cs)))
unfolding begins_url
url_bytes c cs e =
    let opens = and_parts (begins_with url_open (c ∷ cs)) (not (quote_first (drop (space_len (drop 3 cs)) (drop 3 cs)))) e in
    let rest = and_parts (eqb (to_ascii_lowercase c) 117) (begins_with (114 ∷ 108 ∷ 40 ∷ []) cs) opens.0 in
    let low : AllLow (114 ∷ 108 ∷ 40 ∷ []) = (lit< tt, (lit< tt, (lit< tt, tt))) in
    end_bytes cs (drop 3 cs) Url 3 _ (through 41 false (drop 3 cs)) (λ n. weigh-begins (114 ∷ 108 ∷ 40 ∷ []) cs n low rest.1)
    (ap (through 41 false) (drop-begins (114 ∷ 108 ∷ 40 ∷ []) cs low rest.1) ∙ through-bytes 41 false (drop 3 cs) (lit< tt))

-- the first part, where its first character is ASCII
part-low : (c : ℕ) (cs : List ℕ) → c < 128 → first_part c (encodes cs) ≡ weighed cs (first_part c cs)
unfolding first_part
part-low c cs l =
    choose cs (is_space c) (is_space c) _ _ _ _ refl (λ _. ap (part Space) (space_len-bytes cs)) (λ _.
    choose cs (eqb c 47 && begins 42 (encodes cs)) (eqb c 47 && begins 42 cs) _ _ _ _ (ap (λ x. eqb c 47 && x) (begins-bytes 42 cs (lit< tt))) (λ e. comment_bytes cs (and_parts _ _ e).1) (λ _.
    choose cs (is_quote c) (is_quote c) _ _ _ _ refl (λ _. end_bytes cs cs Quoted 0 _ (through c false cs) (λ n. ap (weigh cs) (zero-add n) ∙ sym (zero-add (weigh cs n))) (through-bytes c false cs l)) (λ _.
    choose cs (begins_url (c ∷ encodes cs)) (begins_url (c ∷ cs)) _ _ _ _ (url_same c cs l) (λ e. url_bytes c cs e) (λ _.
    choose cs (ends_value c) (ends_value c) _ _ _ _ refl (λ _. refl) (λ _. ap (part Word) (value_len-bytes (eqb c 92) cs))))))

begins_url-high : (c : ℕ) (cs : List ℕ) → 128 ≤ c → begins_url (c ∷ cs) ≡ false
unfolding begins_url
begins_url-high c cs h = rw (lower_test-high c 117 h (lit< tt)) refl

-- a part that begins with a character past ASCII is a Word
part-high : (c : ℕ) (cs : List ℕ) → 128 ≤ c → first_part c cs ≡ part Word (value_len false cs)
unfolding first_part
part-high c cs h = rw (is_space-high c h, ne_eqb c 47 (λ e. omega arith), is_quote-high c h, begins_url-high c cs h, ends_value-high c h, ne_eqb c 92 (λ e. omega arith)) refl

-- how many bytes the first part takes
part_size : (c : ℕ) (cs : List ℕ) (n : ℕ) → length (encode c) + weigh cs n ≡ byte_len (c ∷ take n cs)
part_size c cs n = rw (length-encode c, length-bytes (take n cs)) (sym (sum_by-cons len_utf8 c (take n cs)))

low_go : (at c : ℕ) (cs : List ℕ) (p : PieceKind × ℕ) → encode c ≡ c ∷ [] → found at (weighed cs p) ≡ (plain p.0, at + byte_len (c ∷ take p.1 cs))
unfolding found
low_go at c cs p l = ap (λ n. (plain p.0, n)) (add_assoc at 1 (weigh cs p.1) ∙ ap (λ x. at + (length x + weigh cs p.1)) (sym l) ∙ ap (λ n. at + n) (part_size c cs p.1))

high_go : (at c : ℕ) (cs : List ℕ) (h : High c) (n : ℕ) → found at (part Word (length h.tail + weigh cs n)) ≡ (plain Word, at + byte_len (c ∷ take n cs))
unfolding found
high_go at c cs h n = ap (λ m. (plain Word, m)) (sum at (length h.tail) (weigh cs n) ∙ ap (λ x. at + (length x + weigh cs n)) (sym h.is) ∙ ap (λ m. at + m) (part_size c cs n))
  where
    sum : (a t w : ℕ) → a + 1 + (t + w) ≡ a + (suc t + w)
    sum a t w = omega arith

-- the first part at a place of the bytes, by the characters from there on
pub part_bytes : (at c : ℕ) (cs : List ℕ) → first_at at (encodes (c ∷ cs)) ≡ (plain (first_part c cs).0, at + byte_len (c ∷ take (first_part c cs).1 cs))
part_bytes at c cs = elim (low_or_high c) [
  | inl l ↦ ap (first_at at) (front_low c cs l) ∙ ap (found at) (part-low c cs l.0) ∙ low_go at c cs (first_part c cs) l.1
  | inr h ↦ ap (first_at at) (front_high c cs h)
      ∙ ap (found at) (part-high h.head (h.tail ++ encodes cs) h.head_high ∙ ap (part Word) (value_len-past h.tail (encodes cs) h.tail_high ∙ ap (λ m. length h.tail + m) (value_len-bytes false cs)))
      ∙ high_go at c cs h (value_len false cs)
      ∙ ap (λ p. (plain p.0, at + byte_len (c ∷ take p.1 cs))) (sym (part-high c cs h.past))
]
