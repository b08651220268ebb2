-- The pieces of a text's bytes are the bytes of its pieces.
use Rattle.std.proofs.Common.{◌≡◌, ℕ, zero, suc, ◌+◌, ◌<◌, ◌≤◌, Bool, true, false, cond, eqb, List, [], ◌∷◌, ◌++◌, length, take, drop, map, Option, Some, None, Result, Ok, Err, refl, ap, sym, ◌∙◌, inl, inr, add-zero, suc-add, one-add, zero-add, arith, lit<, length-append}
use Rattle.std.specs.Prelude.{◌&&◌, not}
use Rattle.std.specs.Option.{option_map}
use Rattle.std.specs.Char.{to_ascii_lowercase}
use lib.Utf8.{encode, encodes}
use Rattle.std.proofs.lemmas.Bool.{le-ltb, eqb-true, ne_eqb, cases_lt, and_parts, false≢true}
use Rattle.std.proofs.lemmas.Str.{encode_ascii, length-encode}
use Rattle.std.proofs.lemmas.List.Sums.{sum_by-cons}
use Rattle.std.specs.Char.{len_utf8}
use Rattle.css_text.specs.Ahead.{ahead, more, piece, placed, byte_len, begins_bom, bom_len, pieces}
use Rattle.css_text.specs.declared.lexer.PieceKind.{PieceKind}
use Rattle.css_text.specs.declared.lexer.PieceKind.TheVariants.{Space, Comment, Quoted, Url, AtWord, Word}
use Rattle.css_text.specs.Characters.{is_space, is_quote, is_single}
use Rattle.css_text.specs.Forms.{begins, begins_with, begins_url, url_open, quote_first, space_len, unit_len, through, through_comment}
use Rattle.css_text.specs.Pieces.{Unclosed, string, comment, url, closed, first, Token, Cut, put, cut_first, cut_after, cut, encoded, encoded_token}
use Rattle.css_text.proofs.Bytes.{High, low_or_high, weigh, weigh-suc, take_weigh, drop_weigh, front_low, front_high, space_len-bytes, begins-bytes, unit_len-bytes, unit_len-past, through-bytes, comment-bytes, is_space-high, is_quote-high, is_single-high}

-- ASCII characters
abbrev pub AllLow : List ℕ → Type 0
AllLow [] = Unit {0}
AllLow (p ∷ ps) = (p < 128) × AllLow ps

lower-high : (c : ℕ) → 128 ≤ c → to_ascii_lowercase c ≡ c
lower-high c h = rw (le-ltb c 65 (omega arith), le-ltb c 91 (omega arith)) refl

lower_test-high : (c p : ℕ) → 128 ≤ c → p < 128 → eqb (to_ascii_lowercase c) p ≡ false
lower_test-high c p h l = ap (λ x. eqb x p) (lower-high c h) ∙ ne_eqb c p (λ e. omega arith)

pub begins_with-bytes : (ps cs : List ℕ) → AllLow ps → begins_with ps (encodes cs) ≡ begins_with ps cs
begins_with-bytes [] cs l = refl
begins_with-bytes (p ∷ ps) [] l = refl
begins_with-bytes (p ∷ ps) (c ∷ cs) l = elim (low_or_high c) [
  | inl k ↦ ap (begins_with (p ∷ ps)) (front_low c cs k) ∙ ap (λ x. eqb (to_ascii_lowercase c) p && x) (begins_with-bytes ps cs l.1)
  | inr h ↦ ap (begins_with (p ∷ ps)) (front_high c cs h) ∙ ap (λ x. x && begins_with ps (h.tail ++ encodes cs)) (lower_test-high h.head p h.head_high l.0)
      ∙ sym (ap (λ x. x && begins_with ps cs) (lower_test-high c p h.past l.0))
]

-- a text that begins with ASCII characters begins with as many bytes
low_from_begins : (p c : ℕ) → p < 128 → eqb (to_ascii_lowercase c) p ≡ true → c < 128
low_from_begins p c l e = elim (cases_lt c 128) [ inl k ↦ k | inr h ↦ absurd (false≢true (sym (lower_test-high c p h l) ∙ e)) ]

weigh-begins : (ps cs : List ℕ) (n : ℕ) → AllLow ps → begins_with ps cs ≡ true → weigh cs (length ps + n) ≡ length ps + weigh (drop (length ps) cs) n
weigh-begins [] cs n l e = rw (zero-add n, zero-add (weigh cs n)) refl
weigh-begins (p ∷ ps) [] n l e = absurd (false≢true e)
weigh-begins (p ∷ ps) (c ∷ cs) n l e =
    let parts = and_parts (eqb (to_ascii_lowercase c) p) (begins_with ps cs) e in
    let low = low_from_begins p c l.0 parts.0 in
    ap (weigh (c ∷ cs)) (suc-add (length ps) n) ∙ weigh-suc c cs (length ps + n) ∙ rw (encode_ascii c low, weigh-begins ps cs n l.1 parts.1) (omega arith)

drop-begins : (ps cs : List ℕ) → AllLow ps → begins_with ps cs ≡ true → drop (length ps) (encodes cs) ≡ encodes (drop (length ps) cs)
drop-begins ps cs l e = ap (λ k. drop k (encodes cs)) (sym (weigh-begins ps cs 0 l e ∙ add-zero (length ps)) ∙ ap (weigh cs) (add-zero (length ps))) ∙ drop_weigh cs (length ps)

quote_first-bytes : (cs : List ℕ) → quote_first (encodes cs) ≡ quote_first cs
quote_first-bytes [] = refl
quote_first-bytes (c ∷ cs) = elim (low_or_high c) [
  | inl k ↦ ap quote_first (front_low c cs k)
  | inr h ↦ ap quote_first (front_high c cs h) ∙ is_quote-high h.head h.head_high ∙ sym (is_quote-high c h.past)
]

abbrev after_spaces : List ℕ → List ℕ
after_spaces s = drop (space_len s) s

after_spaces-bytes : (cs : List ℕ) → after_spaces (encodes cs) ≡ encodes (after_spaces cs)
after_spaces-bytes cs = ap (λ k. drop k (encodes cs)) (space_len-bytes cs) ∙ drop_weigh cs (space_len cs)

url_low : AllLow url_open
url_low = (lit< tt, (lit< tt, (lit< tt, (lit< tt, tt))))

begins_url_go : (cs : List ℕ) (b : Bool) → begins_with url_open cs ≡ b → begins_url (encodes cs) ≡ begins_url cs
unfolding begins_url
begins_url_go cs true e = ap (λ x. x && not (quote_first (after_spaces (drop 4 (encodes cs))))) (begins_with-bytes url_open cs url_low)
    ∙ ap (λ x. begins_with url_open cs && not x) (ap (λ x. quote_first (after_spaces x)) (drop-begins url_open cs url_low e) ∙ ap quote_first (after_spaces-bytes (drop 4 cs)) ∙ quote_first-bytes (after_spaces (drop 4 cs)))
begins_url_go cs false e = ap (λ x. x && not (quote_first (after_spaces (drop 4 (encodes cs))))) (begins_with-bytes url_open cs url_low ∙ e) ∙ sym (ap (λ x. x && not (quote_first (after_spaces (drop 4 cs)))) e)

pub begins_url-bytes : (cs : List ℕ) → begins_url (encodes cs) ≡ begins_url cs
begins_url-bytes cs = begins_url_go cs (begins_with url_open cs) refl

-- the bytes of an answer about characters
abbrev weighed : List ℕ → Result (PieceKind × ℕ) Unclosed → Result (PieceKind × ℕ) Unclosed
weighed cs (Ok p) = Ok (p.0, weigh cs p.1)
weighed cs (Err u) = Err u

weighed-cond : (cs : List ℕ) (b : Bool) (x y : Result (PieceKind × ℕ) Unclosed) → weighed cs (cond b x y) ≡ cond b (weighed cs x) (weighed cs y)
weighed-cond cs true x y = refl
weighed-cond cs false x y = refl

choose : {A : Type 0} (b : Bool) (x y z w : A) → (b ≡ true → x ≡ z) → (b ≡ false → y ≡ w) → cond b x y ≡ cond b z w
choose true x y z w e f = e refl
choose false x y z w e f = f refl

closed_bytes : (cs ds : List ℕ) (kind : PieceKind) (k : ℕ) (u : Unclosed) (o p : Option ℕ) → ((n : ℕ) → weigh cs (k + n) ≡ k + weigh ds n) → o ≡ option_map (weigh ds) p → closed kind k o u ≡ weighed cs (closed kind k p u)
closed_bytes cs ds kind k u o None w e = rw e refl
closed_bytes cs ds kind k u o (Some n) w e = rw e (ap (λ m. Ok (kind, m)) (sym (w n)))

-- the same, where the tests are equal
choose_by : {A : Type 0} (b' b : Bool) (x y z w : A) → b' ≡ b → (b ≡ true → x ≡ z) → (b ≡ false → y ≡ w) → cond b x y ≡ cond b' z w
choose_by b' true x y z w s e f = rw s (e refl)
choose_by b' false x y z w s e f = rw s (f refl)

url_same : (c : ℕ) (cs : List ℕ) → c < 128 → begins_url (c ∷ encodes cs) ≡ begins_url (c ∷ cs)
url_same c cs l = sym (ap begins_url (front_low c cs (l, encode_ascii c l))) ∙ begins_url-bytes (c ∷ cs)

comment_bytes : (cs : List ℕ) → begins 42 cs ≡ true → closed Comment 1 (through_comment (drop 1 (encodes cs))) comment ≡ weighed cs (closed Comment 1 (through_comment (drop 1 cs)) comment)
comment_bytes [] e = absurd (false≢true e)
comment_bytes (d ∷ ds) e =
    let f : d ≡ 42 = eqb-true d 42 e in
    let low : encode d ≡ d ∷ [] = encode_ascii d (omega arith) in
    let rest : drop 1 (encodes (d ∷ ds)) ≡ encodes ds = ap (λ x. drop 1 (x ++ encodes ds)) low in
    closed_bytes (d ∷ ds) ds Comment 1 comment _ (through_comment ds) (λ n. ap (weigh (d ∷ ds)) (one-add n) ∙ weigh-suc d ds n ∙ ap (λ x. length x + weigh ds n) low) (ap through_comment rest ∙ comment-bytes ds)

url_bytes : (c : ℕ) (cs : List ℕ) → begins_url (c ∷ cs) ≡ true → closed Url 3 (through 41 false (drop 3 (encodes cs))) url ≡ weighed cs (closed Url 3 (through 41 false (drop 3 cs)) url)
unfolding begins_url
url_bytes c cs e =
    let opens = and_parts (begins_with url_open (c ∷ cs)) (not (quote_first (after_spaces (drop 3 cs)))) e in
    let rest = and_parts (eqb (to_ascii_lowercase c) 117) (begins_with (114 ∷ 108 ∷ 40 ∷ []) cs) opens.0 in
    let low : AllLow (114 ∷ 108 ∷ 40 ∷ []) = (lit< tt, (lit< tt, (lit< tt, tt))) in
    closed_bytes cs (drop 3 cs) Url 3 url _ (through 41 false (drop 3 cs)) (λ n. weigh-begins (114 ∷ 108 ∷ 40 ∷ []) cs n low rest.1)
    (ap (through 41 false) (drop-begins (114 ∷ 108 ∷ 40 ∷ []) cs low rest.1) ∙ through-bytes 41 false (drop 3 cs) (lit< tt))

-- the first piece, where its first character is ASCII
first-low : (c : ℕ) (cs : List ℕ) → c < 128 → first c (encodes cs) ≡ weighed cs (first c cs)
unfolding first
first-low c cs l = sym (simp weighed-cond (
    choose (is_space c) _ _ _ _ (λ _. ap (λ n. Ok (Space, n)) (sym (space_len-bytes cs))) (λ _.
    choose_by (eqb c 47 && begins 42 (encodes cs)) (eqb c 47 && begins 42 cs) _ _ _ _ (ap (λ x. eqb c 47 && x) (begins-bytes 42 cs (lit< tt))) (λ e. sym (comment_bytes cs (and_parts _ _ e).1)) (λ _.
    choose (is_quote c) _ _ _ _ (λ _. sym (closed_bytes cs cs Quoted 0 string _ (through c false cs) (λ n. ap (weigh cs) (zero-add n) ∙ sym (zero-add (weigh cs n))) (through-bytes c false cs l))) (λ _.
    choose_by (begins_url (c ∷ encodes cs)) (begins_url (c ∷ cs)) _ _ _ _ (url_same c cs l) (λ e. sym (url_bytes c cs e)) (λ _.
    choose (eqb c 64) _ _ _ _ (λ _. ap (λ n. Ok (AtWord, n)) (sym (unit_len-bytes false cs))) (λ _.
    choose (is_single c) _ _ _ _ (λ _. refl) (λ _. ap (λ n. Ok (Word, n)) (sym (unit_len-bytes (eqb c 92) cs))))))))))

begins_url-high : (c : ℕ) (cs : List ℕ) → 128 ≤ c → begins_url (c ∷ cs) ≡ false
unfolding begins_url
begins_url-high c cs h = rw (lower_test-high c 117 h (lit< tt)) refl

-- a piece that begins with a character past ASCII is a Word
first-high : (c : ℕ) (cs : List ℕ) → 128 ≤ c → first c cs ≡ Ok (Word, unit_len false cs)
unfolding first
first-high c cs h = rw (is_space-high c h, ne_eqb c 47 (λ e. omega arith), is_quote-high c h, begins_url-high c cs h, ne_eqb c 64 (λ e. omega arith), is_single-high c h, ne_eqb c 92 (λ e. omega arith)) refl

cut_after-past : (xs ys : List ℕ) (k : ℕ) → cut_after (length xs + k) (xs ++ ys) ≡ cut_after k ys
cut_after-past [] ys k = ap (λ m. cut_after m ys) (zero-add k)
cut_after-past (x ∷ xs) ys k = ap (λ m. cut_after m (x ∷ (xs ++ ys))) (suc-add (length xs) k) ∙ cut_after-past xs ys k

take-past : (xs ys : List ℕ) (k : ℕ) → take (length xs + k) (xs ++ ys) ≡ xs ++ take k ys
take-past [] ys k = ap (λ m. take m ys) (zero-add k)
take-past (x ∷ xs) ys k = ap (λ m. take m (x ∷ (xs ++ ys))) (suc-add (length xs) k) ∙ ap (λ l. x ∷ l) (take-past xs ys k)

token : PieceKind → List ℕ → Token
token k t = record { kind = k; text = t }

put_same : (k : PieceKind) (t u : List ℕ) (c d : Cut) → t ≡ u → c ≡ d → put (record { kind = k; text = t }) c ≡ put (record { kind = k; text = u }) d
put_same k t u c d e f = rw (e, f) refl

cut_low : (r : Result (PieceKind × ℕ) Unclosed) (c : ℕ) (cs : List ℕ) → encode c ≡ c ∷ [] → ((n : ℕ) → cut_after (weigh cs n) (encodes cs) ≡ encoded (cut_after n cs))
    → cut_first (weighed cs r) c (encodes cs) (λ n. cut_after n (encodes cs)) ≡ encoded (cut_first r c cs (λ n. cut_after n cs))
cut_low (Ok p) c cs l ih = put_same p.0 _ _ _ _ (ap (λ t. c ∷ t) (take_weigh cs p.1) ∙ ap (λ x. x ++ encodes (take p.1 cs)) (sym l)) (ih p.1)
cut_low (Err u) c cs l ih = refl

cut_high : (r : Result (PieceKind × ℕ) Unclosed) (c : ℕ) (cs : List ℕ) (h : High c) → r ≡ Ok (Word, length h.tail + weigh cs (unit_len false cs)) → ((n : ℕ) → cut_after (weigh cs n) (encodes cs) ≡ encoded (cut_after n cs))
    → cut_first r h.head (h.tail ++ encodes cs) (λ n. cut_after n (h.tail ++ encodes cs)) ≡ encoded (cut_first (Ok (Word, unit_len false cs)) c cs (λ n. cut_after n cs))
cut_high r c cs h e ih = let n = unit_len false cs in ap (λ x. cut_first x h.head (h.tail ++ encodes cs) (λ n. cut_after n (h.tail ++ encodes cs))) e
    ∙ put_same Word _ _ _ _
    (ap (λ t. h.head ∷ t) (take-past h.tail (encodes cs) (weigh cs n)) ∙ ap (λ t. h.head ∷ (h.tail ++ t)) (take_weigh cs n) ∙ ap (λ x. x ++ encodes (take n cs)) (sym h.is))
    (cut_after-past h.tail (encodes cs) (weigh cs n) ∙ ih n)

cut_after-bytes : (cs : List ℕ) (k : ℕ) → cut_after (weigh cs k) (encodes cs) ≡ encoded (cut_after k cs)
cut_after-bytes [] zero = refl
cut_after-bytes [] (suc k) = refl
cut_after-bytes (c ∷ cs) (suc k) = ap (λ m. cut_after m (encodes (c ∷ cs))) (weigh-suc c cs k) ∙ cut_after-past (encode c) (encodes cs) (weigh cs k) ∙ cut_after-bytes cs k
cut_after-bytes (c ∷ cs) zero = elim (low_or_high c) [
  | inl l ↦ ap (cut_after 0) (front_low c cs l) ∙ ap (λ r. cut_first r c (encodes cs) (λ n. cut_after n (encodes cs))) (first-low c cs l.0) ∙ cut_low (first c cs) c cs l.1 (cut_after-bytes cs)
  | inr h ↦ ap (cut_after 0) (front_high c cs h)
      ∙ cut_high (first h.head (h.tail ++ encodes cs)) c cs h (first-high h.head (h.tail ++ encodes cs) h.head_high ∙ ap (λ m. Ok (Word, m)) (unit_len-past h.tail (encodes cs) h.tail_high ∙ ap (λ m. length h.tail + m) (unit_len-bytes false cs))) (cut_after-bytes cs)
      ∙ ap (λ r. encoded (cut_first r c cs (λ n. cut_after n cs))) (sym (first-high c cs h.past))
]

-- the pieces of the bytes are the bytes of the pieces
pub cut-bytes : (cs : List ℕ) → cut (encodes cs) ≡ encoded (cut cs)
unfolding cut
cut-bytes cs = cut_after-bytes cs 0

pub length-bytes : (cs : List ℕ) → length (encodes cs) ≡ byte_len cs
length-bytes [] = refl
length-bytes (c ∷ cs) = length-append (encode c) (encodes cs) ∙ rw (length-encode c, length-bytes cs) (sym (sum_by-cons len_utf8 c cs))

placed-bytes : (at : ℕ) (ts : List Token) (f : Option Unclosed) → placed length at (map encoded_token ts) f ≡ placed byte_len at ts f
placed-bytes at [] f = refl
placed-bytes at (t ∷ ts) f = ap (λ n. more (piece t.kind at (at + n)) (placed length (at + n) (map encoded_token ts) f)) (length-bytes t.text) ∙ ap (more (piece t.kind at (at + byte_len t.text))) (placed-bytes (at + byte_len t.text) ts f)

pub ahead-bytes : (at : ℕ) (cs : List ℕ) → ahead at (encodes cs) ≡ placed byte_len at (cut cs).tokens (cut cs).fault
unfolding ahead
ahead-bytes at cs = ap (λ c. placed length at c.tokens c.fault) (cut-bytes cs) ∙ placed-bytes at (cut cs).tokens (cut cs).fault

-- what a reader has ahead at the start of a text
start_go : (cs : List ℕ) (b : Bool) → begins_bom cs ≡ b → ahead (cond b 3 0) (drop (cond b 3 0) (encodes cs)) ≡ pieces cs
unfolding pieces encode
start_go cs false e = rw e (ahead-bytes 0 cs)
start_go [] true e = absurd (false≢true e)
start_go (c ∷ cs) true e = rw (eqb-true c 0xfeff e) (ahead-bytes 3 cs)

pub ahead_start : (cs : List ℕ) → ahead (bom_len cs) (drop (bom_len cs) (encodes cs)) ≡ pieces cs
ahead_start cs = start_go cs (begins_bom cs) refl
