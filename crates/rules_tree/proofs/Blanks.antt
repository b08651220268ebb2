-- The white space and comments that a text begins with, by its pieces.
use Rattle.std.proofs.Common.{◌≡◌, ℕ, zero, suc, ◌+◌, List, [], ◌∷◌, ◌++◌, Bool, true, false, length, Some, None, Ok, Err, refl, sym, ap, subst, ◌∙◌, append_assoc, arith, cond, take, drop}
use Rattle.std.specs.Prelude.{Option, Result, encode_utf8_all, if◌then◌else◌}
use Rattle.std.specs.List.{prefix_len, flat_map}
use Rattle.std.specs.Str.{IsUtf8, chars}
use Rattle.std.proofs.lemmas.Str.{encodes-chars}
use Rattle.std.proofs.lemmas.List.{take-append-drop}
use Rattle.std.proofs.lemmas.List.Concat.{flat_map-append}
use Rattle.css_text.specs.Ahead.{Ahead, ahead, placed, byte_len, next_of, rest_of}
use Rattle.css_text.specs.Pieces.{Token, Unclosed, cut, joined}
use Rattle.css_text.specs.declared.lexer.Piece.{Piece}
use Rattle.css_text.specs.declared.lexer.LexFault.{LexFault}
use Rattle.css_text.proofs.Join.{cut_front}
use Rattle.css_text.proofs.Slices.{byte_len-append}
use Rattle.css_text.proofs.Transport.{ahead-bytes}
use Rattle.rules_tree.specs.Important.{is_blank, blanks_of}

-- where the blank pieces at the start end
abbrev pub blank_end : ℕ → List Piece → ℕ
blank_end at [] = at
blank_end at (p ∷ ps) = if is_blank p.kind then blank_end p.span.end ps else at

-- the next piece is the first one
pub first_piece : (ps : List Piece) (fault : Option LexFault) (p : Piece) → next_of ps fault ≡ Ok (Some p) → ps ≡ p ∷ rest_of ps
first_piece [] None p e = cc
first_piece [] (Some x) p e = cc
first_piece (q ∷ ps) fault p e = ap (λ z. z ∷ ps) (let h : q ≡ p = cc in h)

pub no_piece : (ps : List Piece) (fault : Option LexFault) (at : ℕ) → next_of ps fault ≡ Ok None → blank_end at ps ≡ at
no_piece [] fault at e = refl
no_piece (q ∷ ps) fault at e = cc

pub no_answer : (ps : List Piece) (fault : Option LexFault) (at : ℕ) (x : LexFault) → next_of ps fault ≡ Err x → blank_end at ps ≡ at
no_answer [] fault at x e = refl
no_answer (q ∷ ps) fault at x e = cc

abbrev blank_tokens : List Token → List Token
blank_tokens ts = take (prefix_len (λ t. is_blank t.kind) ts) ts

took : (ts : List Token) (t : Token) → is_blank t.kind ≡ true → blank_tokens (t ∷ ts) ≡ t ∷ blank_tokens ts
took ts t e =
    let n : ℕ = prefix_len (λ (u : Token). is_blank u.kind) ts in
    let h : prefix_len (λ (u : Token). is_blank u.kind) (t ∷ ts) ≡ suc n = ap (λ b. cond b (1 + n) 0) e ∙ omega arith in
    ap (λ k. take k (t ∷ ts)) h

left : (ts : List Token) (t : Token) → is_blank t.kind ≡ false → blank_tokens (t ∷ ts) ≡ []
left ts t e = ap (λ k. take k (t ∷ ts)) (ap (λ b. cond b (1 + prefix_len (λ (u : Token). is_blank u.kind) ts) 0) e)

step : (b : Bool) (at : ℕ) (t : Token) (ts : List Token) (fault : Option Unclosed) → is_blank t.kind ≡ b → ((k : ℕ) → blank_end k (placed byte_len k ts fault).pieces ≡ k + byte_len (joined (blank_tokens ts))) → blank_end at (placed byte_len at (t ∷ ts) fault).pieces ≡ at + byte_len (joined (blank_tokens (t ∷ ts)))
step true at t ts fault e h =
    let more : blank_end at (placed byte_len at (t ∷ ts) fault).pieces ≡ blank_end (at + byte_len t.text) (placed byte_len (at + byte_len t.text) ts fault).pieces = rw e refl in
    let tokens : joined (blank_tokens (t ∷ ts)) ≡ t.text ++ joined (blank_tokens ts) = ap joined (took ts t e) in
    omega (arith, more, h (at + byte_len t.text), ap byte_len tokens, byte_len-append t.text (joined (blank_tokens ts)))
step false at t ts fault e h =
    let stop : blank_end at (placed byte_len at (t ∷ ts) fault).pieces ≡ at = rw e refl in
    let tokens : joined (blank_tokens (t ∷ ts)) ≡ [] = ap joined (left ts t e) in
    omega (arith, stop, ap byte_len tokens)

by_tokens : (at : ℕ) (ts : List Token) (fault : Option Unclosed) → blank_end at (placed byte_len at ts fault).pieces ≡ at + byte_len (joined (blank_tokens ts))
by_tokens at [] fault = omega arith
by_tokens at (t ∷ ts) fault = step (is_blank t.kind) at t ts fault refl (λ k. by_tokens k ts fault)

-- by the characters of the bytes
pub blank_end-is : (bytes cs : List ℕ) → bytes ≡ encode_utf8_all cs → blank_end 0 (ahead 0 bytes).pieces ≡ byte_len (blanks_of cs)
blank_end-is bytes cs e =
    let h : blank_end 0 (ahead 0 bytes).pieces ≡ blank_end 0 (placed byte_len 0 (cut cs).tokens (cut cs).fault).pieces = ap (λ a. blank_end 0 a.pieces) (ap (ahead 0) e ∙ ahead-bytes 0 cs) in
    omega (arith, h, by_tokens 0 (cut cs).tokens (cut cs).fault)

joined-cut : (n : ℕ) (ts : List Token) → joined ts ≡ joined (take n ts) ++ joined (drop n ts)
joined-cut n ts = ap joined (sym (take-append-drop n ts)) ∙ flat_map-append (λ (t : Token). t.text) (take n ts) (drop n ts)

-- where the first piece is no blank
pub stop_here : (at : ℕ) (ps : List Piece) (p : Piece) (qs : List Piece) → ps ≡ p ∷ qs → is_blank p.kind ≡ false → blank_end at ps ≡ at
stop_here at ps p qs e h = ap (blank_end at) e ∙ ap (λ b. if b then blank_end p.span.end qs else at) h

pub go_on : (at : ℕ) (ps : List Piece) (p : Piece) (qs : List Piece) → ps ≡ p ∷ qs → is_blank p.kind ≡ true → blank_end at ps ≡ blank_end p.span.end qs
go_on at ps p qs e h = ap (blank_end at) e ∙ ap (λ b. if b then blank_end p.span.end qs else at) h

-- the blanks are the front of the text
pub blanks_front : (s : List ℕ) → (rest : List ℕ) × (s ≡ blanks_of s ++ rest)
blanks_front s =
    let ts : List Token = (cut s).tokens in
    let n : ℕ = prefix_len (λ t. is_blank t.kind) ts in
    let w = cut_front s in
    (joined (drop n ts) ++ w.0, w.1 ∙ (ap (λ z. z ++ w.0) (joined-cut n ts) ∙ append_assoc (joined (take n ts)) (joined (drop n ts)) w.0))
