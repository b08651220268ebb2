-- Texts that are put one behind another.
use Rattle.std.proofs.Common.{◌≡◌, ℕ, List, [], ◌∷◌, ◌++◌, length, ap, sym, ◌∙◌, append_assoc, append-nil}
use Rattle.std.specs.Str.{chars, IsUtf8}
use Rattle.std.specs.Char.{IsScalar}
use Rattle.std.proofs.lemmas.Str.{chars_from_encodes, IsUtf8-encode, encodes-chars}
use Rattle.css_text.specs.Ahead.{byte_len}
use Rattle.css_text.proofs.Transport.{length-bytes}
use lib.Utf8.{encode}
use Rattle.stringify.specs.declared.printed.Start.{Start}
use Rattle.stringify.specs.Sheet.{Sheet, put}

abbrev pub sheet : List ℕ → List Start → Sheet
sheet text starts = record { text = text; starts = starts }

pub put-none : (x : Sheet) → x ≡ put [] x
put-none x = ap (λ t. sheet t x.starts) (sym (append-nil x.text))

pub put-put : (a b : List ℕ) (x : Sheet) → put b (put a x) ≡ put (a ++ b) x
put-put a b x = ap (λ t. sheet t x.starts) (append_assoc x.text a b)

pub put3 : (a b c : List ℕ) (x : Sheet) → put c (put b (put a x)) ≡ put (a ++ (b ++ c)) x
put3 a b c x = put-put b c (put a x) ∙ put-put a (b ++ c) x

pub put4 : (a b c d : List ℕ) (x : Sheet) → put d (put c (put b (put a x))) ≡ put (a ++ (b ++ (c ++ d))) x
put4 a b c d x = put3 b c d (put a x) ∙ put-put a (b ++ (c ++ d)) x

pub put5 : (a b c d e : List ℕ) (x : Sheet) → put e (put d (put c (put b (put a x)))) ≡ put (a ++ (b ++ (c ++ (d ++ e)))) x
put5 a b c d e x = put4 b c d e (put a x) ∙ put-put a (b ++ (c ++ (d ++ e))) x

pub put6 : (a b c d e f : List ℕ) (x : Sheet) → put f (put e (put d (put c (put b (put a x))))) ≡ put (a ++ (b ++ (c ++ (d ++ (e ++ f))))) x
put6 a b c d e f x = put5 b c d e f (put a x) ∙ put-put a (b ++ (c ++ (d ++ (e ++ f)))) x

pub put7 : (a b c d e f g : List ℕ) (x : Sheet) → put g (put f (put e (put d (put c (put b (put a x)))))) ≡ put (a ++ (b ++ (c ++ (d ++ (e ++ (f ++ g)))))) x
put7 a b c d e f g x = put6 b c d e f g (put a x) ∙ put-put a (b ++ (c ++ (d ++ (e ++ (f ++ g))))) x

-- a character's bytes spell it
pub char-spelled : (c : ℕ) → IsScalar c → chars (encode c) ≡ c ∷ []
char-spelled c s = sym (chars_from_encodes (c ∷ []) (encode c) (IsUtf8-encode c s) (append-nil (encode c)))

-- how many bytes a text has
pub bytes-counted : (bs : List ℕ) → IsUtf8 bs → length bs ≡ byte_len (chars bs)
bytes-counted bs u = ap length (sym (encodes-chars bs u)) ∙ length-bytes (chars bs)
