-- A number that may be absent, kept as a number, and a span that may be absent, kept as two.
use Rattle.std.specs.Prelude.{◌≡◌, ℕ, Bool, true, false, ◌&&◌, Option, Some, None, if◌then◌else◌, nat_eq, nat_lt, refl}
use Rattle.std.proofs.Common.{sym}
use Rattle.std.proofs.lemmas.Bool.{eqb-true}
use Rattle.css_text.specs.declared.lexer.Span.{Span}

-- what the number stands for; the highest one of 32 bits stands for none
abbrev pub unpacked : ℕ → Option ℕ
unpacked n = if nat_eq n 4294967295 then None else Some n

-- the number that stands for it
abbrev pub packed : Option ℕ → ℕ
packed None = 4294967295
packed (Some n) = n

packed_if : (b : Bool) (n : ℕ) → (b ≡ true → n ≡ 4294967295) → packed (if b then None else Some n) ≡ n
packed_if true n e = sym (e refl)
packed_if false n e = refl

-- packing gives the number back
pub packed-unpacked : (n : ℕ) → packed (unpacked n) ≡ n
packed-unpacked n = packed_if (nat_eq n 4294967295) n (eqb-true n 4294967295)

-- the span that two numbers stand for; the highest one of 32 bits as the start stands for none
abbrev pub unpacked_span : ℕ → ℕ → Option Span
unpacked_span start end = if nat_eq start 4294967295 then None else Some (record { start = start; end = end })

-- both ends of the span, where there is one, are below the highest number of 32 bits
abbrev pub is_narrow : Option Span → Bool
is_narrow None = true
is_narrow (Some s) = nat_lt s.start 4294967295 && nat_lt s.end 4294967295
