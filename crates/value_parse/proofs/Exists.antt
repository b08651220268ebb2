-- Each text has a list of parts.
use Rattle.std.proofs.Common.{◌≡◌, ℕ, zero, suc, ◌+◌, ◌<◌, ◌≤◌, ◌⊎◌, true, false, eqb, List, [], ◌∷◌, ◌++◌, length, take, drop, refl, ap, sym, ◌∙◌, subst, inl, inr, arith, append-nil, length-append, length-drop}
use Rattle.std.proofs.lemmas.Bool.{eqb-true, cases_Bool, cases_lt, false≢true}
use Rattle.std.proofs.lemmas.List.{take-append-drop, length-take-le}
use Rattle.css_text.specs.declared.lexer.PieceKind.{PieceKind}
use Rattle.css_text.specs.declared.lexer.PieceKind.TheVariants.{Space, Comment, Quoted, Url, AtWord, Word, Single}
use Rattle.css_text.specs.Forms.{begins}
use Rattle.css_text.specs.Ahead.{byte_len}
use Rattle.css_text.specs.ValueParts.{first_part, part, plain, function, ValueParts, none, value, ending, written, StandsBefore, StaysPlain, most_depth, IsName, AreParts, Stops, StandAt, IsValue}
use Rattle.css_text.proofs.ValueParts.{plain_text, function_text}
use Rattle.value_parse.proofs.Bounds.{part_bound}

-- parts at the start of a text, inside so many Functions, and what follows where they stop
record Reads (depth at : ℕ) (s : List ℕ) : Type 0 where
  pub parts : ValueParts
  pub ahead : List ℕ
  pub text : s ≡ written parts ++ ahead
  pub are : AreParts depth parts ahead
  pub stops : Stops depth ahead
  pub places : StandAt at parts

-- the name of a Function stands at the start of a text
record Name (depth : ℕ) (s : List ℕ) : Type 0 where
  pub name : List ℕ
  pub rest : List ℕ
  pub is : s ≡ name ++ 40 ∷ rest
  pub named : IsName name (40 ∷ rest)
  pub below : depth < most_depth

head_of : (c d : ℕ) (s t : List ℕ) → c ∷ s ≡ d ∷ t → c ≡ d
head_of c d s t e = cc

paren_ahead : (s : List ℕ) → begins 40 s ≡ true → (r : List ℕ) × (s ≡ 40 ∷ r)
paren_ahead [] e = absurd (false≢true e)
paren_ahead (c ∷ s) e = (s, ap (λ x. x ∷ s) (eqb-true c 40 e))

stays : (depth : ℕ) (t r : List ℕ) → (begins 40 r ≡ true → depth ≡ most_depth) → (t ≡ 40 ∷ [] → depth ≡ most_depth) → (t ≡ 41 ∷ [] → depth ≡ 0) → (k : PieceKind) → StaysPlain depth k t r
stays depth t r w o c Word = w
stays depth t r w o c Space = (o, c)
stays depth t r w o c Comment = (o, c)
stays depth t r w o c Quoted = (o, c)
stays depth t r w o c Url = (o, c)
stays depth t r w o c AtWord = (o, c)
stays depth t r w o c Single = (o, c)

-- a part that isn't the name of a Function, and before which no Function begins
plain_stays : (depth c : ℕ) (cs r : List ℕ) → (begins 40 r ≡ true → ⊥) → (c ≡ 40 → ⊥) → (c ∷ cs ≡ 41 ∷ [] → depth ≡ 0) → (k : PieceKind) → StaysPlain depth k (c ∷ cs) r
plain_stays depth c cs r w o e k = stays depth (c ∷ cs) r (λ h. absurd (w h)) (λ h. absurd (o (head_of c 40 cs [] h))) e k

open_name : (depth c : ℕ) (cs : List ℕ) → depth < most_depth → c ≡ 40 → Name depth (c ∷ cs)
open_name depth c cs l e = record { name = []; rest = cs; is = ap (λ x. x ∷ cs) e; named = tt; below = l }

word_name : (depth c : ℕ) (cs r : List ℕ) → depth < most_depth → StandsBefore Word (c ∷ cs) r → begins 40 r ≡ true → Name depth ((c ∷ cs) ++ r)
word_name depth c cs r l s e = let p = paren_ahead r e in
    record { name = c ∷ cs; rest = p.0; is = ap (λ x. (c ∷ cs) ++ x) p.1; named = subst (StandsBefore Word (c ∷ cs)) p.1 s; below = l }

by_open : (depth c : ℕ) (cs r : List ℕ) → depth < most_depth → (c ∷ cs ≡ 41 ∷ [] → depth ≡ 0) → (k : PieceKind) → ((c ≡ 40 → ⊥) → StaysPlain depth k (c ∷ cs) r) → Name depth ((c ∷ cs) ++ r) ⊎ StaysPlain depth k (c ∷ cs) r
by_open depth c cs r l e k f = elim (cases_Bool (eqb c 40)) [
  | inl h ↦ inl (open_name depth c (cs ++ r) l (eqb-true c 40 h))
  | inr h ↦ inr (f (λ z. false≢true (sym h ∙ ap (λ x. eqb x 40) z)))
]

by_word : (depth c : ℕ) (cs r : List ℕ) → depth < most_depth → StandsBefore Word (c ∷ cs) r → Name depth ((c ∷ cs) ++ r) ⊎ StaysPlain depth Word (c ∷ cs) r
by_word depth c cs r l s = elim (cases_Bool (begins 40 r)) [
  | inl h ↦ inl (word_name depth c cs r l s h)
  | inr h ↦ inr (λ e. absurd (false≢true (sym h ∙ e)))
]

no_word : (depth c : ℕ) (cs : List ℕ) → (c ∷ cs ≡ 41 ∷ [] → depth ≡ 0) → (c ≡ 40 → ⊥) → (c ∷ cs ≡ 40 ∷ [] → depth ≡ most_depth) × (c ∷ cs ≡ 41 ∷ [] → depth ≡ 0)
no_word depth c cs e o = ((λ h. absurd (o (head_of c 40 cs [] h))), e)

name_or_plain : (depth c : ℕ) (cs r : List ℕ) → depth < most_depth → (c ∷ cs ≡ 41 ∷ [] → depth ≡ 0) → (k : PieceKind) → StandsBefore k (c ∷ cs) r → Name depth ((c ∷ cs) ++ r) ⊎ StaysPlain depth k (c ∷ cs) r
name_or_plain depth c cs r l e Word s = by_word depth c cs r l s
name_or_plain depth c cs r l e Space s = by_open depth c cs r l e Space (no_word depth c cs e)
name_or_plain depth c cs r l e Comment s = by_open depth c cs r l e Comment (no_word depth c cs e)
name_or_plain depth c cs r l e Quoted s = by_open depth c cs r l e Quoted (no_word depth c cs e)
name_or_plain depth c cs r l e Url s = by_open depth c cs r l e Url (no_word depth c cs e)
name_or_plain depth c cs r l e AtWord s = by_open depth c cs r l e AtWord (no_word depth c cs e)
name_or_plain depth c cs r l e Single s = by_open depth c cs r l e Single (no_word depth c cs e)

at_most : (depth : ℕ) → depth ≤ most_depth → most_depth ≤ depth → depth ≡ most_depth
at_most depth a b = omega arith

choose : (depth c : ℕ) (cs r : List ℕ) → depth ≤ most_depth → (c ∷ cs ≡ 41 ∷ [] → depth ≡ 0) → (k : PieceKind) → StandsBefore k (c ∷ cs) r → Name depth ((c ∷ cs) ++ r) ⊎ StaysPlain depth k (c ∷ cs) r
choose depth c cs r d e k s = elim (cases_lt depth most_depth) [
  | inl l ↦ name_or_plain depth c cs r l e k s
  | inr l ↦ inr (stays depth (c ∷ cs) r (λ _. at_most depth d l) (λ _. at_most depth d l) e k)
]

-- a plain part before what is read behind it
plain_reads : (depth at : ℕ) (k : PieceKind) (t r : List ℕ) → StandsBefore k t r → StaysPlain depth k t r → Reads depth (at + byte_len t) r → Reads depth at (t ++ r)
plain_reads depth at k t r s h rest = record {
  parts = value (plain k) at t none true rest.parts;
  ahead = rest.ahead;
  text = ap (λ x. t ++ x) rest.text ∙ sym (plain_text k at t none true rest.parts rest.ahead);
  are = (subst (StandsBefore k t) rest.text s, subst (StaysPlain depth k t) rest.text h, refl, refl, rest.are);
  stops = rest.stops;
  places = (refl, rest.places);
}

-- a Function without its end
open_reads : (depth at : ℕ) (s : List ℕ) (n : Name depth s) (inner : Reads (suc depth) (at + byte_len n.name + 1) n.rest) → inner.ahead ≡ [] → Reads depth at s
open_reads depth at s n inner e =
    let is : n.rest ≡ written inner.parts ++ (ending false ++ []) = inner.text ∙ ap (λ x. written inner.parts ++ x) e in
    record {
      parts = value function at n.name inner.parts false none;
      ahead = [];
      text = n.is ∙ ap (λ x. n.name ++ 40 ∷ x) is ∙ sym (function_text at n.name inner.parts false none []);
      are = (n.below, subst (λ x. IsName n.name (40 ∷ x)) is n.named, refl, subst (AreParts (suc depth) inner.parts) e inner.are, tt);
      stops = tt;
      places = (refl, inner.places, tt);
    }

-- a Function with its end, before what is read behind it
closed_reads : (depth at : ℕ) (s : List ℕ) (n : Name depth s) (inner : Reads (suc depth) (at + byte_len n.name + 1) n.rest) (w : List ℕ) → inner.ahead ≡ 41 ∷ w
    → Reads depth (at + byte_len n.name + 1 + byte_len (written inner.parts) + 1) w → Reads depth at s
closed_reads depth at s n inner w e rest =
    let all : inner.ahead ≡ ending true ++ (written rest.parts ++ rest.ahead) = e ∙ ap (λ x. 41 ∷ x) rest.text in
    let is : n.rest ≡ written inner.parts ++ (ending true ++ (written rest.parts ++ rest.ahead)) = inner.text ∙ ap (λ x. written inner.parts ++ x) all in
    record {
      parts = value function at n.name inner.parts true rest.parts;
      ahead = rest.ahead;
      text = n.is ∙ ap (λ x. n.name ++ 40 ∷ x) is ∙ sym (function_text at n.name inner.parts true rest.parts rest.ahead);
      are = (n.below, subst (λ x. IsName n.name (40 ∷ x)) is n.named, tt, subst (AreParts (suc depth) inner.parts) all inner.are, rest.are);
      stops = rest.stops;
      places = (refl, inner.places, rest.places);
    }

name_shorter : (depth fuel : ℕ) (s : List ℕ) (n : Name depth s) → length s ≤ suc fuel → length n.rest ≤ fuel
name_shorter depth fuel s n l = let e : length s ≡ length n.name + suc (length n.rest) = ap length n.is ∙ length-append n.name (40 ∷ n.rest) in omega arith

ahead_shorter : (depth at fuel x : ℕ) (s w : List ℕ) (r : Reads depth at s) → r.ahead ≡ x ∷ w → length s ≤ fuel → length w ≤ fuel
ahead_shorter depth at fuel x s w r e l = let f : length s ≡ length (written r.parts) + suc (length w) = ap length r.text ∙ length-append (written r.parts) r.ahead ∙ ap (λ z. length (written r.parts) + length z) e in omega arith

function_go : (depth at fuel : ℕ) (s : List ℕ) (n : Name depth s) (inner : Reads (suc depth) (at + byte_len n.name + 1) n.rest) → length n.rest ≤ fuel
    → ((at : ℕ) (w : List ℕ) → length w ≤ fuel → Reads depth at w) → (cs : List ℕ) → inner.ahead ≡ cs → Stops (suc depth) cs → Reads depth at s
function_go depth at fuel s n inner l ih [] e z = open_reads depth at s n inner e
function_go depth at fuel s n inner l ih (x ∷ w) e z =
    closed_reads depth at s n inner w (e ∙ ap (λ y. y ∷ w) z.0) (ih (at + byte_len n.name + 1 + byte_len (written inner.parts) + 1) w (ahead_shorter (suc depth) (at + byte_len n.name + 1) fuel x n.rest w inner e l))

function_reads : (depth at fuel : ℕ) (s : List ℕ) (n : Name depth s) → length s ≤ suc fuel
    → ((depth at : ℕ) (w : List ℕ) → length w ≤ fuel → depth ≤ most_depth → Reads depth at w) → depth ≤ most_depth → Reads depth at s
function_reads depth at fuel s n l ih d =
    let l1 = name_shorter depth fuel s n l in
    let b = n.below in
    let inner = ih (suc depth) (at + byte_len n.name + 1) n.rest l1 (omega arith) in
    function_go depth at fuel s n inner l1 (λ at w k. ih depth at w k d) inner.ahead refl inner.stops

part_reads : (depth at fuel c : ℕ) (cs : List ℕ) → length cs ≤ fuel → ((depth at : ℕ) (w : List ℕ) → length w ≤ fuel → depth ≤ most_depth → Reads depth at w)
    → depth ≤ most_depth → (c ≡ 41 → depth ≡ 0) → Reads depth at (c ∷ cs)
part_reads depth at fuel c cs l ih d e =
    let k = (first_part c cs).0 in
    let n = (first_part c cs).1 in
    let r = drop n cs in
    let t = c ∷ take n cs in
    let whole : t ++ r ≡ c ∷ cs = ap (λ x. c ∷ x) (take-append-drop n cs) in
    let stands : StandsBefore k t r = ap (first_part c) (take-append-drop n cs) ∙ ap (λ m. part k m) (sym (length-take-le n cs (part_bound c cs))) in
    let shorter : length r ≤ fuel = omega (arith, length-drop n cs) in
    let same : length (t ++ r) ≡ suc (length cs) = ap length whole in
    let size : length (t ++ r) ≤ suc fuel = omega (arith, same) in
    subst (Reads depth at) whole (elim (choose depth c (take n cs) r d (λ h. e (head_of c 41 (take n cs) [] h)) k stands) [
      | inl m ↦ function_reads depth at fuel (t ++ r) m size ih d
      | inr h ↦ plain_reads depth at k t r stands h (ih depth (at + byte_len t) r shorter d)
    ])

close_reads : (depth at c : ℕ) (cs : List ℕ) → c ≡ 41 → (depth ≡ 0 → ⊥) → Reads depth at (c ∷ cs)
close_reads depth at c cs e n = record { parts = none; ahead = c ∷ cs; text = refl; are = tt; stops = (e, n); places = tt }

part_or_close : (depth at fuel c : ℕ) (cs : List ℕ) → length cs ≤ fuel → ((depth at : ℕ) (w : List ℕ) → length w ≤ fuel → depth ≤ most_depth → Reads depth at w) → depth ≤ most_depth → Reads depth at (c ∷ cs)
part_or_close depth at fuel c cs l ih d = elim (cases_Bool (eqb depth 0)) [
  | inl z ↦ part_reads depth at fuel c cs l ih d (λ _. eqb-true depth 0 z)
  | inr z ↦ elim (cases_Bool (eqb c 41)) [
    | inl e ↦ close_reads depth at c cs (eqb-true c 41 e) (λ h. false≢true (sym z ∙ ap (λ x. eqb x 0) h))
    | inr e ↦ part_reads depth at fuel c cs l ih d (λ h. absurd (false≢true (sym e ∙ ap (λ x. eqb x 41) h)))
  ]
]

reads : (fuel depth at : ℕ) (s : List ℕ) → length s ≤ fuel → depth ≤ most_depth → Reads depth at s
reads fuel depth at [] l d = record { parts = none; ahead = []; text = refl; are = tt; stops = tt; places = tt }
reads zero depth at (c ∷ cs) l d = absurd (omega arith)
reads (suc fuel) depth at (c ∷ cs) l d = part_or_close depth at fuel c cs (omega arith) (reads fuel) d

value_go : (s : List ℕ) (p : ValueParts) (cs : List ℕ) → s ≡ written p ++ cs → AreParts 0 p cs → Stops 0 cs → StandAt 0 p → IsValue s p
value_go s p [] e a z h = record { text = sym (append-nil (written p)) ∙ sym e; are = a; places = h }
value_go s p (c ∷ cs) e a z h = absurd (z.1 refl)

-- the parts of a text
pub some_value : (s : List ℕ) → (p : ValueParts) × IsValue s p
some_value s = let r = reads (length s) 0 0 s (omega arith) (omega arith) in (r.parts, value_go s r.parts r.ahead r.text r.are r.stops r.places)
