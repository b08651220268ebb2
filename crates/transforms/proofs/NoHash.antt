-- A value without a `#` has no colour, so it is its own short value.
use Rattle.std.proofs.Common.{◌≡◌, ℕ, List, [], ◌∷◌, ◌++◌, Bool, true, false, ◌&&◌, ◌||◌, length, Option, Some, refl, ap, sym, ◌∙◌, inl, inr, arith, nat_eq}
use Rattle.std.specs.Prelude.{◌==◌, not}
use Rattle.std.specs.Str.{chars, IsUtf8}
use lib.Utf8.{encodes}
use Rattle.std.proofs.lemmas.Bool.{ne_eqb, and_parts, not-true, true≢false}
use Rattle.std.proofs.lemmas.Str.{encodes-chars}
use Rattle.css_text.specs.declared.lexer.PieceKind.{PieceKind}
use Rattle.css_text.specs.declared.lexer.PieceKind.TheVariants.{Word}
use Rattle.css_text.specs.ValueParts.{plain, function, ValueParts, none, value, ending, written}
use Rattle.css_text.proofs.Bytes.{AllHigh, low_or_high, front_low, front_high}
use Rattle.css_tree.specs.declared.node.Source.{Source}
use Rattle.css_tree.specs.declared.node.Field.TheVariants as F
use Rattle.css_tree.specs.declared.node.NodeText.{NodeText}
use Rattle.css_tree.specs.declared.node.NodeText.TheVariants.{Declaration}
use Rattle.css_tree.specs.Changes.{same_text, has_field}
use Rattle.css_tree.specs.Clean.{clean_of}
use Rattle.value_parse.proofs.Exists.{some_value}
use Rattle.node_rows.specs.Nodes.{Node, text_of}
use Rattle.node_store.specs.declared.item.Event.{Event}
use Rattle.node_store.specs.declared.item.Event.TheVariants as E
use Rattle.node_store.specs.declared.item.Edit.TheVariants.{Set}
use Rattle.node_store.specs.Edits.{changes}
use Rattle.plugin_api.specs.Effect.{has, halved, shortened_or, short_word, short_plain, shortened, changing, IsShort, IsShortened}
use Rattle.transforms.specs.Reads.{value_at}
use Rattle.transforms.proofs.Shorts.{unmarked}

false_parts : (a b : Bool) → (a || b) ≡ false → (a ≡ false) × (b ≡ false)
false_parts true b e = absurd (true≢false e)
false_parts false b e = (refl, e)

has_parts : (c : ℕ) (xs ys : List ℕ) → has c (xs ++ ys) ≡ false → (has c xs ≡ false) × (has c ys ≡ false)
has_parts c [] ys e = (refl, e)
has_parts c (x ∷ xs) ys e =
    let p = false_parts (x == c) (has c (xs ++ ys)) e in
    let q = has_parts c xs ys p.1 in
    (ap (λ b. b || has c xs) p.0 ∙ q.0, q.1)

-- bytes past ASCII are no `#`
high_hash : (bs cs : List ℕ) → AllHigh bs → has 35 (bs ++ cs) ≡ has 35 cs
high_hash [] cs h = refl
high_hash (b ∷ bs) cs h =
    let l = h.0 in
    ap (λ x. x || has 35 (bs ++ cs)) (ne_eqb b 35 (λ e. omega arith)) ∙ high_hash bs cs h.1

-- the bytes of a text have a `#` where its characters do
hash_bytes : (cs : List ℕ) → has 35 (encodes cs) ≡ has 35 cs
hash_bytes [] = refl
hash_bytes (c ∷ cs) = elim (low_or_high c) [
  | inl l ↦ ap (has 35) (front_low c cs l) ∙ ap (λ b. (c == 35) || b) (hash_bytes cs)
  | inr h ↦ let a = h.past in let b = h.head_high in
      ap (has 35) (front_high c cs h) ∙ high_hash (h.head ∷ h.tail) (encodes cs) (b, h.tail_high) ∙ hash_bytes cs
      ∙ sym (ap (λ x. x || has 35 cs) (ne_eqb c 35 (λ e. omega arith)))
]

pub hash_chars : (bs : List ℕ) → IsUtf8 bs → has 35 bs ≡ has 35 (chars bs)
hash_chars bs u = ap (has 35) (sym (encodes-chars bs u)) ∙ hash_bytes (chars bs)

plain_word : (t : List ℕ) → has 35 t ≡ false → short_word t ≡ t
plain_word [] e = refl
plain_word (c ∷ cs) e = unmarked (c == 35) (nat_eq (length cs) 6 || nat_eq (length cs) 8) (shortened_or (c ∷ cs) (halved cs)) (c ∷ cs) (false_parts (c == 35) (has 35 cs) e).0

plain_own : (k : PieceKind) (t : List ℕ) → has 35 t ≡ false → short_plain k t ≡ t
plain_own Word t e = plain_word t e
plain_own _ t e = refl

-- parts whose text has no `#` are written as they are
written_same : (p : ValueParts) → has 35 (written p) ≡ false → written (shortened p) ≡ written p
written_same none e = refl
written_same (value (plain k) at t inner closed rest) e =
    let h = has_parts 35 t (written rest) e in
    ap (λ x. x ++ written (shortened rest)) (plain_own k t h.0) ∙ ap (λ x. t ++ x) (written_same rest h.1)
written_same (value function at t inner closed rest) e =
    let h = has_parts 35 t (40 ∷ (written inner ++ (ending closed ++ written rest))) e in
    let i = has_parts 35 (written inner) (ending closed ++ written rest) h.1 in
    let r = has_parts 35 (ending closed) (written rest) i.1 in
    ap (λ x. t ++ 40 ∷ (x ++ (ending closed ++ written (shortened rest)))) (written_same inner i.0)
    ∙ ap (λ x. t ++ 40 ∷ (written inner ++ (ending closed ++ x))) (written_same rest r.1)

own_short : (s : List ℕ) → has 35 s ≡ false → IsShort s s
own_short s e =
    let v = some_value s in
    record { parts = v.0; are = v.1; text = sym (written_same v.0 (ap (has 35) v.1.text ∙ e) ∙ v.1.text) }

unchanged : (ns : List Node) (n : ℕ) (s : List ℕ) (t : NodeText) → text_of ns n ≡ t → has_field F.Value s t ≡ true → changing ns (Set F.Value n s ∷ []) ≡ []
unchanged ns n s t e h = let k : changes ns (Set F.Value n s) ≡ false = ap (λ x. not (has_field F.Value s x)) e ∙ ap not h in rw k refl

-- a value without a `#` that has no comments asks for no edit
pub stays : (ns : List Node) (n : ℕ) (ev : Event) (t : NodeText) (o : Option ℕ) (v : Source) → text_of ns n ≡ t → value_at ev t ≡ Some v
    → (not (has 35 v.source) && same_text v.source v.clean) ≡ true → IsShortened ns n ev t o []
stays ns n E.Declaration (Declaration before prop between val important important_raw tail) (Some p) v e f h =
    let same : v ≡ val = cc in
    let both = and_parts (not (has 35 val.source)) (same_text val.source val.clean) (ap (λ x. not (has 35 x.source) && same_text x.source x.clean) (sym same) ∙ h) in
    let kept : has_field F.Value val.source (Declaration before prop between val important important_raw tail) ≡ true =
    ap (λ b. b || (same_text val.source val.source && same_text (clean_of val.source) val.clean)) both.1 in
    (val.source, own_short val.source (not-true (has 35 val.source) both.0), sym (unchanged ns n val.source (Declaration before prop between val important important_raw tail) e kept))
stays ns n _ _ _ v e f h = refl
