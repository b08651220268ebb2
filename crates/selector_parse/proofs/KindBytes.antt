-- The kind of a simple selector is seen on its bytes.
use Rattle.std.proofs.Common.{◌≡◌, ℕ, ◌<◌, ◌≤◌, Bool, true, false, cond, eqb, List, [], ◌∷◌, ◌++◌, refl, ap, sym, ◌∙◌, inl, inr, arith, lit<, codes}
use Rattle.std.specs.Prelude.{◌&&◌, ◌||◌}
use Rattle.std.specs.Char.{to_ascii_lowercase}
use lib.Utf8.{encodes}
use Rattle.std.proofs.lemmas.Bool.{le-ltb, ne_eqb}
use Rattle.css_text.specs.Forms.{begins}
use Rattle.css_text.proofs.Bytes.{low_or_high, front_low, front_high, begins-bytes}
use Rattle.css_text.proofs.Transport.{AllLow}
use Rattle.selector_parse.specs.declared.part.PartKind.{PartKind}
use Rattle.selector_parse.specs.declared.part.PartKind.TheVariants.{Element, Id, Class, Attribute, Nesting}
use Rattle.std.specs.Str.{chars, IsUtf8}
use Rattle.std.proofs.lemmas.Str.{encodes-chars}
use Rattle.selector_parse.specs.Worth.{is_where}
use Rattle.selector_parse.specs.Tree.{Tree, simple, bare}
use Rattle.selector_parse.specs.Names.{spelled, is_legacy, is_logical, takes_list}
use Rattle.selector_parse.specs.Phases.{pseudo_kind, kind_of}

lower-high : (c w : ℕ) → 128 ≤ c → w < 128 → eqb (to_ascii_lowercase c) w ≡ false
lower-high c w h l = rw (le-ltb c 65 (omega arith), le-ltb c 91 (omega arith)) (ne_eqb c w (λ e. omega arith))

spelled-bytes : (ws cs : List ℕ) → AllLow ws → spelled ws (encodes cs) ≡ spelled ws cs
spelled-bytes [] [] l = refl
spelled-bytes (w ∷ ws) [] l = refl
spelled-bytes [] (c ∷ cs) l = elim (low_or_high c) [
  | inl h ↦ ap (spelled []) (front_low c cs h)
  | inr h ↦ ap (spelled []) (front_high c cs h)
]
spelled-bytes (w ∷ ws) (c ∷ cs) l = elim (low_or_high c) [
  | inl h ↦ ap (spelled (w ∷ ws)) (front_low c cs h) ∙ ap (λ x. eqb (to_ascii_lowercase c) w && x) (spelled-bytes ws cs l.1)
  | inr h ↦ ap (spelled (w ∷ ws)) (front_high c cs h) ∙ ap (λ x. x && spelled ws (h.tail ++ encodes cs)) (lower-high h.head w h.head_high l.0)
      ∙ ap (λ x. x && spelled ws cs) (sym (lower-high c w h.past l.0))
]

legacy-bytes : (cs : List ℕ) → is_legacy (encodes cs) ≡ is_legacy cs
unfolding is_legacy
legacy-bytes cs = rw (
  spelled-bytes (codes "before") cs (lit< tt, (lit< tt, (lit< tt, (lit< tt, (lit< tt, (lit< tt, tt)))))),
  spelled-bytes (codes "after") cs (lit< tt, (lit< tt, (lit< tt, (lit< tt, (lit< tt, tt))))),
  spelled-bytes (codes "first-line") cs (lit< tt, (lit< tt, (lit< tt, (lit< tt, (lit< tt, (lit< tt, (lit< tt, (lit< tt, (lit< tt, (lit< tt, tt)))))))))),
  spelled-bytes (codes "first-letter") cs (lit< tt, (lit< tt, (lit< tt, (lit< tt, (lit< tt, (lit< tt, (lit< tt, (lit< tt, (lit< tt, (lit< tt, (lit< tt, (lit< tt, tt)))))))))))),
) refl

logical-bytes : (cs : List ℕ) → is_logical (encodes cs) ≡ is_logical cs
unfolding is_logical
logical-bytes cs = rw (
  spelled-bytes (codes "is") cs (lit< tt, (lit< tt, tt)),
  spelled-bytes (codes "not") cs (lit< tt, (lit< tt, (lit< tt, tt))),
  spelled-bytes (codes "has") cs (lit< tt, (lit< tt, (lit< tt, tt))),
  spelled-bytes (codes "where") cs (lit< tt, (lit< tt, (lit< tt, (lit< tt, (lit< tt, tt))))),
) refl

pseudo-bytes : (cs : List ℕ) → pseudo_kind (encodes cs) ≡ pseudo_kind cs
pseudo-bytes cs = rw (begins-bytes 58 cs (lit< tt), legacy-bytes cs) refl

module _ (c : ℕ) (h : 128 ≤ c) where
  no : (k : ℕ) → k < 128 → eqb c k ≡ false
  no k l = ne_eqb c k (λ e. omega arith)

  kind-high : (cs : List ℕ) → kind_of (c ∷ cs) ≡ Element
  kind-high cs = rw (no 35 (lit< tt), no 46 (lit< tt), no 91 (lit< tt), no 38 (lit< tt), no 58 (lit< tt)) refl

  list-high : (cs : List ℕ) → takes_list (c ∷ cs) ≡ false
  list-high cs = rw (no 58 (lit< tt)) refl

kind-low : (c : ℕ) (cs : List ℕ) → kind_of (c ∷ encodes cs) ≡ kind_of (c ∷ cs)
kind-low c cs = ap (λ k. cond (eqb c 35) Id (cond (eqb c 46) Class (cond (eqb c 91) Attribute (cond (eqb c 38) Nesting (cond (eqb c 58) k Element))))) (pseudo-bytes cs)

pub kind-bytes : (cs : List ℕ) → kind_of (encodes cs) ≡ kind_of cs
kind-bytes [] = refl
kind-bytes (c ∷ cs) = elim (low_or_high c) [
  | inl l ↦ ap kind_of (front_low c cs l) ∙ kind-low c cs
  | inr h ↦ ap kind_of (front_high c cs h) ∙ kind-high h.head h.head_high (h.tail ++ encodes cs) ∙ sym (kind-high c h.past cs)
]

pub list-bytes : (cs : List ℕ) → takes_list (encodes cs) ≡ takes_list cs
list-bytes [] = refl
list-bytes (c ∷ cs) = elim (low_or_high c) [
  | inl l ↦ ap takes_list (front_low c cs l) ∙ ap (λ b. eqb c 58 && b) (logical-bytes cs)
  | inr h ↦ ap takes_list (front_high c cs h) ∙ list-high h.head h.head_high (h.tail ++ encodes cs) ∙ sym (list-high c h.past cs)
]

-- no simple selector is a gap
bare_cond : (b : Bool) (k l : PartKind) (at : ℕ) (t : List ℕ) (rest : Tree) → bare k at t rest ≡ simple k at t rest → bare l at t rest ≡ simple l at t rest → bare (cond b k l) at t rest ≡ simple (cond b k l) at t rest
bare_cond true k l at t rest e f = e
bare_cond false k l at t rest e f = f

pub bare_simple : (s : List ℕ) (at : ℕ) (t : List ℕ) (rest : Tree) → bare (kind_of s) at t rest ≡ simple (kind_of s) at t rest
bare_simple [] at t rest = refl
bare_simple (c ∷ cs) at t rest = bare_cond (eqb c 35) _ _ at t rest refl (bare_cond (eqb c 46) _ _ at t rest refl (bare_cond (eqb c 91) _ _ at t rest refl (bare_cond (eqb c 38) _ _ at t rest refl
    (bare_cond (eqb c 58) _ _ at t rest (bare_cond (begins 58 cs || is_legacy cs) _ _ at t rest refl refl) refl))))

where-high : (c : ℕ) (cs : List ℕ) → 128 ≤ c → is_where (c ∷ cs) ≡ false
unfolding is_where
where-high c cs h = rw (no c h 58 (lit< tt)) refl

where-low : (c : ℕ) (cs : List ℕ) → is_where (c ∷ encodes cs) ≡ is_where (c ∷ cs)
unfolding is_where
where-low c cs = ap (λ b. eqb c 58 && b) (spelled-bytes (codes "where") cs (lit< tt, (lit< tt, (lit< tt, (lit< tt, (lit< tt, tt))))))

where-bytes : (cs : List ℕ) → is_where (encodes cs) ≡ is_where cs
where-bytes [] = refl
where-bytes (c ∷ cs) = elim (low_or_high c) [
  | inl l ↦ ap is_where (front_low c cs l) ∙ where-low c cs
  | inr h ↦ ap is_where (front_high c cs h) ∙ where-high h.head (h.tail ++ encodes cs) h.head_high ∙ sym (where-high c cs h.past)
]

-- by the characters of a text
pub where_chars : (bs : List ℕ) → IsUtf8 bs → is_where bs ≡ is_where (chars bs)
where_chars bs u = ap is_where (sym (encodes-chars bs u)) ∙ where-bytes (chars bs)

pub list_chars : (bs : List ℕ) → IsUtf8 bs → takes_list bs ≡ takes_list (chars bs)
list_chars bs u = ap takes_list (sym (encodes-chars bs u)) ∙ list-bytes (chars bs)
