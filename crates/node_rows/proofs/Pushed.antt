-- One more row without links keeps the rows linked.
use Rattle.std.proofs.Common.{◌≡◌, ℕ, zero, suc, ◌<◌, ◌≤◌, List, [], ◌∷◌, ◌++◌, length, map, Option, None, refl, ap, sym, ◌∙◌, subst, arith, length-append, ◌⊎◌, inl, inr, true}
use Rattle.std.specs.List.{AllByRecursion}
use Rattle.std.proofs.lemmas.Bool.{cases_lt}
use Rattle.std.proofs.lemmas.List.{map-append}
use Rattle.css_text.specs.declared.lexer.Span.{Span}
use Rattle.css_tree.specs.declared.node.NodeText.{NodeText}
use Rattle.node_rows.specs.declared.rows.Row.{Row}
use Rattle.node_rows.specs.Nodes.{Node, new_node}
use Rattle.node_rows.specs.Sound.{IsSound}
use Rattle.node_rows.specs.Segments.{along, Segment}
use Rattle.node_rows.specs.Shown.{row_at, no_row, next, prev, listed, shown, shown_rows, IsJoined, IsLinked}
use Rattle.node_rows.proofs.Edits.{IsSound-pushed}
use Rattle.node_rows.proofs.Segs.{along-segment, segment-same}
use Rattle.node_rows.proofs.Short.{children-short}
use Rattle.node_rows.proofs.Join.{length-shown, shown-at, kids}

-- a row of a new node
abbrev pub new_row : NodeText → Option Span → Row
new_row text span = record { text = text; span = span; parent = None; first = None; last = None; before = None; after = None; tally = record { count = 0; dirty = true } }

row_pushed : {A : Type 0} (f : Row → A) (rs : List Row) (x : Row) → f x ≡ f no_row → (m : ℕ) → f (row_at (rs ++ x ∷ []) m) ≡ f (row_at rs m)
row_pushed f [] x e zero = e
row_pushed f [] x e (suc m) = refl
row_pushed f (y ∷ ys) x e zero = refl
row_pushed f (y ∷ ys) x e (suc m) = row_pushed f ys x e m

row_before : (rs : List Row) (x : Row) (m : ℕ) → m < length rs → row_at (rs ++ x ∷ []) m ≡ row_at rs m
row_before [] x m h = absurd (omega arith)
row_before (y ∷ ys) x zero h = refl
row_before (y ∷ ys) x (suc m) h = row_before ys x m (omega arith)

along_none : (f : ℕ → Option ℕ) (k : ℕ) → along f k None ≡ []
along_none f zero = refl
along_none f (suc k) = refl

pub all_of : (P : ℕ → Type 0) → ((m : ℕ) → P m) → (xs : List ℕ) → AllByRecursion P xs
all_of P f [] = tt
all_of P f (x ∷ xs) = (f x, all_of P f xs)

map_each : (f g : Row → Node) (rs : List Row) → ((m : ℕ) → m < length rs → f (row_at rs m) ≡ g (row_at rs m)) → map f rs ≡ map g rs
map_each f g [] h = refl
map_each f g (x ∷ xs) h = let a : f x ≡ g x = h 0 (omega arith) in let b = map_each f g xs (λ m i. h (suc m) (omega arith)) in cc

row_last : (rs : List Row) (x : Row) → row_at (rs ++ x ∷ []) (length rs) ≡ x
row_last [] x = refl
row_last (y ∷ ys) x = row_last ys x

joined_on : (rs : List Row) (r : Row) (l : List ℕ) → listed rs r ≡ l → Segment (next rs) (prev rs) None r.first l r.last None → r.tally.count ≡ length l → IsJoined rs r
joined_on rs r l e s c = subst (λ x. Segment (next rs) (prev rs) None r.first x r.last None × (r.tally.count ≡ length x)) (sym e) (s, c)

module _ (rs : List Row) (k : IsLinked rs) (text : NodeText) (span : Option Span) where
  abbrev pub grown : List Row
  grown = rs ++ new_row text span ∷ []

  next_is : (m : ℕ) → next grown m ≡ next rs m
  next_is = row_pushed (λ r. r.after) rs (new_row text span) refl

  prev_is : (m : ℕ) → prev grown m ≡ prev rs m
  prev_is = row_pushed (λ r. r.before) rs (new_row text span) refl

  segment : (p : ℕ) → p < length rs → Segment (next grown) (prev grown) None (row_at rs p).first (kids rs p) (row_at rs p).last None
  segment p h = segment-same (next rs) (prev rs) (next grown) (prev grown) None (row_at rs p).first (kids rs p) (row_at rs p).last None (all_of _ next_is (kids rs p)) (all_of _ prev_is (kids rs p)) (k.joined p h).0

  short : (p : ℕ) → p < length rs → length (kids rs p) ≤ length grown
  short p h =
      let i = children-short (shown_rows rs) p k.sound in
      omega (arith, i, ap (λ x. length x.children) (shown-at rs p h), length-shown rs, length-append rs (new_row text span ∷ []))

  listed_same : (p : ℕ) → p < length rs → listed grown (row_at rs p) ≡ kids rs p
  listed_same p h = along-segment (next grown) (prev grown) (length grown) None (row_at rs p).first (kids rs p) (row_at rs p).last (short p h) (segment p h)

  pub shown-pushed : shown_rows grown ≡ shown_rows rs ++ new_node text span ∷ []
  shown-pushed =
      let with_kids : Row → List ℕ → Node = λ r l. record { text = r.text; span = r.span; parent = r.parent; children = l; dirty = r.tally.dirty } in
      let last : List ℕ → List Node = λ l. shown_rows rs ++ with_kids (new_row text span) l ∷ [] in
      map-append (shown grown) rs (new_row text span ∷ [])
      ∙ (ap (λ l. l ++ shown grown (new_row text span) ∷ []) (map_each (shown grown) (shown rs) rs (λ m h. ap (with_kids (row_at rs m)) (listed_same m h)))
      ∙ ap last (along_none (next grown) (length grown)))

  joined_each : (p : ℕ) → p < length grown → (p < length rs) ⊎ (length rs ≤ p) → IsJoined grown (row_at grown p)
  joined_each p h (inl b) = rw (row_before rs (new_row text span) p b) (joined_on grown (row_at rs p) (kids rs p) (listed_same p b) (segment p b) (k.joined p b).1)
  joined_each p h (inr b) =
      let e : p ≡ length rs = omega (arith, length-append rs (new_row text span ∷ [])) in
      rw (e, row_last rs (new_row text span)) (joined_on grown (new_row text span) [] (along_none (next grown) (length grown)) (refl, refl) refl)

  pub IsLinked-pushed : length rs < 67108865 → IsLinked grown
  IsLinked-pushed few = record {
    sound = subst IsSound (sym shown-pushed) (IsSound-pushed (shown_rows rs) (new_node text span) refl refl (omega (arith, length-shown rs)) k.sound);
    joined = λ p h. joined_each p h (cases_lt p (length rs));
  }
