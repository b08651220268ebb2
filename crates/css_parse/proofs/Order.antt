-- The nodes of a reading are a list in document order.
use Rattle.std.proofs.Common.{◌≡◌, ℕ, suc, ◌+◌, ◌<◌, ◌≤◌, ◌==◌, if◌then◌else◌, List, [], ◌∷◌, ◌++◌, Bool, true, false, nat_eq, map, refl, ◌∙◌, sym, ap, append_assoc, append-nil, arith}
use Rattle.std.specs.List.{list_any}
use Rattle.std.proofs.lemmas.Bool.{ne_eqb, eq-eqb, eqb-true}
use Rattle.node_rows.specs.declared.node_list.NodeAt.{NodeAt}
use Rattle.node_rows.specs.NodeList.{path_from, are_ordered}
use Rattle.css_tree.specs.Nodes.{Nodes, none, comment, leaf, block}
use Rattle.css_parse.specs.Machine.{count, flat}

abbrev parent_of : NodeAt → ℕ
parent_of e = e.parent

-- from the largest number down, all below n
abbrev Falling : ℕ → List ℕ → Type 0
Falling n [] = Unit {0}
Falling n (m ∷ ms) = (m < n) × Falling m ms

falling-more : (m n : ℕ) (ms : List ℕ) → m ≤ n → Falling m ms → Falling n ms
falling-more m n [] l h = tt
falling-more m n (x ∷ ms) l h = (omega (arith, h.0, l), h.1)

-- the numbers of the path behind p
from-here : (p m : ℕ) (ms : List ℕ) (b : Bool) → (m == p) ≡ b → path_from p (m ∷ ms) ≡ (if b then m ∷ ms else path_from p ms)
from-here p m ms b e = rw e refl

record OnPath (j : ℕ) (path ps : List ℕ) : Type 0 where
  is : path_from j path ≡ j ∷ ps

any-here : (j m : ℕ) (ms : List ℕ) (b : Bool) → nat_eq j m ≡ b → (b ≡ false → list_any (nat_eq j) ms ≡ true) → list_any (nat_eq j) (m ∷ ms) ≡ true
any-here j m ms true e h = rw e refl
any-here j m ms false e h = rw (e, h refl) refl

no-path : (j : ℕ) (ps : List ℕ) → ◌≡◌ {A = List ℕ} [] (j ∷ ps) → ⊥
no-path j ps e = cc

same-eq : (j m : ℕ) (b : Bool) → nat_eq j m ≡ b → (m == j) ≡ b
same-eq j m true e = eq-eqb m j (sym (eqb-true j m e))
same-eq j m false e = ne_eqb m j (λ k. absurd (true-false (sym (eq-eqb j m (sym k)) ∙ e)))
  where
    true-false : true ≡ false → ⊥
    true-false e = cc

on-path : (j : ℕ) (path ps : List ℕ) → path_from j path ≡ j ∷ ps → list_any (nat_eq j) path ≡ true
on-path j [] ps e = absurd (no-path j ps e)
on-path j (m ∷ ms) ps e =
    any-here j m ms (nat_eq j m) refl (λ z. on-path j ms ps (sym (from-here j m ms false (same-eq j m false z)) ∙ e))

above : (ms : List ℕ) (m n : ℕ) (ps : List ℕ) → Falling m ms → path_from n ms ≡ n ∷ ps → m < n → ⊥
above [] m n ps f e l = no-path n ps e
above (x ∷ ms) m n ps f e l = above ms x n ps f.1 (sym (from-here n x ms false (ne_eqb x n (λ z. omega (arith, z, l, f.0)))) ∙ e) (omega (arith, f.0, l))

through-by : (j n m : ℕ) (ms ps : List ℕ) (b : Bool) → (m == n) ≡ b → j < n → Falling m ms → path_from n (m ∷ ms) ≡ n ∷ ps → (path_from n ms ≡ n ∷ ps → path_from j (n ∷ ps) ≡ path_from j ms) → path_from j (n ∷ ps) ≡ path_from j (m ∷ ms)
through-by j n m ms ps true h l f e ih = ap (path_from j) (sym (sym (from-here n m ms true h) ∙ e))
through-by j n m ms ps false h l f e ih =
    let k = sym (from-here n m ms false h) ∙ e in
    ih k ∙ sym (from-here j m ms false (ne_eqb m j (λ z. above ms m n ps f k (omega (arith, z, l)))))

-- a path from n on holds what stands on it from j on
through : (j n : ℕ) (path ps : List ℕ) (top : ℕ) → j < n → Falling top path → path_from n path ≡ n ∷ ps → path_from j (n ∷ ps) ≡ path_from j path
through j n [] ps top l f e = absurd (no-path n ps e)
through j n (m ∷ ms) ps top l f e = through-by j n m ms ps (m == n) refl l f.1 e (λ k. through j n ms ps m l f.1 k)

self-path : (n : ℕ) (ps : List ℕ) → path_from n (n ∷ ps) ≡ n ∷ ps
self-path n ps = from-here n n ps true (eq-eqb n n refl)

past-path : (j n : ℕ) (ps : List ℕ) → j < n → path_from j (n ∷ ps) ≡ path_from j ps
past-path j n ps l = from-here j n ps false (ne_eqb n j (λ e. omega arith))

falling-by : (j m n : ℕ) (ms : List ℕ) (b : Bool) → (m == j) ≡ b → Falling n (m ∷ ms) → Falling m (path_from j ms) → Falling n (path_from j (m ∷ ms))
falling-by j m n ms true h f ih = rw (from-here j m ms true h) f
falling-by j m n ms false h f ih = rw (from-here j m ms false h) (falling-more m n (path_from j ms) (omega (arith, f.0)) ih)

falling-from : (j : ℕ) (path : List ℕ) (n : ℕ) → Falling n path → Falling n (path_from j path)
falling-from j [] n f = tt
falling-from j (m ∷ ms) n f = falling-by j m n ms (m == j) refl f (falling-from j ms m f.1)

-- what comes behind these nodes is in order, by any path that leads to their container
abbrev Follows : ℕ → List ℕ → ℕ → List ℕ → Type 0
Follows j ps n rest = (path : List ℕ) → path_from j path ≡ j ∷ ps → Falling n path → are_ordered path n rest ≡ true

one-node : (j n : ℕ) (ps path rest : List ℕ) → j < n → path_from j path ≡ j ∷ ps → Falling n path → are_ordered (n ∷ path_from j path) (n + 1) rest ≡ true → are_ordered path n (j ∷ rest) ≡ true
one-node j n ps path rest l e f h = rw (on-path j path ps e, h) refl

falls : (j n : ℕ) (path : List ℕ) → Falling n path → Falling (suc n) (n ∷ path_from j path)
falls j n path f = (omega arith, falling-from j path n f)

count-less : (f : Nodes) (n : ℕ) → n ≤ count n f
unfolding count
count-less none n = omega arith
count-less (comment b p f) n = let k = count-less f (suc n) in omega (arith, k)
count-less (leaf b r e f) n = let k = count-less f (suc n) in omega (arith, k)
count-less (block b r o k a c f) n = let x = count-less k (suc n) in let y = count-less f (count (suc n) k) in omega (arith, x, y)

plus-one : (n : ℕ) → n + 1 ≡ suc n
plus-one n = omega arith

ordered : (f : Nodes) (j n : ℕ) (ps path rest : List ℕ) → j < n → path_from j path ≡ j ∷ ps → Falling n path → Follows j ps (count n f) rest
    → are_ordered path n (map parent_of (flat j n f) ++ rest) ≡ true
unfolding flat count
ordered none j n ps path rest l e d h = h path e d
ordered (comment b p f) j n ps path rest l e d h =
    one-node j n ps path _ l e d (rw plus-one (ordered f j (suc n) ps (n ∷ path_from j path) rest (omega arith) (past-path j n (path_from j path) l ∙ (ap (path_from j) e ∙ self-path j ps)) (falls j n path d) h))
ordered (leaf b r x f) j n ps path rest l e d h =
    one-node j n ps path _ l e d (rw plus-one (ordered f j (suc n) ps (n ∷ path_from j path) rest (omega arith) (past-path j n (path_from j path) l ∙ (ap (path_from j) e ∙ self-path j ps)) (falls j n path d) h))
ordered (block b r o k a c f) j n ps path rest l e d h =
    let m : ℕ = count (suc n) k in
    let lm : n < m = let z = count-less k (suc n) in omega (arith, z) in
    let back : Follows n (path_from j path) m (map parent_of (flat j m f) ++ rest) =
    λ path' e' d'. ordered f j m ps path' rest (omega (arith, l, lm))
    (sym (through j n path' (path_from j path) m l d' e') ∙ (past-path j n (path_from j path) l ∙ (ap (path_from j) e ∙ self-path j ps))) d' h in
    let all : map parent_of (flat n (suc n) k ++ flat j m f) ++ rest ≡ map parent_of (flat n (suc n) k) ++ (map parent_of (flat j m f) ++ rest) =
    ap (λ z. z ++ rest) (map-append (flat n (suc n) k) (flat j m f)) ∙ append_assoc (map parent_of (flat n (suc n) k)) (map parent_of (flat j m f)) rest in
    one-node j n ps path _ l e d (rw (plus-one, all) (ordered k n (suc n) (path_from j path) (n ∷ path_from j path) (map parent_of (flat j m f) ++ rest) (omega arith) (self-path n (path_from j path)) (falls j n path d) back))
  where
    map-append : (xs ys : List NodeAt) → map parent_of (xs ++ ys) ≡ map parent_of xs ++ map parent_of ys
    map-append [] ys = refl
    map-append (x ∷ xs) ys = ap (λ z. x.parent ∷ z) (map-append xs ys)

pub in_order : (f : Nodes) → are_ordered (0 ∷ []) 1 (map parent_of (flat 0 1 f)) ≡ true
in_order f =
    ap (are_ordered (0 ∷ []) 1) (sym (append-nil (map parent_of (flat 0 1 f))))
    ∙ ordered f 0 1 [] (0 ∷ []) [] (omega arith) (self-path 0 []) (omega arith, tt) (λ path e d. refl)
