-- No part passes the text's end.
use Rattle.std.proofs.Common.{◌≡◌, ℕ, zero, suc, ◌+◌, ◌<◌, ◌≤◌, Bool, true, false, cond, eqb, List, [], ◌∷◌, length, drop, Option, Some, None, refl, arith}
use Rattle.std.specs.Prelude.{◌&&◌}
use Rattle.std.specs.Option.{option_map}
use Rattle.std.proofs.lemmas.Bool.{and_parts, false≢true}
use Rattle.std.proofs.lemmas.List.Sums.{prefix_len-le-length}
use Rattle.css_text.specs.declared.lexer.PieceKind.{PieceKind}
use Rattle.css_text.specs.Characters.{is_space, is_quote}
use Rattle.css_text.specs.Forms.{begins, begins_url, through, through_comment}
use Rattle.css_text.specs.ValueParts.{ends_value, value_len, end_or, first_part}

value_len-bound : (h : Bool) (s : List ℕ) → value_len h s ≤ length s
value_len-bound h [] = omega arith
value_len-bound true (c ∷ cs) = let i : value_len false cs ≤ length cs = value_len-bound false cs in omega arith
value_len-bound false (c ∷ cs) = go (ends_value c) (value_len (eqb c 92) cs) (value_len-bound (eqb c 92) cs)
  where
    go : (b : Bool) (n : ℕ) → n ≤ length cs → cond b 0 (suc n) ≤ suc (length cs)
    go true n i = omega arith
    go false n i = omega arith

-- an end, if there is one, is at most so many characters away
abbrev Within : ℕ → Option ℕ → Type 0
Within n None = Unit {0}
Within n (Some m) = m ≤ n

within-suc : (n : ℕ) (o : Option ℕ) → Within n o → Within (suc n) (option_map suc o)
within-suc n None h = tt
within-suc n (Some m) h = omega arith

within-cond : (b : Bool) (n : ℕ) (o p : Option ℕ) → (b ≡ true → Within n o) → Within n p → Within n (cond b o p)
within-cond true n o p h k = h refl
within-cond false n o p h k = k

through-bound : (q : ℕ) (h : Bool) (s : List ℕ) → Within (length s) (through q h s)
through-bound q h [] = tt
through-bound q true (c ∷ cs) = within-suc (length cs) (through q false cs) (through-bound q false cs)
through-bound q false (c ∷ cs) = within-cond (eqb c q) (suc (length cs)) (Some 1) _ (λ e. omega arith) (within-suc (length cs) (through q (eqb c 92) cs) (through-bound q (eqb c 92) cs))

some_more : (c : ℕ) (s : List ℕ) → begins c s ≡ true → 0 < length s
some_more c [] e = absurd (false≢true e)
some_more c (d ∷ s) e = omega arith

comment-bound : (s : List ℕ) → Within (length s) (through_comment s)
comment-bound [] = tt
comment-bound (c ∷ cs) = within-cond (eqb c 42 && begins 47 cs) (suc (length cs)) (Some 2) _ (λ e. let m : 0 < length cs = some_more 47 cs (and_parts (eqb c 42) (begins 47 cs) e).1 in omega arith)
    (within-suc (length cs) (through_comment cs) (comment-bound cs))

end-bound : (k n l : ℕ) (o : Option ℕ) → Within n o → k + n ≤ l → end_or k o l ≤ l
end-bound k n l None h i = omega arith
end-bound k n l (Some m) h i = omega arith

bound-cond : (b : Bool) (p q : PieceKind × ℕ) (n : ℕ) → (b ≡ true → p.1 ≤ n) → (b ≡ false → q.1 ≤ n) → (cond b p q).1 ≤ n
bound-cond true p q n h k = h refl
bound-cond false p q n h k = k refl

-- a form that is looked for behind k characters, where fewer are left, has no end
far-bound : (k : ℕ) (s : List ℕ) (o : List ℕ → Option ℕ) → o [] ≡ None → ((t : List ℕ) → Within (length t) (o t)) → end_or k (o (drop k s)) (length s) ≤ length s
far-bound zero s o e w = end-bound 0 (length s) (length s) (o s) (w s) (omega arith)
far-bound (suc k) [] o e w = rw e (omega arith)
far-bound (suc k) (c ∷ s) o e w = more (o (drop k s)) (far-bound k s o e w)
  where
    more : (x : Option ℕ) → end_or k x (length s) ≤ length s → end_or (suc k) x (suc (length s)) ≤ suc (length s)
    more None h = omega arith
    more (Some m) h = omega arith

pub part_bound : (c : ℕ) (s : List ℕ) → (first_part c s).1 ≤ length s
unfolding first_part
part_bound c s =
    bound-cond (is_space c) _ _ _ (λ _. prefix_len-le-length is_space s) (λ _.
    bound-cond (eqb c 47 && begins 42 s) _ _ _ (λ _. far-bound 1 s through_comment refl comment-bound) (λ _.
    bound-cond (is_quote c) _ _ _ (λ _. far-bound 0 s (through c false) refl (through-bound c false)) (λ _.
    bound-cond (begins_url (c ∷ s)) _ _ _ (λ _. far-bound 3 s (through 41 false) refl (through-bound 41 false)) (λ _.
    bound-cond (ends_value c) _ _ _ (λ _. omega arith) (λ _. value_len-bound (eqb c 92) s)))))
