-- Whether siblings are comments, one after another.
use Rattle.std.proofs.Common.{◌≡◌, ℕ, ◌<◌, List, [], ◌∷◌, Bool, true, false, length, Option, Some, None, ap, sym, ◌∙◌, cond, arith}
use Rattle.css_tree.specs.Parts.{semicolon_text}
use Rattle.css_tree.specs.Print.{Container, is_comment, are_comments, takes_semicolon, semicolon_after}
use Rattle.node_rows.specs.Nodes.{Node, text_of, siblings, next_sibling_of, from_number}
use Rattle.node_rows.specs.Sound.{IsSound}
use Rattle.node_rows.specs.NumberTrees.{plain, number_trees, tree, below}
use Rattle.node_rows.proofs.Behind.{from-next}
use Rattle.node_rows.proofs.Levels.{number_trees-more, number_trees-none}
use Rattle.stringify.specs.Sheet.{size}

module _ (ns : List Node) (s : IsSound ns) where
  abbrev pub all_from : Option ℕ → Bool
  all_from o = are_comments (plain ns (number_trees ns (from_number ns o)))

  split : (n : ℕ) → n < length ns → number_trees ns (from_number ns (Some n)) ≡ tree n (below ns n) (number_trees ns (siblings ns n))
  split n b = number_trees-more ns s n (siblings ns n) b

  pub comment-first : (n : ℕ) (o : Option ℕ) → n < length ns → next_sibling_of ns n ≡ o → is_comment (text_of ns n) ≡ true → all_from o ≡ all_from (Some n)
  comment-first n o b e h =
      ap all_from (sym e) ∙ (ap (λ l. are_comments (plain ns (number_trees ns l))) (from-next ns s n)
      ∙ (ap (λ t. cond t (are_comments (plain ns (number_trees ns (siblings ns n)))) false) (sym h) ∙ ap (λ t. are_comments (plain ns t)) (sym (split n b))))

  pub other-first : (n : ℕ) → n < length ns → is_comment (text_of ns n) ≡ false → all_from (Some n) ≡ false
  other-first n b h = ap (λ t. are_comments (plain ns t)) (split n b) ∙ ap (λ t. cond t (are_comments (plain ns (number_trees ns (siblings ns n)))) false) h

  pub fewer : (n : ℕ) (o : Option ℕ) → n < length ns → next_sibling_of ns n ≡ o → size (number_trees ns (from_number ns o)) < size (number_trees ns (from_number ns (Some n)))
  fewer n o b e = omega (arith, ap size (split n b), ap (λ x. size (number_trees ns (from_number ns x))) e, ap (λ l. size (number_trees ns l)) (from-next ns s n))

  pub all-none : all_from None ≡ true
  all-none = ap (λ t. are_comments (plain ns t)) (number_trees-none ns)

  rest-comments : (n : ℕ) (o : Option ℕ) → next_sibling_of ns n ≡ o → are_comments (plain ns (number_trees ns (siblings ns n))) ≡ all_from o
  rest-comments n o e = ap (λ l. are_comments (plain ns (number_trees ns l))) (sym (from-next ns s n)) ∙ ap all_from e

  pub semicolon-open : (c : Container) (n : ℕ) (o : Option ℕ) → next_sibling_of ns n ≡ o → takes_semicolon (text_of ns n) ≡ true → all_from o ≡ false → semicolon_after c (text_of ns n) (plain ns (number_trees ns (siblings ns n))) ≡ 59 ∷ []
  semicolon-open c n o e t h =
      ap (λ b. cond b (cond (are_comments (plain ns (number_trees ns (siblings ns n)))) (semicolon_text c.semicolon) (59 ∷ [])) []) t
      ∙ ap (λ b. cond b (semicolon_text c.semicolon) (59 ∷ [])) (rest-comments n o e ∙ h)

  pub semicolon-last : (c : Container) (n : ℕ) (o : Option ℕ) → next_sibling_of ns n ≡ o → takes_semicolon (text_of ns n) ≡ true → all_from o ≡ true → semicolon_after c (text_of ns n) (plain ns (number_trees ns (siblings ns n))) ≡ semicolon_text c.semicolon
  semicolon-last c n o e t h =
      ap (λ b. cond b (cond (are_comments (plain ns (number_trees ns (siblings ns n)))) (semicolon_text c.semicolon) (59 ∷ [])) []) t
      ∙ ap (λ b. cond b (semicolon_text c.semicolon) (59 ∷ [])) (rest-comments n o e ∙ h)
