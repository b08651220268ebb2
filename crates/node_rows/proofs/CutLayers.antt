-- What each write of a cut leaves of each row.
use Rattle.std.proofs.Common.{◌≡◌, ◌≢◌, ℕ, ◌-◌, ◌<◌, List, length, Option, Some, None, refl, ap, ◌∙◌, length-set}
use Rattle.node_rows.specs.declared.rows.Row.{Row}
use Rattle.node_rows.specs.Shown.{row_at, next, prev}
use Rattle.node_rows.specs.Joins.{freed, with_after, with_before, cut_from}
use Rattle.node_rows.proofs.Layers.{row_kept, row_other, row_same, kept_after, kept_before, length_after, length_before, Within, after_same, after_new, before_same, before_new, after_first_other, before_last_other}

-- fields of the rows after a cut
module _ (rs : List Row) (p n : ℕ) (b a : Option ℕ) where
  length_freed : length (freed rs n) ≡ length rs
  length_freed = length-set _ _ _

  pub length_cut : length (cut_from rs p n b a) ≡ length rs
  length_cut = length-set _ _ _ ∙ (length_before _ a p b ∙ (length_after _ b p a ∙ length_freed))

  pub next_kept : (m : ℕ) → m ≢ n → Some m ≢ b → next (cut_from rs p n b a) m ≡ next rs m
  next_kept m h k =
      row_kept (λ r. r.after) _ p _ refl m
      ∙ (kept_before (λ r. r.after) (λ r o. refl) (λ r o. refl) _ a p b m
      ∙ (after_same _ b p a m k ∙ row_other (λ r. r.after) rs n _ m h))

  pub next_new : (m : ℕ) → Within (length rs) b → Some m ≡ b → next (cut_from rs p n b a) m ≡ a
  next_new m w k =
      row_kept (λ r. r.after) _ p _ refl m
      ∙ (kept_before (λ r. r.after) (λ r o. refl) (λ r o. refl) _ a p b m
      ∙ after_new _ b p a m (rw length_freed w) k)

  pub prev_kept : (m : ℕ) → m ≢ n → Some m ≢ a → prev (cut_from rs p n b a) m ≡ prev rs m
  prev_kept m h k =
      row_kept (λ r. r.before) _ p _ refl m
      ∙ (before_same _ a p b m k
      ∙ (kept_after (λ r. r.before) (λ r o. refl) (λ r o. refl) _ b p a m ∙ row_other (λ r. r.before) rs n _ m h))

  pub prev_new : (m : ℕ) → Within (length rs) a → Some m ≡ a → prev (cut_from rs p n b a) m ≡ b
  prev_new m w k =
      row_kept (λ r. r.before) _ p _ refl m
      ∙ before_new _ a p b m (rw (length_after (freed rs n) b p a, length_freed) w) k

  -- a field that no write of a cut touches
  pub all_kept : {A : Type 0} (f : Row → A) → ((r : Row) → f (record r { parent = None; before = None; after = None }) ≡ f r) → ((r : Row) (o : Option ℕ) → f (record r { first = o }) ≡ f r) → ((r : Row) (o : Option ℕ) → f (record r { after = o }) ≡ f r) → ((r : Row) (o : Option ℕ) → f (record r { last = o }) ≡ f r) → ((r : Row) (o : Option ℕ) → f (record r { before = o }) ≡ f r) → ((r : Row) (c : ℕ) → f (record r { tally = record r.tally { count = c } }) ≡ f r) → (m : ℕ) → f (row_at (cut_from rs p n b a) m) ≡ f (row_at rs m)
  all_kept f h1 h2 h3 h4 h5 h6 m =
      row_kept f _ p _ (h6 _ _) m
      ∙ (kept_before f h4 h5 _ a p b m
      ∙ (kept_after f h2 h3 _ b p a m ∙ row_kept f rs n _ (h1 _) m))

  pub parent_kept : (m : ℕ) → m ≢ n → (row_at (cut_from rs p n b a) m).parent ≡ (row_at rs m).parent
  parent_kept m h =
      row_kept (λ r. r.parent) _ p _ refl m
      ∙ (kept_before (λ r. r.parent) (λ r o. refl) (λ r o. refl) _ a p b m
      ∙ (kept_after (λ r. r.parent) (λ r o. refl) (λ r o. refl) _ b p a m ∙ row_other (λ r. r.parent) rs n _ m h))

  pub parent_here : n < length rs → (row_at (cut_from rs p n b a) n).parent ≡ None
  parent_here w =
      row_kept (λ r. r.parent) _ p _ refl n
      ∙ (kept_before (λ r. r.parent) (λ r o. refl) (λ r o. refl) _ a p b n
      ∙ (kept_after (λ r. r.parent) (λ r o. refl) (λ r o. refl) _ b p a n ∙ row_same (λ r. r.parent) rs n _ w))

  pub first_other : (q : ℕ) → q ≢ p → (row_at (cut_from rs p n b a) q).first ≡ (row_at rs q).first
  first_other q h =
      row_kept (λ r. r.first) _ p _ refl q
      ∙ (kept_before (λ r. r.first) (λ r o. refl) (λ r o. refl) _ a p b q
      ∙ (after_first_other _ b p a q h ∙ row_kept (λ r. r.first) rs n _ refl q))

  pub last_other : (q : ℕ) → q ≢ p → (row_at (cut_from rs p n b a) q).last ≡ (row_at rs q).last
  last_other q h =
      row_kept (λ r. r.last) _ p _ refl q
      ∙ (before_last_other _ a p b q h
      ∙ (kept_after (λ r. r.last) (λ r o. refl) (λ r o. refl) _ b p a q ∙ row_kept (λ r. r.last) rs n _ refl q))

  pub count_other : (q : ℕ) → q ≢ p → (row_at (cut_from rs p n b a) q).tally.count ≡ (row_at rs q).tally.count
  count_other q h =
      row_other (λ r. r.tally.count) _ p _ q h
      ∙ (kept_before (λ r. r.tally.count) (λ r o. refl) (λ r o. refl) _ a p b q
      ∙ (kept_after (λ r. r.tally.count) (λ r o. refl) (λ r o. refl) _ b p a q ∙ row_kept (λ r. r.tally.count) rs n _ refl q))

  pub count_here : p < length rs → (row_at (cut_from rs p n b a) p).tally.count ≡ (row_at rs p).tally.count - 1
  count_here w =
      let e : length (with_before (with_after (freed rs n) b p a) a p b) ≡ length rs = length_before _ a p b ∙ (length_after _ b p a ∙ length_freed) in
      row_same (λ r. r.tally.count) _ p _ (rw e w)
      ∙ ap (λ c. c - 1) (kept_before (λ r. r.tally.count) (λ r o. refl) (λ r o. refl) _ a p b p
      ∙ (kept_after (λ r. r.tally.count) (λ r o. refl) (λ r o. refl) _ b p a p ∙ row_kept (λ r. r.tally.count) rs n _ refl p))

module _ (rs : List Row) (p n : ℕ) where
  pub first_none : (a : Option ℕ) → p < length rs → (row_at (cut_from rs p n None a) p).first ≡ a
  first_none a w =
      let e : length (freed rs n) ≡ length rs = length-set _ _ _ in
      row_kept (λ r. r.first) _ p _ refl p
      ∙ (kept_before (λ r. r.first) (λ r o. refl) (λ r o. refl) _ a p None p
      ∙ row_same (λ r. r.first) _ p _ (rw e w))

  pub first_some : (b : ℕ) (a : Option ℕ) → (row_at (cut_from rs p n (Some b) a) p).first ≡ (row_at rs p).first
  first_some b a =
      row_kept (λ r. r.first) _ p _ refl p
      ∙ (kept_before (λ r. r.first) (λ r o. refl) (λ r o. refl) _ a p (Some b) p
      ∙ (row_kept (λ r. r.first) _ b _ refl p ∙ row_kept (λ r. r.first) rs n _ refl p))

  pub last_none : (b : Option ℕ) → p < length rs → (row_at (cut_from rs p n b None) p).last ≡ b
  last_none b w =
      let e : length (with_after (freed rs n) b p None) ≡ length rs = length_after _ b p None ∙ length-set _ _ _ in
      row_kept (λ r. r.last) _ p _ refl p ∙ row_same (λ r. r.last) _ p _ (rw e w)

  pub last_some : (a : ℕ) (b : Option ℕ) → (row_at (cut_from rs p n b (Some a)) p).last ≡ (row_at rs p).last
  last_some a b =
      row_kept (λ r. r.last) _ p _ refl p
      ∙ (row_kept (λ r. r.last) _ a _ refl p
      ∙ (kept_after (λ r. r.last) (λ r o. refl) (λ r o. refl) _ b p (Some a) p ∙ row_kept (λ r. r.last) rs n _ refl p))
