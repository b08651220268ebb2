-- What each write of a join leaves of each row.
use Rattle.std.proofs.Common.{◌≡◌, ◌≢◌, ℕ, zero, suc, ◌+◌, ◌<◌, List, [], ◌∷◌, length, Option, Some, None, refl, ap, ◌∙◌, set, length-set}
use Rattle.std.proofs.lemmas.List.{get_or-set_other, get_or-set_same}
use Rattle.node_rows.specs.declared.rows.Row.{Row}
use Rattle.node_rows.specs.Shown.{row_at, no_row, next, prev}
use Rattle.node_rows.specs.Joins.{placed, with_after, with_before, joined_in}

pub row_kept : {A : Type 0} (f : Row → A) (rs : List Row) (n : ℕ) (x : Row) → f x ≡ f (row_at rs n) → (m : ℕ) → f (row_at (set rs n x) m) ≡ f (row_at rs m)
row_kept f [] n x e m = refl
row_kept f (y ∷ ys) zero x e zero = e
row_kept f (y ∷ ys) zero x e (suc m) = refl
row_kept f (y ∷ ys) (suc n) x e zero = refl
row_kept f (y ∷ ys) (suc n) x e (suc m) = row_kept f ys n x e m

pub row_other : {A : Type 0} (f : Row → A) (rs : List Row) (n : ℕ) (x : Row) (m : ℕ) → m ≢ n → f (row_at (set rs n x) m) ≡ f (row_at rs m)
row_other f rs n x m h = ap f (get_or-set_other rs n m x no_row h)

pub row_same : {A : Type 0} (f : Row → A) (rs : List Row) (n : ℕ) (x : Row) → n < length rs → f (row_at (set rs n x) n) ≡ f x
row_same f rs n x h = ap f (get_or-set_same rs n x no_row h)

-- a field that a write doesn't touch
pub kept_after : {A : Type 0} (f : Row → A) → ((r : Row) (o : Option ℕ) → f (record r { first = o }) ≡ f r) → ((r : Row) (o : Option ℕ) → f (record r { after = o }) ≡ f r) → (rs : List Row) (b : Option ℕ) (p : ℕ) (o : Option ℕ) (m : ℕ) → f (row_at (with_after rs b p o) m) ≡ f (row_at rs m)
kept_after f h k rs None p o m = row_kept f rs p _ (h (row_at rs p) o) m
kept_after f h k rs (Some b) p o m = row_kept f rs b _ (k (row_at rs b) o) m

pub kept_before : {A : Type 0} (f : Row → A) → ((r : Row) (o : Option ℕ) → f (record r { last = o }) ≡ f r) → ((r : Row) (o : Option ℕ) → f (record r { before = o }) ≡ f r) → (rs : List Row) (b : Option ℕ) (p : ℕ) (o : Option ℕ) (m : ℕ) → f (row_at (with_before rs b p o) m) ≡ f (row_at rs m)
kept_before f h k rs None p o m = row_kept f rs p _ (h (row_at rs p) o) m
kept_before f h k rs (Some b) p o m = row_kept f rs b _ (k (row_at rs b) o) m

pub length_after : (rs : List Row) (b : Option ℕ) (p : ℕ) (o : Option ℕ) → length (with_after rs b p o) ≡ length rs
length_after rs None p o = length-set _ _ _
length_after rs (Some b) p o = length-set _ _ _

pub length_before : (rs : List Row) (b : Option ℕ) (p : ℕ) (o : Option ℕ) → length (with_before rs b p o) ≡ length rs
length_before rs None p o = length-set _ _ _
length_before rs (Some b) p o = length-set _ _ _

pub length_joined : (rs : List Row) (p n : ℕ) (b a : Option ℕ) → length (joined_in rs p n b a) ≡ length rs
length_joined rs p n b a = length-set _ _ _ ∙ (length_before _ a p (Some n) ∙ (length_after _ b p (Some n) ∙ length-set _ _ _))

abbrev pub Within : ℕ → Option ℕ → Type 0
Within k None = Unit {0}
Within k (Some x) = x < k

pub after_same : (rs : List Row) (b : Option ℕ) (p : ℕ) (o : Option ℕ) (m : ℕ) → Some m ≢ b → next (with_after rs b p o) m ≡ next rs m
after_same rs None p o m h = row_kept (λ r. r.after) rs p _ refl m
after_same rs (Some b) p o m h = row_other (λ r. r.after) rs b _ m (λ e. h (ap (λ k. Some k) e))

pub after_new : (rs : List Row) (b : Option ℕ) (p : ℕ) (o : Option ℕ) (m : ℕ) → Within (length rs) b → Some m ≡ b → next (with_after rs b p o) m ≡ o
after_new rs None p o m w h = absurd cc
after_new rs (Some b) p o m w h = let e : m ≡ b = cc in rw e (row_same (λ r. r.after) rs b _ w)

pub before_same : (rs : List Row) (a : Option ℕ) (p : ℕ) (o : Option ℕ) (m : ℕ) → Some m ≢ a → prev (with_before rs a p o) m ≡ prev rs m
before_same rs None p o m h = row_kept (λ r. r.before) rs p _ refl m
before_same rs (Some a) p o m h = row_other (λ r. r.before) rs a _ m (λ e. h (ap (λ k. Some k) e))

pub before_new : (rs : List Row) (a : Option ℕ) (p : ℕ) (o : Option ℕ) (m : ℕ) → Within (length rs) a → Some m ≡ a → prev (with_before rs a p o) m ≡ o
before_new rs None p o m w h = absurd cc
before_new rs (Some a) p o m w h = let e : m ≡ a = cc in rw e (row_same (λ r. r.before) rs a _ w)

-- fields of the rows after a join
module _ (rs : List Row) (p n : ℕ) (b a : Option ℕ) where
  pub next_kept : (m : ℕ) → m ≢ n → Some m ≢ b → next (joined_in rs p n b a) m ≡ next rs m
  next_kept m h k =
      row_kept (λ r. r.after) _ p _ refl m
      ∙ (kept_before (λ r. r.after) (λ r o. refl) (λ r o. refl) _ a p (Some n) m
      ∙ (after_same _ b p (Some n) m k ∙ row_other (λ r. r.after) rs n _ m h))

  pub next_new : (m : ℕ) → Within (length rs) b → Some m ≡ b → next (joined_in rs p n b a) m ≡ Some n
  next_new m w k =
      row_kept (λ r. r.after) _ p _ refl m
      ∙ (kept_before (λ r. r.after) (λ r o. refl) (λ r o. refl) _ a p (Some n) m
      ∙ after_new _ b p (Some n) m (let e : length (placed rs n p b a) ≡ length rs = length-set _ _ _ in rw e w) k)

  pub next_here : n < length rs → Some n ≢ b → next (joined_in rs p n b a) n ≡ a
  next_here w k =
      row_kept (λ r. r.after) _ p _ refl n
      ∙ (kept_before (λ r. r.after) (λ r o. refl) (λ r o. refl) _ a p (Some n) n
      ∙ (after_same _ b p (Some n) n k ∙ row_same (λ r. r.after) rs n _ w))

  pub prev_kept : (m : ℕ) → m ≢ n → Some m ≢ a → prev (joined_in rs p n b a) m ≡ prev rs m
  prev_kept m h k =
      row_kept (λ r. r.before) _ p _ refl m
      ∙ (before_same _ a p (Some n) m k
      ∙ (kept_after (λ r. r.before) (λ r o. refl) (λ r o. refl) _ b p (Some n) m ∙ row_other (λ r. r.before) rs n _ m h))

  pub prev_new : (m : ℕ) → Within (length rs) a → Some m ≡ a → prev (joined_in rs p n b a) m ≡ Some n
  prev_new m w k =
      row_kept (λ r. r.before) _ p _ refl m
      ∙ before_new _ a p (Some n) m (let e = length_after (placed rs n p b a) b p (Some n) in let d : length (placed rs n p b a) ≡ length rs = length-set _ _ _ in rw (e, d) w) k

  pub prev_here : n < length rs → Some n ≢ a → prev (joined_in rs p n b a) n ≡ b
  prev_here w k =
      row_kept (λ r. r.before) _ p _ refl n
      ∙ (before_same _ a p (Some n) n k
      ∙ (kept_after (λ r. r.before) (λ r o. refl) (λ r o. refl) _ b p (Some n) n ∙ row_same (λ r. r.before) rs n _ w))

  -- a field that no write of a join touches
  pub all_kept : {A : Type 0} (f : Row → A) → ((r : Row) (o : Option ℕ) (x y : Option ℕ) → f (record r { parent = o; before = x; after = y }) ≡ f r) → ((r : Row) (o : Option ℕ) → f (record r { first = o }) ≡ f r) → ((r : Row) (o : Option ℕ) → f (record r { after = o }) ≡ f r) → ((r : Row) (o : Option ℕ) → f (record r { last = o }) ≡ f r) → ((r : Row) (o : Option ℕ) → f (record r { before = o }) ≡ f r) → ((r : Row) (c : ℕ) → f (record r { tally = record r.tally { count = c } }) ≡ f r) → (m : ℕ) → f (row_at (joined_in rs p n b a) m) ≡ f (row_at rs m)
  all_kept f h1 h2 h3 h4 h5 h6 m =
      row_kept f _ p _ (h6 _ _) m
      ∙ (kept_before f h4 h5 _ a p (Some n) m
      ∙ (kept_after f h2 h3 _ b p (Some n) m ∙ row_kept f rs n _ (h1 _ _ _ _) m))

  pub parent_kept : (m : ℕ) → m ≢ n → (row_at (joined_in rs p n b a) m).parent ≡ (row_at rs m).parent
  parent_kept m h =
      row_kept (λ r. r.parent) _ p _ refl m
      ∙ (kept_before (λ r. r.parent) (λ r o. refl) (λ r o. refl) _ a p (Some n) m
      ∙ (kept_after (λ r. r.parent) (λ r o. refl) (λ r o. refl) _ b p (Some n) m ∙ row_other (λ r. r.parent) rs n _ m h))

  pub parent_here : n < length rs → (row_at (joined_in rs p n b a) n).parent ≡ Some p
  parent_here w =
      row_kept (λ r. r.parent) _ p _ refl n
      ∙ (kept_before (λ r. r.parent) (λ r o. refl) (λ r o. refl) _ a p (Some n) n
      ∙ (kept_after (λ r. r.parent) (λ r o. refl) (λ r o. refl) _ b p (Some n) n ∙ row_same (λ r. r.parent) rs n _ w))

pub after_first_other : (rs : List Row) (b : Option ℕ) (p : ℕ) (o : Option ℕ) (q : ℕ) → q ≢ p → (row_at (with_after rs b p o) q).first ≡ (row_at rs q).first
after_first_other rs None p o q h = row_other (λ r. r.first) rs p _ q h
after_first_other rs (Some b) p o q h = row_kept (λ r. r.first) rs b _ refl q

pub before_last_other : (rs : List Row) (a : Option ℕ) (p : ℕ) (o : Option ℕ) (q : ℕ) → q ≢ p → (row_at (with_before rs a p o) q).last ≡ (row_at rs q).last
before_last_other rs None p o q h = row_other (λ r. r.last) rs p _ q h
before_last_other rs (Some a) p o q h = row_kept (λ r. r.last) rs a _ refl q

module _ (rs : List Row) (p n : ℕ) (b a : Option ℕ) where
  pub first_other : (q : ℕ) → q ≢ p → (row_at (joined_in rs p n b a) q).first ≡ (row_at rs q).first
  first_other q h =
      row_kept (λ r. r.first) _ p _ refl q
      ∙ (kept_before (λ r. r.first) (λ r o. refl) (λ r o. refl) _ a p (Some n) q
      ∙ (after_first_other _ b p (Some n) q h ∙ row_kept (λ r. r.first) rs n _ refl q))

  pub last_other : (q : ℕ) → q ≢ p → (row_at (joined_in rs p n b a) q).last ≡ (row_at rs q).last
  last_other q h =
      row_kept (λ r. r.last) _ p _ refl q
      ∙ (before_last_other _ a p (Some n) q h
      ∙ (kept_after (λ r. r.last) (λ r o. refl) (λ r o. refl) _ b p (Some n) q ∙ row_kept (λ r. r.last) rs n _ refl q))

  pub count_other : (q : ℕ) → q ≢ p → (row_at (joined_in rs p n b a) q).tally.count ≡ (row_at rs q).tally.count
  count_other q h =
      row_other (λ r. r.tally.count) _ p _ q h
      ∙ (kept_before (λ r. r.tally.count) (λ r o. refl) (λ r o. refl) _ a p (Some n) q
      ∙ (kept_after (λ r. r.tally.count) (λ r o. refl) (λ r o. refl) _ b p (Some n) q ∙ row_kept (λ r. r.tally.count) rs n _ refl q))

  pub count_here : p < length rs → (row_at (joined_in rs p n b a) p).tally.count ≡ (row_at rs p).tally.count + 1
  count_here w =
      let e : length (with_before (with_after (placed rs n p b a) b p (Some n)) a p (Some n)) ≡ length rs = length_before _ a p (Some n) ∙ (length_after _ b p (Some n) ∙ length-set _ _ _) in
      row_same (λ r. r.tally.count) _ p _ (rw e w)
      ∙ ap (λ c. c + 1) (kept_before (λ r. r.tally.count) (λ r o. refl) (λ r o. refl) _ a p (Some n) p
      ∙ (kept_after (λ r. r.tally.count) (λ r o. refl) (λ r o. refl) _ b p (Some n) p ∙ row_kept (λ r. r.tally.count) rs n _ refl p))

pub first_none : (rs : List Row) (p n : ℕ) (a : Option ℕ) → p < length rs → (row_at (joined_in rs p n None a) p).first ≡ Some n
first_none rs p n a w =
    let e : length (placed rs n p None a) ≡ length rs = length-set _ _ _ in
    row_kept (λ r. r.first) _ p _ refl p
    ∙ (kept_before (λ r. r.first) (λ r o. refl) (λ r o. refl) _ a p (Some n) p
    ∙ row_same (λ r. r.first) _ p _ (rw e w))

pub first_some : (rs : List Row) (p n b : ℕ) (a : Option ℕ) → (row_at (joined_in rs p n (Some b) a) p).first ≡ (row_at rs p).first
first_some rs p n b a =
    row_kept (λ r. r.first) _ p _ refl p
    ∙ (kept_before (λ r. r.first) (λ r o. refl) (λ r o. refl) _ a p (Some n) p
    ∙ (row_kept (λ r. r.first) _ b _ refl p ∙ row_kept (λ r. r.first) rs n _ refl p))

pub last_none : (rs : List Row) (p n : ℕ) (b : Option ℕ) → p < length rs → (row_at (joined_in rs p n b None) p).last ≡ Some n
last_none rs p n b w =
    let e : length (with_after (placed rs n p b None) b p (Some n)) ≡ length rs = length_after _ b p (Some n) ∙ length-set _ _ _ in
    row_kept (λ r. r.last) _ p _ refl p ∙ row_same (λ r. r.last) _ p _ (rw e w)

pub last_some : (rs : List Row) (p n a : ℕ) (b : Option ℕ) → (row_at (joined_in rs p n b (Some a)) p).last ≡ (row_at rs p).last
last_some rs p n a b =
    row_kept (λ r. r.last) _ p _ refl p
    ∙ (row_kept (λ r. r.last) _ a _ refl p
    ∙ (kept_after (λ r. r.last) (λ r o. refl) (λ r o. refl) _ b p (Some n) p ∙ row_kept (λ r. r.last) rs n _ refl p))
