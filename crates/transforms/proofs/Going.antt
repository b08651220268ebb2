-- Children that go out of a rule one after another, and what that leaves of the others.
use Rattle.std.proofs.Common.{◌≡◌, ◌≢◌, ℕ, suc, ◌+◌, ◌<◌, ◌≤◌, List, [], ◌∷◌, ◌++◌, Bool, true, false, not, length, Option, Some, None, Result, Ok, Err, refl, ap, sym, ◌∙◌, subst, arith, append-nil, append_assoc, nat_eq, eqb, eq-eqb, cond, insert, remove, inl, inr}
use Rattle.std.specs.Prelude.{filter, reverse, is_ok, if◌then◌else◌}
use Rattle.std.specs.List.{count_by, flat_map, position_or_len}
use Rattle.std.specs.declared.alloc.AllocError.{AllocError}
use Rattle.std.proofs.lemmas.Bool.{true≢false, false≢true, cases_Bool}
use Rattle.std.proofs.lemmas.List.{reverse-append}
use Rattle.std.proofs.lemmas.List.Sums.{sum_by-cons, sum_by-append}
use Rattle.css_tree.specs.declared.node.Field.TheVariants as F
use Rattle.css_tree.specs.declared.node.NodeText.{NodeText}
use Rattle.css_tree.specs.Changes.{has_field, with_field}
use Rattle.node_rows.specs.Nodes.{Node, text_of, parent_of, children_of, place_of, linked, unlinked, with_text}
use Rattle.node_rows.specs.Sound.{IsSound, is_number}
use Rattle.node_rows.specs.Marks.{mark, dirtied}
use Rattle.node_rows.proofs.Climb.{same_from_eqb}
use Rattle.node_rows.proofs.Edits.{Relinked-writes, parent-inside, none_if}
use Rattle.node_rows.proofs.Kept.{text-other}
use Rattle.node_rows.proofs.Places.{place-inside, place-insert}
use Rattle.node_rows.proofs.SameLinks.{SameLinks, SameLinks-self, SameLinks-text, IsSound-same}
use Rattle.node_store.specs.declared.item.Edit.{Edit}
use Rattle.node_store.specs.declared.item.Edit.TheVariants.{Set, Insert, Remove}
use Rattle.node_store.specs.Forest.{Forest}
use Rattle.node_store.specs.Edits.{changes, removed_from, apply, apply_all}
use Rattle.node_store.proofs.Shapes.{SameLinks-then, SameButMarks-then, marked-same, dirtied-same, linked-texts, unlinked-texts}
use Rattle.plugin_api.specs.Alone.{EditedAlone}
use Rattle.plugin_api.specs.Effect.{changing, is_movable, own_selector, moved_out}
use Rattle.plugin_api.proofs.EditedLemmas.{apply_all-append}
use Rattle.plugin_api.proofs.AloneLemmas.{alone_unmade, alone-then}
use Rattle.transforms.specs.Fronts.{MakesFront}
use Rattle.transforms.specs.Reads.{selector_of}
use Rattle.transforms.proofs.Planned.{apart}

-- a call that stopped before its last edits
pub front-stopped : (a b : Forest) (es fs : List Edit) (r s : Result (Unit {0}) AllocError) → MakesFront a b es r → is_ok r ≡ false → is_ok s ≡ false → MakesFront a b (es ++ fs) s
front-stopped a b es fs (Ok _) s m h k = absurd (true≢false h)
front-stopped a b es fs (Err _) (Ok _) m h k = absurd (true≢false k)
front-stopped a b es fs (Err _) (Err _) m h k = (m.0, m.1 ++ fs, ap (λ l. l ++ fs) m.2 ∙ append_assoc m.0 m.1 fs, m.3)

pub front-then : (a b c : Forest) (es fs : List Edit) (r : Result (Unit {0}) AllocError) → EditedAlone a b es → MakesFront b c fs r → MakesFront a c (es ++ fs) r
front-then a b c es fs (Ok _) h m = alone-then a b c es fs h m
front-then a b c es fs (Err _) h m = (es ++ m.0, m.1, ap (λ l. es ++ l) m.2 ∙ sym (append_assoc es m.0 m.1), alone-then a b c es m.0 h m.3)

pub front-ok : (a b : Forest) (es : List Edit) (r : Result (Unit {0}) AllocError) → MakesFront a b es r → is_ok r ≡ true → EditedAlone a b es
front-ok a b es (Ok _) m h = m
front-ok a b es (Err _) m h = absurd (false≢true h)

either : (P : List Edit → Type 0) (b : Bool) (e : Edit) → P (e ∷ []) → P [] → P (if b then e ∷ [] else [])
either P true e h g = h
either P false e h g = g

-- another selector leaves the links, and the texts of other nodes
pub selector-links : (ns : List Node) (c : ℕ) (t : List ℕ) → SameLinks ns (apply_all ns (changing ns (Set F.Selector c t ∷ [])))
selector-links ns c t =
    let x : NodeText = with_field F.Selector t (text_of ns c) in
    let us : List Node = with_text ns c x in
    either (λ es. SameLinks ns (apply_all ns es)) (changes ns (Set F.Selector c t)) (Set F.Selector c t) (SameLinks-then ns us (mark us c) (SameLinks-text ns c x) (marked-same us c).links) (SameLinks-self ns)

selector-texts : (ns : List Node) (c : ℕ) (t : List ℕ) (m : ℕ) → m ≢ c → text_of (apply_all ns (changing ns (Set F.Selector c t ∷ []))) m ≡ text_of ns m
selector-texts ns c t m d =
    let x : NodeText = with_field F.Selector t (text_of ns c) in
    let us : List Node = with_text ns c x in
    either (λ es. text_of (apply_all ns es) m ≡ text_of ns m) (changes ns (Set F.Selector c t)) (Set F.Selector c t) ((marked-same us c).texts.texts m ∙ text-other ns c x m d) refl

-- a child of the rule went out, and the rest stays
record Stays (ns ms : List Node) (rule c p : ℕ) : Type 0 where
  parents : (m : ℕ) → m ≢ c → parent_of ms m ≡ parent_of ns m
  texts : (m : ℕ) → m ≢ c → text_of ms m ≡ text_of ns m
  place : place_of ms p rule ≡ place_of ns p rule

moved-stays : (ns : List Node) (rule c p : ℕ) → IsSound ns → parent_of ns c ≡ Some rule → parent_of ns rule ≡ Some p
    → Stays ns (apply (apply ns (Remove c)) (Insert c p (suc (place_of ns p rule)))) rule c p
moved-stays ns rule c p s e g =
    let at : ℕ = suc (place_of ns p rule) in
    let ks : List Node = unlinked ns rule (place_of ns rule c) c in
    let ls : List Node = mark ks rule in
    let us : List Node = linked ls p at c in
    let ms : List Node = mark (dirtied us c) p in
    let out = marked-same ks rule in
    let cut = Relinked-writes ns rule c (remove (children_of ns rule) (place_of ns rule c)) None (s.below c rule e) (parent-inside ns c rule e) in
    let short : length ls ≡ length ns = out.links.same_length ∙ cut.same_length in
    let put = Relinked-writes ls p c (insert (children_of ls p) at c) (Some p) (rw short (s.below rule p g)) (rw short (parent-inside ns c rule e)) in
    let same = SameButMarks-then us (dirtied us c) ms (dirtied-same us c) (marked-same (dirtied us c) p) in
    let list : children_of ms p ≡ insert (children_of ns p) at c = same.links.lists p ∙ (put.list_here ∙ ap (λ xs. insert xs at c) (out.links.lists p ∙ cut.list_other p (apart ns rule p s g))) in
    let inside = place-inside ns s rule p g in
    let stays : Stays ns ms rule c p = record {
      parents = λ m d. same.links.parents m ∙ (put.parent_other m d ∙ (out.links.parents m ∙ cut.parent_other m d));
      texts = λ m d. same.texts.texts m ∙ ((linked-texts ls p at c).texts m ∙ (out.texts.texts m ∙ (unlinked-texts ns rule (place_of ns rule c) c).texts m));
      place = ap (position_or_len (nat_eq rule)) list ∙ (place-insert rule c (children_of ns p) at (apart ns c rule s e) (omega (arith, inside))).0 (omega arith);
    } in
    subst (λ xs. Stays ns (apply xs (Insert c p at)) rule c p) (sym (ap (removed_from ns c) e)) stays

stays-out : (ns : List Node) (rule c p : ℕ) (sel : List ℕ) → IsSound ns → parent_of ns c ≡ Some rule → parent_of ns rule ≡ Some p → Stays ns (apply_all ns (moved_out ns rule p sel c)) rule c p
stays-out ns rule c p sel s e g =
    let t : List ℕ = sel ++ own_selector (text_of ns c) in
    let es : List Edit = changing ns (Set F.Selector c t ∷ []) in
    let ls : List Node = apply_all ns es in
    let l = selector-links ns c t in
    let place : place_of ls p rule ≡ place_of ns p rule = ap (position_or_len (nat_eq rule)) (l.lists p) in
    let w = moved-stays ls rule c p (IsSound-same ns ls l s) (l.parents c ∙ e) (l.parents rule ∙ g) in
    let fs : List Edit = Remove c ∷ Insert c p (suc (place_of ns p rule)) ∷ [] in
    let both : apply (apply ls (Remove c)) (Insert c p (suc (place_of ls p rule))) ≡ apply_all ns (es ++ fs) =
    ap (λ i. apply (apply ls (Remove c)) (Insert c p (suc i))) place ∙ sym (apply_all-append ns es fs) in
    subst (λ ms. Stays ns ms rule c p) both (record {
      parents = λ m d. w.parents m d ∙ l.parents m;
      texts = λ m d. w.texts m d ∙ selector-texts ns c t m d;
      place = w.place ∙ place;
    })

-- the edits of a child
unfoldable pub out : Forest → ℕ → ℕ → ℕ → List Edit
out f rule p c = moved_out f.nodes rule p (selector_of (text_of f.nodes rule)) c

-- the edits of all of them
unfoldable pub outs : Forest → ℕ → ℕ → List ℕ → List Edit
outs f rule p cs = flat_map (moved_out f.nodes rule p (selector_of (text_of f.nodes rule))) (reverse cs)

-- The children that can be moved go out of the rule, where those of todo are left, and these and the rule are as they were.
pub record Going (old now : Forest) (rule p : ℕ) (todo : List ℕ) : Type 0 where
  pub made : List Edit
  pub all : outs old rule p (filter (λ m. is_movable (text_of old.nodes m)) (children_of old.nodes rule)) ≡ made ++ outs old rule p todo
  pub edited : EditedAlone old now made
  pub parent : parent_of now.nodes rule ≡ Some p
  pub place : place_of now.nodes p rule ≡ place_of old.nodes p rule
  pub text : text_of now.nodes rule ≡ text_of old.nodes rule
  pub texts : (c : ℕ) → 0 < count_by (eqb c) todo → text_of now.nodes c ≡ text_of old.nodes c
  pub parents : (c : ℕ) → 0 < count_by (eqb c) todo → parent_of now.nodes c ≡ Some rule
  pub movable : (c : ℕ) → 0 < count_by (eqb c) todo → is_movable (text_of old.nodes c) ≡ true
  pub once : (c : ℕ) → count_by (eqb c) todo ≤ 1

module _ (q : ℕ → Bool) (m : ℕ) where
  count_if : (x : ℕ) (ys xs : List ℕ) (b : Bool) → count_by (eqb m) ys ≤ count_by (eqb m) xs → count_by (eqb m) (if b then x ∷ ys else ys) ≤ count_by (eqb m) (x ∷ xs)
  count_if x ys xs true h = omega (arith, h, sum_by-cons (λ y. cond (eqb m y) 1 0) x ys, sum_by-cons (λ y. cond (eqb m y) 1 0) x xs)
  count_if x ys xs false h = omega (arith, h, sum_by-cons (λ y. cond (eqb m y) 1 0) x xs)

  filter-count : (xs : List ℕ) → count_by (eqb m) (filter q xs) ≤ count_by (eqb m) xs
  filter-count [] = omega arith
  filter-count (x ∷ xs) = count_if x (filter q xs) xs (q x) (filter-count xs)

  holds_if : (x : ℕ) (ys : List ℕ) (b : Bool) → q x ≡ b → (0 < count_by (eqb m) ys → q m ≡ true) → 0 < count_by (eqb m) (if b then x ∷ ys else ys) → q m ≡ true
  holds_if x ys true e ih h = elim (cases_Bool (eqb m x)) [
    | inl i ↦ ap q (same_from_eqb m x i) ∙ e
    | inr f ↦ ih (omega (arith, h, sum_by-cons (λ y. cond (eqb m y) 1 0) x ys, none_if f))
  ]
  holds_if x ys false e ih h = ih h

  filter-holds : (xs : List ℕ) → 0 < count_by (eqb m) (filter q xs) → q m ≡ true
  filter-holds [] h = absurd (omega (arith, h))
  filter-holds (x ∷ xs) h = holds_if x (filter q xs) (q x) refl (filter-holds xs) h

held : (o : Option ℕ) (p n : ℕ) → n ≡ (if is_number o p then 1 else 0) → 0 < n → o ≡ Some p
held None p n e h = absurd (omega (arith, e, h))
held (Some q) p n e h = elim (cases_Bool (eqb q p)) [
  | inl t ↦ ap Some (same_from_eqb q p t)
  | inr f ↦ (let g : Bool → ℕ = λ b. if b then 1 else 0 in absurd (omega (arith, e ∙ ap g f, h)))
]

few : (b : Bool) (n : ℕ) → n ≡ (if b then 1 else 0) → n ≤ 1
few true n e = omega (arith, e)
few false n e = omega (arith, e)

pub going-start : (old : Forest) (rule p : ℕ) → IsSound old.nodes → parent_of old.nodes rule ≡ Some p → Going old old rule p (filter (λ m. is_movable (text_of old.nodes m)) (children_of old.nodes rule))
going-start old rule p s e =
    let ns = old.nodes in
    let q : ℕ → Bool = λ m. is_movable (text_of ns m) in
    let xs = children_of ns rule in
    record {
      made = [];
      all = refl;
      edited = alone_unmade old old refl;
      parent = e;
      place = refl;
      text = refl;
      texts = λ c h. refl;
      parents = λ c h. held (parent_of ns c) rule (count_by (eqb c) xs) (s.listed c rule) (omega (arith, h, filter-count q c xs));
      movable = λ c h. filter-holds q c xs h;
      once = λ c. (let i = few (is_number (parent_of ns c) rule) (count_by (eqb c) xs) (s.listed c rule) in omega (arith, i, filter-count q c xs));
    }

count-last : (c m : ℕ) (xs : List ℕ) → count_by (eqb m) (xs ++ c ∷ []) ≡ count_by (eqb m) xs + count_by (eqb m) (c ∷ [])
count-last c m xs = sum_by-append (λ y. cond (eqb m y) 1 0) xs (c ∷ [])

count-one : (c : ℕ) → count_by (eqb c) (c ∷ []) ≡ 1
count-one c = let f : Bool → ℕ = λ b. cond b 1 0 in omega (arith, sum_by-cons (λ y. cond (eqb c y) 1 0) c [], ap f (eq-eqb c c refl))

last-there : (c : ℕ) (xs : List ℕ) → 0 < count_by (eqb c) (xs ++ c ∷ [])
last-there c xs = omega (arith, count-last c c xs, count-one c)

out-same : (ns ms : List Node) (rule p c : ℕ) (x y : NodeText) → x ≡ y → text_of ms c ≡ text_of ns c → place_of ms p rule ≡ place_of ns p rule → moved_out ms rule p (selector_of x) c ≡ moved_out ns rule p (selector_of y) c
out-same ns ms rule p c x y e f g =
    let es : List ℕ → NodeText → ℕ → List Edit = λ sel z i. (if not (has_field F.Selector (sel ++ own_selector z) z) then Set F.Selector c (sel ++ own_selector z) ∷ [] else []) ++ Remove c ∷ Insert c p (suc i) ∷ [] in
    ap (λ z. es (selector_of z) (text_of ms c) (place_of ms p rule)) e ∙ (ap (λ z. es (selector_of y) z (place_of ms p rule)) f ∙ ap (λ i. es (selector_of y) (text_of ns c) i) g)

module _ (old now : Forest) (rule p c : ℕ) (xs : List ℕ) (g : Going old now rule p (xs ++ c ∷ [])) where
  pub out-now : out now rule p c ≡ out old rule p c
  unfolding out
  out-now = out-same old.nodes now.nodes rule p c (text_of now.nodes rule) (text_of old.nodes rule) g.text (g.texts c (last-there c xs)) g.place

  all-next : outs old rule p (filter (λ m. is_movable (text_of old.nodes m)) (children_of old.nodes rule)) ≡ g.made ++ (out old rule p c ++ outs old rule p xs)
  unfolding out outs
  all-next = g.all ∙ ap (λ l. g.made ++ flat_map (moved_out old.nodes rule p (selector_of (text_of old.nodes rule))) l) (reverse-append xs (c ∷ []))

  pub last-parent : parent_of now.nodes c ≡ Some rule
  last-parent = g.parents c (last-there c xs)

  pub last-movable : is_movable (text_of now.nodes c) ≡ true
  last-movable = ap is_movable (g.texts c (last-there c xs)) ∙ g.movable c (last-there c xs)

  differs : (m : ℕ) → 0 < count_by (eqb m) xs → m ≢ c
  differs m h z = omega (arith, subst (λ k. 0 < count_by (eqb k) xs) z h, g.once c, count-last c c xs, count-one c)

  wider : (m : ℕ) → 0 < count_by (eqb m) xs → 0 < count_by (eqb m) (xs ++ c ∷ [])
  wider m h = omega (arith, h, count-last c m xs)

  pub going-next : (new : Forest) → IsSound now.nodes → EditedAlone now new (out now rule p c) → Going old new rule p xs
  unfolding out
  going-next new s h =
      let k : Stays now.nodes new.nodes rule c p = subst (λ ms. Stays now.nodes ms rule c p) (sym h.edited.nodes) (stays-out now.nodes rule c p (selector_of (text_of now.nodes rule)) s last-parent g.parent) in
      let d : rule ≢ c = apart now.nodes c rule s last-parent in
      record {
        made = g.made ++ out old rule p c;
        all = all-next ∙ sym (append_assoc g.made (out old rule p c) (outs old rule p xs));
        edited = alone-then old now new g.made (out old rule p c) g.edited (subst (EditedAlone now new) out-now h);
        parent = k.parents rule d ∙ g.parent;
        place = k.place ∙ g.place;
        text = k.texts rule d ∙ g.text;
        texts = λ m i. k.texts m (differs m i) ∙ g.texts m (wider m i);
        parents = λ m i. k.parents m (differs m i) ∙ g.parents m (wider m i);
        movable = λ m i. g.movable m (wider m i);
        once = λ m. omega (arith, g.once m, count-last c m xs);
      }

  pub going-stopped : (new : Forest) (r s : Result (Unit {0}) AllocError) → MakesFront now new (out now rule p c) r → is_ok r ≡ false → is_ok s ≡ false
      → MakesFront old new (outs old rule p (filter (λ m. is_movable (text_of old.nodes m)) (children_of old.nodes rule))) s
  going-stopped new r s h a b =
      let f = front-stopped now new (out old rule p c) (outs old rule p xs) r s (subst (λ es. MakesFront now new es r) out-now h) a b in
      subst (λ es. MakesFront old new es s) (sym all-next) (front-then old now new g.made (out old rule p c ++ outs old rule p xs) s g.edited f)

pub going-done : (old now : Forest) (rule p : ℕ) (todo : List ℕ) → Going old now rule p todo → todo ≡ [] → EditedAlone old now (outs old rule p (filter (λ m. is_movable (text_of old.nodes m)) (children_of old.nodes rule)))
unfolding outs
going-done old now rule p todo g e =
    let whole = g.all ∙ (ap (λ l. g.made ++ flat_map (moved_out old.nodes rule p (selector_of (text_of old.nodes rule))) (reverse l)) e ∙ append-nil g.made) in
    subst (EditedAlone old now) (sym whole) g.edited

pub none_left : (xs : List ℕ) → length xs ≡ 0 → xs ≡ []
none_left [] e = refl
none_left (x ∷ xs) e = absurd (omega (arith, e))
