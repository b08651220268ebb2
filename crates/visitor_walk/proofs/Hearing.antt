-- What the hooks of a shelf tell and say after a call.
use Rattle.std.proofs.Common.{◌≡◌, inl, inr, ℕ, suc, ◌+◌, List, [], ◌∷◌, ◌++◌, Bool, true, false, length, Option, Some, None, Result, Ok, Err, refl, ap, sym, ◌∙◌, subst, map, append_assoc, append-nil, eq-eqb}
use Rattle.std.specs.Prelude.{nat_eq, ◌&&◌}
use Rattle.std.specs.declared.alloc.AllocError.{AllocError}
use Rattle.std.proofs.lemmas.Bool.{and_parts, and_from, false≢true}
use Rattle.node_rows.proofs.Climb.{same_from_eqb}
use Rattle.node_store.specs.declared.item.Edit.{Edit}
use Rattle.node_store.specs.declared.item.Item.{Item}
use Rattle.node_store.specs.declared.item.Item.TheVariants as I
use Rattle.node_store.specs.declared.item.Moment.{Moment}
use Rattle.node_store.specs.Forest.{Forest}
use Rattle.plugin_api.specs.declared.visitor.Told.{Told}
use Rattle.plugin_api.specs.declared.visitor.VisitFault.TheVariants.{Plugin, Memory}
use Rattle.plugin_api.specs.Visit.{Answer, told_after, said_after, Tells as CallTells}
use Rattle.plugin_api.specs.Shelf.{HookSeen, PluginSeen, hook_at, VisitedAt}
use Rattle.visitor_walk.specs.Called.{IsBack}
use Rattle.visitor_walk.specs.Heard.{edits_ahead, told_of, said_of, told_more, Tells, Says, Heard}
use Rattle.visitor_walk.proofs.Chunks as Chunks
use Rattle.visitor_walk.proofs.Calling.{other_hook, hook_now, hook_before}

abbrev pub ok_of : {A : Type 0} → A → Result A AllocError
ok_of x = Ok x

abbrev pub err_of : {A : Type 0} → AllocError → Result A AllocError
err_of e = Err e

-- a call, its edits, and what follows
abbrev pub call_chunk : ℕ → ℕ → Moment → List Edit → List Item → List Item
call_chunk p h m es tail = I.Call p h m ∷ (map (λ e. I.Edit e) es ++ tail)

one_more : (o : Option (List Told)) (xs : List Told) (t : Told) → told_after (told_more o xs) t ≡ told_more o (xs ++ t ∷ [])
one_more None xs t = refl
one_more (Some ts) xs t = ap Some (append_assoc ts xs (t ∷ []))

after_more : (o : Option (List Told)) (t : Told) → told_after o t ≡ told_more o (t ∷ [])
after_more None t = refl
after_more (Some ts) t = refl

pub none_more : (o : Option (List Told)) → told_more o [] ≡ o
none_more None = refl
none_more (Some ts) = ap Some (append-nil ts)

-- what a visitor tells of a call that came back
tells_back : (a : Answer) (fault : Option (List ℕ)) (o w n : Option (List Told)) (xs : List Told) (t : Told) → IsBack a fault → CallTells w n t a → w ≡ told_more o xs → n ≡ told_more o (xs ++ t ∷ [])
tells_back (Ok u) fault o w n xs t b c e = c ∙ (ap (λ x. told_after x t) e ∙ one_more o xs t)
tells_back (Err (Plugin text)) fault o w n xs t b c e = c ∙ (ap (λ x. told_after x t) e ∙ one_more o xs t)
tells_back (Err (Memory x)) fault o w n xs t b c e = absurd b

says_back : (a : Answer) (fault : Option (List ℕ)) (o w n xs : List (List ℕ)) → IsBack a fault → n ≡ said_after w a → w ≡ o ++ xs → n ≡ o ++ (xs ++ said_of 0 0 true (I.Back fault ∷ []))
says_back (Ok u) None o w n xs b c e = c ∙ (e ∙ ap (λ l. o ++ l) (sym (append-nil xs)))
says_back (Ok u) (Some t) o w n xs b c e = absurd cc
says_back (Err (Plugin text)) None o w n xs b c e = absurd cc
says_back (Err (Plugin text)) (Some t) o w n xs b c e = let i : t ≡ text = cc in c ∙ (ap (λ l. l ++ text ∷ []) e ∙ (append_assoc o xs (text ∷ []) ∙ ap (λ x. o ++ (xs ++ x ∷ [])) (sym i)))
says_back (Err (Memory x)) fault o w n xs b c e = absurd b

tells_open : (a : Answer) (o w n : Option (List Told)) (xs : List Told) (t : Told) → CallTells w n t a → w ≡ told_more o xs → (rest : List Told) × (told_more n rest ≡ told_more o (xs ++ t ∷ []))
tells_open (Ok u) o w n xs t c e = ([], none_more n ∙ (c ∙ (ap (λ x. told_after x t) e ∙ one_more o xs t)))
tells_open (Err (Plugin text)) o w n xs t c e = ([], none_more n ∙ (c ∙ (ap (λ x. told_after x t) e ∙ one_more o xs t)))
tells_open (Err (Memory x)) o w n xs t (inl c) e = (t ∷ [], ap (λ y. told_more y (t ∷ [])) (c ∙ e) ∙ (sym (after_more (told_more o xs) t) ∙ one_more o xs t))
tells_open (Err (Memory x)) o w n xs t (inr c) e = ([], none_more n ∙ (c ∙ (ap (λ x. told_after x t) e ∙ one_more o xs t)))

says_open : (a : Answer) (o w n xs : List (List ℕ)) → n ≡ said_after w a → w ≡ o ++ xs → (rest : List (List ℕ)) × (n ≡ o ++ ((xs ++ []) ++ rest))
says_open (Ok u) o w n xs c e = ([], c ∙ (e ∙ ap (λ l. o ++ l) (sym (append-nil (xs ++ []) ∙ append-nil xs))))
says_open (Err (Plugin text)) o w n xs c e = (text ∷ [], c ∙ (ap (λ l. l ++ text ∷ []) e ∙ (append_assoc o xs (text ∷ []) ∙ ap (λ l. o ++ (l ++ text ∷ [])) (sym (append-nil xs)))))
says_open (Err (Memory x)) o w n xs c e = ([], c ∙ (e ∙ ap (λ l. o ++ l) (sym (append-nil (xs ++ []) ∙ append-nil xs))))

-- what is told and said of a call, its edits, and its end, by the hook or by another
module _ (p h : ℕ) (m : Moment) (es : List Edit) (tail : List Item) (z : edits_ahead tail ≡ 0) (none : (i j k : ℕ) → told_of i j k tail ≡ []) where
  told_here : (i j at : ℕ) → (nat_eq p i && nat_eq h j) ≡ true → told_of i j at (call_chunk p h m es tail) ≡ record { moment = m; at = suc at; edits = length es } ∷ []
  told_here i j at e = rw e (ap (λ n. record { moment = m; at = suc at; edits = n } ∷ told_of i j (suc at) (map (λ e. I.Edit e) es ++ tail)) (Chunks.edits_count es tail z) ∙ ap (λ l. record { moment = m; at = suc at; edits = length es } ∷ l) (Chunks.edits_told i j (suc at) es tail (none i j)))

  told_else : (i j at : ℕ) → (nat_eq p i && nat_eq h j) ≡ false → told_of i j at (call_chunk p h m es tail) ≡ []
  told_else i j at e = rw e (Chunks.edits_told i j (suc at) es tail (none i j))

  said_at : (i j : ℕ) (b d : Bool) → (nat_eq p i && nat_eq h j) ≡ b → said_of i j d (call_chunk p h m es tail) ≡ said_of i j b tail
  said_at i j b d e = Chunks.edits_said i j (nat_eq p i && nat_eq h j) es tail ∙ ap (λ x. said_of i j x tail) e

-- a hook that tells and says nothing of what follows
quiet_heard : {A : Type 0} (r : Result A AllocError) (i j at : ℕ) (xs ys : List Item) (o n : Option HookSeen) → edits_ahead ys ≡ 0 → told_of i j (at + length xs) ys ≡ [] → ((b : Bool) → said_of i j b ys ≡ []) → Heard r i j at xs o n → Heard r i j at (xs ++ ys) o n
quiet_heard r i j at xs ys None n z t q k = k
quiet_heard {A} r i j at xs ys (Some o) n z t q k =
    let told : told_of i j at (xs ++ ys) ≡ told_of i j at xs = Chunks.told-append i j at xs ys z ∙ (ap (λ l. told_of i j at xs ++ l) t ∙ append-nil (told_of i j at xs)) in
    let said : said_of i j false (xs ++ ys) ≡ said_of i j false xs = Chunks.said-append i j false xs ys (λ b. q b ∙ sym (q false)) ∙ (ap (λ l. said_of i j false xs ++ l) (q false) ∙ append-nil (said_of i j false xs)) in (
      k.0,
      k.1,
      record {
        event = k.2.event;
        filter = k.2.filter;
        duty = k.2.duty;
        tells = subst (λ l. Tells r o.told k.0.told l) (sym told) k.2.tells;
        says = subst (λ l. Says r o.said k.0.said l) (sym said) k.2.says;
        left = λ e. k.2.left (sym told ∙ e);
      },
    )

-- after want of memory less is asked
pub heard_less : {A : Type 0} (x : A) (e : AllocError) (i j at : ℕ) (xs : List Item) (o n : Option HookSeen) → Heard (ok_of x) i j at xs o n → Heard (err_of {A = A} e) i j at xs o n
heard_less x e i j at xs None n k = k
heard_less x e i j at xs (Some o) n k = (
  k.0,
  k.1,
  record {
    event = k.2.event;
    filter = k.2.filter;
    duty = k.2.duty;
    tells = ([], none_more k.0.told ∙ k.2.tells);
    says = ([], k.2.says ∙ ap (λ l. o.said ++ l) (sym (append-nil (said_of i j false xs))));
    left = k.2.left;
  },
)

not_empty : (xs : List Told) (t : Told) → xs ++ t ∷ [] ≡ [] → ⊥
not_empty [] t e = absurd cc
not_empty (x ∷ xs) t e = absurd cc

falses : (i j p h : ℕ) → (nat_eq p i && nat_eq h j) ≡ false → i ≡ p → j ≡ h → ⊥
falses i j p h e a b = false≢true (sym e ∙ and_from (nat_eq p i) (nat_eq h j) (eq-eqb p i (sym a)) (eq-eqb h j (sym b)))

-- the shelf after a call
module _ {A : Type 0} (x : A) (err : AllocError) (old : List PluginSeen) {new1 new2 : List PluginSeen} {p h : ℕ} {f g : Forest} {m : Moment} {a : Answer} (v : VisitedAt new1 new2 p h f g m a) (start : ℕ) (xs : List Item) (len : length f.log ≡ suc (start + length xs)) where
  abbrev pub call_edits : List Edit
  call_edits = v.visited.visited.visited.edits

  told_item : (w : Option (List Told)) → CallTells w v.visited.is.told (record { moment = m; at = length f.log; edits = length call_edits }) a → CallTells w v.visited.is.told (record { moment = m; at = suc (start + length xs); edits = length call_edits }) a
  told_item w c = subst (λ n. CallTells w v.visited.is.told (record { moment = m; at = n; edits = length call_edits }) a) len c

  same_hook : (w : HookSeen) → hook_at new1 p h ≡ Some w → v.visited.was ≡ w
  same_hook w e = let i = sym (hook_before v) ∙ e in cc

  module _ (tail : List Item) (z : edits_ahead tail ≡ 0) (none : (i j k : ℕ) → told_of i j k tail ≡ []) (other : (i j : ℕ) → said_of i j false tail ≡ []) (said : (i j d : ℕ) → said_of i j true tail ≡ said_of 0 0 true tail) where
    abbrev chunk : List Item
    chunk = call_chunk p h m call_edits tail

    told_all : told_of p h start (xs ++ chunk) ≡ told_of p h start xs ++ record { moment = m; at = suc (start + length xs); edits = length call_edits } ∷ []
    told_all = Chunks.told-append p h start xs chunk refl ∙ ap (λ l. told_of p h start xs ++ l) (told_here p h m call_edits tail z none p h (start + length xs) (and_from (nat_eq p p) (nat_eq h h) (eq-eqb p p refl) (eq-eqb h h refl)))

    said_all : said_of p h false (xs ++ chunk) ≡ said_of p h false xs ++ said_of 0 0 true tail
    said_all =
        let own : (b : Bool) → said_of p h b chunk ≡ said_of 0 0 true tail = λ b. said_at p h m call_edits tail z none p h true b (and_from (nat_eq p p) (nat_eq h h) (eq-eqb p p refl) (eq-eqb h h refl)) ∙ said p h 0 in
        Chunks.said-append p h false xs chunk (λ b. own b ∙ sym (own false)) ∙ ap (λ l. said_of p h false xs ++ l) (own false)

    quiet : (r : Result A AllocError) (i j : ℕ) → (nat_eq p i && nat_eq h j) ≡ false → Heard r i j start xs (hook_at old i j) (hook_at new1 i j) → Heard r i j start (xs ++ chunk) (hook_at old i j) (hook_at new2 i j)
    quiet r i j e k = quiet_heard r i j start xs chunk (hook_at old i j) (hook_at new2 i j) refl (told_else p h m call_edits tail z none i j (start + length xs) e) (λ b. said_at p h m call_edits tail z none i j false b e ∙ other i j)
        (subst (λ o. Heard r i j start xs (hook_at old i j) o) (sym (other_hook v i j (falses i j p h e))) k)

    own_back : (fault : Option (List ℕ)) → IsBack a fault → tail ≡ I.Back fault ∷ [] → (o : Option HookSeen) → Heard (ok_of x) p h start xs o (hook_at new1 p h) → Heard (ok_of x) p h start (xs ++ chunk) o (hook_at new2 p h)
    own_back fault b t None k = absurd (let i = sym (hook_before v) ∙ k in cc)
    own_back fault b t (Some o) k =
        let same = same_hook k.0 k.1 in
        let q = v.visited in (
          q.is,
          hook_now v,
          record {
            event = q.visited.event ∙ (ap (λ (y : HookSeen). y.event) same ∙ k.2.event);
            filter = q.visited.filter ∙ (ap (λ (y : HookSeen). y.filter) same ∙ k.2.filter);
            duty = q.visited.visited.keeps ∙ (ap (λ (y : HookSeen). y.duty) same ∙ k.2.duty);
            tells = tells_back a fault o.told q.was.told q.is.told (told_of p h start xs) _ b (told_item q.was.told q.visited.visited.tells) (ap (λ (y : HookSeen). y.told) same ∙ k.2.tells) ∙ ap (told_more o.told) (sym told_all);
            says = says_back a fault o.said q.was.said q.is.said (said_of p h false xs) b q.visited.visited.says (ap (λ (y : HookSeen). y.said) same ∙ k.2.says) ∙ ap (λ l. o.said ++ l) (ap (λ l. said_of p h false xs ++ said_of 0 0 true l) (sym t) ∙ sym said_all);
            left = λ e. absurd (not_empty _ _ (sym told_all ∙ e));
          },
        )

    own_open : tail ≡ [] → (o : Option HookSeen) → Heard (ok_of x) p h start xs o (hook_at new1 p h) → Heard (err_of {A = A} err) p h start (xs ++ chunk) o (hook_at new2 p h)
    own_open t None k = absurd (let i = sym (hook_before v) ∙ k in cc)
    own_open t (Some o) k =
        let same = same_hook k.0 k.1 in
        let q = v.visited in (
          q.is,
          hook_now v,
          record {
            event = q.visited.event ∙ (ap (λ (y : HookSeen). y.event) same ∙ k.2.event);
            filter = q.visited.filter ∙ (ap (λ (y : HookSeen). y.filter) same ∙ k.2.filter);
            duty = q.visited.visited.keeps ∙ (ap (λ (y : HookSeen). y.duty) same ∙ k.2.duty);
            tells = subst (λ l. Tells (err_of {A = A} err) o.told q.is.told l) (sym told_all) (tells_open a o.told q.was.told q.is.told (told_of p h start xs) _ (told_item q.was.told q.visited.visited.tells) (ap (λ (y : HookSeen). y.told) same ∙ k.2.tells));
            says = subst (λ l. Says (err_of {A = A} err) o.said q.is.said l) (ap (λ l. said_of p h false xs ++ said_of 0 0 true l) (sym t) ∙ sym said_all) (says_open a o.said q.was.said q.is.said (said_of p h false xs) q.visited.visited.says (ap (λ (y : HookSeen). y.said) same ∙ k.2.says));
            left = λ e. absurd (not_empty _ _ (sym told_all ∙ e));
          },
        )

    case_of : (r : Result A AllocError) (i j : ℕ) (b : Bool) → (nat_eq p i && nat_eq h j) ≡ b → ((nat_eq p i && nat_eq h j) ≡ true → Heard r i j start (xs ++ chunk) (hook_at old i j) (hook_at new2 i j)) → Heard r i j start xs (hook_at old i j) (hook_at new1 i j) → Heard r i j start (xs ++ chunk) (hook_at old i j) (hook_at new2 i j)
    case_of r i j true e own k = own e
    case_of r i j false e own k = quiet r i j e k

    moved_to : (P : ℕ → ℕ → Type 0) (i j : ℕ) → (nat_eq p i && nat_eq h j) ≡ true → P p h → P i j
    moved_to P i j e q =
        let s = and_parts (nat_eq p i) (nat_eq h j) e in
        subst (λ n. P n j) (same_from_eqb p i s.0) (subst (λ n. P p n) (same_from_eqb h j s.1) q)

    pub heard_back : (fault : Option (List ℕ)) → IsBack a fault → tail ≡ I.Back fault ∷ [] → ((i j : ℕ) → Heard (ok_of x) i j start xs (hook_at old i j) (hook_at new1 i j)) → (i j : ℕ) → Heard (ok_of x) i j start (xs ++ chunk) (hook_at old i j) (hook_at new2 i j)
    heard_back fault b t k i j = case_of (ok_of x) i j (nat_eq p i && nat_eq h j) refl (λ e. moved_to (λ i j. Heard (ok_of x) i j start (xs ++ chunk) (hook_at old i j) (hook_at new2 i j)) i j e (own_back fault b t (hook_at old p h) (k p h))) (k i j)

    pub heard_open : tail ≡ [] → ((i j : ℕ) → Heard (ok_of x) i j start xs (hook_at old i j) (hook_at new1 i j)) → (i j : ℕ) → Heard (err_of {A = A} err) i j start (xs ++ chunk) (hook_at old i j) (hook_at new2 i j)
    heard_open t k i j = case_of (err_of {A = A} err) i j (nat_eq p i && nat_eq h j) refl (λ e. moved_to (λ i j. Heard (err_of {A = A} err) i j start (xs ++ chunk) (hook_at old i j) (hook_at new2 i j)) i j e (own_open t (hook_at old p h) (k p h))) (heard_less x err i j start xs (hook_at old i j) (hook_at new1 i j) (k i j))
