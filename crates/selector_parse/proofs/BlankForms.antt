-- Comments, blanks and combinators are what the code reads as such.
use Rattle.std.proofs.Common.{◌≡◌, ℕ, zero, suc, Bool, true, false, cond, eqb, List, [], ◌∷◌, drop, Option, Some, None, refl, ap, sym, ◌∙◌, subst, ◌⊎◌, inl, inr}
use Rattle.std.specs.Prelude.{◌&&◌, not}
use Rattle.std.specs.Option.{option_map}
use Rattle.std.proofs.lemmas.Bool.{eqb-true, cases_Bool, false≢true}
use Rattle.css_text.specs.Characters.{is_space}
use Rattle.css_text.specs.Forms.{begins, through_comment}
use Rattle.selector_parse.specs.declared.reading.Gap.{Gap}
use Rattle.selector_parse.specs.declared.reading.Gap.TheVariants.{One, Comments, Spaced, Symbol}
use Rattle.selector_parse.specs.declared.reading.Reading.{Reading}
use Rattle.selector_parse.specs.declared.reading.Reading.TheVariants.{Blank, Slash, Note, NoteStar, Done}
use Rattle.selector_parse.specs.Forms.{is_symbol, is_empty, on_form, after_all, is_one, comment_form, blank_unit, are_blanks, hold_space, begin_sign, has_sign}
use Rattle.selector_parse.specs.Reading.{noted, step, on, or_on, read}
use Rattle.selector_parse.specs.Phases.{gap_read, gap_of, is_blanks, is_done, is_comment}
use Rattle.selector_parse.proofs.NameForms.{all_is, and_yes}
use Rattle.selector_parse.proofs.TextForms.{map_on}

-- something told of a reading of a comment: nothing but `dead` until it ends
pub record Told {X : Type 0} (f : Reading → List ℕ → X) (dead : X) (g : Gap) : Type 0 where
  pub slash_end : f (Slash g) [] ≡ dead
  pub note_end : f (Note g) [] ≡ dead
  pub star_end : f (NoteStar g) [] ≡ dead
  pub slash : (c : ℕ) (cs : List ℕ) → f (Slash g) (c ∷ cs) ≡ or_on (cond (eqb c 42) (Some (Note g)) None) dead (λ p. f p cs)
  pub note : (c : ℕ) (cs : List ℕ) → f (Note g) (c ∷ cs) ≡ f (cond (eqb c 42) (NoteStar g) (Note g)) cs
  pub star : (c : ℕ) (cs : List ℕ) → f (NoteStar g) (c ∷ cs) ≡ f (cond (eqb c 47) (noted g) (cond (eqb c 42) (NoteStar g) (Note g))) cs

module _ {X : Type 0} (f : Reading → List ℕ → X) (dead : X) (g : Gap) (t : Told f dead g) where
  left : List ℕ → X
  left cs = on_form (through_comment cs) dead (λ n. f (noted g) (drop n cs))

  left_next : (c : ℕ) (cs : List ℕ) → on_form (option_map suc (through_comment cs)) dead (λ n. f (noted g) (drop n (c ∷ cs))) ≡ left cs
  unfolding left
  left_next c cs = map_on dead (f (noted g)) c cs (through_comment cs)

  record Notes (cs : List ℕ) : Type 0 where
    pub note : f (Note g) cs ≡ left cs
    pub star : f (NoteStar g) cs ≡ left (42 ∷ cs)

  left_other : (c : ℕ) (cs : List ℕ) → eqb c 42 ≡ false → left (c ∷ cs) ≡ left cs
  unfolding left
  left_other c cs e = ap (λ b. on_form (cond (b && begins 47 cs) (Some 2) (option_map suc (through_comment cs))) dead (λ n. f (noted g) (drop n (c ∷ cs)))) e ∙ left_next c cs

  star_ends : (c : ℕ) (cs : List ℕ) → eqb c 47 ≡ true → f (noted g) cs ≡ left (42 ∷ c ∷ cs)
  unfolding left
  star_ends c cs e = sym (ap (λ b. on_form (cond b (Some 2) (option_map suc (through_comment (c ∷ cs)))) dead (λ n. f (noted g) (drop n (42 ∷ c ∷ cs)))) e)

  star_stays : (c : ℕ) (cs : List ℕ) → eqb c 47 ≡ false → left (42 ∷ c ∷ cs) ≡ left (c ∷ cs)
  unfolding left
  star_stays c cs e = ap (λ b. on_form (cond b (Some 2) (option_map suc (through_comment (c ∷ cs)))) dead (λ n. f (noted g) (drop n (42 ∷ c ∷ cs)))) e ∙ left_next 42 (c ∷ cs)

  notes_note : (c : ℕ) (cs : List ℕ) → Notes cs → (b : Bool) → eqb c 42 ≡ b → f (cond b (NoteStar g) (Note g)) cs ≡ left (c ∷ cs)
  notes_note c cs ih true e = ih.star ∙ ap (λ d. left (d ∷ cs)) (sym (eqb-true c 42 e))
  notes_note c cs ih false e = ih.note ∙ sym (left_other c cs e)

  notes_star : (c : ℕ) (cs : List ℕ) → Notes cs → (b : Bool) → eqb c 47 ≡ b → f (cond b (noted g) (cond (eqb c 42) (NoteStar g) (Note g))) cs ≡ left (42 ∷ c ∷ cs)
  notes_star c cs ih true e = star_ends c cs e
  notes_star c cs ih false e = notes_note c cs ih (eqb c 42) refl ∙ sym (star_stays c cs e)

  notes : (cs : List ℕ) → Notes cs
  unfolding left
  notes [] = record { note = t.note_end; star = t.star_end }
  notes (c ∷ cs) = let ih = notes cs in record { note = t.note c cs ∙ notes_note c cs ih (eqb c 42) refl; star = t.star c cs ∙ notes_star c cs ih (eqb c 47) refl }

  slash_go : (d : ℕ) (ds : List ℕ) (b : Bool) → or_on (cond b (Some (Note g)) None) dead (λ p. f p ds) ≡ on_form (cond b (option_map suc (through_comment ds)) None) dead (λ n. f (noted g) (drop n (d ∷ ds)))
  unfolding left
  slash_go d ds true = (notes ds).note ∙ sym (left_next d ds)
  slash_go d ds false = refl

  pub slash_is : (cs : List ℕ) → f (Slash g) cs ≡ on_form (comment_form 47 cs) dead (λ n. f (noted g) (drop n cs))
  slash_is [] = t.slash_end
  slash_is (d ∷ ds) = t.slash d ds ∙ slash_go d ds (eqb d 42)

  -- units of blanks, one after another
  module _ (k : List ℕ → X) (nil : k [] ≡ f (Blank g) []) (over : noted g ≡ Blank g) (begun : (cs : List ℕ) → f (Blank g) (47 ∷ cs) ≡ f (Slash g) cs) (none : (cs : List ℕ) → k (47 ∷ cs) ≡ dead)
      (space : (c : ℕ) (cs : List ℕ) → is_space c ≡ true → k (after_all blank_unit 0 cs) ≡ f (Blank g) cs → k (after_all blank_unit 0 cs) ≡ f (Blank g) (c ∷ cs))
      (other : (c : ℕ) (cs : List ℕ) → eqb c 47 ≡ false → is_space c ≡ false → k (c ∷ cs) ≡ f (Blank g) (c ∷ cs)) where
    blank_comment : (cs : List ℕ) → ((n : ℕ) → k (after_all blank_unit n cs) ≡ f (Blank g) (drop n cs)) → (o : Option ℕ) → k (on_form o (47 ∷ cs) (λ n. after_all blank_unit n cs)) ≡ on_form o dead (λ n. f (noted g) (drop n cs))
    blank_comment cs ih None = none cs
    blank_comment cs ih (Some n) = ih n ∙ ap (λ q. f q (drop n cs)) (sym over)

    blank_step : (c : ℕ) (cs : List ℕ) → ((n : ℕ) → k (after_all blank_unit n cs) ≡ f (Blank g) (drop n cs)) → k (on_form (blank_unit c cs) (c ∷ cs) (λ n. after_all blank_unit n cs)) ≡ f (Blank g) (c ∷ cs)
    unfolding is_space
    blank_step c cs ih = elim (cases_Bool (is_space c)) [
      | inl e ↦ ap (λ b. k (on_form (cond b (Some 0) (comment_form c cs)) (c ∷ cs) (λ n. after_all blank_unit n cs))) e ∙ space c cs e (ih 0)
      | inr e ↦ ap (λ b. k (on_form (cond b (Some 0) (comment_form c cs)) (c ∷ cs) (λ n. after_all blank_unit n cs))) e ∙ elim (cases_Bool (eqb c 47)) [
        | inl h ↦ subst (λ d. k (on_form (comment_form d cs) (d ∷ cs) (λ n. after_all blank_unit n cs)) ≡ f (Blank g) (d ∷ cs)) (sym (eqb-true c 47 h))
            (blank_comment cs ih (comment_form 47 cs) ∙ sym (slash_is cs) ∙ sym (begun cs))
        | inr h ↦ ap (λ b. k (on_form (cond (b && begins 42 cs) (option_map suc (through_comment (drop 1 cs))) None) (c ∷ cs) (λ n. after_all blank_unit n cs))) h ∙ other c cs h e
      ]
    ]

    pub blanks_at : (cs : List ℕ) (n : ℕ) → k (after_all blank_unit n cs) ≡ f (Blank g) (drop n cs)
    blanks_at cs n = all_is blank_unit k (f (Blank g)) nil blank_step cs n

-- what is told of all that has been read
on_or : {X : Type 0} (t : Option Reading → X) (dead : X) → t None ≡ dead → (cs : List ℕ) (o : Option Reading) → t (on o (λ p. read p cs)) ≡ or_on o dead (λ p. t (read p cs))
on_or t dead e cs None = e
on_or t dead e cs (Some p) = refl

cond_some : {X : Type 0} (b : Bool) (p q : Reading) (t : Option Reading → X) (cs : List ℕ) → t (on (cond b (Some p) (Some q)) (λ p. read p cs)) ≡ t (read (cond b p q) cs)
cond_some true p q t cs = refl
cond_some false p q t cs = refl

cond_two : {X : Type 0} (a b : Bool) (p q r : Reading) (t : Option Reading → X) (cs : List ℕ) → t (on (cond a (Some p) (cond b (Some q) (Some r))) (λ p. read p cs)) ≡ t (read (cond a p (cond b q r)) cs)
cond_two true b p q r t cs = refl
cond_two false b p q r t cs = cond_some b q r t cs

told : {X : Type 0} (t : Option Reading → X) (dead : X) (g : Gap) → t None ≡ dead → t (Some (Slash g)) ≡ dead → t (Some (Note g)) ≡ dead → t (Some (NoteStar g)) ≡ dead → Told (λ q cs. t (read q cs)) dead g
unfolding step
told t dead g e a b c = record {
  slash_end = a;
  note_end = b;
  star_end = c;
  slash = λ c cs. on_or t dead e cs (cond (eqb c 42) (Some (Note g)) None);
  note = λ c cs. cond_some (eqb c 42) (NoteStar g) (Note g) t cs;
  star = λ c cs. cond_two (eqb c 47) (eqb c 42) (noted g) (NoteStar g) (Note g) t cs;
}

-- one comment
done_end : (cs : List ℕ) → is_done (read Done cs) ≡ is_empty cs
unfolding step
done_end [] = refl
done_end (c ∷ cs) = refl

finish_on : (o : Option ℕ) (cs : List ℕ) → on_form o false (λ n. is_done (read Done (drop n cs))) ≡ on_form o false (λ n. is_empty (drop n cs))
finish_on None cs = refl
finish_on (Some n) cs = done_end (drop n cs)

comment_at : (c : ℕ) (cs : List ℕ) (b : Bool) → eqb c 47 ≡ b → is_done (on (cond b (Some (Slash One)) None) (λ p. read p cs)) ≡ on_form (comment_form c cs) false (λ n. is_empty (drop n cs))
comment_at c cs true e = slash_is (λ q cs. is_done (read q cs)) false One (told is_done false One refl refl refl refl) cs ∙ finish_on (comment_form 47 cs) cs ∙ ap (λ d. on_form (comment_form d cs) false (λ n. is_empty (drop n cs))) (sym (eqb-true c 47 e))
comment_at c cs false e = sym (ap (λ b. on_form (cond (b && begins 42 cs) (option_map suc (through_comment (drop 1 cs))) None) false (λ n. is_empty (drop n cs))) e)

pub comment_is : (t : List ℕ) → is_comment t ≡ is_one comment_form t
unfolding step
comment_is [] = refl
comment_is (c ∷ cs) = comment_at c cs (eqb c 47) refl

-- what a run of blanks and signs is
abbrev pub signed : Option Gap → Bool
signed (Some Symbol) = true
signed o = false

abbrev pub spaced : Option Gap → Bool
spaced (Some Spaced) = true
spaced o = false

-- the next state of blanks at a character that is no slash and no space
at_other : (t : Option Gap → Bool) (g : Gap) (c : ℕ) (cs : List ℕ) → t None ≡ false → eqb c 47 ≡ false → is_space c ≡ false → (g ≡ Comments) ⊎ (g ≡ Spaced)
    → t (gap_read (read (Blank g) (c ∷ cs))) ≡ (is_symbol c && t (gap_read (read (Blank Symbol) cs)))
unfolding step
at_other t g c cs n e f h = elim h [
  | inl i ↦ subst (λ g. t (gap_read (read (Blank g) (c ∷ cs))) ≡ (is_symbol c && t (gap_read (read (Blank Symbol) cs)))) (sym i) (rest Comments)
  | inr i ↦ subst (λ g. t (gap_read (read (Blank g) (c ∷ cs))) ≡ (is_symbol c && t (gap_read (read (Blank Symbol) cs)))) (sym i) (rest Spaced)
]
  where
    end : (b : Bool) → t (gap_read (on (cond b (Some (Blank Symbol)) None) (λ p. read p cs))) ≡ (b && t (gap_read (read (Blank Symbol) cs)))
    end true = refl
    end false = n

    rest : (g : Gap) → t (gap_read (on (cond (eqb c 47) (Some (Slash g)) (cond (is_space c) (Some (Blank Spaced)) (cond (is_symbol c) (Some (Blank Symbol)) None))) (λ p. read p cs))) ≡ (is_symbol c && t (gap_read (read (Blank Symbol) cs)))
    rest g = ap (λ b. t (gap_read (on (cond b (Some (Slash g)) (cond (is_space c) (Some (Blank Spaced)) (cond (is_symbol c) (Some (Blank Symbol)) None))) (λ p. read p cs)))) e
        ∙ ap (λ b. t (gap_read (on (cond b (Some (Blank Spaced)) (cond (is_symbol c) (Some (Blank Symbol)) None)) (λ p. read p cs)))) f ∙ end (is_symbol c)

pub no_slash : (c : ℕ) → is_space c ≡ true → eqb c 47 ≡ false
unfolding is_space
no_slash c e = elim (cases_Bool (eqb c 47)) [
  | inl f ↦ absurd (false≢true (ap is_space (sym (eqb-true c 47 f)) ∙ e))
  | inr f ↦ f
]

-- and at a space
at_space : (t : Option Gap → Bool) (g : Gap) (c : ℕ) (cs : List ℕ) → is_space c ≡ true → (g ≡ Comments) ⊎ (g ≡ Spaced) → t (gap_read (read (Blank g) (c ∷ cs))) ≡ t (gap_read (read (Blank Spaced) cs))
unfolding step
at_space t g c cs e h = elim h [
  | inl i ↦ subst (λ g. t (gap_read (read (Blank g) (c ∷ cs))) ≡ t (gap_read (read (Blank Spaced) cs))) (sym i) (rest Comments)
  | inr i ↦ subst (λ g. t (gap_read (read (Blank g) (c ∷ cs))) ≡ t (gap_read (read (Blank Spaced) cs))) (sym i) (rest Spaced)
]
  where
    rest : (g : Gap) → t (gap_read (on (cond (eqb c 47) (Some (Slash g)) (cond (is_space c) (Some (Blank Spaced)) (cond (is_symbol c) (Some (Blank Symbol)) None))) (λ p. read p cs))) ≡ t (gap_read (read (Blank Spaced) cs))
    rest g = ap (λ b. t (gap_read (on (cond b (Some (Slash g)) (cond (is_space c) (Some (Blank Spaced)) (cond (is_symbol c) (Some (Blank Symbol)) None))) (λ p. read p cs)))) (no_slash c e)
        ∙ ap (λ b. t (gap_read (on (cond b (Some (Blank Spaced)) (cond (is_symbol c) (Some (Blank Symbol)) None)) (λ p. read p cs)))) e

-- after a sign
symbol_space : (t : Option Gap → Bool) (c : ℕ) (cs : List ℕ) → is_space c ≡ true → t (gap_read (read (Blank Symbol) (c ∷ cs))) ≡ t (gap_read (read (Blank Symbol) cs))
unfolding step
symbol_space t c cs e = ap (λ b. t (gap_read (on (cond b (Some (Slash Symbol)) (cond (is_space c) (Some (Blank Symbol)) None)) (λ p. read p cs)))) (no_slash c e)
    ∙ ap (λ b. t (gap_read (on (cond b (Some (Blank Symbol)) None) (λ p. read p cs)))) e

symbol_other : (t : Option Gap → Bool) (c : ℕ) (cs : List ℕ) → t None ≡ false → eqb c 47 ≡ false → is_space c ≡ false → t (gap_read (read (Blank Symbol) (c ∷ cs))) ≡ false
unfolding step
symbol_other t c cs n e f = ap (λ b. t (gap_read (on (cond b (Some (Slash Symbol)) (cond (is_space c) (Some (Blank Symbol)) None)) (λ p. read p cs)))) e
    ∙ ap (λ b. t (gap_read (on (cond b (Some (Blank Symbol)) None) (λ p. read p cs)))) f ∙ n

symbol_go : (t : Option Gap → Bool) (k : List ℕ → Bool) → t None ≡ false → k [] ≡ t (Some Symbol) → ((c : ℕ) (cs : List ℕ) → k (c ∷ cs) ≡ false) → (cs : List ℕ) (n : ℕ) → k (after_all blank_unit n cs) ≡ t (gap_read (read (Blank Symbol) (drop n cs)))
unfolding step
symbol_go t k e f z cs n = blanks_at (λ q cs. t (gap_read (read q cs))) false Symbol (told (λ o. t (gap_read o)) false Symbol e e e e) k f refl (λ cs. refl) (z 47)
    (λ c cs s h. h ∙ sym (symbol_space t c cs s)) (λ c cs s h. z c cs ∙ sym (symbol_other t c cs e s h)) cs n

spaced_go : (t : Option Gap → Bool) (k : List ℕ → Bool) → t None ≡ false → k [] ≡ t (Some Spaced) → ((cs : List ℕ) → k (47 ∷ cs) ≡ false)
    → ((c : ℕ) (cs : List ℕ) → k (c ∷ cs) ≡ (is_symbol c && t (gap_read (read (Blank Symbol) cs)))) → (cs : List ℕ) (n : ℕ) → k (after_all blank_unit n cs) ≡ t (gap_read (read (Blank Spaced) (drop n cs)))
unfolding step
spaced_go t k e f z w cs n = blanks_at (λ q cs. t (gap_read (read q cs))) false Spaced (told (λ o. t (gap_read o)) false Spaced e e e e) k f refl (λ cs. refl) z
    (λ c cs s h. h ∙ sym (at_space t Spaced c cs s (inr refl))) (λ c cs s h. w c cs ∙ sym (at_other t Spaced c cs e s h (inr refl))) cs n

commented_go : (t : Option Gap → Bool) (k : List ℕ → Bool) → t None ≡ false → k [] ≡ t (Some Comments) → k [] ≡ t (Some Spaced) → ((cs : List ℕ) → k (47 ∷ cs) ≡ false)
    → ((c : ℕ) (cs : List ℕ) → k (c ∷ cs) ≡ (is_symbol c && t (gap_read (read (Blank Symbol) cs)))) → (cs : List ℕ) (n : ℕ) → k (after_all blank_unit n cs) ≡ t (gap_read (read (Blank Comments) (drop n cs)))
unfolding step
commented_go t k e f v z w cs n = blanks_at (λ q cs. t (gap_read (read q cs))) false Comments (told (λ o. t (gap_read o)) false Comments e e e e) k f refl (λ cs. refl) z
    (λ c cs s h. spaced_go t k e v z w cs 0 ∙ sym (at_space t Comments c cs s (inl refl))) (λ c cs s h. w c cs ∙ sym (at_other t Comments c cs e s h (inl refl))) cs n

and_no : (a b : Bool) → b ≡ false → false ≡ (a && b)
and_no true b e = sym e
and_no false b e = refl

-- white space and comments alone
symbol_blanks : (cs : List ℕ) → is_blanks (gap_read (read (Blank Symbol) cs)) ≡ false
symbol_blanks cs = sym (symbol_go is_blanks (λ t. false) refl refl (λ c cs. refl) cs 0)

pub blanks_is : (t : List ℕ) → is_blanks (gap_of t) ≡ are_blanks t
blanks_is t = sym (commented_go is_blanks is_empty refl refl refl (λ cs. refl) (λ c cs. and_no (is_symbol c) _ (symbol_blanks cs)) t 0)

-- a sign
symbol_signed : (cs : List ℕ) → are_blanks cs ≡ signed (gap_read (read (Blank Symbol) cs))
symbol_signed cs = symbol_go signed is_empty refl refl (λ c cs. refl) cs 0

pub sign_is : (t : List ℕ) → signed (gap_of t) ≡ has_sign t
sign_is t = sym (commented_go signed begin_sign refl refl refl (λ cs. refl) (λ c cs. ap (λ b. is_symbol c && b) (symbol_signed cs)) t 0)

-- blanks with white space
symbol_spaced : (cs : List ℕ) → spaced (gap_read (read (Blank Symbol) cs)) ≡ false
symbol_spaced cs = sym (symbol_go spaced (λ t. false) refl refl (λ c cs. refl) cs 0)

spaced_spaced : (cs : List ℕ) → is_empty (after_all blank_unit 0 cs) ≡ spaced (gap_read (read (Blank Spaced) cs))
spaced_spaced cs = spaced_go spaced is_empty refl refl (λ cs. refl) (λ c cs. and_no (is_symbol c) _ (symbol_spaced cs)) cs 0

hold_comment : (cs : List ℕ) (a b : ℕ → List ℕ) (f : ℕ → Bool) → ((n : ℕ) → (is_empty (a n) && not (is_empty (b n))) ≡ f n) → (o : Option ℕ) → (is_empty (on_form o (47 ∷ cs) a) && not (is_empty (on_form o (47 ∷ cs) b))) ≡ on_form o false f
hold_comment cs a b f ih None = refl
hold_comment cs a b f ih (Some n) = ih n

hold_step : (c : ℕ) (cs : List ℕ) → ((n : ℕ) → (is_empty (after_all blank_unit n cs) && not (is_empty (after_all comment_form n cs))) ≡ spaced (gap_read (read (Blank Comments) (drop n cs))))
    → (is_empty (after_all blank_unit 0 (c ∷ cs)) && not (is_empty (after_all comment_form 0 (c ∷ cs)))) ≡ spaced (gap_read (read (Blank Comments) (c ∷ cs)))
unfolding step is_space
hold_step c cs ih = elim (cases_Bool (is_space c)) [
  | inl e ↦ ap (λ b. is_empty (on_form (cond b (Some 0) (comment_form c cs)) (c ∷ cs) (λ n. after_all blank_unit n cs)) && not (is_empty (after_all comment_form 0 (c ∷ cs)))) e
      ∙ ap (λ b. is_empty (after_all blank_unit 0 cs) && not (is_empty (on_form (cond (b && begins 42 cs) (option_map suc (through_comment (drop 1 cs))) None) (c ∷ cs) (λ n. after_all comment_form n cs)))) (no_slash c e)
      ∙ sym (and_yes (is_empty (after_all blank_unit 0 cs))) ∙ spaced_spaced cs ∙ sym (at_space spaced Comments c cs e (inl refl))
  | inr e ↦ ap (λ b. is_empty (on_form (cond b (Some 0) (comment_form c cs)) (c ∷ cs) (λ n. after_all blank_unit n cs)) && not (is_empty (after_all comment_form 0 (c ∷ cs)))) e ∙ elim (cases_Bool (eqb c 47)) [
    | inl h ↦ subst (λ d. (is_empty (on_form (comment_form d cs) (d ∷ cs) (λ n. after_all blank_unit n cs)) && not (is_empty (after_all comment_form 0 (d ∷ cs)))) ≡ spaced (gap_read (read (Blank Comments) (d ∷ cs)))) (sym (eqb-true c 47 h))
        (hold_comment cs (λ n. after_all blank_unit n cs) (λ n. after_all comment_form n cs) (λ n. spaced (gap_read (read (Blank Comments) (drop n cs)))) ih (comment_form 47 cs)
        ∙ sym (slash_is (λ q cs. spaced (gap_read (read q cs))) false Comments (told (λ o. spaced (gap_read o)) false Comments refl refl refl refl) cs))
    | inr h ↦ ap (λ b. is_empty (on_form (cond (b && begins 42 cs) (option_map suc (through_comment (drop 1 cs))) None) (c ∷ cs) (λ n. after_all blank_unit n cs)) && not (is_empty (after_all comment_form 0 (c ∷ cs)))) h
        ∙ and_no (is_symbol c) _ (symbol_spaced cs) ∙ sym (at_other spaced Comments c cs refl h e (inl refl))
  ]
]

hold_at : (cs : List ℕ) (n : ℕ) → (is_empty (after_all blank_unit n cs) && not (is_empty (after_all comment_form n cs))) ≡ spaced (gap_read (read (Blank Comments) (drop n cs)))
hold_at [] zero = refl
hold_at [] (suc n) = refl
hold_at (c ∷ cs) (suc n) = hold_at cs n
hold_at (c ∷ cs) zero = hold_step c cs (hold_at cs)

pub space_is : (t : List ℕ) → spaced (gap_of t) ≡ hold_space t
space_is t = sym (hold_at t 0)
