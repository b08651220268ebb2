-- The arguments of a pseudo-class or pseudo-element.
use Rattle.std.proofs.Common.{◌≡◌, ℕ, suc, ◌+◌, ◌-◌, ◌<◌, Bool, true, false, cond, eqb, List, [], ◌∷◌, ◌++◌, get_or, drop, Some, None, refl, ap, sym, ◌∙◌, subst, lit<, arith, append_assoc}
use Rattle.std.specs.Prelude.{◌&&◌}
use lib.Utf8.{encodes}
use Rattle.std.proofs.lemmas.Bool.{lt-ltb, and_parts, false≢true}
use Rattle.css_text.specs.Ahead.{byte_len}
use Rattle.css_text.specs.Characters.{is_space}
use Rattle.css_text.proofs.Slices.{IsFrom, byte_len-append}
use Rattle.std.proofs.lemmas.Str.{encodes_same}
use Rattle.selector_parse.specs.declared.phase.Phase.{Phase}
use Rattle.selector_parse.specs.declared.phase.Phase.TheVariants.{Fresh, Open, Inside, Commented, Trailing}
use Rattle.selector_parse.specs.declared.reading.Gap.{Gap}
use Rattle.selector_parse.specs.declared.reading.Gap.TheVariants.{One, Comments, Spaced, Symbol}
use Rattle.selector_parse.specs.declared.reading.Within.TheVariants.{Parentheses}
use Rattle.selector_parse.specs.declared.reading.Reading.{Reading}
use Rattle.selector_parse.specs.declared.reading.Reading.TheVariants.{First, Next, Done, Text, Blank}
use Rattle.selector_parse.specs.Reading.{step, on, is_final, read}
use Rattle.selector_parse.specs.Tree.{Tree, written, Arguments, absent, text, list}
use Rattle.selector_parse.specs.Names.{takes_args, takes_list, is_logical}
use Rattle.selector_parse.specs.Grammar.{most_depth}
use Rattle.selector_parse.specs.Phases.{is_plain, is_whole, is_blanks, gap_read, may_end}
use Rattle.selector_parse.specs.Machine.{Place, at_start, in_gap, in_simple, in_text, Stand, or_else, pop, enders, begin, opener, closer, open_args, move, follow, blank_list, Stuck, Matches, Calm}
use Rattle.selector_parse.specs.Row.{IsEnded, IsClosedText, IsListText, IsArguments, closed, Fit, FitList, reads_blanks, enclosed}
use Rattle.selector_parse.proofs.Moves.{read_head, moved, follow-append, follow_gap, follow_text, after_simple, after_gap_end}
use Rattle.selector_parse.proofs.Rows.{byte_begins, behind, one_byte}

-- no other part begins with a parenthesis or a comma
blank_open : step (Blank Comments) 40 ≡ None
unfolding step is_space
blank_open = refl

next_open : step Next 40 ≡ None
unfolding step
next_open = refl

blank_close : step (Blank Comments) 41 ≡ None
unfolding step is_space
blank_close = refl

next_close : step Next 41 ≡ None
unfolding step
next_close = refl

first_close : step First 41 ≡ None
unfolding step
first_close = refl

blank_comma : step (Blank Comments) 44 ≡ None
unfolding step is_space
blank_comma = refl

next_comma : step Next 44 ≡ None
unfolding step
next_comma = refl

first_comma : step First 44 ≡ None
unfolding step
first_comma = refl

-- after a simple selector stands a `(`
pub opens_args : (d : ℕ) (q : Reading) (name : List ℕ) → is_final q ≡ true → step q 40 ≡ None → move d (in_simple q name) 40 ≡ open_args d name
opens_args d q name f s = after_simple d q name 40 s f
    ∙ ap (λ o. or_else (on o (λ p. Some (d, in_gap false false p))) (or_else (begin Next d 40) (open_args d name))) blank_open
    ∙ ap (λ o. or_else (on o (λ p. Some (d, in_simple p (40 ∷ [])))) (open_args d name)) next_open

pub done_stuck : (s : List ℕ) → Stuck Done s
unfolding step
done_stuck [] = tt
done_stuck (c ∷ cs) = refl

-- what ends a complex selector
simple_ends : (d : ℕ) (q : Reading) (t : List ℕ) (c : ℕ) → is_final q ≡ true → step q c ≡ None → step (Blank Comments) c ≡ None → step Next c ≡ None → eqb c 40 ≡ false → move d (in_simple q t) c ≡ enders d c
simple_ends d q t c f s b n e = after_simple d q t c s f
    ∙ ap (λ o. or_else (on o (λ p. Some (d, in_gap false false p))) (or_else (begin Next d c) (cond (eqb c 40) (open_args d t) (enders d c)))) b
    ∙ ap (λ o. or_else (on o (λ p. Some (d, in_simple p (c ∷ [])))) (cond (eqb c 40) (open_args d t) (enders d c))) n
    ∙ ap (λ b. cond b (open_args d t) (enders d c)) e

opened : (g : Gap) (c : ℕ) → step First c ≡ None → step Next c ≡ None → step (opener false g) c ≡ None
opened One c f n = f
opened Comments c f n = n
opened Spaced c f n = f
opened Symbol c f n = f

gap_ends : (d : ℕ) (b : Bool) (q : Reading) (g : Gap) (c : ℕ) → step q c ≡ None → gap_read (Some q) ≡ Some g → is_blanks (Some g) ≡ true → step First c ≡ None → step Next c ≡ None → move d (in_gap false b q) c ≡ enders d c
gap_ends d b q g c s r k f n = after_gap_end d false b q g c s r
    ∙ ap (λ o. or_else (on o (λ p. Some (d, in_simple p (c ∷ [])))) (closer false b g d c)) (opened g c f n)
    ∙ ap (λ x. cond x (enders d c) None) k

module _ (d c : ℕ) (b : step (Blank Comments) c ≡ None) (f : step First c ≡ None) (n : step Next c ≡ None) (e : eqb c 40 ≡ false) where
  ends_by : (p : Phase) (m : Place) (s : List ℕ) → may_end p ≡ true → Matches p m → Calm d p m (c ∷ s) → move d m c ≡ enders d c
  ends_by Inside (in_simple q t) s y w k = simple_ends d q t c w k.0 b n e
  ends_by Trailing (in_gap false v q) s y w k = gap_ends d v q w.0 c k.0 w.1.0 w.1.1 f n
  ends_by Inside (at_start v) s y w k = absurd w
  ends_by Inside (in_gap l v q) s y w k = absurd w
  ends_by Inside (in_text q) s y w k = absurd w
  ends_by Trailing (at_start v) s y w k = absurd w
  ends_by Trailing (in_gap true v q) s y w k = absurd w
  ends_by Trailing (in_simple q t) s y w k = absurd w
  ends_by Trailing (in_text q) s y w k = absurd w
  ends_by Fresh m s y w k = absurd (false≢true y)
  ends_by Open m s y w k = absurd (false≢true y)
  ends_by Commented m s y w k = absurd (false≢true y)

pub ends_comma : (d : ℕ) (p : Phase) (m : Place) (s : List ℕ) → may_end p ≡ true → Matches p m → Calm d p m (44 ∷ s) → move d m 44 ≡ Some (d, at_start false)
ends_comma d p m s y w k = ends_by d 44 blank_comma first_comma next_comma refl p m s y w k

pub ends_close : (d : ℕ) (p : Phase) (m : Place) (s : List ℕ) → may_end p ≡ true → Matches p m → Calm d p m (41 ∷ s) → move d m 41 ≡ pop d
ends_close d p m s y w k = ends_by d 41 blank_close first_close next_close refl p m s y w k

-- text up to its `)`
text_closes : (d : ℕ) (q : Reading) → is_final q ≡ true → step q 41 ≡ None → move d (in_text q) 41 ≡ Some (d, in_simple Done [])
text_closes d q f s = ap (λ o. or_else (on o (λ p. Some (d, in_text p))) (cond (is_final q && eqb 41 41) (Some (d, in_simple Done [])) None)) s ∙ ap (λ b. cond (b && true) (Some (d, in_simple Done [])) None) f

pub text_moves : (d : ℕ) (q last : Reading) (t : List ℕ) → read q t ≡ Some last → is_final last ≡ true → step last 41 ≡ None → follow d (in_text q) (t ++ 41 ∷ []) ≡ Some (d, in_simple Done [])
text_moves d q last t r f s = follow-append d (in_text q) t (41 ∷ []) (d, in_text last) (follow_text d q last t r) ∙ moved d (in_text last) 41 [] (d, in_simple Done []) (text_closes d last f s)

-- a list of blanks alone
gap_closes : (d : ℕ) (q : Reading) (g : Gap) → step q 41 ≡ None → gap_read (Some q) ≡ Some g → is_blanks (Some g) ≡ true → move (suc d) (in_gap true true q) 41 ≡ Some (d, in_simple Done [])
gap_closes d q g s r k = after_gap_end (suc d) true true q g 41 s r
    ∙ ap (λ o. or_else (on o (λ p. Some (suc d, in_simple p (41 ∷ [])))) (closer true true g (suc d) 41)) first_close
    ∙ ap (λ x. cond (x && true) (pop (suc d)) None) k

start_closes : (d : ℕ) → move (suc d) (at_start true) 41 ≡ Some (d, in_simple Done [])
start_closes d = ap (λ o. or_else (on o (λ p. Some (suc d, in_gap true true p))) (or_else (begin First (suc d) 41) (pop (suc d)))) blank_close
    ∙ ap (λ o. or_else (on o (λ p. Some (suc d, in_simple p (41 ∷ [])))) (pop (suc d))) first_close

start_gap : (d c : ℕ) (r : Reading) → step (Blank Comments) c ≡ Some r → move d (at_start true) c ≡ Some (d, in_gap true true r)
start_gap d c r e = ap (λ o. or_else (on o (λ p. Some (d, in_gap true true p))) (or_else (begin First d c) (cond (eqb c 41) (pop d) None))) e

pub blank_moves : (d : ℕ) (last : Reading) (g : Gap) (t : List ℕ) → read (Blank Comments) t ≡ Some last → gap_read (Some last) ≡ Some g → is_blanks (Some g) ≡ true → step last 41 ≡ None
    → follow (suc d) (at_start true) (t ++ 41 ∷ []) ≡ Some (d, in_simple Done [])
blank_moves d last g [] r e k s = moved (suc d) (at_start true) 41 [] (d, in_simple Done []) (start_closes d)
blank_moves d last g (c ∷ cs) r e k s =
    let h = read_head (Blank Comments) last c cs r in
    moved (suc d) (at_start true) c (cs ++ 41 ∷ []) (suc d, in_gap true true h.0) (start_gap (suc d) c h.0 h.1.0)
    ∙ follow-append (suc d) (in_gap true true h.0) cs (41 ∷ []) (suc d, in_gap true true last) (follow_gap (suc d) true true h.0 last cs h.1.1)
    ∙ moved (suc d) (in_gap true true last) 41 [] (d, in_simple Done []) (gap_closes d last g s e k)

-- the arguments that have been read
blanks_is : (q : Reading) → reads_blanks q ≡ true → (g : Gap) × ((gap_read (Some q) ≡ Some g) × (is_blanks (Some g) ≡ true))
blanks_is (Blank Comments) e = (Comments, (refl, refl))
blanks_is (Blank Spaced) e = (Spaced, (refl, refl))
blanks_is (Blank One) e = absurd (false≢true e)
blanks_is (Blank Symbol) e = absurd (false≢true e)
blanks_is q e = absurd (false≢true e)

pub blanks_listed : (bs : List ℕ) (from depth end : ℕ) (args : Arguments) (h : IsClosedText bs from (Blank Comments) args end) → reads_blanks h.last ≡ true → IsListText bs from depth args end
blanks_listed bs from depth end args h b =
    let g = blanks_is h.last b in
    subst (λ a. IsListText bs from depth a end) (sym h.is) (record {
      ahead = h.ahead;
      fits = h.fits;
      here = h.here;
      front = h.front ∙ ap encodes (sym (append_assoc h.inner (41 ∷ []) h.ahead));
      size = let e = byte_len-append h.inner (41 ∷ []) in let f = one_byte 41 [] (lit< tt) in omega (arith, h.size);
      fit = ap (λ o. is_blanks (gap_read o)) h.reads ∙ ap is_blanks g.1.0 ∙ g.1.1;
      moves = λ d e. ap (λ n. follow n (at_start true) (h.inner ++ 41 ∷ [])) e ∙ blank_moves d h.last g.0 h.inner h.reads g.1.0 g.1.1 h.stuck;
    })

pub nested_list : (bs : List ℕ) (from depth e : ℕ) (parts : Tree) (h : IsEnded bs from depth parts e) → get_or bs e 0 ≡ 41 → blank_list (written parts ++ h.row.ahead) ≡ false → IsListText bs from depth (list parts) (e + 1)
nested_list bs from depth e parts h b k =
    let next : IsFrom bs e h.row.ahead = record { fits = h.row.fits; text = h.row.here } in
    let r = byte_begins bs e 41 h.row.ahead (lit< tt) (lit< tt) next b in
    let back : IsFrom bs (e + 1) r.0 = behind bs e 41 r.0 (lit< tt) (subst (IsFrom bs e) r.1 next) in
    record {
      ahead = r.0;
      fits = back.fits;
      here = back.text;
      front = h.row.text ∙ ap (λ x. encodes (written parts ++ x)) r.1 ∙ ap encodes (sym (append_assoc (written parts) (41 ∷ []) r.0));
      size = let e = byte_len-append (written parts) (41 ∷ []) in let f = one_byte 41 [] (lit< tt) in omega (arith, h.row.size);
      fit = (h.last, (h.ends, h.row.are));
      moves = λ d e.
          let n = h.row.moves (at_start true) tt (λ _. k) in
          follow-append depth (at_start true) (written parts) (41 ∷ []) (depth, n.0) n.1.0
          ∙ moved depth n.0 41 [] (d, in_simple Done []) (ends_close depth h.last n.0 r.0 h.ends n.1.1 (subst (Calm depth h.last n.0) r.1 n.1.2) ∙ ap pop e);
    }

pub list_args : (name : List ℕ) → takes_list name ≡ true → takes_args name ≡ true
list_args [] e = absurd (false≢true e)
list_args (c ∷ cs) e = (and_parts (eqb c 58) (is_logical cs) e).0

pub list_opens : (d : ℕ) (name : List ℕ) → takes_list name ≡ true → d < most_depth → open_args d name ≡ Some (suc d, at_start true)
list_opens d name e l = rw (list_args name e, lt-ltb d most_depth l, e) refl

pub text_opens : (d : ℕ) (name : List ℕ) → takes_args name ≡ true → takes_list name ≡ false → d < most_depth → open_args d name ≡ Some (d, in_text (Text (Parentheses 0 (most_depth - suc d))))
text_opens d name a e l = rw (a, lt-ltb d most_depth l, e) refl

module _ (bs : List ℕ) (from depth end : ℕ) (name : List ℕ) (cs : List ℕ) (here : IsFrom bs from (40 ∷ cs)) (below : depth < most_depth) where
  next : IsFrom bs (from + 1) cs
  next = behind bs from 40 cs (lit< tt) here

  -- after the `(`
  goes_on : (q : Reading) (x y : List ℕ) (s n : Stand) → is_final q ≡ true → Stuck q (40 ∷ (x ++ y)) → open_args depth name ≡ Some s → follow s.0 s.1 x ≡ Some n → follow depth (in_simple q name) (40 ∷ x) ≡ Some n
  goes_on q x y s n f k o e = moved depth (in_simple q name) 40 x s (opens_args depth q name f k ∙ o) ∙ e

  front_is : (x r : List ℕ) → drop (from + 1) bs ≡ encodes (x ++ r) → drop from bs ≡ encodes ((40 ∷ x) ++ r)
  front_is x r e = here.text ∙ ap (λ z. encodes (40 ∷ z)) (encodes_same cs (x ++ r) (sym next.text ∙ e))

  size_is : (x : List ℕ) → end ≡ from + 1 + byte_len x → end ≡ from + byte_len (40 ∷ x)
  size_is x e = let f = one_byte 40 x (lit< tt) in omega arith

  pub text_arguments : (args : Arguments) (h : IsClosedText bs (from + 1) (Text (Parentheses 0 (most_depth - suc depth))) args end) → takes_args name ≡ true → takes_list name ≡ false → IsArguments bs from depth name args end
  text_arguments args h a e = subst (λ x. IsArguments bs from depth name x end) (sym h.is) (record {
    ahead = h.ahead;
    fits = h.fits;
    here = h.here;
    front = front_is (h.inner ++ 41 ∷ []) h.ahead (h.front ∙ ap encodes (sym (append_assoc h.inner (41 ∷ []) h.ahead)));
    size = let e1 = byte_len-append h.inner (41 ∷ []) in let e2 = one_byte 41 [] (lit< tt) in size_is (h.inner ++ 41 ∷ []) (omega (arith, h.size));
    fit = (a, below, ap (λ b. is_plain b (suc depth) h.inner) e ∙ ap is_whole h.reads ∙ h.final);
    moves = λ q f k. (
      in_simple Done [],
      (
        goes_on q (h.inner ++ 41 ∷ []) h.ahead (depth, in_text (Text (Parentheses 0 (most_depth - suc depth)))) (depth, in_simple Done []) f k (text_opens depth name a e below)
            (text_moves depth (Text (Parentheses 0 (most_depth - suc depth))) h.last h.inner h.reads h.final h.stuck),
        refl,
        (done_stuck h.ahead, refl),
      ),
    );
  })

  pub list_fit : (args : Arguments) → takes_list name ≡ true → FitList (suc depth) (from + 1) args → Fit depth name from args
  list_fit absent e h = absurd h
  list_fit (text t) e h = (list_args name e, below, ap (λ b. is_plain b (suc depth) t) e ∙ h)
  list_fit (list inner) e h = (e, below, h)

  pub list_enclosed : (args : Arguments) → FitList (suc depth) (from + 1) args → enclosed args ≡ 40 ∷ closed args
  list_enclosed absent h = absurd h
  list_enclosed (text t) h = refl
  list_enclosed (list inner) h = refl

  pub list_arguments : (args : Arguments) (h : IsListText bs (from + 1) (suc depth) args end) → takes_list name ≡ true → IsArguments bs from depth name args end
  list_arguments args h e =
      let is = list_enclosed args h.fit in record {
        ahead = h.ahead;
        fits = h.fits;
        here = h.here;
        front = front_is (closed args) h.ahead h.front ∙ ap (λ x. encodes (x ++ h.ahead)) (sym is);
        size = size_is (closed args) h.size ∙ ap (λ x. from + byte_len x) (sym is);
        fit = list_fit args e h.fit;
        moves = λ q f k. (
          in_simple Done [],
          (
            ap (follow depth (in_simple q name)) is ∙ goes_on q (closed args) h.ahead (suc depth, at_start true) (depth, in_simple Done []) f (subst (λ x. Stuck q (x ++ h.ahead)) is k)
                (list_opens depth name e below) (h.moves depth refl),
            refl,
            (done_stuck h.ahead, refl),
          ),
        );
      }
