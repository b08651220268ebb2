-- Where reading halts in arguments.
use Rattle.std.proofs.Common.{◌≡◌, ℕ, zero, suc, ◌+◌, ◌-◌, ◌<◌, ◌≤◌, Bool, true, false, cond, eqb, List, [], ◌∷◌, ◌++◌, length, get_or, drop, Option, Some, None, Result, Ok, Err, refl, ap, sym, ◌∙◌, subst, inl, inr, lit<, arith, add-zero, append_assoc}
use Rattle.std.specs.Prelude.{◌&&◌, ◌||◌, nat_lt, nat_le, IfErr}
use lib.Utf8.{encodes}
use Rattle.std.proofs.lemmas.Bool.{false≢true, true≢false, le-ltb, cases_lt, and_parts}
use Rattle.std.proofs.lemmas.Bool.Decides.{nat_tests}
use Rattle.std.proofs.lemmas.List.{drop_all}
use Rattle.std.proofs.lemmas.Str.{encodes_same}
use Rattle.css_text.specs.Ahead.{byte_len}
use Rattle.css_text.specs.Forms.{begins}
use Rattle.css_text.proofs.Slices.{IsFrom, from_back}
use Rattle.selector_parse.specs.declared.phase.Phase.TheVariants.{Fresh}
use Rattle.selector_parse.specs.declared.placed.Failure.{Failure}
use Rattle.selector_parse.specs.declared.placed.Failure.TheVariants.{At, Memory}
use Rattle.selector_parse.specs.declared.reading.Within.TheVariants.{Parentheses}
use Rattle.selector_parse.specs.declared.reading.Reading.{Reading}
use Rattle.selector_parse.specs.declared.reading.Reading.TheVariants.{Text, Blank}
use Rattle.selector_parse.specs.declared.reading.Gap.TheVariants.{Comments}
use Rattle.selector_parse.specs.Reading.{is_final, scan_len, scan_last}
use Rattle.selector_parse.specs.Tree.{Tree, written, absent, text, list}
use Rattle.selector_parse.specs.Names.{takes_args, takes_list}
use Rattle.selector_parse.specs.Grammar.{most_depth}
use Rattle.selector_parse.specs.Phases.{is_plain, is_whole}
use Rattle.selector_parse.specs.Machine.{Place, at_start, in_simple, in_text, Stand, open_args, accepts, Blocked, blank_list}
use Rattle.selector_parse.specs.Row.{IsEnded, IsHalt, IsNameHalt, IsListHalt, IsTextHalt, Halts, NameHalts, ListHalts, TextHalts, list_stops, reads_blanks, is_blank_list}
use Rattle.selector_parse.proofs.Finish.{finish, made_whole, finish_final}
use Rattle.selector_parse.proofs.Idle.{text_halts}
use Rattle.selector_parse.proofs.Moves.{moved, follow_text}
use Rattle.selector_parse.proofs.Arguments.{opens_args, list_opens, text_opens, list_fit, list_enclosed}
use Rattle.selector_parse.proofs.Lists.{close_begins}
use Rattle.selector_parse.proofs.Rows.{one_byte, behind, some_bytes}

pub if_err_map : {A E : Type 0} (r : Result A E) (P Q : E → Type 0) → ((e : E) → P e → Q e) → IfErr r P → IfErr r Q
if_err_map (Ok a) P Q f h = tt
if_err_map (Err e) P Q f h = f e h

-- too many parentheses
pub depth_halt : (bs : List ℕ) (from depth : ℕ) (name cs : List ℕ) → IsFrom bs from (40 ∷ cs) → most_depth ≤ depth → IsNameHalt bs from depth name from
depth_halt bs from depth name cs h l = record {
  front = [];
  back = 40 ∷ cs;
  fits = h.fits;
  text = h.text;
  size = sym (add-zero from);
  args = absent;
  more = [];
  fit = tt;
  goes = refl;
  blocked = λ q f k. ((depth, in_simple q name), (refl, opens_args depth q name f k ∙ none_opens));
}
  where
    go : (b : Bool) → cond {A = Option Stand} (b && false) (cond {A = Option Stand} (takes_list name) (Some (suc depth, at_start true)) (Some (depth, in_text (Text (Parentheses 0 (most_depth - suc depth)))))) None ≡ None
    go true = refl
    go false = refl

    none_opens : open_args depth name ≡ None
    none_opens = ap (λ b. cond {A = Option Stand} (takes_args name && b) (cond {A = Option Stand} (takes_list name) (Some (suc depth, at_start true)) (Some (depth, in_text (Text (Parentheses 0 (most_depth - suc depth)))))) None) (le-ltb depth most_depth l) ∙ go (takes_args name)

module _ (bs : List ℕ) (from depth e : ℕ) (name cs : List ℕ) (here : IsFrom bs from (40 ∷ cs)) (below : depth < most_depth) where
  next : IsFrom bs (from + 1) cs
  next = behind bs from 40 cs (lit< tt) here

  front_is : (x r : List ℕ) → drop (from + 1) bs ≡ encodes (x ++ r) → drop from bs ≡ encodes ((40 ∷ x) ++ r)
  front_is x r f = here.text ∙ ap (λ z. encodes (40 ∷ z)) (encodes_same cs (x ++ r) (sym next.text ∙ f))

  size_is : (x : List ℕ) → e ≡ from + 1 + byte_len x → e ≡ from + byte_len (40 ∷ x)
  size_is x f = let g = one_byte 40 x (lit< tt) in omega arith

  pub text_name_halt : IsTextHalt bs (from + 1) (Text (Parentheses 0 (most_depth - suc depth))) e → takes_args name ≡ true → takes_list name ≡ false → IsNameHalt bs from depth name e
  text_name_halt h a l =
      let q0 = Text (Parentheses 0 (most_depth - suc depth)) in
      let there : IsFrom bs e h.back = subst (λ n. IsFrom bs n h.back) (sym h.size) (from_back bs (from + 1) h.front h.back (record { fits = h.fits; text = h.text })) in
      let unclosed : (is_final h.last && begins 41 h.back) ≡ false = ap (λ x. is_final h.last && x) (sym (close_begins bs e h.back there)) ∙ h.open_text in
      record {
        front = 40 ∷ h.front;
        back = h.back;
        fits = here.fits;
        text = front_is h.front h.back h.text;
        size = size_is h.front h.size;
        args = text (h.front ++ finish h.last);
        more = finish h.last ++ 41 ∷ [];
        fit = (a, below, ap (λ b. is_plain b (suc depth) (h.front ++ finish h.last)) l ∙ ap is_whole (made_whole q0 h.last h.front h.reads) ∙ finish_final h.last);
        goes = ap (λ x. 40 ∷ x) (append_assoc h.front (finish h.last) (41 ∷ []));
        blocked = λ q f k. (
          (depth, in_text h.last),
          (
            moved depth (in_simple q name) 40 h.front (depth, in_text q0) (opens_args depth q name f k ∙ text_opens depth name a l below) ∙ follow_text depth q0 h.last h.front h.reads,
            text_halts depth h.last h.back unclosed h.stuck,
          ),
        );
      }

  pub list_name_halt : IsListHalt bs (from + 1) (suc depth) e → takes_list name ≡ true → IsNameHalt bs from depth name e
  list_name_halt h l = record {
    front = 40 ∷ h.front;
    back = h.back;
    fits = here.fits;
    text = front_is h.front h.back h.text;
    size = size_is h.front h.size;
    args = h.args;
    more = h.more;
    fit = list_fit bs from depth e name cs here below h.args l h.fit;
    goes = list_enclosed bs from depth e name cs here below h.args h.fit ∙ ap (λ x. 40 ∷ x) h.goes;
    blocked = λ q f k. (h.blocked.0, (moved depth (in_simple q name) 40 h.front (suc depth, at_start true) (opens_args depth q name f k ∙ list_opens depth name l below) ∙ h.blocked.1.0, h.blocked.1.1));
  }

-- inside a list of arguments
pub inner_halt : (bs : List ℕ) (from depth e : ℕ) (cs : List ℕ) → IsHalt bs from depth Fresh e → IsFrom bs from cs → blank_list cs ≡ false → IsListHalt bs from depth e
inner_halt bs from depth e cs h f b = record {
  front = h.front;
  back = h.back;
  fits = h.fits;
  text = h.text;
  size = h.size;
  args = list h.parts;
  more = h.more ++ 41 ∷ [];
  fit = (h.last, (h.ends, h.are));
  goes = ap (λ x. x ++ 41 ∷ []) h.goes ∙ append_assoc h.front h.more (41 ∷ []);
  blocked = h.blocked (at_start true) tt (λ _. ap blank_list (encodes_same (h.front ++ h.back) cs (sym h.text ∙ f.text)) ∙ b);
}

at_end : (bs : List ℕ) (e depth : ℕ) → list_stops bs e depth ≡ true → eqb (get_or bs e 0) 41 ≡ false → length bs ≤ e
at_end bs e depth s n = elim (cases_lt e (length bs)) [ inr l ↦ l | inl l ↦ absurd (false≢true (sym (go (nat_le (length bs) e) (nat_lt 0 depth) (eqb (get_or bs e 0) 41) n (below l)) ∙ s)) ]
  where
    go : (a b c : Bool) → c ≡ false → a ≡ false → (a || (b && c)) ≡ false
    go a true c e f = rw (e, f) refl
    go a false c e f = rw f refl

    below : e < length bs → nat_le (length bs) e ≡ false
    below l = grind (arith, nat_tests)

-- a list of arguments without its end
pub open_list_halt : (bs : List ℕ) (from depth e : ℕ) (parts : Tree) (h : IsEnded bs from depth parts e) → from ≤ length bs → list_stops bs e depth ≡ true → eqb (get_or bs e 0) 41 ≡ false → 0 < depth → blank_list (written parts ++ h.row.ahead) ≡ false
    → IsListHalt bs from depth e
open_list_halt bs from depth e parts h i s n d b = record {
  front = written parts;
  back = h.row.ahead;
  fits = i;
  text = h.row.text;
  size = h.row.size;
  args = list parts;
  more = 41 ∷ [];
  fit = (h.last, (h.ends, h.row.are));
  goes = refl;
  blocked =
      let m = h.row.moves (at_start true) tt (λ _. b) in
      ((depth, m.0), (m.1.0, nothing_left h.row.ahead m.0 (sym (drop_all e bs (at_end bs e depth s n)) ∙ h.row.here)));
}
  where
    unended : (d : ℕ) (m : Place) → 0 < d → accepts d m ≡ false
    unended zero m l = absurd (omega arith)
    unended (suc d) m l = refl

    nothing_left : (cs : List ℕ) (m : Place) → [] ≡ encodes cs → Blocked depth m cs
    nothing_left [] m z = unended depth m d
    nothing_left (c ∷ cs) m z = absurd (some_bytes c cs (sym z))

-- a list of blanks doesn't halt
pub blank_halts : (bs : List ℕ) (from depth : ℕ) (f : Failure) → is_blank_list bs from ≡ true → TextHalts bs from (Blank Comments) f → ListHalts bs from depth f
blank_halts bs from depth (Memory m) b h = tt
blank_halts bs from depth (At e) b h =
    let p = and_parts (reads_blanks (scan_last (Blank Comments) (drop from bs))) (eqb (get_or bs (from + scan_len (Blank Comments) (drop from bs)) 0) 41) b in
    absurd (true≢false (sym (both (ap is_final h.last_is ∙ final_of (scan_last (Blank Comments) (drop from bs)) p.0) (ap (λ n. eqb (get_or bs n 0) 41) h.end_is ∙ p.1)) ∙ h.open_text))
  where
    both : {x y : Bool} → x ≡ true → y ≡ true → (x && y) ≡ true
    both e f = rw (e, f) refl

    final_of : (q : Reading) → reads_blanks q ≡ true → is_final q ≡ true
    final_of (Blank g) e = refl
    final_of q e = absurd (false≢true e)

pub text_halts_name : (bs : List ℕ) (from depth : ℕ) (name cs : List ℕ) → IsFrom bs from (40 ∷ cs) → depth < most_depth → takes_args name ≡ true → takes_list name ≡ false → (f : Failure) → TextHalts bs (from + 1) (Text (Parentheses 0 (most_depth - suc depth))) f → NameHalts bs from depth name f
text_halts_name bs from depth name cs h b a l (Memory m) k = tt
text_halts_name bs from depth name cs h b a l (At e) k = text_name_halt bs from depth e name cs h b k a l

pub list_halts_name : (bs : List ℕ) (from depth : ℕ) (name cs : List ℕ) → IsFrom bs from (40 ∷ cs) → depth < most_depth → takes_list name ≡ true → (f : Failure) → ListHalts bs (from + 1) (suc depth) f → NameHalts bs from depth name f
list_halts_name bs from depth name cs h b l (Memory m) k = tt
list_halts_name bs from depth name cs h b l (At e) k = list_name_halt bs from depth e name cs h b k l

pub inner_halts : (bs : List ℕ) (from depth : ℕ) (cs : List ℕ) → IsFrom bs from cs → blank_list cs ≡ false → (f : Failure) → Halts bs from depth Fresh f → ListHalts bs from depth f
inner_halts bs from depth cs h b (Memory m) k = tt
inner_halts bs from depth cs h b (At e) k = inner_halt bs from depth e cs k h b
