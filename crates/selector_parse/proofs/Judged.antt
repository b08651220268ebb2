-- Parts are of their forms and follow one another exactly where the code goes through them.
use Rattle.std.proofs.Common.{◌≡◌, ℕ, suc, ◌+◌, ◌-◌, Bool, true, false, List, [], ◌∷◌, Option, Some, None, refl, ap, sym, ◌∙◌, subst}
use Rattle.std.specs.Prelude.{◌&&◌, ◌||◌, not}
use Rattle.std.proofs.lemmas.Bool.{false≢true, and_parts, and_from, or_left}
use Rattle.css_text.specs.Ahead.{byte_len}
use Rattle.selector_parse.specs.declared.part.PartKind.{PartKind}
use Rattle.selector_parse.specs.declared.phase.Phase.{Phase}
use Rattle.selector_parse.specs.declared.phase.Phase.TheVariants.{Fresh, Open, Inside, Commented, Trailing}
use Rattle.selector_parse.specs.declared.reading.Gap.{Gap}
use Rattle.selector_parse.specs.declared.reading.Gap.TheVariants.{One, Comments, Spaced, Symbol}
use Rattle.selector_parse.specs.Tree.{Tree, none, comma, gap, simple, plain, nested, blank, comment, combinator, written}
use Rattle.selector_parse.specs.Names.{takes_list}
use Rattle.selector_parse.specs.Forms.{is_empty, is_simple, hold_space, is_combinator}
use Rattle.selector_parse.specs.Grammar.{most_depth, ends, begins_compound, begins_complex, is_element_kind, continues, follows_simple, is_plain, AreParts, StandAt, Selects}
use Rattle.selector_parse.specs.Phases.{kind_of, gap_of, is_blanks, is_comment, is_some_text, if_so, blank_next, comment_next, combinator_next, is_simple as reads_simple, is_plain as reads_plain, may_end, Are, Passes}
use Rattle.selector_parse.proofs.Moves.{some_same, if_so_parts}
use Rattle.selector_parse.proofs.TextForms.{balanced_is}
use Rattle.selector_parse.proofs.BlankForms.{signed, spaced, comment_is, blanks_is, sign_is, space_is}
use Rattle.selector_parse.proofs.SimpleForms.{first_is, next_is, kind_is}

-- what may follow where the code stands
abbrev may_follow : Phase → Tree → Bool
may_follow Fresh x = begins_complex x
may_follow Open x = begins_compound x
may_follow Inside x = follows_simple x
may_follow Commented x = continues x
may_follow Trailing x = ends x

-- a simple selector of this kind among them
abbrev leads : Phase → PartKind → Bool
leads Fresh k = true
leads Open k = true
leads Inside k = not (is_element_kind k) || false
leads Commented k = not (is_element_kind k)
leads Trailing k = false

lead_simple : (p : Phase) (k : PartKind) (a : ℕ) (t : List ℕ) (x : Tree) → may_follow p (simple k a t x) ≡ leads p k
lead_simple Fresh k a t x = refl
lead_simple Open k a t x = refl
lead_simple Inside k a t x = refl
lead_simple Commented k a t x = refl
lead_simple Trailing k a t x = refl

lead_plain : (p : Phase) (k : PartKind) (a : ℕ) (t args : List ℕ) (x : Tree) → may_follow p (plain k a t args x) ≡ leads p k
lead_plain Fresh k a t args x = refl
lead_plain Open k a t args x = refl
lead_plain Inside k a t args x = refl
lead_plain Commented k a t args x = refl
lead_plain Trailing k a t args x = refl

lead_nested : (p : Phase) (k : PartKind) (a : ℕ) (t : List ℕ) (i x : Tree) → may_follow p (nested k a t i x) ≡ leads p k
lead_nested Fresh k a t i x = refl
lead_nested Open k a t i x = refl
lead_nested Inside k a t i x = refl
lead_nested Commented k a t i x = refl
lead_nested Trailing k a t i x = refl

-- a simple selector both ways
record Simple (p : Phase) (k : PartKind) (t : List ℕ) : Type 0 where
  pub form : is_simple k t ≡ true
  pub lead : leads p k ≡ true

first_form : (k : PartKind) (t : List ℕ) → k ≡ kind_of t → reads_simple Fresh t ≡ true → is_simple k t ≡ true
first_form k t e f = ap (λ k. is_simple k t) e ∙ sym (first_is t) ∙ f

next_form : (k : PartKind) (t : List ℕ) → k ≡ kind_of t → reads_simple Inside t ≡ true → (is_simple k t ≡ true) × (not (is_element_kind k) ≡ true)
next_form k t e f = and_parts (is_simple k t) (not (is_element_kind k)) (ap (λ k. is_simple k t && not (is_element_kind k)) e ∙ sym (next_is t) ∙ f)

simple_form : (p : Phase) (k : PartKind) (t : List ℕ) → k ≡ kind_of t → reads_simple p t ≡ true → Simple p k t
simple_form Fresh k t e f = record { form = first_form k t e f; lead = refl }
simple_form Open k t e f = record { form = first_form k t e f; lead = refl }
simple_form Inside k t e f = let h = next_form k t e f in record { form = h.0; lead = or_left _ _ h.1 }
simple_form Commented k t e f = let h = next_form k t e f in record { form = h.0; lead = h.1 }
simple_form Trailing k t e f = absurd (false≢true f)

or_false : (b : Bool) → (b || false) ≡ true → b ≡ true
or_false true e = refl
or_false false e = e

next_read : (k : PartKind) (t : List ℕ) → is_simple k t ≡ true → not (is_element_kind k) ≡ true → reads_simple Inside t ≡ true
next_read k t e f = next_is t ∙ ap (λ k. is_simple k t && not (is_element_kind k)) (sym (kind_is k t e)) ∙ and_from (is_simple k t) (not (is_element_kind k)) e f

simple_read : (p : Phase) (k : PartKind) (t : List ℕ) → is_simple k t ≡ true → leads p k ≡ true → reads_simple p t ≡ true
simple_read Fresh k t e f = first_is t ∙ ap (λ k. is_simple k t) (sym (kind_is k t e)) ∙ e
simple_read Open k t e f = first_is t ∙ ap (λ k. is_simple k t) (sym (kind_is k t e)) ∙ e
simple_read Inside k t e f = next_read k t e (or_false _ f)
simple_read Commented k t e f = next_read k t e f
simple_read Trailing k t e f = absurd (false≢true f)

-- arguments
plain_is : (b : Bool) (depth : ℕ) (args : List ℕ) → reads_plain b depth args ≡ is_plain b depth args
plain_is true depth args = blanks_is args
plain_is false depth args = balanced_is (most_depth - depth) 0 args

-- blanks and signs
some_text : (t : List ℕ) → is_some_text t ≡ true → is_empty t ≡ false
some_text [] e = absurd (false≢true e)
some_text (c ∷ cs) e = refl

text_some : (t : List ℕ) → is_empty t ≡ false → is_some_text t ≡ true
text_some [] e = sym e
text_some (c ∷ cs) e = refl

fresh_gap : (o : Option Gap) (q : Phase) → combinator_next Fresh o ≡ Some q → (signed o ≡ true) × (Open ≡ q)
fresh_gap (Some Symbol) q e = (refl, some_same Open q e)
fresh_gap (Some One) q e = cc
fresh_gap (Some Comments) q e = cc
fresh_gap (Some Spaced) q e = cc
fresh_gap None q e = cc

inside_gap : (o : Option Gap) (q : Phase) → combinator_next Inside o ≡ Some q → ((spaced o || signed o) ≡ true) × (Open ≡ q)
inside_gap (Some Symbol) q e = (refl, some_same Open q e)
inside_gap (Some Spaced) q e = (refl, some_same Open q e)
inside_gap (Some One) q e = cc
inside_gap (Some Comments) q e = cc
inside_gap None q e = cc

gap_fresh : (o : Option Gap) → signed o ≡ true → combinator_next Fresh o ≡ Some Open
gap_fresh (Some Symbol) e = refl
gap_fresh (Some One) e = absurd (false≢true e)
gap_fresh (Some Comments) e = absurd (false≢true e)
gap_fresh (Some Spaced) e = absurd (false≢true e)
gap_fresh None e = absurd (false≢true e)

gap_inside : (o : Option Gap) → (spaced o || signed o) ≡ true → combinator_next Inside o ≡ Some Open
gap_inside (Some Symbol) e = refl
gap_inside (Some Spaced) e = refl
gap_inside (Some One) e = absurd (false≢true e)
gap_inside (Some Comments) e = absurd (false≢true e)
gap_inside None e = absurd (false≢true e)

combinator_is : (t : List ℕ) → (spaced (gap_of t) || signed (gap_of t)) ≡ is_combinator t
combinator_is t = ap (λ b. b || signed (gap_of t)) (space_is t) ∙ ap (λ b. hold_space t || b) (sign_is t)

sign_combinator : (t : List ℕ) → signed (gap_of t) ≡ true → is_combinator t ≡ true
sign_combinator t e = ap (λ b. hold_space t || b) (sym (sign_is t) ∙ e) ∙ go (hold_space t)
  where
    go : (b : Bool) → (b || true) ≡ true
    go true = refl
    go false = refl

-- a gap both ways: the next place, what follows, and the form
record Lead (p q : Phase) (a : ℕ) (t : List ℕ) (x : Tree) : Type 0 where
  pub open_next : Open ≡ q
  pub form : is_combinator t ≡ true
  pub follows : may_follow p (gap combinator a t x) ≡ true

combinator_lead : (p q : Phase) (a : ℕ) (t : List ℕ) (x : Tree) → combinator_next p (gap_of t) ≡ Some q → Lead p q a t x
combinator_lead Fresh q a t x e = let h = fresh_gap (gap_of t) q e in record { open_next = h.1; form = sign_combinator t h.0; follows = sym (sign_is t) ∙ h.0 }
combinator_lead Inside q a t x e = let h = inside_gap (gap_of t) q e in record { open_next = h.1; form = sym (combinator_is t) ∙ h.0; follows = refl }
combinator_lead Open q a t x e = cc
combinator_lead Commented q a t x e = cc
combinator_lead Trailing q a t x e = cc

combinator_back : (p : Phase) (a : ℕ) (t : List ℕ) (x : Tree) → is_combinator t ≡ true → may_follow p (gap combinator a t x) ≡ true → combinator_next p (gap_of t) ≡ Some Open
combinator_back Fresh a t x e f = gap_fresh (gap_of t) (sign_is t ∙ f)
combinator_back Inside a t x e f = gap_inside (gap_of t) (combinator_is t ∙ e)
combinator_back Open a t x e f = absurd (false≢true f)
combinator_back Commented a t x e f = absurd (false≢true f)
combinator_back Trailing a t x e f = absurd (false≢true f)

blank_follows : (p q : Phase) (a : ℕ) (t : List ℕ) (x : Tree) → blank_next p ≡ Some q → may_follow q x ≡ true → may_follow p (gap blank a t x) ≡ true
blank_follows Fresh q a t x e f = subst (λ q. may_follow q x ≡ true) (sym (some_same Open q e)) f
blank_follows Inside q a t x e f = subst (λ q. may_follow q x ≡ true) (sym (some_same Trailing q e)) f
blank_follows Open q a t x e f = cc
blank_follows Commented q a t x e f = cc
blank_follows Trailing q a t x e f = cc

blank_back : (p : Phase) (a : ℕ) (t : List ℕ) (x : Tree) → may_follow p (gap blank a t x) ≡ true → (q : Phase) × ((blank_next p ≡ Some q) × (may_follow q x ≡ true))
blank_back Fresh a t x f = (Open, (refl, f))
blank_back Inside a t x f = (Trailing, (refl, f))
blank_back Open a t x f = absurd (false≢true f)
blank_back Commented a t x f = absurd (false≢true f)
blank_back Trailing a t x f = absurd (false≢true f)

comment_follows : (p q : Phase) (a : ℕ) (t : List ℕ) (x : Tree) → comment_next p ≡ Some q → (Commented ≡ q) × (may_follow p (gap comment a t x) ≡ true)
comment_follows Inside q a t x e = (some_same Commented q e, refl)
comment_follows Commented q a t x e = (some_same Commented q e, refl)
comment_follows Fresh q a t x e = cc
comment_follows Open q a t x e = cc
comment_follows Trailing q a t x e = cc

comment_back : (p : Phase) (a : ℕ) (t : List ℕ) (x : Tree) → may_follow p (gap comment a t x) ≡ true → comment_next p ≡ Some Commented
comment_back Inside a t x f = refl
comment_back Commented a t x f = refl
comment_back Fresh a t x f = absurd (false≢true f)
comment_back Open a t x f = absurd (false≢true f)
comment_back Trailing a t x f = absurd (false≢true f)

-- where a complex selector ends
end_follows : (p : Phase) → may_end p ≡ true → may_follow p none ≡ true
end_follows Inside e = refl
end_follows Trailing e = refl
end_follows Fresh e = absurd (false≢true e)
end_follows Open e = absurd (false≢true e)
end_follows Commented e = absurd (false≢true e)

comma_follows : (p : Phase) (x : Tree) → may_end p ≡ true → may_follow p (comma x) ≡ true
comma_follows Inside x e = refl
comma_follows Trailing x e = refl
comma_follows Fresh x e = absurd (false≢true e)
comma_follows Open x e = absurd (false≢true e)
comma_follows Commented x e = absurd (false≢true e)

end_back : (p : Phase) → may_follow p none ≡ true → may_end p ≡ true
end_back Inside e = refl
end_back Trailing e = refl
end_back Fresh e = absurd (false≢true e)
end_back Open e = absurd (false≢true e)
end_back Commented e = absurd (false≢true e)

comma_back : (p : Phase) (x : Tree) → may_follow p (comma x) ≡ true → may_end p ≡ true
comma_back Inside x e = refl
comma_back Trailing x e = refl
comma_back Fresh x e = absurd (false≢true e)
comma_back Open x e = absurd (false≢true e)
comma_back Commented x e = absurd (false≢true e)

-- parts as the grammar has them
record Judged (d at : ℕ) (p : Phase) (x : Tree) : Type 0 where
  pub follows : may_follow p x ≡ true
  pub are : AreParts d x
  pub places : StandAt at x

judged : (d at : ℕ) (p q : Phase) (x : Tree) → Are d p at x q → may_end q ≡ true → Judged d at p x
judged d at p q none a e = record { follows = end_follows p (ap may_end a ∙ e); are = tt; places = tt }
judged d at p q (comma x) a e = let j = judged d (at + 1) Fresh q x a.1 e in record { follows = comma_follows p x a.0; are = (j.follows, j.are); places = j.places }
judged d at p q (gap blank k t x) a e =
    let h = if_so_parts (is_some_text t && is_blanks (gap_of t)) (blank_next p) a.1.0 a.1.1.0 in
    let b = and_parts (is_some_text t) (is_blanks (gap_of t)) h.0 in
    let j = judged d (at + byte_len t) a.1.0 q x a.1.1.1 e in
    record { follows = blank_follows p a.1.0 k t x h.1 j.follows; are = (some_text t b.0, sym (blanks_is t) ∙ b.1, j.are); places = (a.0, j.places) }
judged d at p q (gap comment k t x) a e =
    let h = if_so_parts (is_comment t) (comment_next p) a.1.0 a.1.1.0 in
    let f = comment_follows p a.1.0 k t x h.1 in
    let j = judged d (at + byte_len t) a.1.0 q x a.1.1.1 e in
    record { follows = f.1; are = (sym (comment_is t) ∙ h.0, subst (λ p. may_follow p x ≡ true) (sym f.0) j.follows, j.are); places = (a.0, j.places) }
judged d at p q (gap combinator k t x) a e =
    let h = combinator_lead p a.1.0 k t x a.1.1.0 in
    let j = judged d (at + byte_len t) a.1.0 q x a.1.1.1 e in
    record { follows = h.follows; are = (h.form, subst (λ p. may_follow p x ≡ true) (sym h.open_next) j.follows, j.are); places = (a.0, j.places) }
judged d at p q (simple k g t x) a e =
    let h = simple_form p k t a.1 a.2 in
    let j = judged d (at + byte_len t) Inside q x a.3 e in
    record { follows = lead_simple p k g t x ∙ h.lead; are = (h.form, j.follows, j.are); places = (a.0, j.places) }
judged d at p q (plain k g t args x) a e =
    let h = simple_form p k t a.1 a.2 in
    let j = judged d (at + byte_len t + 1 + byte_len args + 1) Inside q x a.6 e in
    record { follows = lead_plain p k g t args x ∙ h.lead; are = (h.form, a.3, a.4, sym (plain_is (takes_list t) (suc d) args) ∙ a.5, j.follows, j.are); places = (a.0, j.places) }
judged d at p q (nested k g t i x) a e =
    let h = simple_form p k t a.1 a.2 in
    let n = judged (suc d) (at + byte_len t + 1) Fresh a.5.0 i a.5.1.1 a.5.1.0 in
    let j = judged d (at + byte_len t + 1 + byte_len (written i) + 1) Inside q x a.6 e in
    record { follows = lead_nested p k g t i x ∙ h.lead; are = (h.form, a.3, a.4, n.follows, n.are, j.follows, j.are); places = (a.0, n.places, j.places) }

-- and as the code goes through them
record Gone (d at : ℕ) (p : Phase) (x : Tree) : Type 0 where
  pub last : Phase
  pub ends : may_end last ≡ true
  pub are : Are d p at x last

gone : (d at : ℕ) (p : Phase) (x : Tree) → may_follow p x ≡ true → AreParts d x → StandAt at x → Gone d at p x
gone d at p none f a s = record { last = p; ends = end_back p f; are = refl }
gone d at p (comma x) f a s = let g = gone d (at + 1) Fresh x a.0 a.1 s in record { last = g.last; ends = g.ends; are = (comma_back p x f, g.are) }
gone d at p (gap blank k t x) f a s =
    let b = blank_back p k t x f in
    let g = gone d (at + byte_len t) b.0 x b.1.1 a.2 s.1 in
    record { last = g.last; ends = g.ends; are = (s.0, (b.0, (ap (λ c. if_so c (blank_next p)) (and_from (is_some_text t) (is_blanks (gap_of t)) (text_some t a.0) (blanks_is t ∙ a.1)) ∙ b.1.0, g.are))) }
gone d at p (gap comment k t x) f a s =
    let g = gone d (at + byte_len t) Commented x a.1 a.2 s.1 in
    record { last = g.last; ends = g.ends; are = (s.0, (Commented, (ap (λ c. if_so c (comment_next p)) (comment_is t ∙ a.0) ∙ comment_back p k t x f, g.are))) }
gone d at p (gap combinator k t x) f a s =
    let g = gone d (at + byte_len t) Open x a.1 a.2 s.1 in
    record { last = g.last; ends = g.ends; are = (s.0, (Open, (combinator_back p k t x a.0 f, g.are))) }
gone d at p (simple k b t x) f a s =
    let g = gone d (at + byte_len t) Inside x a.1 a.2 s.1 in
    record { last = g.last; ends = g.ends; are = (s.0, kind_is k t a.0, simple_read p k t a.0 (sym (lead_simple p k b t x) ∙ f), g.are) }
gone d at p (plain k b t args x) f a s =
    let g = gone d (at + byte_len t + 1 + byte_len args + 1) Inside x a.4 a.5 s.1 in
    record { last = g.last; ends = g.ends; are = (s.0, kind_is k t a.0, simple_read p k t a.0 (sym (lead_plain p k b t args x) ∙ f), a.1, a.2, plain_is (takes_list t) (suc d) args ∙ a.3, g.are) }
gone d at p (nested k b t i x) f a s =
    let n = gone (suc d) (at + byte_len t + 1) Fresh i a.3 a.4 s.1 in
    let g = gone d (at + byte_len t + 1 + byte_len (written i) + 1) Inside x a.5 a.6 s.2 in
    record { last = g.last; ends = g.ends; are = (s.0, kind_is k t a.0, simple_read p k t a.0 (sym (lead_nested p k b t i x) ∙ f), a.1, a.2, (n.last, (n.ends, n.are)), g.are) }

-- the parts of a text
pub selects : (s : List ℕ) (x : Tree) → Passes s x → Selects s x
selects s x h = let j = judged 0 0 Fresh h.last x h.are h.ends in record { text = h.text; begins = j.follows; are = j.are; places = j.places }

pub passes : (s : List ℕ) (x : Tree) → Selects s x → Passes s x
passes s x h = let g = gone 0 0 Fresh x h.begins h.are h.places in record { text = h.text; last = g.last; ends = g.ends; are = g.are }
