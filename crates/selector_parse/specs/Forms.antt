-- The forms of selectors' parts, on lists of characters. A character that isn't ASCII counts as a character of a name.
use Rattle.std.specs.Prelude.{ℕ, zero, suc, ◌+◌, ◌-◌, Bool, true, false, not, ◌==◌, ◌&&◌, ◌||◌, nat_lt, nat_le, if◌then◌else◌, List, [], ◌∷◌, drop, Option, Some, None}
use Rattle.std.specs.Option.{option_map}
use Rattle.std.specs.Char.{is_ascii_alphanumeric}
use Rattle.css_text.specs.Characters.{is_space, is_quote}
use Rattle.css_text.specs.Forms.{begins, through, through_comment}
use Rattle.selector_parse.specs.declared.part.PartKind.{PartKind}
use Rattle.selector_parse.specs.declared.part.PartKind.TheVariants.{Element, Id, Class, Attribute, PseudoClass, PseudoElement, Nesting}
use Rattle.selector_parse.specs.Names.{is_legacy}

-- an ASCII letter or digit, - or _, or a character past ASCII
abbrev pub is_name_char : ℕ → Bool
is_name_char c = is_ascii_alphanumeric c || c == 45 || c == 95 || nat_le 128 c

-- LF, CR, FF
abbrev pub is_break : ℕ → Bool
is_break c = c == 10 || c == 13 || c == 12

-- > + ~
abbrev pub is_symbol : ℕ → Bool
is_symbol c = c == 62 || c == 43 || c == 126

abbrev pub is_empty : List ℕ → Bool
is_empty [] = true
is_empty (c ∷ cs) = false

-- How many characters a form has after c at the start of the text c ∷ cs, or None where it doesn't stand there.
abbrev pub Form : Type 0
Form = ℕ → List ℕ → Option ℕ

-- by whether a form stands there
abbrev pub on_form : {B : Type 0} → Option ℕ → B → (ℕ → B) → B
on_form None b f = b
on_form (Some n) b f = f n

-- What comes after such forms side by side, as far as they go, where the first k characters of the text are left out.
abbrev pub after_all : Form → ℕ → List ℕ → List ℕ
after_all form k [] = []
after_all form (suc k) (c ∷ cs) = after_all form k cs
after_all form zero (c ∷ cs) = on_form (form c cs) (c ∷ cs) (λ n. after_all form n cs)

-- the text is such forms side by side, or empty
abbrev pub are_all : Form → List ℕ → Bool
are_all form t = is_empty (after_all form 0 t)

-- the text is one such form
abbrev pub is_one : Form → List ℕ → Bool
is_one form [] = false
is_one form (c ∷ cs) = on_form (form c cs) false (λ n. is_empty (drop n cs))

-- how many characters a backslash hides in a name: one that is no line break
abbrev pub hidden_in_name : List ℕ → Option ℕ
hidden_in_name [] = None
hidden_in_name (d ∷ ds) = if is_break d then None else Some 1

-- and in brackets and parentheses: one
abbrev pub hidden_in_text : List ℕ → Option ℕ
hidden_in_text [] = None
hidden_in_text (d ∷ ds) = Some 1

-- a unit of a name: one of its characters, or a backslash with what it hides
abbrev pub name_unit : Form
name_unit c cs = if is_name_char c then Some 0 else if c == 92 then hidden_in_name cs else None

-- a unit of text in brackets or parentheses: a backslash with what it hides, a string, or another character but those that end
-- such text
abbrev pub text_unit : (ℕ → Bool) → Form
text_unit ends c cs = if c == 92 then hidden_in_text cs else if is_quote c then through c false cs else if ends c then None else Some 0

-- a comment, through its first `*/`
abbrev pub comment_form : Form
comment_form c cs = if c == 47 && begins 42 cs then option_map suc (through_comment (drop 1 cs)) else None

-- a unit of blanks: a white space character or a comment
abbrev pub blank_unit : Form
blank_unit c cs = if is_space c then Some 0 else comment_form c cs

-- one or more units
abbrev pub is_name : List ℕ → Bool
is_name [] = false
is_name (c ∷ cs) = are_all name_unit (c ∷ cs)

-- *
abbrev pub is_star : List ℕ → Bool
is_star [] = false
is_star (c ∷ cs) = c == 42 && is_empty cs

-- a name or *
abbrev pub is_name_or_star : List ℕ → Bool
is_name_or_star t = is_star t || is_name t

-- what comes after a name or *, if one stands there
abbrev pub after_namespace : List ℕ → List ℕ
after_namespace t = if begins 42 t then drop 1 t else after_all name_unit 0 t

-- | with a name or *
abbrev pub is_barred : List ℕ → Bool
is_barred [] = false
is_barred (c ∷ cs) = c == 124 && is_name_or_star cs

-- a name or *; or an optional name or *, then |, then a name or *
abbrev pub is_element : List ℕ → Bool
is_element t = is_name_or_star t || is_barred (after_namespace t)

-- ]
abbrev pub is_bracket : List ℕ → Bool
is_bracket [] = false
is_bracket (c ∷ cs) = c == 93 && is_empty cs

-- after the [ of an attribute: strings, escapes and other characters but ], then ]
abbrev pub is_attribute_end : List ℕ → Bool
is_attribute_end t = is_bracket (after_all (text_unit (λ c. c == 93)) 0 t)

-- after the : of a pseudo-class: a name but the four
abbrev pub is_pseudo_class : List ℕ → Bool
is_pseudo_class t = is_name t && not (is_legacy t)

-- after the : of a pseudo-element: one more : and a name, or one of the four
abbrev pub is_pseudo_element : List ℕ → Bool
is_pseudo_element [] = false
is_pseudo_element (c ∷ cs) = if c == 58 then is_name cs else is_legacy (c ∷ cs)

-- A simple selector of this kind, without arguments.
abbrev pub is_simple : PartKind → List ℕ → Bool
is_simple Element t = is_element t
is_simple k [] = false
is_simple Id (c ∷ cs) = c == 35 && is_name cs
is_simple Class (c ∷ cs) = c == 46 && is_name cs
is_simple Attribute (c ∷ cs) = c == 91 && is_attribute_end cs
is_simple Nesting (c ∷ cs) = c == 38 && is_empty cs
is_simple PseudoClass (c ∷ cs) = c == 58 && is_pseudo_class cs
is_simple PseudoElement (c ∷ cs) = c == 58 && is_pseudo_element cs
is_simple k t = false

-- how many parentheses are open after the character where so many were, at most `most` of them at once
abbrev pub opened : ℕ → ℕ → ℕ → Option ℕ
opened most held c =
    if c == 40 then (if nat_lt held most then Some (held + 1) else None)
    else if c == 41 then (if nat_lt 0 held then Some (held - 1) else None)
    else Some held

-- Text in which so many parentheses are open, its first k characters left out: strings, escapes, balanced parentheses, at most
-- `most` of them open at once, and other characters.
abbrev pub is_balanced : ℕ → ℕ → ℕ → List ℕ → Bool
is_balanced most held k [] = held == 0
is_balanced most held (suc k) (c ∷ cs) = is_balanced most held k cs
is_balanced most held zero (c ∷ cs) = on_form (text_unit (λ d. false) c cs) false (λ n. on_form (opened most held c) false (λ m. is_balanced most m n cs))

-- white space and comments
abbrev pub are_blanks : List ℕ → Bool
are_blanks t = are_all blank_unit t

-- blanks that hold white space
abbrev pub hold_space : List ℕ → Bool
hold_space t = are_blanks t && not (are_all comment_form t)

-- a sign with blanks after it
abbrev pub begin_sign : List ℕ → Bool
begin_sign [] = false
begin_sign (c ∷ cs) = is_symbol c && are_blanks cs

-- a sign with blanks on both sides
abbrev pub has_sign : List ℕ → Bool
has_sign t = begin_sign (after_all blank_unit 0 t)

-- blanks that hold white space, or a sign with blanks on both sides
abbrev pub is_combinator : List ℕ → Bool
is_combinator t = hold_space t || has_sign t
