-- How large the counts of selectors are, by their depth.
use Rattle.std.proofs.Common.{add-one, drop, drop-cons, if◌then◌else◌, Bool, true, false, ℕ, ◌≡◌, ◌<◌, ◌≤◌, ◌+◌, ◌*◌, ◌^◌, List, map, length, get_or, refl, ap, ◌∙◌, arith, mul-le-mul_right}
use Rattle.selector_parse.specs.declared.part.PartKind.{PartKind}
use Rattle.selector_parse.specs.declared.part.PartKind.TheVariants.{Blank, Comment, Combinator, Element, Id, Class, Attribute, PseudoClass, PseudoElement, Nesting}
use Rattle.selector_parse.specs.declared.tally.Counts.{Counts}
use Rattle.selector_parse.specs.declared.part.Part.{Part}
use Rattle.selector_parse.specs.declared.part.Args.TheVariants.{Absent}
use Rattle.selector_parse.specs.declared.part.Complex.{Complex}
use Rattle.selector_parse.specs.declared.part.Args.TheViews.{out-Part, out-Complex}
use Rattle.selector_parse.specs.declared.part.Args.TheFolds.{the_lemmas, fold_out-Part, fold_out-Complex}
use Rattle.selector_parse.specs.Wide.{weight}
use Rattle.selector_parse.specs.Worth.{worth_of_complex, sum_from, greatest_from, plus, greater, is_less, ArgsWorth, no_args, no_list, list_of, is_group, worth, worth_of_args, worth_of_part, args_worth, complex_worth, part_worth, selectors_worth, nothing, own, names_all, is_where, depth_of_part, size}
use Rattle.selector_parse.proofs.Words.{weight_mono, weight_pos, weight-suc}

unless_small : (b : Bool) (x : Counts) → size x ≤ 1 → size (if b then nothing else x) ≤ 1
unless_small true x l = omega arith
unless_small false x l = l

pub own_small : (k : PartKind) (t : List ℕ) → size (own k t) ≤ 1
own_small Blank t = omega arith
own_small Comment t = omega arith
own_small Combinator t = omega arith
own_small Element t = unless_small (names_all t) _ (omega arith)
own_small Id t = omega arith
own_small Class t = omega arith
own_small Attribute t = omega arith
own_small PseudoClass t = unless_small (is_where t) _ (omega arith)
own_small PseudoElement t = omega arith
own_small Nesting t = omega arith

pub worth_out : (p : Part) → worth_of_part p ≡ worth (out-Part p).kind (out-Part p).text (worth_of_args (out-Part p).args)
worth_out p = fold_out-Part ArgsWorth Counts Counts Counts args_worth complex_worth part_worth selectors_worth p

-- a part that counts as without arguments
plain_worth : (k : PartKind) (t : List ℕ) (a : ArgsWorth) → is_group k t ≡ false → worth k t a ≡ own k t
plain_worth k t no_args e = refl
plain_worth k t no_list e = ap (λ b. if b then nothing else own k t) e
plain_worth k t (list_of x) e = ap (λ b. if b then (if is_where t then nothing else x) else own k t) e

pub plain_small : (p : Part) → is_group (out-Part p).kind (out-Part p).text ≡ false → size (worth_of_part p) ≤ weight (depth_of_part p)
plain_small p e = omega (arith, ap size (worth_out p ∙ plain_worth _ _ (worth_of_args (out-Part p).args) e), own_small (out-Part p).kind (out-Part p).text, weight_pos (depth_of_part p))

pub absent_small : (p : Part) → (out-Part p).args ≡ Absent → size (worth_of_part p) ≤ weight (depth_of_part p)
absent_small p e =
    let a : worth_of_args (out-Part p).args ≡ no_args = ap worth_of_args e ∙ search the_lemmas in
    omega (arith, ap size (worth_out p ∙ ap (worth (out-Part p).kind (out-Part p).text) a), own_small (out-Part p).kind (out-Part p).text, weight_pos (depth_of_part p))

-- one item more on top of i of them
pub room : (s i n d e : ℕ) → s ≤ i * weight e → i < n → n < 2 ^ 64 → d ≤ e → e ≤ 100 → s + weight d < weight 101
room s i n d e h l m o q = omega (
  arith,
  weight_mono d e o,
  weight_mono (e + 1) 101 (omega arith),
  weight-suc e,
  weight_pos e,
  mul-le-mul_right {m = i + 2} {n = 2 ^ 64} (weight e) (omega arith),
)

pub all_items : (s i n e : ℕ) → s ≤ i * weight e → i ≤ n → n < 2 ^ 64 → s ≤ weight (e + 1)
all_items s i n e h l m = omega (arith, weight-suc e, mul-le-mul_right {m = i} {n = 2 ^ 64} (weight e) (omega arith))

pub complex_worth_out : (c : Complex) → worth_of_complex c ≡ sum_from nothing (map worth_of_part (out-Complex c).parts.items)
complex_worth_out c = fold_out-Complex ArgsWorth Counts Counts Counts args_worth complex_worth part_worth selectors_worth c

-- a loop's next turn
pub sum_turn : (x : Counts) (ps : List Part) (i : ℕ) (d : Part) → i < length ps → sum_from (plus x (worth_of_part (get_or ps i d))) (map worth_of_part (drop (i + 1) ps)) ≡ sum_from x (map worth_of_part (drop i ps))
sum_turn x ps i d l = rw (add-one, drop-cons ps i d) refl

pub greatest_turn : (x : Counts) (cs : List Complex) (i : ℕ) (d : Complex) → i < length cs → greatest_from (greater x (worth_of_complex (get_or cs i d))) (map worth_of_complex (drop (i + 1) cs)) ≡ greatest_from x (map worth_of_complex (drop i cs))
greatest_turn x cs i d l = rw (add-one, drop-cons cs i d) refl

chosen_small : (b : Bool) (x y : Counts) (n : ℕ) → size x ≤ n → size y ≤ n → size (if b then y else x) ≤ n
chosen_small true x y n l m = m
chosen_small false x y n l m = l

pub greater_small : (x y : Counts) (n : ℕ) → size x ≤ n → size y ≤ n → size (greater x y) ≤ n
greater_small x y n l m = chosen_small (is_less x y) x y n l m
