-- The edits that each duty asks for at a moment, from the forest before the call.
use Rattle.std.specs.Prelude.{◌≡◌, ℕ, suc, Bool, true, false, not, ◌==◌, ◌&&◌, ◌||◌, nat_eq, nat_le, List, [], ◌∷◌, ◌++◌, Option, Some, None, if◌then◌else◌, length, filter, reverse, drop}
use Rattle.std.specs.List.{list_any, flat_map}
use Rattle.std.specs.Char.{to_ascii_lowercase}
use Rattle.css_text.specs.declared.lexer.PieceKind.{PieceKind}
use Rattle.css_text.specs.declared.lexer.PieceKind.TheVariants.{Word}
use Rattle.css_text.specs.ValueParts.{plain, function, ValueParts, none, value, written, IsValue}
use Rattle.css_tree.specs.declared.node.Field.TheVariants as F
use Rattle.css_tree.specs.declared.node.NodeText.{NodeText}
use Rattle.css_tree.specs.declared.node.NodeText.TheVariants.{AtRule, Rule, Declaration, Comment}
use Rattle.node_rows.specs.Nodes.{Node, text_of, parent_of, children_of, place_of}
use Rattle.node_store.specs.declared.item.Event.{Event}
use Rattle.node_store.specs.declared.item.Event.TheVariants as E
use Rattle.node_store.specs.declared.item.Moment.{Moment}
use Rattle.node_store.specs.declared.item.Edit.{Edit}
use Rattle.node_store.specs.declared.item.Edit.TheVariants.{Set, Insert, Remove}
use Rattle.node_store.specs.Edits.{changes}
use Rattle.plugin_api.specs.declared.visitor.Duty.{Duty}
use Rattle.plugin_api.specs.declared.visitor.Duty.TheVariants.{Quiet, DropComment, DropEmpty, ShortHex, Unnest}

-- the edits of a node whose parent is p; none where it has no parent
abbrev pub below_parent : Option ℕ → (ℕ → List Edit) → List Edit
below_parent None edits = []
below_parent (Some p) edits = edits p

-- a comment that is kept: nothing stands before its text, which begins with `!`
abbrev pub is_kept : List ℕ → List ℕ → Bool
is_kept [] (c ∷ cs) = c == 33
is_kept _ _ = false

abbrev pub dropped_comment : ℕ → Event → NodeText → List Edit
dropped_comment n E.Comment (Comment before left text right) = if is_kept left text then [] else Remove n ∷ []
dropped_comment n _ _ = []

abbrev pub removed_empty : ℕ → List ℕ → List Edit
removed_empty n [] = Remove n ∷ []
removed_empty n (c ∷ cs) = []

-- a rule or an at-rule with a block, where it has no children
abbrev pub dropped_empty : ℕ → Event → NodeText → List ℕ → List Edit
dropped_empty n E.RuleExit (Rule before selector between block) children = removed_empty n children
dropped_empty n E.AtRuleExit (AtRule before name after_name params between (Some block)) children = removed_empty n children
dropped_empty n _ _ children = []

-- a hexadecimal digit
abbrev pub is_hex : ℕ → Bool
is_hex c = (nat_le 48 c && nat_le c 57) || (nat_le 65 c && nat_le c 70) || (nat_le 97 c && nat_le c 102)

abbrev pub kept_first : ℕ → Option (List ℕ) → Option (List ℕ)
kept_first c None = None
kept_first c (Some cs) = Some (c ∷ cs)

-- digits in pairs that are equal in lower ASCII case, and the first of each; none for other texts
abbrev pub halved : List ℕ → Option (List ℕ)
halved [] = Some []
halved (c ∷ []) = None
halved (c ∷ d ∷ cs) = if is_hex c && (is_hex d && to_ascii_lowercase c == to_ascii_lowercase d) then kept_first c (halved cs) else None

abbrev pub shortened_or : List ℕ → Option (List ℕ) → List ℕ
shortened_or t None = t
shortened_or t (Some digits) = 35 ∷ digits

-- `#` and six or eight hexadecimal digits in equal pairs have one digit of each pair; every other word stays
abbrev pub short_word : List ℕ → List ℕ
short_word [] = []
short_word (c ∷ cs) = if c == 35 && (nat_eq (length cs) 6 || nat_eq (length cs) 8) then shortened_or (c ∷ cs) (halved cs) else c ∷ cs

abbrev pub short_plain : PieceKind → List ℕ → List ℕ
short_plain Word t = short_word t
short_plain _ t = t

-- the parts with each Word shortened, at any depth
abbrev pub shortened : ValueParts → ValueParts
shortened none = none
shortened (value (plain k) at t inner closed rest) = value (plain k) at (short_plain k t) (shortened inner) closed (shortened rest)
shortened (value function at t inner closed rest) = value function at t (shortened inner) closed (shortened rest)

-- the value source with its hexadecimal colours shortened
pub record IsShort (source short : List ℕ) : Type 0 where
  pub parts : ValueParts
  pub are : IsValue source parts
  pub text : short ≡ written (shortened parts)

-- the edits, those that change nothing left out
abbrev pub changing : List Node → List Edit → List Edit
changing ns es = filter (changes ns) es

-- a declaration below a node, with a short value
abbrev pub IsShortened : List Node → ℕ → Event → NodeText → Option ℕ → List Edit → Type 0
IsShortened ns n E.Declaration (Declaration before prop between val important important_raw tail) (Some p) es = (short : List ℕ) × IsShort val.source short × (es ≡ changing ns (Set F.Value n short ∷ []))
IsShortened ns n _ _ _ es = es ≡ []

-- what may stand behind the `&` of a rule that can be moved: a space or one of : . # [ > + ~
abbrev pub goes_on : ℕ → Bool
goes_on c = c == 32 || c == 58 || c == 46 || c == 35 || c == 91 || c == 62 || c == 43 || c == 126

abbrev pub has : ℕ → List ℕ → Bool
has c t = list_any (λ x. x == c) t

abbrev pub may_follow : List ℕ → Bool
may_follow [] = true
may_follow (c ∷ cs) = goes_on c

-- a selector that begins with `&`, has no other `&` and no `,`, and either ends there or goes on so
abbrev pub is_movable_selector : List ℕ → Bool
is_movable_selector [] = false
is_movable_selector (c ∷ cs) = c == 38 && (not (has 38 cs) && (not (has 44 cs) && may_follow cs))

abbrev pub is_movable : NodeText → Bool
is_movable (Rule before selector between block) = is_movable_selector selector.clean
is_movable _ = false

-- the selector without its `&`
abbrev pub own_selector : NodeText → List ℕ
own_selector (Rule before selector between block) = drop 1 selector.clean
own_selector _ = []

-- the child of the rule n goes out directly behind it
abbrev pub moved_out : List Node → ℕ → ℕ → List ℕ → ℕ → List Edit
moved_out ns n p selector child = changing ns (Set F.Selector child (selector ++ own_selector (text_of ns child)) ∷ []) ++ Remove child ∷ Insert child p (suc (place_of ns p n)) ∷ []

abbrev pub is_single_selector : List ℕ → Bool
is_single_selector [] = false
is_single_selector (c ∷ cs) = not (has 44 (c ∷ cs))

-- The children that can be moved go out from the last to the first, so that they stand in their order behind the rule. A
-- rule without a selector, or with several, keeps its children.
abbrev pub unnested : List Node → ℕ → Event → NodeText → ℕ → List Edit
unnested ns n E.RuleExit (Rule before selector between block) p =
    if is_single_selector selector.clean
    then flat_map (moved_out ns n p selector.clean) (reverse (filter (λ m. is_movable (text_of ns m)) (children_of ns n)))
    else []
unnested ns n _ _ p = []

-- the edits of a duty at a moment
abbrev pub IsEffect : Duty → List Node → Moment → List Edit → Type 0
IsEffect Quiet ns m es = es ≡ []
IsEffect DropComment ns m es = es ≡ below_parent (parent_of ns m.node) (λ p. dropped_comment m.node m.event (text_of ns m.node))
IsEffect DropEmpty ns m es = es ≡ below_parent (parent_of ns m.node) (λ p. dropped_empty m.node m.event (text_of ns m.node) (children_of ns m.node))
IsEffect ShortHex ns m es = IsShortened ns m.node m.event (text_of ns m.node) (parent_of ns m.node) es
IsEffect Unnest ns m es = es ≡ below_parent (parent_of ns m.node) (λ p. unnested ns m.node m.event (text_of ns m.node) p)
