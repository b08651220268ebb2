-- The reader: what the pieces from here on read as, from the right. It stands between the definitions and the code.
use Rattle.std.proofs.Common.{List, [], ◌∷◌, ◌++◌, Option, Some, None}
use Rattle.css_tree.specs.Pieces.{Lexeme, Shape, shape}
use Rattle.css_tree.specs.Turn.{Turn, within, gap, alone, ends, closes, opens, turn}
use Rattle.css_tree.specs.Fault.{Fault, state, fits_by, end_fault, outer}
use Rattle.css_tree.specs.Nodes.{Nodes, none, comment, leaf, block}
use Rattle.css_tree.proofs.Split.{solid, tail}

-- the nodes up to a container's end, and what stands behind them
pub record Group : Type 0 where
  pub nodes : Nodes
  pub behind : List Lexeme

-- what is left of the innermost container, of the one around it, and so on out to the root
pub data Rest : Type 0 where
  finish : Nodes → List Lexeme → Rest
  closed : Nodes → List Lexeme → Lexeme → Rest → Rest

pub data Outcome : Type 0 where
  fails : Fault → Outcome
  ok : Rest → Outcome

abbrev pub map_ok : (Rest → Rest) → Outcome → Outcome
map_ok h (fails f) = fails f
map_ok h (ok r) = ok (h r)

abbrev pub map_first : (Nodes → Nodes) → Rest → Rest
map_first h (finish f a) = finish (h f) a
map_first h (closed f a c r) = closed (h f) a c r

-- the rest of the block, and the rest of its container, as a node of that
abbrev pub enclose : List Lexeme → List Lexeme → Lexeme → Rest → Rest
enclose g r o (finish f a) = finish none []
enclose g r o (closed k a c (finish f b)) = finish (block g r o k a c f) b
enclose g r o (closed k a c (closed f b d s)) = closed (block g r o k a c f) b d s

-- blanks that are given back to the container: its comments, and what stands behind them
abbrev pub settle_by : Shape → List Lexeme → Lexeme → (List Lexeme → Group) → Group
settle_by Shape.space g p k = k (g ++ p ∷ [])
settle_by _ g p k = let q = k [] in record { nodes = comment g p q.nodes; behind = q.behind }

unfoldable pub settle : List Lexeme → List Lexeme → Group
settle g [] = record { nodes = none; behind = g }
settle g (p ∷ ps) = settle_by (shape p) g p (λ g'. settle g' ps)

-- what a gap and a statement in progress come to at the container's end
abbrev pub last_nodes : List Lexeme → List Lexeme → Group
last_nodes g [] = record { nodes = none; behind = g }
last_nodes g (q ∷ r) =
    record { nodes = leaf g (solid (q ∷ r)) [] (settle [] (tail (q ∷ r))).nodes; behind = (settle [] (tail (q ∷ r))).behind }

abbrev pub finish_with : Group → Rest
finish_with q = finish q.nodes q.behind

abbrev pub closed_with : Group → Lexeme → Rest → Rest
closed_with q p r = closed q.nodes q.behind p r

abbrev pub checked : Option Fault → Outcome → Outcome
checked (Some f) x = fails f
checked None x = x

abbrev pub act : Turn → (List Lexeme → List Lexeme → List Lexeme → List Lexeme → Outcome) → List Lexeme → List Lexeme → List Lexeme → Lexeme → Outcome
act (within aw) k o g r p = k o g (r ++ p ∷ []) aw
act gap k o g r p = k o (g ++ p ∷ []) [] []
act alone k o g r p = map_ok (map_first (comment g p)) (k o [] [] [])
act ends k o g r p = map_ok (map_first (leaf g r (p ∷ []))) (k o [] [] [])
act closes k o g r p = map_ok (closed_with (last_nodes g r) p) (k (outer o) [] [] [])
act opens k o g r p = map_ok (enclose g r p) (k (p ∷ o) [] [] [])

-- lex: the lexical fault behind the pieces; o: the open `{`; g: the gap before the statement in progress;
-- r: that statement so far; aw: what is awaited
unfoldable pub outcome : List Lexeme → Option Fault → List Lexeme → List Lexeme → List Lexeme → List Lexeme → Outcome
outcome [] lex o g r aw = checked (end_fault lex (state o aw r)) (ok (finish_with (last_nodes g r)))
outcome (p ∷ ps) lex o g r aw =
    checked (fits_by o r p (turn r aw p)) (act (turn r aw p) (λ o' g' r' aw'. outcome ps lex o' g' r' aw') o g r p)
