-- The parser as a machine over the pieces, and what its state and the pieces that are left come to.
use Rattle.std.specs.Prelude.{◌≡◌, ℕ, zero, suc, ◌+◌, ◌<◌, List, [], ◌∷◌, ◌++◌, Bool, true, false, Option, Some, None, length, map}
use Rattle.css_text.specs.declared.lexer.Span.{Span}
use Rattle.css_tree.specs.declared.node.Block.{Block}
use Rattle.css_tree.specs.declared.node.NodeText.TheVariants as N
use Rattle.node_rows.specs.declared.node_list.NodeAt.{NodeAt}
use Rattle.node_rows.specs.Ends.{with_block}
use Rattle.css_tree.specs.Classes.{BeginsWithout}
use Rattle.css_tree.specs.Pieces.{Lexeme, shape, is_blank, join, end_of, last_end}
use Rattle.css_tree.specs.Turn.{Turn, within, gap, alone, ends, closes, opens}
use Rattle.css_tree.specs.Fault.{Fault}
use Rattle.css_tree.specs.Fields.{begins_at}
use Rattle.css_tree.specs.Nodes.{Nodes, none, comment, leaf, block, ends_with_semicolon}
use Rattle.css_tree.proofs.Reader.{Group, last_nodes, Rest, finish, closed, Outcome, fails, ok, outcome}
use Rattle.css_tree.proofs.TreeOf.{comment_text, leaf_text, block_text, hack_of_shape}
use Rattle.css_parse.specs.declared.turn.Frame.{Frame}
use Rattle.css_parse.specs.Steps.{below, opening_of}
use Rattle.css_parse.specs.Gaps.{gap_of}

-- a container's end before it is known
abbrev pub open_end : Block
open_end = record { semicolon = false; after = None }

abbrev pub comment_node : ℕ → List ℕ → Lexeme → NodeAt
comment_node j g p = record { parent = j; text = comment_text (gap_of g) p; span = record { start = p.at; end = end_of p } }

-- where the body of a declaration or at-rule begins
abbrev pub leaf_start : Lexeme → ℕ
leaf_start w = w.at + length (hack_of_shape (shape w) w.text)

abbrev pub leaf_bytes : List Lexeme → Span
leaf_bytes [] = record { start = 0; end = 0 }
leaf_bytes (w ∷ r) = record { start = leaf_start w; end = last_end (end_of w) r }

abbrev pub leaf_node : ℕ → List ℕ → List Lexeme → NodeAt
leaf_node j g r = record { parent = j; text = leaf_text (gap_of g) r; span = leaf_bytes r }

-- a container before its end is known
abbrev pub open_node : ℕ → List ℕ → List Lexeme → Lexeme → NodeAt
open_node j g r p = record { parent = j; text = block_text (gap_of g) r open_end; span = record { start = begins_at r p; end = end_of p } }

-- with its end: the flag, the text before its `}`, and the `}`
abbrev pub seal : Bool → List ℕ → Lexeme → NodeAt → NodeAt
seal s a c x = record { parent = x.parent; text = with_block x.text (record { semicolon = s; after = Some a }); span = record { start = x.span.start; end = end_of c } }

abbrev pub seal_root : Bool → List ℕ → NodeAt → NodeAt
seal_root s a x = record { parent = x.parent; text = with_block x.text (record { semicolon = s; after = Some a }); span = x.span }

unfoldable pub count : ℕ → Nodes → ℕ
count n none = n
count n (comment b p f) = count (suc n) f
count n (leaf b r e f) = count (suc n) f
count n (block b r o k a c f) = count (count (suc n) k) f

-- the nodes in document order, in a container with that number, from the number n on
unfoldable pub flat : ℕ → ℕ → Nodes → List NodeAt
flat j n none = []
flat j n (comment b p f) = comment_node j (join b) p ∷ flat j (suc n) f
flat j n (leaf b r e f) = leaf_node j (join b) r ∷ flat j (suc n) f
flat j n (block b r o k a c f) = seal (ends_with_semicolon false k) (join a) c (open_node j (join b) r o) ∷ (flat n (suc n) k ++ flat j (count (suc n) k) f)

unfoldable pub alter : ℕ → (NodeAt → NodeAt) → List NodeAt → List NodeAt
alter j h [] = []
alter zero h (x ∷ xs) = h x ∷ xs
alter (suc j) h (x ∷ xs) = x ∷ alter j h xs

-- the open container, and those around it, innermost first
pub record Open : Type 0 where
  pub number : ℕ
  pub semicolon : Bool

abbrev pub top : List Open → Open
top [] = record { number = 0; semicolon = false }
top (x ∷ xs) = x

unfoldable pub resume : List NodeAt → List Open → Rest → List NodeAt
resume ns os (finish f a) = alter (top os).number (seal_root (ends_with_semicolon (top os).semicolon f) (join a)) ns ++ flat (top os).number (length ns) f
resume ns os (closed f a c r) =
    resume (alter (top os).number (seal (ends_with_semicolon (top os).semicolon f) (join a) c) ns ++ flat (top os).number (length ns) f) (below os) r

-- The parser's state. The gap is a text. frames: the containers around the open one, innermost first, each with the `{` of
-- the block that was opened in it.
pub record Machine : Type 0 where
  pub nodes : List NodeAt
  pub number : ℕ
  pub semicolon : Bool
  pub frames : List Frame
  pub gap : List ℕ
  pub run : List Lexeme
  pub awaited : List Lexeme

abbrev pub outer_number : List Frame → ℕ
outer_number [] = 0
outer_number (f ∷ fs) = f.number

abbrev pub shut_with : Machine → Lexeme → Group → Machine
shut_with s p q = record {
  nodes = alter s.number (seal (ends_with_semicolon s.semicolon q.nodes) (join q.behind) p) s.nodes ++ flat s.number (length s.nodes) q.nodes;
  number = outer_number s.frames;
  semicolon = false;
  frames = below s.frames;
  gap = [];
  run = [];
  awaited = s.awaited;
}

abbrev pub next : Machine → Lexeme → Turn → Machine
next s p (within aw) = record s { run = s.run ++ p ∷ []; awaited = aw }
next s p gap = record s { gap = s.gap ++ p.text }
next s p alone = record s { nodes = s.nodes ++ comment_node s.number s.gap p ∷ []; gap = [] }
next s p ends = record s { nodes = s.nodes ++ leaf_node s.number s.gap s.run ∷ []; semicolon = true; gap = []; run = [] }
next s p closes = shut_with s p (last_nodes (gap_of s.gap) s.run)
next s p opens = record {
  nodes = s.nodes ++ open_node s.number s.gap s.run p ∷ [];
  number = length s.nodes;
  semicolon = false;
  frames = record { number = s.number; opening = p } ∷ s.frames;
  gap = [];
  run = [];
  awaited = s.awaited;
}

abbrev pub open_of : Frame → Open
open_of f = record { number = f.number; semicolon = false }

abbrev pub opened : Machine → List Lexeme
opened s = map opening_of s.frames

abbrev pub open_containers : Machine → List Open
open_containers s = record { number = s.number; semicolon = s.semicolon } ∷ map open_of s.frames

pub data Final : Type 0 where
  faulty : Fault → Final
  done : List NodeAt → Final

abbrev pub final : Machine → Outcome → Final
final s (fails f) = faulty f
final s (ok r) = done (resume s.nodes (open_containers s) r)

-- what this state and these pieces come to
unfoldable pub answer : Machine → List Lexeme → Option Fault → Final
answer s ps lex = final s (outcome ps lex (opened s) (gap_of s.gap) s.run s.awaited)

abbrev pub AllBelow : ℕ → List Frame → Type 0
AllBelow n [] = Unit {0}
AllBelow n (f ∷ fs) = (f.number < n) × AllBelow n fs

pub record IsReady (s : Machine) : Type 0 where
  pub known : s.number < length s.nodes
  pub known_outer : AllBelow (length s.nodes) s.frames
  pub idle : s.run ≡ [] → s.awaited ≡ []
  pub begun : BeginsWithout is_blank s.run

abbrev pub root_node : Bool → ℕ → NodeAt
root_node bom size = record { parent = 0; text = N.Root bom open_end; span = record { start = 0; end = size } }

-- the state before the first piece of a text with so many bytes
abbrev pub start : Bool → ℕ → Machine
start bom size = record { nodes = root_node bom size ∷ []; number = 0; semicolon = false; frames = []; gap = []; run = []; awaited = [] }

-- with what is given back at the container's end
abbrev pub given : Machine → Machine
given s =
    let q = last_nodes (gap_of s.gap) s.run in
    record {
      nodes = s.nodes ++ flat s.number (length s.nodes) q.nodes;
      number = s.number;
      semicolon = ends_with_semicolon s.semicolon q.nodes;
      frames = s.frames;
      gap = join q.behind;
      run = [];
      awaited = s.awaited;
    }

-- with its end written to the open container
abbrev pub sealed : Machine → Lexeme → Machine
sealed s p = record {
  nodes = alter s.number (seal s.semicolon s.gap p) s.nodes;
  number = s.number;
  semicolon = s.semicolon;
  frames = s.frames;
  gap = s.gap;
  run = s.run;
  awaited = s.awaited;
}

-- in the container around it
abbrev pub left : Machine → Machine
left s = record { nodes = s.nodes; number = outer_number s.frames; semicolon = false; frames = below s.frames; gap = []; run = []; awaited = s.awaited }
