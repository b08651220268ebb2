-- What reading a text answers.
use Rattle.std.specs.Prelude.{◌≡◌, ℕ, List, map, Some, Result, Ok, Err, encode_utf8_all}
use Rattle.std.specs.Str.{IsCharBoundary}
use Rattle.css_text.specs.declared.stop.Stop.{Stop}
use Rattle.css_text.specs.declared.stop.Stop.TheVariants as E
use Rattle.css_text.specs.Place.{place_of}
use Rattle.css_tree.specs.declared.fault.SyntaxFault.{SyntaxFault}
use Rattle.css_tree.specs.Tree.{Tree}
use Rattle.css_tree.specs.Reads.{Reads}
use Rattle.css_tree.specs.Numbered.{numbered}
use Rattle.css_tree.specs.Fault.{Fault, fault}
use Rattle.node_rows.specs.declared.node_list.NodeAt.{NodeAt}
use Rattle.node_store.specs.NodeList.{IsNodeList}
use Rattle.node_store.specs.Fresh.{numbered_of}

-- the list is that of the tree that the text reads as
pub record IsListed (s : List ℕ) (es : List NodeAt) : Type 0 where
  pub list : IsNodeList s es
  pub tree : Tree
  pub reads : Reads s tree
  pub are_numbered : map numbered_of es ≡ numbered tree

-- the nodes of a text, or its fault
abbrev pub IsNodes : Result (List NodeAt) (Stop Fault) → List ℕ → Type 0
IsNodes (Ok es) s = IsListed s es
IsNodes (Err (E.Fault f)) s = (fault s ≡ Some f) × IsCharBoundary (encode_utf8_all s) f.at
IsNodes (Err (E.Memory e)) s = Unit {0}

-- The fault is that of the definition, with its place, and the text has no reading.
pub record IsFaultOf (f : SyntaxFault) (s : List ℕ) : Type 0 where
  pub is_fault : fault s ≡ Some (record { kind = f.kind; at = f.at })
  pub is_place : f.place ≡ place_of s f.at
  pub no_reading : (t : Tree) → Reads s t → ⊥

abbrev pub IsRefusal : Stop SyntaxFault → List ℕ → Type 0
IsRefusal (E.Fault f) s = IsFaultOf f s
IsRefusal (E.Memory e) s = Unit {0}
