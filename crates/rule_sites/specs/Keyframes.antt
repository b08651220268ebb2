-- Keyframes at-rules, with and without a vendor's prefix. Names compare in lower ASCII case.
use Rattle.std.specs.Prelude.{ℕ, List, [], ◌∷◌, Bool, false, ◌==◌, ◌&&◌, ◌||◌, not, map, codes, bytes_eq, drop}
use Rattle.std.specs.Char.{to_ascii_lowercase, is_ascii_alphabetic}
use Rattle.std.specs.List.{prefix_len}
use Rattle.css_tree.specs.declared.node.NodeText.{NodeText}
use Rattle.css_tree.specs.declared.node.NodeText.TheVariants as N

abbrev pub lower : List ℕ → List ℕ
lower s = map to_ascii_lowercase s

-- one or more letters, and then `-keyframes`
abbrev pub is_prefixed : List ℕ → Bool
is_prefixed s = not (prefix_len is_ascii_alphabetic s == 0) && bytes_eq (drop (prefix_len is_ascii_alphabetic s) s) (codes "-keyframes")

abbrev pub is_vendor_name : List ℕ → Bool
is_vendor_name [] = false
is_vendor_name (c ∷ cs) = c == 45 && is_prefixed cs

-- `keyframes`, or `-`, letters and `-keyframes`
unfoldable pub is_keyframes_name : List ℕ → Bool
is_keyframes_name name = bytes_eq (lower name) (codes "keyframes") || is_vendor_name (lower name)

abbrev pub is_keyframes : NodeText → Bool
is_keyframes (N.AtRule before name after_name params between block) = is_keyframes_name name
is_keyframes _ = false
