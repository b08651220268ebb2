-- White space inside a comment's markers, where runs of `*` directly inside count as parts of them.
use Rattle.std.specs.Prelude.{ℕ, ◌+◌, ◌-◌, List, [], ◌∷◌, ◌++◌, Bool, true, false, ◌==◌, ◌||◌, not, codes, drop, reverse, Option, Some, None, if◌then◌else◌}
use Rattle.std.specs.List.{prefix_len, list_all}
use Rattle.css_text.specs.Ahead.{byte_len}
use Rattle.css_text.specs.Characters.{is_space}
use Rattle.css_text.specs.Forms.{begins}
use Rattle.css_tree.specs.declared.node.NodeText.{NodeText}
use Rattle.css_tree.specs.declared.node.NodeText.TheVariants as N
use Rattle.rule_sites.specs.Blocks.{start_byte}
use Rattle.rule_sites.specs.Context.{Context}
use Rattle.rule_sites.specs.Finding.{Finding, mended}
use Rattle.rules_tree.specs.FindingIf.{finding_if}

-- what stands between a comment's markers
abbrev pub inner_of : NodeText → Option (List ℕ)
inner_of (N.Comment before left text right) = Some (left ++ (text ++ right))
inner_of _ = None

-- white space alone, or what begins with `!` or `#`
abbrev pub is_exempt : List ℕ → Bool
is_exempt s = list_all is_space s || begins 33 s || begins 35 s

-- the length of the run of `*` at the start
abbrev pub stars : List ℕ → ℕ
stars s = prefix_len (λ c. c == 42) s

abbrev pub begins_black : List ℕ → Bool
begins_black [] = false
begins_black (c ∷ cs) = not (is_space c)

-- After the run of `*` at the start something is left, and doesn't begin with white space.
abbrev pub lacks_space : List ℕ → Bool
lacks_space s = begins_black (drop (stars s) s)

-- at the `/*` of a comment that starts at that byte; a space after the run of `*` mends it
abbrev pub at_opening : ℕ → List ℕ → List Finding
at_opening start s =
    let by = start + 2 + stars s in
    finding_if (lacks_space s) (mended start (codes "Expected whitespace after \"/*\"") by by (codes " "))

-- at the `*/`; a space before the run of `*` mends it
abbrev pub at_closing : ℕ → List ℕ → List Finding
at_closing start s =
    let end = start + 2 + byte_len s in
    let by = end - stars (reverse s) in
    finding_if (lacks_space (reverse s)) (mended end (codes "Expected whitespace before \"*/\"") by by (codes " "))

abbrev pub in_comment : ℕ → Option (List ℕ) → List Finding
in_comment start None = []
in_comment start (Some s) = if is_exempt s then [] else at_opening start s ++ at_closing start s

unfoldable pub findings : Context → List Finding
findings c = in_comment (start_byte c.node) (inner_of c.node.text)
