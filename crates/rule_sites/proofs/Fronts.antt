-- What stands before a `{` and before a value is the front of a node's body.
use Rattle.std.proofs.Common.{◌≡◌, ℕ, ◌+◌, List, [], ◌∷◌, ◌++◌, Some, None, refl, sym, append_assoc, arith}
use Rattle.std.specs.Char.{len_utf8}
use Rattle.std.proofs.lemmas.List.Sums.{sum_by-cons}
use Rattle.css_text.specs.Ahead.{byte_len}
use Rattle.css_text.proofs.Slices.{byte_len-append}
use Rattle.css_tree.specs.declared.node.NodeText.{NodeText}
use Rattle.css_tree.specs.declared.node.NodeText.TheVariants as N
use Rattle.css_tree.specs.Print.{opening}
use Rattle.rule_sites.specs.Blocks.{before_brace, before_value}

pub record IsFront (front whole : List ℕ) : Type 0 where
  pub rest : List ℕ
  pub is : whole ≡ front ++ rest

nothing : (whole : List ℕ) → IsFront [] whole
nothing whole = record { rest = whole; is = refl }

pub brace_front : (text : NodeText) → IsFront (before_brace text) (opening text)
brace_front (N.AtRule before name after_name params between (Some block)) = record { rest = 123 ∷ []; is = simp append_assoc }
brace_front (N.AtRule before name after_name params between None) = record { rest = []; is = simp append_assoc }
brace_front (N.Rule before selector between block) = record { rest = 123 ∷ []; is = sym (append_assoc selector.source between (123 ∷ [])) }
brace_front (N.Root bom block) = nothing _
brace_front (N.Declaration before prop between value important important_raw tail) = nothing _
brace_front (N.Comment before left text right) = nothing _

pub value_front : (text : NodeText) → IsFront (before_value text) (opening text)
value_front (N.Declaration before prop between value important important_raw tail) = record { rest = _; is = sym (append_assoc prop between _) }
value_front (N.AtRule before name after_name params between block) = nothing _
value_front (N.Rule before selector between block) = nothing _
value_front (N.Root bom block) = nothing _
value_front (N.Comment before left text right) = nothing _

-- how long the parts of an at-rule's body are
pub at_rule_len : (n a p b : List ℕ) → byte_len (64 ∷ (n ++ (a ++ (p ++ b)))) ≡ 1 + byte_len n + byte_len a + byte_len p + byte_len b
at_rule_len n a p b = omega (arith, sum_by-cons len_utf8 64 (n ++ (a ++ (p ++ b))), byte_len-append n (a ++ (p ++ b)), byte_len-append a (p ++ b), byte_len-append p b)
