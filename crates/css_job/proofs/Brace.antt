-- Where the `{` of an empty block stands.
use Rattle.std.proofs.Common.{◌≡◌, ℕ, ◌+◌, ◌≤◌, List, [], ◌∷◌, ◌++◌, length, true, Some, None, sym, ap, subst, ◌∙◌, append_assoc, arith, drop}
use Rattle.std.specs.Prelude.{Option, encode_utf8_all}
use Rattle.std.specs.Str.{IsCharBoundary}
use Rattle.std.specs.Char.{len_utf8}
use Rattle.std.proofs.lemmas.Str.{encodes-append}
use Rattle.std.proofs.lemmas.List.{drop_at, length-append}
use Rattle.std.proofs.lemmas.List.Sums.{sum_by-cons}
use Rattle.css_text.specs.Ahead.{byte_len}
use Rattle.css_text.specs.declared.lexer.Span.{Span}
use Rattle.css_text.proofs.Slices.{byte_len-append, boundary}
use Rattle.css_text.proofs.Transport.{length-bytes}
use Rattle.css_tree.specs.declared.node.NodeText.{NodeText}
use Rattle.css_tree.specs.declared.node.NodeText.TheVariants as N
use Rattle.css_tree.specs.Tree.{Trees, none, node}
use Rattle.css_tree.specs.Laws.{start_of}
use Rattle.css_job.specs.Warnings.{is_empty_block, before_brace}
use Rattle.css_job.specs.Laws.{BraceFollows}
use Rattle.css_job.specs.Walk.{Stands}

pub follows : BraceFollows
follows (N.AtRule before name after_name params between (Some block)) none e = simp append_assoc
follows (N.AtRule before name after_name params between None) none e = cc
follows (N.AtRule before name after_name params between (Some block)) (node t s k r) e = cc
follows (N.AtRule before name after_name params between None) (node t s k r) e = cc
follows (N.Rule before selector between block) none e = sym (append_assoc selector.source between (123 ∷ []))
follows (N.Rule before selector between block) (node t s k r) e = cc
follows (N.Root bom block) k e = cc
follows (N.Declaration before prop between value important important_raw tail) k e = cc
follows (N.Comment before left text right) k e = cc

-- a place behind some characters is a boundary
pub behind_front : (s front behind : List ℕ) → s ≡ front ++ behind → IsCharBoundary (encode_utf8_all s) (byte_len front)
behind_front s front behind e =
    let bytes : encode_utf8_all s ≡ encode_utf8_all front ++ encode_utf8_all behind = ap encode_utf8_all e ∙ encodes-append front behind in
    boundary (encode_utf8_all s) behind (byte_len front)
    (omega (arith, ap length bytes, length-append (encode_utf8_all front) (encode_utf8_all behind), length-bytes front))
    (ap (drop (byte_len front)) bytes ∙ drop_at (encode_utf8_all front) (encode_utf8_all behind) (byte_len front) (length-bytes front))

-- the front of a text takes no more bytes than the text
pub front_short : (s front behind : List ℕ) → s ≡ front ++ behind → byte_len front ≤ byte_len s
front_short s front behind e = omega (arith, ap byte_len e, byte_len-append front behind)

abbrev brace_front : (s : List ℕ) (text : NodeText) (span : Option Span) → Stands s text span → List ℕ
brace_front s text span h = h.front ++ before_brace text

brace_split : (s : List ℕ) (text : NodeText) (span : Option Span) (children : Trees) (h : Stands s text span) → is_empty_block text children ≡ true → s ≡ brace_front s text span h ++ (123 ∷ h.behind)
brace_split s text span children h e =
    h.all ∙ (ap (λ z. h.front ++ (z ++ h.behind)) (follows text children e) ∙ (ap (λ z. h.front ++ z) (append_assoc (before_brace text) (123 ∷ []) h.behind) ∙ sym (append_assoc h.front (before_brace text) (123 ∷ h.behind))))

pub brace_few : (s : List ℕ) (text : NodeText) (span : Option Span) (children : Trees) (h : Stands s text span) → is_empty_block text children ≡ true → byte_len h.front + byte_len (before_brace text) ≤ byte_len s
brace_few s text span children h e = omega (arith, front_short s (brace_front s text span h) (123 ∷ h.behind) (brace_split s text span children h e), byte_len-append h.front (before_brace text))

pub brace_boundary : (s : List ℕ) (text : NodeText) (span : Option Span) (children : Trees) (h : Stands s text span) → is_empty_block text children ≡ true → IsCharBoundary (encode_utf8_all s) (byte_len h.front + byte_len (before_brace text))
brace_boundary s text span children h e = subst (IsCharBoundary (encode_utf8_all s)) (byte_len-append h.front (before_brace text)) (behind_front s (brace_front s text span h) (123 ∷ h.behind) (brace_split s text span children h e))

-- the start of a span that is there
pub start_is : (span : Option Span) (x : Span) (n : ℕ) → span ≡ Some x → start_of span ≡ n ∷ [] → x.start ≡ n
start_is None x n e h = cc
start_is (Some y) x n e h = let a : y ≡ x = cc in let b : y.start ≡ n = cc in cc

-- how long the parts of an at-rule's body are
pub at_rule_len : (n a p b : List ℕ) → byte_len (64 ∷ (n ++ (a ++ (p ++ b)))) ≡ 1 + byte_len n + byte_len a + byte_len p + byte_len b
at_rule_len n a p b = omega (arith, sum_by-cons len_utf8 64 (n ++ (a ++ (p ++ b))), byte_len-append n (a ++ (p ++ b)), byte_len-append a (p ++ b), byte_len-append p b)

pub string_len : (bytes cs : List ℕ) → bytes ≡ encode_utf8_all cs → length bytes ≡ byte_len cs
string_len bytes cs e = ap length e ∙ length-bytes cs
