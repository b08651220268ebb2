use Rattle.std.proofs.Common.{ap, arith, ◌∙◌, ◌++◌}
use Rattle.css_text.specs.Ahead.{byte_len}
use Rattle.css_text.proofs.Slices.{byte_len-append}
use Rattle.rule_sites.proofs.Places.{string_len}
use Rattle.rules_tree.specs.CommentWhitespaceInside.{inner_of}
use Rattle.rules_tree.proofs.comment_whitespace_inside.inner_len.Goals as goal

pub overflow_add-result-in-Comment : goal.overflow_add-result-in-Comment
overflow_add-result-in-Comment c =
    let l = c.in-Comment.left in
    let t = c.in-Comment.text in
    let r = c.in-Comment.right in
    omega (arith, c.requires (l ++ (t ++ r)) (ap inner_of c.in-Comment.is), byte_len-append l (t ++ r), byte_len-append t r, string_len _ _ c.as_str.ensures.bytes, string_len _ _ c.as_str-in-Comment.ensures.bytes, string_len _ _ c.as_str-in-Comment-2.ensures.bytes)

pub returns-in-Comment : goal.returns-in-Comment
returns-in-Comment c =
    let l = c.in-Comment.left in
    let t = c.in-Comment.text in
    let r = c.in-Comment.right in
    (l ++ (t ++ r), ap inner_of c.in-Comment.is, omega (arith, byte_len-append l (t ++ r), byte_len-append t r, string_len _ _ c.as_str.ensures.bytes, string_len _ _ c.as_str-in-Comment.ensures.bytes, string_len _ _ c.as_str-in-Comment-2.ensures.bytes))
