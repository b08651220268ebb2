use Rattle.std.proofs.Common.{◌∙◌}
use Rattle.rules_tree.proofs.Empty.{empty_comment}
use Rattle.rules_tree.proofs.comment_no_empty.is_empty_comment.Goals as goal

pub returns-in-Comment : goal.returns-in-Comment
returns-in-Comment c = c.is_empty.ensures ∙ empty_comment c.args.text.now c.in-Comment.before c.in-Comment.left c.in-Comment.text c.in-Comment.right c.as_str.result.now c.in-Comment.is c.as_str.utf8 c.as_str.ensures.characters
