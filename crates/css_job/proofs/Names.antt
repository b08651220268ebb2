-- The names of streams, of kinds of faults and of severities are ASCII.
use Rattle.std.proofs.Common.{◌≡◌, ℕ, List, Result, Ok, Err, refl, ◌∙◌}
use lib.Utf8.{encode}
use Rattle.std.specs.Prelude.{encode_utf8_all, IfOk}
use Rattle.std.specs.declared.alloc.AllocError.{AllocError}
use Rattle.std.specs.Str.{chars}
use Rattle.css_tree.specs.declared.fault.SyntaxKind.{SyntaxKind}
use Rattle.css_tree.specs.declared.fault.SyntaxKind.TheVariants as K
use Rattle.css_job.specs.Faults.{input_name, name_of, kind_name}
use Rattle.css_job.specs.declared.target.Target.{Target}
use Rattle.css_job.specs.declared.target.Target.TheVariants.{StdOut, StdErr}

pub input_chars : chars input_name ≡ input_name
unfolding chars
input_chars = refl

pub input_bytes : encode_utf8_all input_name ≡ input_name
unfolding encode
input_bytes = refl

pub target_chars : (t : Target) → chars (name_of t) ≡ name_of t
unfolding chars
target_chars StdOut = refl
target_chars StdErr = refl

pub kind_chars : (k : SyntaxKind) → chars (kind_name k) ≡ kind_name k
unfolding chars
kind_chars K.UnclosedString = refl
kind_chars K.UnclosedComment = refl
kind_chars K.UnclosedUrl = refl
kind_chars K.UnclosedBracket = refl
kind_chars K.UnclosedBlock = refl
kind_chars K.UnexpectedClose = refl
kind_chars K.UnknownWord = refl
kind_chars K.AtRuleWithoutName = refl
kind_chars K.TooDeep = refl

-- a copy of the input's name
pub input_named : (r : Result (List ℕ) AllocError) → IfOk r (λ t. t ≡ chars input_name) → IfOk r (λ t. t ≡ input_name)
input_named (Ok t) h = h ∙ input_chars
input_named (Err e) h = tt
