-- Plans as the code makes them, and what it does with a text that can't be read.
use Rattle.std.proofs.Common.{◌≡◌, ℕ, List, [], ◌∷◌, ◌++◌, Some, None, Ok, Err, sym, ap, subst, ◌∙◌, map}
use Rattle.std.specs.Prelude.{Option, IfOk}
use Rattle.css_tree.specs.declared.fault.SyntaxFault.{SyntaxFault}
use Rattle.css_job.specs.Faults.{input_name, status_of}
use Rattle.css_job.specs.Warnings.{syntax_warning}
use Rattle.css_job.specs.Shown.{warning_seen}
use Rattle.command_words.specs.CommandSeen.{command_seen}
use Rattle.css_job.specs.Plan.{Piece, Plan, stopped}
use Rattle.css_job.specs.TransformPlan.{Reached}
use Rattle.css_job.specs.LintPlan.{reported}
use Rattle.css_job.specs.CommandPlan.{text_plan}
use Rattle.css_job.specs.Stages.{piece_of, stage_seen, writing}
use Rattle.css_job.specs.declared.fault.Fault.{Fault}
use Rattle.css_job.specs.declared.fault.Fault.TheVariants.{Syntax}
use Rattle.css_job.specs.declared.plan.Write.{Write}
use Rattle.css_job.specs.declared.prepared.Prepared as S
use Rattle.css_job.specs.declared.target.Target.{Target}
use Rattle.css_job.specs.declared.lint.warning.Warning as W
use Rattle.command_words.specs.declared.commands.Command as C
use Rattle.command_words.specs.declared.commands.Command.TheVariants as CV
use Rattle.command_words.specs.declared.commands.Options as O
use Rattle.css_job.proofs.Commands.{Stages, unwalked}

abbrev plan_with : Option Fault → List ℕ → ℕ → List Piece → Plan
plan_with fault caller status writes = record { fault = fault; caller = caller; status = status; writes = writes }

pub stopped_is : (f : Fault) (caller : List ℕ) (status : ℕ) (ws : List Write) → caller ≡ [] → status ≡ status_of f → ws ≡ [] → plan_with (Some f) caller status (map piece_of ws) ≡ stopped f
stopped_is f caller status ws e k n =
    ap (λ x. plan_with (Some f) x status (map piece_of ws)) e ∙ (ap (λ x. plan_with (Some f) [] x (map piece_of ws)) k ∙ ap (λ x. plan_with (Some f) [] (status_of f) (map piece_of x)) n)

abbrev write_of : Target → List ℕ → Write
write_of to text = record { to = to; text = text }

pub writing_is : (to : Target) (text caller : List ℕ) (status : ℕ) (ws us : List Write) → caller ≡ [] → ws ≡ us ++ write_of to text ∷ [] → us ≡ [] → plan_with None caller status (map piece_of ws) ≡ writing to text status
writing_is to text caller status ws us e k n =
    ap (λ x. plan_with None x status (map piece_of ws)) e ∙ ap (λ x. plan_with None [] status (map piece_of x)) (k ∙ ap (λ x. x ++ write_of to text ∷ []) n)

-- the plan of a text that can't be read, for each text
abbrev pub UnreadPlan : C.Command → SyntaxFault → Stages → Type 0
UnreadPlan command f q = IfOk q (λ p. (names : List (List ℕ)) (s : List ℕ) (w : Reached) → stage_seen p ≡ unwalked (text_plan (command_seen command) names s (Err f) w))

unread_by : (q : Stages) (command : C.Command) (f : SyntaxFault) (p : Plan) → ((names : List (List ℕ)) (s : List ℕ) (w : Reached) → p ≡ text_plan (command_seen command) names s (Err f) w) → IfOk q (λ x. stage_seen x ≡ unwalked p) → UnreadPlan command f q
unread_by (Ok x) command f p e h = λ names s w. h ∙ ap (λ z. unwalked z) (e names s w)
unread_by (Err x) command f p e h = tt

pub unread_transform : (q : Stages) (r : S.Prepared) (o : O.Options) (command : C.Command) (f : SyntaxFault) (plan : Plan) → q ≡ Ok r → command ≡ CV.Transform o → stage_seen r ≡ unwalked plan → plan ≡ stopped (Syntax input_name f) → UnreadPlan command f q
unfolding text_plan
unread_transform q r o command f plan e c i k =
    subst (λ x. UnreadPlan command f x) (sym e) (unread_by (Ok r) command f (stopped (Syntax input_name f)) (λ names s w. ap (λ z. text_plan (command_seen z) names s (Err f) w) (sym c)) (i ∙ ap (λ z. unwalked z) k))

pub unread_lint : (q r : Stages) (command : C.Command) (f : SyntaxFault) (ws : List W.Warning) (x : W.Warning) → q ≡ r → command ≡ CV.Lint → ws ≡ x ∷ [] → warning_seen x ≡ syntax_warning f → IfOk r (λ p. stage_seen p ≡ unwalked (reported (map warning_seen ws))) → UnreadPlan command f q
unfolding text_plan
unread_lint q r command f ws x e c i k h =
    subst (λ z. UnreadPlan command f z) (sym e) (unread_by r command f (reported (map warning_seen ws)) (λ names s w. ap (λ z. reported (map warning_seen z)) i ∙ (ap (λ z. reported (z ∷ [])) k ∙ ap (λ z. text_plan (command_seen z) names s (Err f) w) (sym c))) h)
