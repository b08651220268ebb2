-- What the commands make of their parts.
use Rattle.std.proofs.Common.{◌≡◌, ℕ, ◌<◌, ◌≤◌, ◌^◌, List, [], ◌∷◌, length, Bool, true, false, cond, Some, None, Ok, Err, Result, refl, sym, ap, subst, ◌∙◌, arith, inl}
use Rattle.std.specs.Prelude.{Option, IsErr, IfOk, IfErr, nat_lt, encode_utf8_all}
use Rattle.std.specs.Str.{chars, IsUtf8, is_utf8, IsValidUpTo}
use Rattle.std.specs.Str.Lossy.{utf8_valid_len}
use Rattle.std.proofs.lemmas.Bool.{false≢true}
use Rattle.std.proofs.lemmas.Bool.Decides.{nat_tests}
use Rattle.std.proofs.lemmas.List.{take_all}
use Rattle.std.proofs.lemmas.Simd.{map-map}
use Rattle.std.proofs.lemmas.Str.{encodes-chars, is_utf8-from_IsUtf8, IsUtf8-from_is_utf8, utf8_valid_len-IsValidUpTo}
use Rattle.std.specs.declared.alloc.AllocError.{AllocError}
use Rattle.std.specs.declared.alloc.Global.{Global}
use Rattle.std.specs.declared.dyn_box.DynBox.{DynBox}
use Rattle.css_text.specs.Ahead.{byte_len}
use Rattle.css_text.specs.TextAnswer.{IsTextOf}
use Rattle.css_text.specs.declared.stop.Stop.{Stop}
use Rattle.css_text.specs.declared.stop.Stop.TheVariants.{Fault}
use Rattle.css_text.specs.declared.stop.TextFault.{TextFault}
use Rattle.css_text.specs.declared.stop.TextFault.TheVariants.{NotUtf8}
use Rattle.css_text.proofs.Transport.{length-bytes}
use Rattle.css_tree.specs.declared.fault.SyntaxFault.{SyntaxFault}
use Rattle.css_parse.specs.Answer.{IsFaultOf, IsRefusal}
use Rattle.css_tree.specs.Tree.{Tree}
use Rattle.css_tree.specs.Reads.{Reads}
use Rattle.node_store.specs.Forest.{Forest, IsForest, tree_of}
use Rattle.node_store.specs.Fresh.{IsFresh}
use Rattle.node_store.proofs.FreshTree.{fresh_tree}
use Rattle.plugin_api.specs.declared.visitor.Told.{Told}
use Rattle.plugin_api.specs.declared.visitor.Duty.{Duty}
use Rattle.plugin_api.specs.declared.plugin.Plugin.{Plugin}
use Rattle.plugin_api.specs.Shelf.{PluginSeen, plugin_seen, shelf_seen}
use Rattle.visitor_walk.specs.declared.walk_end.WalkEnd.TheVariants as W
use Rattle.command_words.specs.Words.{Command, Transform, Lint}
use Rattle.css_job.specs.Faults.{input_name, wrong_at}
use Rattle.css_job.specs.Reading.{Reading}
use Rattle.css_job.specs.Warnings.{Warning}
use Rattle.css_job.specs.Report.{report}
use Rattle.css_job.specs.ShelfSeen.{shelf_names}
use Rattle.command_words.specs.CommandSeen.{command_seen}
use Rattle.css_job.specs.Plan.{Plan, stopped, limit}
use Rattle.css_job.specs.TransformPlan.{Reached, Turn, turn_of}
use Rattle.css_job.specs.LintPlan.{lint_status, reported}
use Rattle.css_job.specs.CommandPlan.{text_plan, input_plan}
use Rattle.css_job.specs.Stated.{names_of}
use Rattle.css_job.specs.Stages.{Stage, stage_seen, writing, Kept, CutOff, command_turn, IsTextPlan, Planned, PlansInput}
use Rattle.css_job.specs.declared.fault.Fault.TheVariants as F
use Rattle.css_job.specs.declared.prepared.Prepared as S
use Rattle.css_job.specs.declared.target.Target.TheVariants.{StdErr}
use Rattle.command_words.specs.declared.commands.Command as C
use Rattle.css_job.proofs.Names.{input_chars}
use Rattle.css_job.proofs.Readings.{some_reading}
use Rattle.css_job.proofs.Unheard.{unheard}

abbrev pub Stages : Type 0
Stages = Result S.Prepared AllocError

-- a stage without a walk
abbrev pub unwalked : Plan → Stage
unwalked p = record { plan = p; log = []; work = None }

-- a walk that wasn't
abbrev pub nothing : Reached
nothing = record { log = []; end = W.Done; nodes = [] }

-- the names of a shelf
pub names_seen : {X : Type 0} {F : X → Type 0} (told : DynBox X Global F → Option (List Told)) (said : DynBox X Global F → List (List ℕ)) (duty : DynBox X Global F → Option Duty) (left : DynBox X Global F → ℕ) (ps : List (Plugin X F)) → names_of (shelf_seen told said duty left ps) ≡ shelf_names ps
names_seen told said duty left ps = map-map (λ p. p.name) (plugin_seen told said duty left) ps

abbrev report_plan : ℕ → List ℕ → Plan
report_plan status bytes = record { fault = None; caller = []; status = status; writes = record { to = StdErr; bytes = bytes } ∷ [] }

pub lint_is : (text bytes : List ℕ) (ws : List Warning) (status : ℕ) → text ≡ chars bytes → IsUtf8 bytes → bytes ≡ report (chars input_name) ws → status ≡ lint_status ws → writing StdErr text status ≡ reported ws
lint_is text bytes ws status e u r n =
    ap (report_plan status) (ap encode_utf8_all e ∙ (encodes-chars bytes u ∙ (r ∙ ap (λ x. report x ws) input_chars))) ∙ ap (λ x. report_plan x (report input_name ws)) n

-- a fresh forest's tree is the one that its text reads as
pub fresh_reads : (f : Forest) → IsForest f → IsFresh f → Reads f.text (tree_of f)
fresh_reads f h k = subst (Reads f.text) (sym (fresh_tree f h k)) k.reads

-- memory was wanting before the walk
pub cut_none : (shelf : List PluginSeen) (command : Option Command) (s : List ℕ) → CutOff shelf shelf command s
cut_none shelf command s = record { log = []; cut = inl refl; heard = unheard (Err (record {})) shelf }

-- memory was wanting
pub cut_planned : (r : Stages) (command : Command) (shelf after : List PluginSeen) (s : List ℕ) → IsErr r → CutOff shelf after (Some command) s → Planned command shelf after s r
cut_planned (Ok x) command shelf after s e h = absurd (false≢true e)
cut_planned (Err x) command shelf after s e h = h

pub cut_input : (r : Stages) (command : Command) (shelf after : List PluginSeen) (bytes : List ℕ) → IsErr r → CutOff shelf after (Some command) (chars bytes) → PlansInput command shelf after bytes r
cut_input (Ok x) command shelf after bytes e h = absurd (false≢true e)
cut_input (Err x) command shelf after bytes e h = h

-- nothing is kept where there was no walk
pub kept_none : (shelf : List PluginSeen) (s : List ℕ) (turn : Option Turn) (r : Reached) (stage : Stage) (plan : Plan) → turn ≡ None → stage ≡ unwalked plan → Kept shelf shelf s turn r stage
kept_none shelf s turn r stage plan e i = subst (λ x. Kept shelf shelf s turn r x) (sym i) (subst (λ t. Kept shelf shelf s t r (unwalked plan)) (sym e) (record { walked = tt; log = refl; work = refl; heard = unheard (Ok tt) shelf }))

-- the plan of a text that `lint` read
pub of_lint : (r : Stages) (shelf : List PluginSeen) (s : List ℕ) (t : Tree) (p : Plan) → Reads s t → p ≡ text_plan Lint (names_of shelf) s (Ok t) nothing → IfOk r (λ x. stage_seen x ≡ unwalked p) → Planned Lint shelf shelf s r
of_lint (Ok x) shelf s t p h e k = record { reading = Ok t; is_reading = h; reached = nothing; kept = kept_none shelf s None nothing (stage_seen x) p refl k; is = ap (λ z. z.plan) k ∙ e }
of_lint (Err x) shelf s t p h e k = cut_none shelf (Some Lint) s

no_turn : (command : Command) (f : SyntaxFault) → command_turn command (Err f) ≡ None
no_turn (Transform o) f = refl
no_turn Lint f = refl

-- the plan of a text that can't be read
pub of_fault : (r : Stages) (shelf : List PluginSeen) (command : Command) (s : List ℕ) (f : SyntaxFault) → IsFaultOf f s → IfOk r (λ x. (names : List (List ℕ)) (u : List ℕ) (w : Reached) → stage_seen x ≡ unwalked (text_plan command names u (Err f) w)) → Planned command shelf shelf s r
of_fault (Ok x) shelf command s f h k =
    let e = k (names_of shelf) s nothing in
    record { reading = Err f; is_reading = h; reached = nothing; kept = kept_none shelf s (command_turn command (Err f)) nothing (stage_seen x) _ (no_turn command f) e; is = ap (λ z. z.plan) e }
of_fault (Err x) shelf command s f h k = cut_none shelf (Some command) s

pub fault_of : (s : List ℕ) (r : Result Forest (Stop SyntaxFault)) (x : Stop SyntaxFault) (f : SyntaxFault) → r ≡ Err x → x ≡ Fault f → IfErr r (λ e. IsRefusal e s) → IsFaultOf f s
fault_of s r x f e g h = subst (λ y. IfErr y (λ z. IsRefusal z s)) (e ∙ ap (λ y. Err y) g) h

-- another name of the command, of the text or of the answer
pub of_command : (r : Stages) (a b : C.Command) (shelf after : List PluginSeen) (s : List ℕ) → a ≡ b → Planned (command_seen b) shelf after s r → Planned (command_seen a) shelf after s r
of_command r a b shelf after s e h = subst (λ k. Planned (command_seen k) shelf after s r) (sym e) h

pub of_text : (r : Stages) (command : Command) (shelf after : List PluginSeen) (s t : List ℕ) → s ≡ t → Planned command shelf after s r → Planned command shelf after t r
of_text r command shelf after s t e h = subst (λ u. Planned command shelf after u r) e h

abbrev pub picked : Command → List (List ℕ) → List ℕ → Reading → Reached → Bool → Bool → Plan
picked command names bytes reading r large utf8 = cond large (stopped (F.TooLarge input_name)) (cond utf8 (text_plan command names (chars bytes) reading r) (stopped (F.NotUtf8 input_name (utf8_valid_len bytes))))

input_by : (command : Command) (names : List (List ℕ)) (bytes : List ℕ) (reading : Reading) (r : Reached) (a b : Bool) → nat_lt limit (length bytes) ≡ a → is_utf8 bytes ≡ b → input_plan command names bytes reading r ≡ picked command names bytes reading r a b
input_by command names bytes reading r a b e f = ap (λ x. picked command names bytes reading r x (is_utf8 bytes)) e ∙ ap (λ y. picked command names bytes reading r a y) f

pub not_large : (n : ℕ) → n ≤ limit → nat_lt limit n ≡ false
not_large n h = grind (arith, nat_tests)

pub is_large : (n : ℕ) → limit < n → nat_lt limit n ≡ true
is_large n h = grind (arith, nat_tests)

pub large_plan : (command : Command) (names : List (List ℕ)) (bytes : List ℕ) (reading : Reading) (r : Reached) → limit < length bytes → stopped (F.TooLarge input_name) ≡ input_plan command names bytes reading r
large_plan command names bytes reading r h = sym (input_by command names bytes reading r true _ (is_large (length bytes) h) refl)

pub read_text : (command : Command) (names : List (List ℕ)) (bytes : List ℕ) (reading : Reading) (r : Reached) → length bytes ≤ limit → IsUtf8 bytes → text_plan command names (chars bytes) reading r ≡ input_plan command names bytes reading r
read_text command names bytes reading r h u = sym (input_by command names bytes reading r false true (not_large (length bytes) h) (is_utf8-from_IsUtf8 bytes u))

pub never_both : (bytes : List ℕ) (at : ℕ) → IsValidUpTo bytes at → IsUtf8 bytes → ⊥
never_both bytes at h u = h.longest (length bytes) h.short (subst IsUtf8 (sym (take_all (length bytes) bytes (omega arith))) u)

pub not_utf8 : (bytes : List ℕ) (at : ℕ) (b : Bool) → is_utf8 bytes ≡ b → IsValidUpTo bytes at → b ≡ false
not_utf8 bytes at true e h = absurd (never_both bytes at h (IsUtf8-from_is_utf8 bytes e))
not_utf8 bytes at false e h = refl

pub wrong_plan : (command : Command) (names : List (List ℕ)) (bytes : List ℕ) (reading : Reading) (r : Reached) (at : ℕ) → length bytes ≤ limit → IsValidUpTo bytes at → stopped (F.NotUtf8 input_name at) ≡ input_plan command names bytes reading r
wrong_plan command names bytes reading r at h v =
    ap (λ n. stopped (F.NotUtf8 input_name n)) (sym (utf8_valid_len-IsValidUpTo bytes at v)) ∙ sym (input_by command names bytes reading r false false (not_large (length bytes) h) (not_utf8 bytes at (is_utf8 bytes) refl v))

-- the walk's turn
abbrev turn_by : Command → Reading → Bool → Bool → Option Turn
turn_by command reading large utf8 = cond large None (cond utf8 (command_turn command reading) None)

turn_is : (command : Command) (bytes : List ℕ) (reading : Reading) (a b : Bool) → nat_lt limit (length bytes) ≡ a → is_utf8 bytes ≡ b → turn_of (Some command) bytes reading false ≡ turn_by command reading a b
turn_is (Transform o) bytes (Ok t) a b e f = ap (λ x. turn_by (Transform o) (Ok t) x (is_utf8 bytes)) e ∙ ap (λ y. turn_by (Transform o) (Ok t) a y) f
turn_is (Transform o) bytes (Err f) true b e g = refl
turn_is (Transform o) bytes (Err f) false true e g = refl
turn_is (Transform o) bytes (Err f) false false e g = refl
turn_is Lint bytes reading true b e g = refl
turn_is Lint bytes reading false true e g = refl
turn_is Lint bytes reading false false e g = refl

pub read_turn : (command : Command) (bytes : List ℕ) (reading : Reading) → length bytes ≤ limit → IsUtf8 bytes → command_turn command reading ≡ turn_of (Some command) bytes reading false
read_turn command bytes reading h u = sym (turn_is command bytes reading false true (not_large (length bytes) h) (is_utf8-from_IsUtf8 bytes u))

pub large_turn : (command : Command) (bytes : List ℕ) (reading : Reading) → limit < length bytes → turn_of (Some command) bytes reading false ≡ None
large_turn command bytes reading h = turn_is command bytes reading true (is_utf8 bytes) (is_large (length bytes) h) refl

pub wrong_turn : (command : Command) (bytes : List ℕ) (reading : Reading) (at : ℕ) → length bytes ≤ limit → IsValidUpTo bytes at → turn_of (Some command) bytes reading false ≡ None
wrong_turn command bytes reading at h v = turn_is command bytes reading false false (not_large (length bytes) h) (not_utf8 bytes at (is_utf8 bytes) refl v)

pub unread_turn : (command : Command) (bytes : List ℕ) (reading : Reading) → turn_of (Some command) bytes reading true ≡ None
unread_turn (Transform o) bytes reading = refl
unread_turn Lint bytes reading = refl

-- the same of what making a text answers
module _ (bytes : List ℕ) (r : Result (List ℕ) (Stop TextFault)) (made : IsTextOf bytes r) where
  pub text_is : (text : List ℕ) → r ≡ Ok text → IsUtf8 bytes × (text ≡ chars bytes)
  text_is text e = subst (IsTextOf bytes) e made

  pub text_few : (text : List ℕ) → r ≡ Ok text → length bytes ≤ limit → byte_len text < 2 ^ 32
  text_few text e h = let t = text_is text e in omega (arith, h, length-bytes text, ap length (ap encode_utf8_all t.1 ∙ encodes-chars bytes t.0))

  pub text_planned : (command : Command) (shelf after : List PluginSeen) (text : List ℕ) (q : Stages) → r ≡ Ok text → length bytes ≤ limit → Planned command shelf after text q → PlansInput command shelf after bytes q
  text_planned command shelf after text (Ok x) e h k =
      let t = text_is text e in
      let d = subst (λ z. IsTextPlan command shelf after z (stage_seen x)) t.1 k in
      record {
        reading = d.reading;
        is_reading = d.is_reading;
        reached = d.reached;
        kept = subst (λ u. Kept shelf after (chars bytes) u d.reached (stage_seen x)) (read_turn command bytes d.reading h t.0) d.kept;
        is = d.is ∙ read_text command (names_of shelf) bytes d.reading d.reached h t.0;
      }
  text_planned command shelf after text (Err x) e h k = let t = text_is text e in subst (λ z. CutOff shelf after (Some command) z) t.1 k

  pub wrong_planned : (command : Command) (shelf : List PluginSeen) (s : Stop TextFault) (f : TextFault) (x : S.Prepared) (plan : Plan) → r ≡ Err s → s ≡ Fault f → length bytes ≤ limit → stage_seen x ≡ unwalked plan → plan ≡ stopped (F.NotUtf8 input_name (wrong_at f)) → PlansInput command shelf shelf bytes (Ok x)
  wrong_planned command shelf s (NotUtf8 at) x plan e g h i k =
      let v : IsValidUpTo bytes at = subst (IsTextOf bytes) (e ∙ ap (λ y. Err y) g) made in
      let d = some_reading (chars bytes) in
      record {
        reading = d.0;
        is_reading = d.1;
        reached = nothing;
        kept = kept_none shelf (chars bytes) (turn_of (Some command) bytes d.0 false) nothing (stage_seen x) plan (wrong_turn command bytes d.0 at h v) i;
        is = ap (λ z. z.plan) i ∙ (k ∙ wrong_plan command (names_of shelf) bytes d.0 nothing at h v);
      }
