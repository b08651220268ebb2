-- The second stage: what went out is what the end of the plan says.
use Rattle.std.proofs.Common.{◌≡◌, ℕ, ◌≤◌, List, [], ◌∷◌, ◌++◌, length, Some, None, Ok, Err, refl, sym, ap, subst, ◌∙◌, inl, inr, append_assoc, append-nil, arith, length-append, Result, map}
use Rattle.std.specs.Prelude.{Option}
use Rattle.std.specs.declared.alloc.AllocError.{AllocError}
use Rattle.std.specs.Io.KnownBytes.{Appends}
use Rattle.std.proofs.KnownBytes.{Appends-trans, Appends-nil}
use Rattle.std.proofs.lemmas.List.{nil_from_length}
use Rattle.io_edge.specs.Causes.{Rose}
use Rattle.css_job.specs.Faults.{line_of, name_of}
use Rattle.css_job.specs.Plan.{Piece}
use Rattle.css_job.specs.Answer.{bytes_for, begun, fault_line}
use Rattle.css_job.specs.Outside.{Took, TookFront}
use Rattle.css_job.specs.declared.plan.Plan as P
use Rattle.css_job.specs.declared.plan.Write.{Write}
use Rattle.css_job.specs.Stages.{plan_seen, piece_of, Sinks, Sent, Same, RoseAt, Broken, OnlyErr, WritesEach, last_line, Cut, SaysLast, settled, IsSound, Carried, Stranded}
use Rattle.css_job.specs.declared.fault.Fault.{Fault}
use Rattle.css_job.specs.declared.fault.Fault.TheVariants.{WriteFault}
use Rattle.css_job.specs.declared.carry_out.Settled.{Settled}
use Rattle.css_job.specs.declared.target.Target.{Target}
use Rattle.css_job.specs.declared.target.Target.TheVariants.{StdOut, StdErr}
use Rattle.css_job.proofs.Pieces.{Front, bytes_for-append, front_more, broken_front, other_whole_out, other_whole_err, only_err_out, only_err_at, only_err_done}

-- a sink took all
took_all : (text : List ℕ) (a c : Option (List ℕ)) (before now : ℕ) → Appends a c text → Took text a c before now
took_all text a c before now h = record { front = text; rest = []; joined = append-nil text; appended = h; whole = inl refl }

took_front : (text taken : List ℕ) (a c : Option (List ℕ)) (before now : ℕ) → Front text taken → Appends a c taken → Rose before now → Took text a c before now
took_front text taken a c before now f h r = record { front = taken; rest = f.rest; joined = f.joined; appended = h; whole = inr r }

front_of : (text taken : List ℕ) (a c : Option (List ℕ)) → Front text taken → Appends a c taken → TookFront text a c
front_of text taken a c f h = record { front = taken; rest = f.rest; joined = f.joined; appended = h }

whole_front : (text more : List ℕ) → Front (text ++ more) text
whole_front text more = record { rest = more; joined = refl }

cut_front : (text line front rest : List ℕ) → front ++ rest ≡ line → Front (text ++ line) (text ++ front)
cut_front text line front rest e = record { rest = rest; joined = append_assoc text front rest ∙ ap (λ xs. text ++ xs) e }

-- where there is no line, none was cut
no_cut : {A : Type 0} (a c : Option (List ℕ)) (before now : ℕ) → Cut [] a c before now → A
no_cut a c before now h = absurd (omega (arith, h.more, length-append h.front h.rest, ap length h.joined))

-- what is said last, where there is nothing to say
nothing_said : (a c : Option (List ℕ)) (before now : ℕ) → SaysLast [] a c before now (Ok tt) → Appends a c [] × (now ≡ before)
nothing_said a c before now (inl h) = h
nothing_said a c before now (inr h) = no_cut a c before now h

rose_later : (a b c : ℕ) → Rose a b → b ≤ c → Rose a c
rose_later a b c h le = record { later = omega (arith, h.later); rose = omega (arith, h.rose) }

rose_from : (a b c : ℕ) → a ≤ b → Rose b c → Rose a c
rose_from a b c le h = record { later = omega (arith, h.later); rose = omega (arith, h.rose) }

rose_same : (a b c : ℕ) → Rose a b → c ≡ b → Rose a c
rose_same a b c h e = subst (Rose a) (sym e) h

-- where this plugin was called last
module _ (caller : List ℕ) where
  -- the line of a fault, as the last piece
  err_text : (ps : List Piece) (f : Fault) → bytes_for StdErr (ps ++ fault_line caller f) ≡ bytes_for StdErr ps ++ line_of caller f
  err_text ps f = bytes_for-append StdErr ps (fault_line caller f) ∙ ap (λ xs. bytes_for StdErr ps ++ xs) (append-nil (line_of caller f))

  out_text : (ps : List Piece) (f : Fault) → bytes_for StdOut (ps ++ fault_line caller f) ≡ bytes_for StdOut ps
  out_text ps f = bytes_for-append StdOut ps (fault_line caller f) ∙ append-nil (bytes_for StdOut ps)

  -- what went out, and then the line or a part of it
  said_whole : (ps : List Piece) (f : Fault) (a b c : Option (List ℕ)) (before now : ℕ) → Appends a b (bytes_for StdErr ps) → Appends b c (line_of caller f) → Took (bytes_for StdErr (ps ++ fault_line caller f)) a c before now
  said_whole ps f a b c before now h k = took_all _ a c before now (subst (Appends a c) (sym (err_text ps f)) (Appends-trans a b c _ _ h k))

  said_part : (ps : List Piece) (f : Fault) (a b c : Option (List ℕ)) (before mid now : ℕ) → before ≤ mid → Appends a b (bytes_for StdErr ps) → Cut (line_of caller f) b c mid now → Took (bytes_for StdErr (ps ++ fault_line caller f)) a c before now
  said_part ps f a b c before mid now le h k =
      took_front _ (bytes_for StdErr ps ++ k.front) a c before now (subst (λ x. Front x (bytes_for StdErr ps ++ k.front)) (sym (err_text ps f)) (cut_front (bytes_for StdErr ps) (line_of caller f) k.front k.rest k.joined)) (Appends-trans a b c _ _ h k.appended) (rose_from before mid now le k.rose)

  pub record IsEnd (had : Option Fault) (code : ℕ) (failed : Option Target) (ended : Settled) : Type 0 where
    pub fault : ended.fault ≡ (settled had code failed).0
    pub status : ended.status ≡ (settled had code failed).1

  took_text : (x y : List ℕ) (a c : Option (List ℕ)) (before now : ℕ) → x ≡ y → Took x a c before now → Took y a c before now
  took_text x y a c before now e h = subst (λ t. Took t a c before now) e h

  front_text : (x y taken : List ℕ) → x ≡ y → Front x taken → Front y taken
  front_text x y taken e h = subst (λ t. Front t taken) e h

  stays : (a b c : Option (List ℕ)) (text : List ℕ) → Appends a b text → c ≡ b → Appends a c text
  stays a b c text h e = subst (λ x. Appends a x text) (sym e) h

  no_more : (a b c : Option (List ℕ)) (text : List ℕ) → Appends a b text → Appends b c [] → Appends a c text
  no_more a b c text h k = subst (Appends a c) (append-nil text) (Appends-trans a b c text [] h k)

  rise : (a b c : ℕ) → b ≡ a → Rose b c → Rose a c
  rise a b c e h = subst (λ n. Rose n c) e h

  -- a fault of the plan, and each write went out
  faulted : (f : Fault) (status : ℕ) (ws : List Piece) (a b c : Sinks) (e : Settled) → Sent ws a b → Same a b → IsEnd (Some f) status None e → c.out ≡ b.out → c.outs ≡ b.outs → SaysLast (line_of caller f) b.err c.err b.errs c.errs (Ok tt) → Carried (record { fault = Some f; caller = caller; status = status; writes = ws }) a c e
  faulted f status ws a b c e sent same end o n (inl h) = record {
    failed = None;
    blamed = record { outs = n ∙ same.outs; errs = h.1 ∙ same.errs };
    quiet = λ f p q. cc;
    status = end.status;
    fault = end.fault;
    out = took_text _ _ _ _ _ _ (sym (out_text ws f)) (took_all _ a.out c.out a.outs c.outs (stays _ _ _ _ sent.out o));
    err = said_whole ws f a.err b.err c.err a.errs c.errs sent.err h.0;
  }
  faulted f status ws a b c e sent same end o n (inr h) = record {
    failed = Some StdErr;
    blamed = (n ∙ same.outs, rise a.errs b.errs c.errs same.errs h.rose);
    quiet = λ f p q. cc;
    status = end.status;
    fault = end.fault;
    out = took_text _ _ _ _ _ _ (sym (out_text ws f)) (took_all _ a.out c.out a.outs c.outs (stays _ _ _ _ sent.out o));
    err = said_part ws f a.err b.err c.err a.errs b.errs c.errs (omega (arith, same.errs)) sent.err h;
  }

  -- a fault of the plan, and the trace broke
  faulted_broken : (f : Fault) (status : ℕ) (ws : List Piece) (a b c : Sinks) (e : Settled) → OnlyErr ws → Broken StdErr ws a b → RoseAt StdErr a b → IsEnd (Some f) status (Some StdErr) e → c.out ≡ b.out → c.outs ≡ b.outs → SaysLast [] b.err c.err b.errs c.errs (Ok tt) → Carried (record { fault = Some f; caller = caller; status = status; writes = ws }) a c e
  faulted_broken f status ws a b c e only broken rose end o n said =
      let nothing = nothing_said b.err c.err b.errs c.errs said in
      let whole : Piece = record { to = StdErr; bytes = broken.front ++ broken.rest } in
      let only_done = only_err_done broken.done broken.after whole (subst OnlyErr broken.is only) in
      let none_out : bytes_for StdOut (broken.done ++ record { to = StdErr; bytes = broken.front } ∷ []) ≡ [] = bytes_for-append StdOut broken.done (record { to = StdErr; bytes = broken.front } ∷ []) ∙ append-nil (bytes_for StdOut broken.done) ∙ only_err_out broken.done only_done in
      record {
        failed = Some StdErr;
        blamed = (n ∙ rose.0, rose_same a.errs b.errs c.errs rose.1 nothing.1);
        quiet = λ f p q. cc;
        status = end.status;
        fault = end.fault;
        out = took_text _ _ _ _ _ _ (sym (out_text ws f ∙ only_err_out ws only)) (took_all [] a.out c.out a.outs c.outs (subst (Appends a.out c.out) none_out (stays _ _ _ _ broken.sent.out o)));
        err = took_front _ _ a.err c.err a.errs c.errs (front_text _ _ _ (sym (bytes_for-append StdErr ws (fault_line caller f))) (front_more _ _ _ (front_text _ _ _ (ap (bytes_for StdErr) (sym broken.is)) (broken_front StdErr StdErr broken.done broken.after broken.front broken.rest)))) (no_more _ _ _ _ broken.sent.err nothing.0) (rose_same a.errs b.errs c.errs rose.1 nothing.1);
      }

  -- no fault
  unfaulted : (status : ℕ) (ws : List Piece) (a b c : Sinks) (e : Settled) → Sent ws a b → Same a b → IsEnd None status None e → c.out ≡ b.out → c.outs ≡ b.outs → SaysLast [] b.err c.err b.errs c.errs (Ok tt) → Carried (record { fault = None; caller = caller; status = status; writes = ws }) a c e
  unfaulted status ws a b c e sent same end o n said =
      let nothing = nothing_said b.err c.err b.errs c.errs said in
      record {
        failed = None;
        blamed = record { outs = n ∙ same.outs; errs = nothing.1 ∙ same.errs };
        quiet = λ f p q. cc;
        status = end.status;
        fault = end.fault;
        out = took_all _ a.out c.out a.outs c.outs (stays _ _ _ _ sent.out o);
        err = took_all _ a.err c.err a.errs c.errs (no_more _ _ _ _ sent.err nothing.0);
      }

  -- the output failed
  out_broken : (status : ℕ) (ws : List Piece) (a b c : Sinks) (e : Settled) → IsSound (record { fault = None; caller = caller; status = status; writes = ws }) → Broken StdOut ws a b → RoseAt StdOut a b → IsEnd None status (Some StdOut) e → c.out ≡ b.out → c.outs ≡ b.outs → SaysLast (line_of caller (WriteFault (name_of StdOut))) b.err c.err b.errs c.errs (Ok tt) → Carried (record { fault = None; caller = caller; status = status; writes = ws }) a c e
  out_broken status ws a b c e sound broken rose end o n said =
      let F : Fault = WriteFault (name_of StdOut) in
      let begin : List Piece = broken.done ++ record { to = StdOut; bytes = broken.front ++ broken.rest } ∷ [] in
      let is : begun StdOut ws ≡ begin = sound.once broken.done broken.after (record { to = StdOut; bytes = broken.front ++ broken.rest }) broken.is in
      let sent_err = subst (Appends a.err b.err) (other_whole_err broken.done broken.front broken.rest) broken.sent.err in
      let out : Took (bytes_for StdOut (begin ++ fault_line caller F)) a.out c.out a.outs c.outs = took_front _ _ a.out c.out a.outs c.outs (front_text _ _ _ (sym (out_text begin F)) (broken_front StdOut StdOut broken.done [] broken.front broken.rest)) (stays _ _ _ _ broken.sent.out o) (rose_same a.outs b.outs c.outs rose.0 n) in
      let err : Took (bytes_for StdErr (begin ++ fault_line caller F)) a.err c.err a.errs c.errs = elim said [
        | inl h ↦ said_whole begin F a.err b.err c.err a.errs c.errs sent_err h.0
        | inr h ↦ said_part begin F a.err b.err c.err a.errs b.errs c.errs (omega (arith, rose.1)) sent_err h
      ] in
      let later : a.errs ≤ c.errs = elim said [ inl h ↦ omega (arith, rose.1, h.1) | inr h ↦ omega (arith, rose.1, h.rose.later) ] in
      record {
        failed = Some StdOut;
        blamed = (rose_same a.outs b.outs c.outs rose.0 n, later);
        quiet = λ f p q. cc;
        status = end.status;
        fault = end.fault;
        out = took_text _ _ _ _ _ _ (ap (λ x. bytes_for StdOut (x ++ fault_line caller F)) (sym is)) out;
        err = took_text _ _ _ _ _ _ (ap (λ x. bytes_for StdErr (x ++ fault_line caller F)) (sym is)) err;
      }

  -- the sink of the fault lines failed
  err_broken : (status : ℕ) (ws : List Piece) (a b c : Sinks) (e : Settled) → IsSound (record { fault = None; caller = caller; status = status; writes = ws }) → Broken StdErr ws a b → RoseAt StdErr a b → IsEnd None status (Some StdErr) e → c.out ≡ b.out → c.outs ≡ b.outs → SaysLast [] b.err c.err b.errs c.errs (Ok tt) → Carried (record { fault = None; caller = caller; status = status; writes = ws }) a c e
  err_broken status ws a b c e sound broken rose end o n said =
      let nothing = nothing_said b.err c.err b.errs c.errs said in
      let begin : List Piece = broken.done ++ record { to = StdErr; bytes = broken.front ++ broken.rest } ∷ [] in
      let is : begun StdErr ws ++ [] ≡ begin = append-nil (begun StdErr ws) ∙ sound.once broken.done broken.after (record { to = StdErr; bytes = broken.front ++ broken.rest }) broken.is in
      record {
        failed = Some StdErr;
        blamed = (n ∙ rose.0, rose_same a.errs b.errs c.errs rose.1 nothing.1);
        quiet = λ f p q. cc;
        status = end.status;
        fault = end.fault;
        out = took_text _ _ _ _ _ _ (ap (bytes_for StdOut) (sym is)) (took_all _ a.out c.out a.outs c.outs (subst (Appends a.out c.out) (other_whole_out broken.done broken.front broken.rest) (stays _ _ _ _ broken.sent.out o)));
        err = took_text _ _ _ _ _ _ (ap (bytes_for StdErr) (sym is)) (took_front _ _ a.err c.err a.errs c.errs (broken_front StdErr StdErr broken.done [] broken.front broken.rest) (no_more _ _ _ _ broken.sent.err nothing.0) (rose_same a.errs b.errs c.errs rose.1 nothing.1));
      }

  pub carried : (fault : Option Fault) (status : ℕ) (ws : List Piece) (failed : Option Target) (a b c : Sinks) (e : Settled) → IsSound (record { fault = fault; caller = caller; status = status; writes = ws }) → WritesEach ws a b (Ok failed) → IsEnd fault status failed e → c.out ≡ b.out → c.outs ≡ b.outs → SaysLast (last_line caller (settled fault status failed).0 failed) b.err c.err b.errs c.errs (Ok tt) → Carried (record { fault = fault; caller = caller; status = status; writes = ws }) a c e
  carried (Some f) status ws None a b c e sound w end o n said = faulted f status ws a b c e w.0 w.1 end o n said
  carried (Some f) status ws (Some StdOut) a b c e sound w end o n said =
      let wrong = only_err_at w.0.done w.0.after (record { to = StdOut; bytes = w.0.front ++ w.0.rest }) (subst OnlyErr w.0.is (sound.quiet f refl)) in cc
  carried (Some f) status ws (Some StdErr) a b c e sound w end o n said = faulted_broken f status ws a b c e (sound.quiet f refl) w.0 w.1 end o n said
  carried None status ws None a b c e sound w end o n said = unfaulted status ws a b c e w.0 w.1 end o n said
  carried None status ws (Some StdOut) a b c e sound w end o n said = out_broken status ws a b c e sound w.0 w.1 end o n said
  carried None status ws (Some StdErr) a b c e sound w end o n said = err_broken status ws a b c e sound w.0 w.1 end o n said

  nothing_front : (a c : Option (List ℕ)) → TookFront [] a c → Appends a c []
  nothing_front a c h = subst (Appends a c) (nil_from_length h.front (omega (arith, length-append h.front h.rest, ap length h.joined))) h.appended

  broken_more : (u t : Target) (ws extra : List Piece) (a b : Sinks) (broken : Broken t ws a b) → Front (bytes_for u (ws ++ extra)) (bytes_for u (broken.done ++ record { to = t; bytes = broken.front } ∷ []))
  broken_more u t ws extra a b broken = front_text _ _ _ (sym (bytes_for-append u ws extra)) (front_more _ _ _ (front_text _ _ _ (ap (bytes_for u) (sym broken.is)) (broken_front u t broken.done broken.after broken.front broken.rest)))

  broken_all : (u t : Target) (ws : List Piece) (a b : Sinks) (broken : Broken t ws a b) → Front (bytes_for u ws) (bytes_for u (broken.done ++ record { to = t; bytes = broken.front } ∷ []))
  broken_all u t ws a b broken = front_text _ _ _ (ap (bytes_for u) (sym broken.is)) (broken_front u t broken.done broken.after broken.front broken.rest)

  -- where a write wanted memory
  pub stranded_early : (fault : Option Fault) (status : ℕ) (ws : List Piece) (a c : Sinks) (e : AllocError) → WritesEach ws a c (Err e) → Stranded (record { fault = fault; caller = caller; status = status; writes = ws }) a c
  stranded_early (Some f) status ws a c e w = record {
    failed = None;
    blamed = w.2;
    quiet = λ f p q. cc;
    out = front_of _ _ a.out c.out (broken_more StdOut w.0 ws (fault_line caller f) a c w.1) w.1.sent.out;
    err = front_of _ _ a.err c.err (broken_more StdErr w.0 ws (fault_line caller f) a c w.1) w.1.sent.err;
  }
  stranded_early None status ws a c e w = record {
    failed = None;
    blamed = w.2;
    quiet = λ f p q. cc;
    out = front_of _ _ a.out c.out (broken_all StdOut w.0 ws a c w.1) w.1.sent.out;
    err = front_of _ _ a.err c.err (broken_all StdErr w.0 ws a c w.1) w.1.sent.err;
  }

  -- where the fault or its line wanted memory, after the writes
  pub stranded : (fault : Option Fault) (status : ℕ) (ws : List Piece) (failed : Option Target) (a b c : Sinks) → IsSound (record { fault = fault; caller = caller; status = status; writes = ws }) → WritesEach ws a b (Ok failed) → c.out ≡ b.out → c.outs ≡ b.outs → TookFront (last_line caller (settled fault status failed).0 failed) b.err c.err → c.errs ≡ b.errs → Stranded (record { fault = fault; caller = caller; status = status; writes = ws }) a c
  stranded (Some f) status ws None a b c sound w o n said k = record {
    failed = None;
    blamed = record { outs = n ∙ w.1.outs; errs = k ∙ w.1.errs };
    quiet = λ f p q. cc;
    out = front_of _ _ a.out c.out (record { rest = []; joined = append-nil (bytes_for StdOut ws) ∙ sym (out_text ws f) }) (stays _ _ _ _ w.0.out o);
    err = front_of _ _ a.err c.err (front_text _ _ _ (sym (err_text ws f)) (cut_front (bytes_for StdErr ws) (line_of caller f) said.front said.rest said.joined)) (Appends-trans _ _ _ _ _ w.0.err said.appended);
  }
  stranded (Some f) status ws (Some StdOut) a b c sound w o n said k =
      let wrong = only_err_at w.0.done w.0.after (record { to = StdOut; bytes = w.0.front ++ w.0.rest }) (subst OnlyErr w.0.is (sound.quiet f refl)) in cc
  stranded (Some f) status ws (Some StdErr) a b c sound w o n said k = record {
    failed = Some StdErr;
    blamed = (n ∙ w.1.0, rose_same a.errs b.errs c.errs w.1.1 k);
    quiet = λ f p q. cc;
    out = front_of _ _ a.out c.out (broken_more StdOut StdErr ws (fault_line caller f) a b w.0) (stays _ _ _ _ w.0.sent.out o);
    err = front_of _ _ a.err c.err (broken_more StdErr StdErr ws (fault_line caller f) a b w.0) (no_more _ _ _ _ w.0.sent.err (nothing_front _ _ said));
  }
  stranded None status ws None a b c sound w o n said k = record {
    failed = None;
    blamed = record { outs = n ∙ w.1.outs; errs = k ∙ w.1.errs };
    quiet = λ f p q. cc;
    out = front_of _ _ a.out c.out (record { rest = []; joined = append-nil (bytes_for StdOut ws) }) (stays _ _ _ _ w.0.out o);
    err = front_of _ _ a.err c.err (record { rest = []; joined = append-nil (bytes_for StdErr ws) }) (no_more _ _ _ _ w.0.err (nothing_front _ _ said));
  }
  stranded None status ws (Some StdOut) a b c sound w o n said k =
      let F : Fault = WriteFault (name_of StdOut) in
      let begin : List Piece = w.0.done ++ record { to = StdOut; bytes = w.0.front ++ w.0.rest } ∷ [] in
      let is : begun StdOut ws ≡ begin = sound.once w.0.done w.0.after (record { to = StdOut; bytes = w.0.front ++ w.0.rest }) w.0.is in
      let sent_err = subst (Appends a.err b.err) (other_whole_err w.0.done w.0.front w.0.rest) w.0.sent.err in
      record {
        failed = Some StdOut;
        blamed = (rose_same a.outs b.outs c.outs w.1.0 n, omega (arith, k, w.1.1));
        quiet = λ f p q. cc;
        out = front_of _ _ a.out c.out (front_text _ _ _ (sym (out_text begin F) ∙ ap (λ x. bytes_for StdOut (x ++ fault_line caller F)) (sym is)) (broken_front StdOut StdOut w.0.done [] w.0.front w.0.rest)) (stays _ _ _ _ w.0.sent.out o);
        err = front_of _ _ a.err c.err (front_text _ _ _ (sym (err_text begin F) ∙ ap (λ x. bytes_for StdErr (x ++ fault_line caller F)) (sym is)) (cut_front (bytes_for StdErr begin) (line_of caller F) said.front said.rest said.joined)) (Appends-trans _ _ _ _ _ sent_err said.appended);
      }
  stranded None status ws (Some StdErr) a b c sound w o n said k =
      let begin : List Piece = w.0.done ++ record { to = StdErr; bytes = w.0.front ++ w.0.rest } ∷ [] in
      let is : begun StdErr ws ++ [] ≡ begin = append-nil (begun StdErr ws) ∙ sound.once w.0.done w.0.after (record { to = StdErr; bytes = w.0.front ++ w.0.rest }) w.0.is in
      record {
        failed = Some StdErr;
        blamed = (n ∙ w.1.0, rose_same a.errs b.errs c.errs w.1.1 k);
        quiet = λ f p q. cc;
        out = front_of _ _ a.out c.out (front_text _ _ _ (ap (bytes_for StdOut) (sym is)) (broken_front StdOut StdErr w.0.done [] w.0.front w.0.rest)) (stays _ _ _ _ w.0.sent.out o);
        err = front_of _ _ a.err c.err (front_text _ _ _ (ap (bytes_for StdErr) (sym is)) (broken_front StdErr StdErr w.0.done [] w.0.front w.0.rest)) (no_more _ _ _ _ w.0.sent.err (nothing_front _ _ said));
      }

-- the same of a plan as the code has it
module _ (p : P.Plan) (ws : List Write) (a b c : Sinks) (r : Result (Option Target) AllocError) (sound : IsSound (plan_seen p)) (same : ws ≡ p.writes.items) (w : WritesEach (map piece_of ws) a b r) where
  each_of : (v : Result (Option Target) AllocError) → r ≡ v → WritesEach (map piece_of p.writes.items) a b v
  each_of v e = subst (λ x. WritesEach (map piece_of p.writes.items) a b x) e (subst (λ x. WritesEach (map piece_of x) a b r) same w)

  pub stranded_writes : (e : AllocError) → r ≡ Err e → Stranded (plan_seen p) a b
  stranded_writes e is = stranded_early p.caller p.fault p.status (map piece_of p.writes.items) a b e (each_of (Err e) is)

  pub stranded_fault : (failed : Option Target) → r ≡ Ok failed → Stranded (plan_seen p) a b
  stranded_fault failed is = stranded p.caller p.fault p.status (map piece_of p.writes.items) failed a b b sound (each_of (Ok failed) is) refl refl (record { front = []; rest = last_line p.caller (settled p.fault p.status failed).0 failed; joined = refl; appended = Appends-nil b.err }) refl

  pub stranded_line : (failed : Option Target) (e : Settled) (said : Result (Unit {0}) AllocError) (x : AllocError) → r ≡ Ok failed → (e.fault, e.status) ≡ settled p.fault p.status failed → c.out ≡ b.out → c.outs ≡ b.outs → SaysLast (last_line p.caller e.fault failed) b.err c.err b.errs c.errs said → said ≡ Err x → Stranded (plan_seen p) a c
  stranded_line failed e said x is end o n s err =
      let last = subst (λ f. SaysLast (last_line p.caller f failed) b.err c.err b.errs c.errs (Err x)) (ap (λ q. q.0) end) (subst (λ v. SaysLast (last_line p.caller e.fault failed) b.err c.err b.errs c.errs v) err s) in
      stranded p.caller p.fault p.status (map piece_of p.writes.items) failed a b c sound (each_of (Ok failed) is) o n last.0 last.1

  pub ended_line : (failed : Option Target) (e : Settled) (said : Result (Unit {0}) AllocError) (x : Unit {0}) → r ≡ Ok failed → (e.fault, e.status) ≡ settled p.fault p.status failed → c.out ≡ b.out → c.outs ≡ b.outs → SaysLast (last_line p.caller e.fault failed) b.err c.err b.errs c.errs said → said ≡ Ok x → Carried (plan_seen p) a c e
  ended_line failed e said x is end o n s ok =
      let last = subst (λ f. SaysLast (last_line p.caller f failed) b.err c.err b.errs c.errs (Ok x)) (ap (λ q. q.0) end) (subst (λ v. SaysLast (last_line p.caller e.fault failed) b.err c.err b.errs c.errs v) ok s) in
      carried p.caller p.fault p.status (map piece_of p.writes.items) failed a b c e sound (each_of (Ok failed) is) (record { fault = ap (λ q. q.0) end; status = ap (λ q. q.1) end }) o n last
