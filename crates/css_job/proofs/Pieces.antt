-- What goes to each target, of pieces in a row.
use Rattle.std.proofs.Common.{◌≡◌, ℕ, ◌<◌, ◌≤◌, List, [], ◌∷◌, ◌++◌, length, Bool, true, false, Some, None, refl, sym, ap, subst, ◌∙◌, append_assoc, append-nil, cond, map, take, drop, get_or, ◌+◌, Result, Ok, Err, take-append-drop}
use Rattle.std.specs.Io.KnownBytes.{Appends}
use Rattle.std.proofs.KnownBytes.{Appends-trans, Appends-nil}
use Rattle.css_job.specs.Plan.{Piece}
use Rattle.css_job.specs.Answer.{bytes_for, same_target}
use Rattle.std.proofs.lemmas.List.{take_more, take_all, map-append}
use Rattle.std.specs.Prelude.{encode_utf8_all}
use Rattle.std.specs.declared.alloc.AllocError.{AllocError}
use Rattle.io_edge.specs.Causes.{Rose}
use Rattle.io_edge.specs.Whole.{WritesAll}
use Rattle.io_edge.specs.declared.edge.WriteStop.{WriteStop}
use Rattle.io_edge.specs.declared.edge.WriteStop.TheVariants.{WriteFault, Memory}
use Rattle.css_job.specs.Stages.{Sinks, Sent, Same, Broken, OnlyErr, RoseAt, WritesOne, WritesEach, piece_of}
use Rattle.css_job.specs.declared.plan.Write.{Write}
use Rattle.css_job.specs.declared.target.Target.{Target}
use Rattle.css_job.specs.declared.target.Target.TheVariants.{StdOut, StdErr}

chosen_append : (b : Bool) (p x y z : List ℕ) → z ≡ x ++ y → cond b (p ++ z) z ≡ cond b (p ++ x) x ++ y
chosen_append true p x y z e = ap (λ xs. p ++ xs) e ∙ sym (append_assoc p x y)
chosen_append false p x y z e = e

pub bytes_for-append : (t : Target) (ps qs : List Piece) → bytes_for t (ps ++ qs) ≡ bytes_for t ps ++ bytes_for t qs
bytes_for-append t [] qs = refl
bytes_for-append t (p ∷ ps) qs = chosen_append (same_target t p.to) p.bytes (bytes_for t ps) (bytes_for t qs) (bytes_for t (ps ++ qs)) (bytes_for-append t ps qs)

abbrev piece : Target → List ℕ → Piece
piece t b = record { to = t; bytes = b }

abbrev piece_list : Target → List ℕ → List Piece
piece_list t b = piece t b ∷ []

-- what a front of a piece leaves of it
pub record Front (text taken : List ℕ) : Type 0 where
  pub rest : List ℕ
  pub joined : taken ++ rest ≡ text

piece_front : (u t : Target) (front rest : List ℕ) (after : List Piece) → Front (bytes_for u (record { to = t; bytes = front ++ rest } ∷ after)) (bytes_for u (record { to = t; bytes = front } ∷ []))
piece_front StdOut StdOut front rest after = record { rest = rest ++ bytes_for StdOut after; joined = ap (λ xs. xs ++ (rest ++ bytes_for StdOut after)) (append-nil front) ∙ sym (append_assoc front rest (bytes_for StdOut after)) }
piece_front StdOut StdErr front rest after = record { rest = bytes_for StdOut after; joined = refl }
piece_front StdErr StdOut front rest after = record { rest = bytes_for StdErr after; joined = refl }
piece_front StdErr StdErr front rest after = record { rest = rest ++ bytes_for StdErr after; joined = ap (λ xs. xs ++ (rest ++ bytes_for StdErr after)) (append-nil front) ∙ sym (append_assoc front rest (bytes_for StdErr after)) }

pub front_more : (text taken more : List ℕ) → Front text taken → Front (text ++ more) taken
front_more text taken more h = record { rest = h.rest ++ more; joined = sym (append_assoc taken h.rest more) ∙ ap (λ xs. xs ++ more) h.joined }

front_behind : (before text taken : List ℕ) → Front text taken → Front (before ++ text) (before ++ taken)
front_behind before text taken h = record { rest = h.rest; joined = append_assoc before taken h.rest ∙ ap (λ xs. before ++ xs) h.joined }

pub broken_front : (u t : Target) (done after : List Piece) (front rest : List ℕ) → Front (bytes_for u (done ++ record { to = t; bytes = front ++ rest } ∷ after)) (bytes_for u (done ++ record { to = t; bytes = front } ∷ []))
broken_front u t done after front rest =
    subst (λ x. Front x (bytes_for u (done ++ record { to = t; bytes = front } ∷ []))) (sym (bytes_for-append u done (record { to = t; bytes = front ++ rest } ∷ after)))
    (subst (λ x. Front (bytes_for u done ++ bytes_for u (record { to = t; bytes = front ++ rest } ∷ after)) x) (sym (bytes_for-append u done (record { to = t; bytes = front } ∷ [])))
    (front_behind (bytes_for u done) _ _ (piece_front u t front rest after)))

-- the other target got all that came before
pub other_whole_out : (done : List Piece) (front rest : List ℕ) → bytes_for StdOut (done ++ record { to = StdErr; bytes = front } ∷ []) ≡ bytes_for StdOut (done ++ record { to = StdErr; bytes = front ++ rest } ∷ [])
other_whole_out done front rest = bytes_for-append StdOut done (record { to = StdErr; bytes = front } ∷ []) ∙ sym (bytes_for-append StdOut done (record { to = StdErr; bytes = front ++ rest } ∷ []))

pub other_whole_err : (done : List Piece) (front rest : List ℕ) → bytes_for StdErr (done ++ record { to = StdOut; bytes = front } ∷ []) ≡ bytes_for StdErr (done ++ record { to = StdOut; bytes = front ++ rest } ∷ [])
other_whole_err done front rest = bytes_for-append StdErr done (record { to = StdOut; bytes = front } ∷ []) ∙ sym (bytes_for-append StdErr done (record { to = StdOut; bytes = front ++ rest } ∷ []))

pub only_err_out : (ps : List Piece) → OnlyErr ps → bytes_for StdOut ps ≡ []
only_err_out [] h = refl
only_err_out (p ∷ ps) h = ap (λ t. cond (same_target StdOut t) (p.bytes ++ bytes_for StdOut ps) (bytes_for StdOut ps)) h.0 ∙ only_err_out ps h.1

pub only_err_at : (done after : List Piece) (p : Piece) → OnlyErr (done ++ p ∷ after) → p.to ≡ StdErr
only_err_at [] after p h = h.0
only_err_at (q ∷ done) after p h = only_err_at done after p h.1

pub only_err_done : (done after : List Piece) (p : Piece) → OnlyErr (done ++ p ∷ after) → OnlyErr done
only_err_done [] after p h = tt
only_err_done (q ∷ done) after p h = (h.0, only_err_done done after p h.1)

pub sent_then : (ps qs : List Piece) (a b c : Sinks) → Sent ps a b → Sent qs b c → Sent (ps ++ qs) a c
sent_then ps qs a b c h k = record {
  out = subst (Appends a.out c.out) (sym (bytes_for-append StdOut ps qs)) (Appends-trans a.out b.out c.out _ _ h.out k.out);
  err = subst (Appends a.err c.err) (sym (bytes_for-append StdErr ps qs)) (Appends-trans a.err b.err c.err _ _ h.err k.err);
}

-- where the first pieces went out, and then a later one broke
pub broken_later : (t : Target) (ps qs rest : List Piece) (a b c : Sinks) → Sent ps a b → Broken t qs b c → Broken t (ps ++ qs ++ rest) a c
broken_later t ps qs rest a b c h k =
    record {
      done = ps ++ k.done;
      front = k.front;
      rest = k.rest;
      after = k.after ++ rest;
      is = ap (λ x. ps ++ x ++ rest) k.is ∙ simp append_assoc;
      sent = subst (λ x. Sent x a c) (sym (append_assoc ps k.done (record { to = t; bytes = k.front } ∷ []))) (sent_then ps (k.done ++ record { to = t; bytes = k.front } ∷ []) a b c h k.sent);
    }

-- one piece to a sink
pub one_out : (bytes : List ℕ) (a c : Sinks) (r : Result (Unit {0}) WriteStop) → WritesAll bytes a.out c.out a.outs c.outs r → c.err ≡ a.err → c.errs ≡ a.errs → WritesOne (record { to = StdOut; bytes = bytes }) a c r
one_out bytes a c (Ok x) h same count = (record { out = subst (Appends a.out c.out) (sym (append-nil bytes)) h.0; err = subst (λ e. Appends a.err e []) (sym same) (Appends-nil a.err) }, record { outs = h.1; errs = count })
one_out bytes a c (Err WriteFault) h same count =
    (record { done = []; front = h.0; rest = h.1; after = []; is = ap (piece_list StdOut) (sym h.2); sent = record { out = subst (Appends a.out c.out) (sym (append-nil h.0)) h.4; err = subst (λ e. Appends a.err e []) (sym same) (Appends-nil a.err) } }, (h.5, count))
one_out bytes a c (Err (Memory e)) h same count =
    (record { done = []; front = h.0; rest = h.1; after = []; is = ap (piece_list StdOut) (sym h.2); sent = record { out = subst (Appends a.out c.out) (sym (append-nil h.0)) h.3; err = subst (λ e. Appends a.err e []) (sym same) (Appends-nil a.err) } }, record { outs = h.4; errs = count })

pub one_err : (bytes : List ℕ) (a c : Sinks) (r : Result (Unit {0}) WriteStop) → WritesAll bytes a.err c.err a.errs c.errs r → c.out ≡ a.out → c.outs ≡ a.outs → WritesOne (record { to = StdErr; bytes = bytes }) a c r
one_err bytes a c (Ok x) h same count = (record { err = subst (Appends a.err c.err) (sym (append-nil bytes)) h.0; out = subst (λ e. Appends a.out e []) (sym same) (Appends-nil a.out) }, record { errs = h.1; outs = count })
one_err bytes a c (Err WriteFault) h same count =
    (record { done = []; front = h.0; rest = h.1; after = []; is = ap (piece_list StdErr) (sym h.2); sent = record { err = subst (Appends a.err c.err) (sym (append-nil h.0)) h.4; out = subst (λ e. Appends a.out e []) (sym same) (Appends-nil a.out) } }, (count, h.5))
one_err bytes a c (Err (Memory e)) h same count =
    (record { done = []; front = h.0; rest = h.1; after = []; is = ap (piece_list StdErr) (sym h.2); sent = record { err = subst (Appends a.err c.err) (sym (append-nil h.0)) h.3; out = subst (λ e. Appends a.out e []) (sym same) (Appends-nil a.out) } }, record { errs = h.4; outs = count })

same_then : (a b c : Sinks) → Same a b → Same b c → Same a c
same_then a b c h k = record { outs = k.outs ∙ h.outs; errs = k.errs ∙ h.errs }

rose_then : (t : Target) (a b c : Sinks) → Same a b → RoseAt t b c → RoseAt t a c
rose_then StdOut a b c h k = (subst (λ n. Rose n c.outs) h.outs k.0, k.1 ∙ h.errs)
rose_then StdErr a b c h k = (k.0 ∙ h.outs, subst (λ n. Rose n c.errs) h.errs k.1)

-- the writes so far
pub record SoFar (ps : List Piece) (a b : Sinks) : Type 0 where
  pub sent : Sent ps a b
  pub same : Same a b

pub begun_none : (a : Sinks) → SoFar [] a a
begun_none a = record { sent = record { out = Appends-nil a.out; err = Appends-nil a.err }; same = record { outs = refl; errs = refl } }

map_more : (ws : List Write) (i : ℕ) (w : Write) → i < length ws → w ≡ get_or ws i w → map piece_of (take (i + 1) ws) ≡ map piece_of (take i ws) ++ piece_of w ∷ []
map_more ws i w h e = ap (map piece_of) (take_more ws i w h) ∙ map-append piece_of (take i ws) (get_or ws i w ∷ []) ∙ ap (λ v. map piece_of (take i ws) ++ piece_of v ∷ []) (sym e)

map_split : (ws : List Write) (i : ℕ) (w : Write) → i < length ws → w ≡ get_or ws i w → map piece_of ws ≡ map piece_of (take i ws) ++ piece_of w ∷ [] ++ map piece_of (drop (i + 1) ws)
map_split ws i w h e = ap (map piece_of) (sym (take-append-drop (i + 1) ws)) ∙ map-append piece_of (take (i + 1) ws) (drop (i + 1) ws) ∙ ap (λ x. x ++ map piece_of (drop (i + 1) ws)) (map_more ws i w h e)

pub one_more : (ws : List Write) (i : ℕ) (w : Write) (a b c : Sinks) (x : Unit {0}) → i < length ws → w ≡ get_or ws i w → SoFar (map piece_of (take i ws)) a b → WritesOne (piece_of w) b c (Ok x) → SoFar (map piece_of (take (i + 1) ws)) a c
one_more ws i w a b c x h e s k = record { sent = subst (λ ps. Sent ps a c) (sym (map_more ws i w h e)) (sent_then _ _ a b c s.sent k.0); same = same_then a b c s.same k.1 }

pub one_failed : (ws : List Write) (i : ℕ) (w : Write) (a b c : Sinks) → i < length ws → w ≡ get_or ws i w → SoFar (map piece_of (take i ws)) a b → WritesOne (piece_of w) b c (Err WriteFault) → WritesEach (map piece_of ws) a c (Ok (Some w.to))
one_failed ws i w a b c h e s k = (subst (λ ps. Broken w.to ps a c) (sym (map_split ws i w h e)) (broken_later w.to _ _ _ a b c s.sent k.0), rose_then w.to a b c s.same k.1)

pub one_stranded : (ws : List Write) (i : ℕ) (w : Write) (a b c : Sinks) (e : AllocError) → i < length ws → w ≡ get_or ws i w → SoFar (map piece_of (take i ws)) a b → WritesOne (piece_of w) b c (Err (Memory e)) → WritesEach (map piece_of ws) a c (Err e)
one_stranded ws i w a b c e h is s k = (w.to, subst (λ ps. Broken w.to ps a c) (sym (map_split ws i w h is)) (broken_later w.to _ _ _ a b c s.sent k.0), same_then a b c s.same k.1)

pub all_done : (ws : List Write) (i : ℕ) (a b : Sinks) → length ws ≤ i → SoFar (map piece_of (take i ws)) a b → WritesEach (map piece_of ws) a b (Ok None)
all_done ws i a b h s = let all = subst (λ x. SoFar (map piece_of x) a b) (take_all i ws h) s in (all.sent, all.same)

pub wrote_out : (w : Write) (bytes : List ℕ) (a c : Sinks) (r : Result (Unit {0}) WriteStop) → w.to ≡ StdOut → bytes ≡ encode_utf8_all w.text → WritesAll bytes a.out c.out a.outs c.outs r → c.err ≡ a.err → c.errs ≡ a.errs → WritesOne (piece_of w) a c r
wrote_out w bytes a c r is same h e f = subst (λ p. WritesOne p a c r) (ap (piece StdOut) same ∙ ap (λ t. piece t (encode_utf8_all w.text)) (sym is)) (one_out bytes a c r h e f)

pub wrote_err : (w : Write) (bytes : List ℕ) (a c : Sinks) (r : Result (Unit {0}) WriteStop) → w.to ≡ StdErr → bytes ≡ encode_utf8_all w.text → WritesAll bytes a.err c.err a.errs c.errs r → c.out ≡ a.out → c.outs ≡ a.outs → WritesOne (piece_of w) a c r
wrote_err w bytes a c r is same h e f = subst (λ p. WritesOne p a c r) (ap (piece StdErr) same ∙ ap (λ t. piece t (encode_utf8_all w.text)) (sym is)) (one_err bytes a c r h e f)

pub failed_by : (ws : List Write) (i : ℕ) (w : Write) (a b c : Sinks) (r : Result (Unit {0}) WriteStop) (s : WriteStop) → r ≡ Err s → s ≡ WriteFault → i < length ws → w ≡ get_or ws i w → SoFar (map piece_of (take i ws)) a b → WritesOne (piece_of w) b c r → WritesEach (map piece_of ws) a c (Ok (Some w.to))
failed_by ws i w a b c r s p q h is so k = one_failed ws i w a b c h is so (subst (λ v. WritesOne (piece_of w) b c v) (p ∙ ap (λ v. Err v) q) k)

pub stranded_by : (ws : List Write) (i : ℕ) (w : Write) (a b c : Sinks) (r : Result (Unit {0}) WriteStop) (s : WriteStop) (e : AllocError) → r ≡ Err s → s ≡ Memory e → i < length ws → w ≡ get_or ws i w → SoFar (map piece_of (take i ws)) a b → WritesOne (piece_of w) b c r → WritesEach (map piece_of ws) a c (Err e)
stranded_by ws i w a b c r s e p q h is so k = one_stranded ws i w a b c e h is so (subst (λ v. WritesOne (piece_of w) b c v) (p ∙ ap (λ v. Err v) q) k)

pub more_by : (ws : List Write) (i : ℕ) (w : Write) (a b c : Sinks) (r : Result (Unit {0}) WriteStop) (x : Unit {0}) → r ≡ Ok x → i < length ws → w ≡ get_or ws i w → SoFar (map piece_of (take i ws)) a b → WritesOne (piece_of w) b c r → SoFar (map piece_of (take (i + 1) ws)) a c
more_by ws i w a b c r x p h is so k = one_more ws i w a b c x h is so (subst (λ v. WritesOne (piece_of w) b c v) p k)
