-- What a visit tells.
use Rattle.std.proofs.Common.{◌≡◌, ℕ, ◌+◌, ◌-◌, List, [], ◌∷◌, ◌++◌, length, slice_set, Bool, true, false, if◌then◌else◌, Option, Some, None, Ok, Err, refl, sym, ap, ◌∙◌, inr, arith, length-append, append-nil}
use Rattle.std.proofs.lemmas.List.{length-map, set_at}
use Rattle.node_store.specs.declared.item.Edit.{Edit}
use Rattle.node_store.specs.declared.item.Moment.{Moment}
use Rattle.node_store.specs.Forest.{Forest}
use Rattle.plugin_api.specs.declared.visitor.Told.{Told}
use Rattle.plugin_api.specs.declared.visitor.Duty.{Duty}
use Rattle.plugin_api.specs.declared.visitor.VisitFault.TheVariants.{Plugin, Memory}
use Rattle.plugin_api.specs.Edited.{Edited}
use Rattle.std.specs.declared.alloc.AllocError.{AllocError}
use Rattle.plugin_api.specs.Visit.{Answer, Tells, Dutiful, Visited}

pub tells_all : (calls new : List Told) (t : Told) (r : Answer) → new ≡ calls ++ t ∷ [] → Tells (Some calls) (Some new) t r
tells_all calls new t (Ok _) e = ap Some e
tells_all calls new t (Err (Plugin _)) e = ap Some e
tells_all calls new t (Err (Memory _)) e = inr (ap Some e)

pub edit_count : (before after : Forest) (es : List Edit) → Edited before after es → length after.log - length before.log ≡ length es
edit_count before after es h =
    let n : length after.log ≡ length before.log + length es = ap length h.log ∙ simp (length-append, length-map) in
    omega arith

-- the item at the end is given its count
pub counted : (calls pushed : List Told) (t t' : Told) (b : Bool) (place : ℕ) → b ≡ true → pushed ≡ (if b then calls ++ t ∷ [] else calls) → place ≡ length calls → slice_set pushed place t' ≡ calls ++ t' ∷ []
counted calls pushed t t' b place h e p = rw (e, h) (set_at calls t [] t' place (sym p))

pub recorded : {told told' : Option (List Told)} {said said' : List (List ℕ)} {duty duty' : Option Duty} {left left' : ℕ} {before after : Forest} {m : Moment} {r : Answer}
    → Visited told told' said said' duty duty' left left' before after m r
    → (calls new : List Told) (at n : ℕ) → at ≡ length before.log → n ≡ length after.log → new ≡ calls ++ record { moment = m; at = at; edits = n - at } ∷ []
    → Visited (Some calls) (Some new) said said' duty duty' left left' before after m r
recorded {before = before} {after = after} {m = m} {r = r} v calls new at n a l e = record {
  edits = v.edits;
  edited = v.edited;
  tells = tells_all calls new _ r (e ∙ ap (λ (t : Told). calls ++ t ∷ []) (rw (a, l, edit_count before after v.edits v.edited) refl));
  says = v.says;
  keeps = v.keeps;
  does = v.does;
  leaves = v.leaves;
}

-- a call that changed nothing is made of no edits
pub edited_nothing : (f : Forest) → Edited f f []
edited_nothing f = record { met = refl; text = refl; nodes = refl; log = sym (append-nil f.log); cursors = λ serial c e. e }

-- before the first edit nothing is owed but the whole
pub owes_all : (d : Option Duty) (f : Forest) (m : Moment) (e : AllocError) → Dutiful d f.nodes m [] (Err (Memory e))
owes_all None f m e = tt
owes_all (Some d) f m e = λ all h. (all, refl)

-- what could not be kept changed nothing
pub unkept : {A : Type 0} (xs pushed : List A) (x : A) (b : Bool) → b ≡ false → pushed ≡ (if b then xs ++ x ∷ [] else xs) → pushed ≡ xs
unkept xs pushed x b h e = rw h at e
