-- The counts pin the object that failed first, where none stands at its last value.
use Rattle.std.proofs.Common.{◌≡◌, ℕ, ◌-◌, ◌^◌, ◌<◌, Some, None, refl, arith}
use Rattle.std.specs.Prelude.{Option}
use Rattle.io_edge.specs.Causes.{Rose}
use Rattle.css_job.specs.Answer.{Object, input, write_to}
use Rattle.css_job.specs.Outside.{Snapshot, Licensed}
use Rattle.css_job.specs.Pinned.{BelowLast}
use Rattle.css_job.specs.declared.target.Target.TheVariants.{StdOut, StdErr}

rose_up : (a b : ℕ) → a < 2 ^ 64 - 1 → Rose a b → a < b
rose_up a b l h = omega (arith, h.rose)

pub pinned : (f g : Option Object) (a c : Snapshot) → BelowLast a → Licensed f a c → Licensed g a c → f ≡ g
pinned None None a c k h i = refl
pinned None (Some input) a c k h i = let r = rose_up a.reads c.reads k.reads i.0 in absurd (omega (arith, r, h.0))
pinned None (Some (write_to StdOut)) a c k h i = let r = rose_up a.outs c.outs k.outs i.1 in absurd (omega (arith, r, h.1))
pinned None (Some (write_to StdErr)) a c k h i = let r = rose_up a.errs c.errs k.errs i.2 in absurd (omega (arith, r, h.2))
pinned (Some input) None a c k h i = let r = rose_up a.reads c.reads k.reads h.0 in absurd (omega (arith, r, i.0))
pinned (Some input) (Some input) a c k h i = refl
pinned (Some input) (Some (write_to StdOut)) a c k h i = let r = rose_up a.reads c.reads k.reads h.0 in absurd (omega (arith, r, i.0))
pinned (Some input) (Some (write_to StdErr)) a c k h i = let r = rose_up a.reads c.reads k.reads h.0 in absurd (omega (arith, r, i.0))
pinned (Some (write_to StdOut)) None a c k h i = let r = rose_up a.outs c.outs k.outs h.1 in absurd (omega (arith, r, i.1))
pinned (Some (write_to StdOut)) (Some input) a c k h i = let r = rose_up a.outs c.outs k.outs h.1 in absurd (omega (arith, r, i.1))
pinned (Some (write_to StdOut)) (Some (write_to StdOut)) a c k h i = refl
pinned (Some (write_to StdOut)) (Some (write_to StdErr)) a c k h i = let r = rose_up a.outs c.outs k.outs h.1 in absurd (omega (arith, r, i.1))
pinned (Some (write_to StdErr)) None a c k h i = let r = rose_up a.errs c.errs k.errs h.2 in absurd (omega (arith, r, i.2))
pinned (Some (write_to StdErr)) (Some input) a c k h i = let r = rose_up a.reads c.reads k.reads i.0 in absurd (omega (arith, r, h.0))
pinned (Some (write_to StdErr)) (Some (write_to StdOut)) a c k h i = let r = rose_up a.outs c.outs k.outs i.1 in absurd (omega (arith, r, h.1))
pinned (Some (write_to StdErr)) (Some (write_to StdErr)) a c k h i = refl
