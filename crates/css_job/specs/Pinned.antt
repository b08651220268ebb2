-- No count stands at its last value.
use Rattle.std.specs.Prelude.{◌-◌, ◌^◌, ◌<◌}
use Rattle.css_job.specs.Outside.{Snapshot}

pub record BelowLast (m : Snapshot) : Type 0 where
  pub reads : m.reads < 2 ^ 64 - 1
  pub outs : m.outs < 2 ^ 64 - 1
  pub errs : m.errs < 2 ^ 64 - 1
