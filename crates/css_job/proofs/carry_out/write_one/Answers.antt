use Rattle.std.proofs.Common.{refl, ◌∙◌}
use Rattle.css_job.specs.Stages.{sinks}
use Rattle.css_job.proofs.Pieces.{wrote_out, wrote_err}
use Rattle.css_job.proofs.carry_out.write_one.Goals as goal

pub returns-in-StdOut : goal.returns-in-StdOut
returns-in-StdOut g c = wrote_out c.args.write.now c.as_bytes.result.now (sinks g.O.Sink g.E.Sink c.args.out.now c.args.err.now) (sinks g.O.Sink g.E.Sink c.write_all.new.sink c.args.err.now) c.write_all.result c.in-StdOut.is (c.as_bytes.ensures.value ∙ c.as_str.ensures.bytes) c.write_all.ensures refl refl

pub returns-in-StdErr : goal.returns-in-StdErr
returns-in-StdErr g c = wrote_err c.args.write.now c.as_bytes-in-StdErr.result.now (sinks g.O.Sink g.E.Sink c.args.out.now c.args.err.now) (sinks g.O.Sink g.E.Sink c.args.out.now c.write_all-in-StdErr.new.sink) c.write_all-in-StdErr.result c.in-StdErr.is (c.as_bytes-in-StdErr.ensures.value ∙ c.as_str-in-StdErr.ensures.bytes) c.write_all-in-StdErr.ensures refl refl
