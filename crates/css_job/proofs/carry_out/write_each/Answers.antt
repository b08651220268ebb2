use Rattle.css_job.specs.Stages.{sinks}
use Rattle.css_job.proofs.Pieces.{more_by, failed_by, stranded_by}
use Rattle.css_job.proofs.carry_out.write_each.Goals as goal

pub loop-write-preserved : goal.loop-write-preserved
loop-write-preserved g c = more_by c.args.writes.now c.loop-write.write-index c.write-item.result (sinks g.O.Sink g.E.Sink c.args.out.now c.args.err.now) (sinks g.O.Sink g.E.Sink c.loop-write.out c.loop-write.err) (sinks g.O.Sink g.E.Sink c.write_one.new.out c.write_one.new.err) c.write_one.result c.in-Ok.field-0 c.in-Ok.is c.loop-write-test.true c.write-item.is c.loop-write.invariant c.write_one.ensures

pub returns-in-Err-WriteFault : goal.returns-in-Err-WriteFault
returns-in-Err-WriteFault g c = failed_by c.args.writes.now c.loop-write.write-index c.write-item.result (sinks g.O.Sink g.E.Sink c.args.out.now c.args.err.now) (sinks g.O.Sink g.E.Sink c.loop-write.out c.loop-write.err) (sinks g.O.Sink g.E.Sink c.write_one.new.out c.write_one.new.err) c.write_one.result c.in-Err-WriteFault.field-0 c.in-Err-WriteFault.is c.in-Err-WriteFault.field-0-is c.loop-write-test.true c.write-item.is c.loop-write.invariant c.write_one.ensures

pub returns-in-Err-Memory : goal.returns-in-Err-Memory
returns-in-Err-Memory g c = stranded_by c.args.writes.now c.loop-write.write-index c.write-item.result (sinks g.O.Sink g.E.Sink c.args.out.now c.args.err.now) (sinks g.O.Sink g.E.Sink c.loop-write.out c.loop-write.err) (sinks g.O.Sink g.E.Sink c.write_one.new.out c.write_one.new.err) c.write_one.result c.in-Err-Memory.field-0 c.in-Err-Memory.error c.in-Err-Memory.is c.in-Err-Memory.field-0-is c.loop-write-test.true c.write-item.is c.loop-write.invariant c.write_one.ensures
