use Rattle.std.proofs.Common.{refl}
use Rattle.css_job.specs.Stages.{sinks}
use Rattle.css_job.proofs.Carry.{stranded_writes, stranded_fault, stranded_line, ended_line}
use Rattle.css_job.proofs.carry_out.carry_out.Goals as goal

pub returns-in-Err : goal.returns-in-Err
returns-in-Err g c = stranded_writes c.args.plan c.deref.result.now (sinks g.O.Sink g.E.Sink c.args.out.now c.args.err.now) (sinks g.O.Sink g.E.Sink c.write_each.new.out c.write_each.new.err) (sinks g.O.Sink g.E.Sink c.write_each.new.out c.write_each.new.err) c.write_each.result c.requires c.deref.ensures.value c.write_each.ensures c.in-Err.error c.in-Err.is

pub returns-in-Err-settle : goal.returns-in-Err-settle
returns-in-Err-settle g c = stranded_fault c.args.plan c.deref.result.now (sinks g.O.Sink g.E.Sink c.args.out.now c.args.err.now) (sinks g.O.Sink g.E.Sink c.write_each.new.out c.write_each.new.err) (sinks g.O.Sink g.E.Sink c.write_each.new.out c.write_each.new.err) c.write_each.result c.requires c.deref.ensures.value c.write_each.ensures c.in-Ok.failed c.in-Ok.is

pub returns-in-Ok-say_last : goal.returns-in-Ok-say_last
returns-in-Ok-say_last g c = ended_line c.args.plan c.deref.result.now (sinks g.O.Sink g.E.Sink c.args.out.now c.args.err.now) (sinks g.O.Sink g.E.Sink c.write_each.new.out c.write_each.new.err) (sinks g.O.Sink g.E.Sink c.write_each.new.out c.say_last.new.err) c.write_each.result c.requires c.deref.ensures.value c.write_each.ensures c.in-Ok.failed c.in-Ok-settle.settled c.say_last.result c.in-Ok-say_last.field-0 c.in-Ok.is c.in-Ok-settle.ensures refl refl c.say_last.ensures c.in-Ok-say_last.is

pub returns : goal.returns
returns g c = stranded_line c.args.plan c.deref.result.now (sinks g.O.Sink g.E.Sink c.args.out.now c.args.err.now) (sinks g.O.Sink g.E.Sink c.write_each.new.out c.write_each.new.err) (sinks g.O.Sink g.E.Sink c.write_each.new.out c.say_last.new.err) c.write_each.result c.requires c.deref.ensures.value c.write_each.ensures c.in-Ok.failed c.in-Ok-settle.settled c.say_last.result c.in-Err-say_last.error c.in-Ok.is c.in-Ok-settle.ensures refl refl c.say_last.ensures c.in-Err-say_last.is
