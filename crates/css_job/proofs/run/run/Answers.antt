use Rattle.std.proofs.Common.{map, refl}
use Rattle.std.proofs.KnownBytes.{Keeps-refl}
use Rattle.plugin_api.specs.Shelf.{shelf_seen}
use Rattle.command_words.specs.Words.{word}
use Rattle.css_job.specs.Stated.{asked, names_of}
use Rattle.css_job.specs.Outside.{snapshot}
use Rattle.css_job.specs.Stages.{plan_seen}
use Rattle.css_job.proofs.Sound.{sound_plan}
use Rattle.css_job.proofs.Whole.{ended_run, stranded_run}
use Rattle.css_job.proofs.Promised.{promised, unprepared}
use Rattle.css_job.proofs.run.run.Goals as goal

pub carry_out-requires : goal.carry_out-requires
carry_out-requires g c =
    let old = shelf_seen (λ b. (goal.Visitor-dyn g (b.vtable, b.value)).told b.value) (λ b. (goal.Visitor-dyn g (b.vtable, b.value)).said b.value) (λ b. (goal.Visitor-dyn g (b.vtable, b.value)).duty b.value) (λ b. (goal.Visitor-dyn g (b.vtable, b.value)).left b.value) c.args.shelf.now.items in
    let all = asked (map word c.args.words.now) old in
    let p = c.in-Ok.ensures in
    sound_plan all.command (names_of old) p.bytes p.reading p.reached p.unread (plan_seen c.in-Ok.prepared.plan) p.is

pub returns-in-Err-clause-memory : goal.returns-in-Err-clause-memory
returns-in-Err-clause-memory g c =
    let old = shelf_seen (λ b. (goal.Visitor-dyn g (b.vtable, b.value)).told b.value) (λ b. (goal.Visitor-dyn g (b.vtable, b.value)).said b.value) (λ b. (goal.Visitor-dyn g (b.vtable, b.value)).duty b.value) (λ b. (goal.Visitor-dyn g (b.vtable, b.value)).left b.value) c.args.shelf.now.items in
    let all = asked (map word c.args.words.now) old in
    let new = shelf_seen (λ b. (goal.Visitor-dyn g (b.vtable, b.value)).told b.value) (λ b. (goal.Visitor-dyn g (b.vtable, b.value)).said b.value) (λ b. (goal.Visitor-dyn g (b.vtable, b.value)).duty b.value) (λ b. (goal.Visitor-dyn g (b.vtable, b.value)).left b.value) c.prepare.new.shelf.items in
    let first = snapshot g.S.Source g.F.Folder g.O.Sink g.E.Sink c.args.input.now c.args.files.now c.args.out.now c.args.err.now in
    let last = snapshot g.S.Source g.F.Folder g.O.Sink g.E.Sink c.prepare.new.input c.args.files.now c.args.out.now c.args.err.now in
    unprepared all new first last c.in-Err.ensures refl refl (Keeps-refl first.out) (Keeps-refl first.err) (record { held = refl; blamed = refl; files = refl })

pub returns-in-Ok-carry_out-clause-promised : goal.returns-in-Ok-carry_out-clause-promised
returns-in-Ok-carry_out-clause-promised g c =
    let old = shelf_seen (λ b. (goal.Visitor-dyn g (b.vtable, b.value)).told b.value) (λ b. (goal.Visitor-dyn g (b.vtable, b.value)).said b.value) (λ b. (goal.Visitor-dyn g (b.vtable, b.value)).duty b.value) (λ b. (goal.Visitor-dyn g (b.vtable, b.value)).left b.value) c.args.shelf.now.items in
    let all = asked (map word c.args.words.now) old in
    let new = shelf_seen (λ b. (goal.Visitor-dyn g (b.vtable, b.value)).told b.value) (λ b. (goal.Visitor-dyn g (b.vtable, b.value)).said b.value) (λ b. (goal.Visitor-dyn g (b.vtable, b.value)).duty b.value) (λ b. (goal.Visitor-dyn g (b.vtable, b.value)).left b.value) c.prepare.new.shelf.items in
    let first = snapshot g.S.Source g.F.Folder g.O.Sink g.E.Sink c.args.input.now c.args.files.now c.args.out.now c.args.err.now in
    let last = snapshot g.S.Source g.F.Folder g.O.Sink g.E.Sink c.prepare.new.input c.args.files.now c.carry_out.new.out c.carry_out.new.err in
    let ended = ended_run all new first last c.in-Ok-carry_out.field-0 c.in-Ok.prepared c.in-Ok.ensures c.in-Ok-carry_out.ensures in
    promised all new first last _ ended.0 ended.1 (record { held = refl; blamed = refl; files = refl })

pub returns-in-Err-carry_out-clause-memory : goal.returns-in-Err-carry_out-clause-memory
returns-in-Err-carry_out-clause-memory g c =
    let old = shelf_seen (λ b. (goal.Visitor-dyn g (b.vtable, b.value)).told b.value) (λ b. (goal.Visitor-dyn g (b.vtable, b.value)).said b.value) (λ b. (goal.Visitor-dyn g (b.vtable, b.value)).duty b.value) (λ b. (goal.Visitor-dyn g (b.vtable, b.value)).left b.value) c.args.shelf.now.items in
    let all = asked (map word c.args.words.now) old in
    let new = shelf_seen (λ b. (goal.Visitor-dyn g (b.vtable, b.value)).told b.value) (λ b. (goal.Visitor-dyn g (b.vtable, b.value)).said b.value) (λ b. (goal.Visitor-dyn g (b.vtable, b.value)).duty b.value) (λ b. (goal.Visitor-dyn g (b.vtable, b.value)).left b.value) c.prepare.new.shelf.items in
    let first = snapshot g.S.Source g.F.Folder g.O.Sink g.E.Sink c.args.input.now c.args.files.now c.args.out.now c.args.err.now in
    let last = snapshot g.S.Source g.F.Folder g.O.Sink g.E.Sink c.prepare.new.input c.args.files.now c.carry_out.new.out c.carry_out.new.err in
    record { ran = stranded_run all new first last c.in-Ok.prepared c.in-Ok.ensures c.in-Err-carry_out.ensures; folder = record { held = refl; blamed = refl; files = refl } }
