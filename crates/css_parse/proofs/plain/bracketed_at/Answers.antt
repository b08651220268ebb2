use Rattle.css_parse.proofs.PlainBrackets.{run-join}
use Rattle.css_parse.proofs.plain.bracketed_at.Goals as goal

pub ended_at-requires : goal.ended_at-requires
ended_at-requires c =
    let s = c.requires.scanned in
    record {
      name_end = s.name_end;
      first = s.first;
      run = run-join c.args.bytes.now c.args.colon c.args.first c.in_ok-end.end 0 0 0 s.run c.in_ok-end.ensures;
    }
