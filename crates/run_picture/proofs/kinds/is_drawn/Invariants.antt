use Rattle.std.proofs.Common.{◌≡◌, drop}
use Rattle.std.specs.List.{AllByRecursion}
use Rattle.log_meter.specs.Lines.{IsLogLine}
use Rattle.run_picture.specs.Kinds.{is_drawn}
use Rattle.run_picture.proofs.kinds.is_drawn.Given as goal

abbrev pub invariant-loop-line : goal.invariant-loop-line
invariant-loop-line l =
    record {
      found : is_drawn l.window (drop l.line-index l.lines) l.kind ≡ is_drawn l.window l.lines l.kind;
      rest : AllByRecursion IsLogLine (drop l.line-index l.lines);
    }
