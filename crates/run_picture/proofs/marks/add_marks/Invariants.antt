use Rattle.std.proofs.Common.{◌≡◌, ◌++◌, drop, length}
use Rattle.std.specs.List.{AllByRecursion}
use Rattle.log_meter.specs.Lines.{IsLogLine}
use Rattle.run_picture.specs.Marks.{marks, marks_from}
use Rattle.run_picture.proofs.marks.add_marks.Given as goal

abbrev pub invariant-lines : goal.invariant-lines
invariant-lines l =
    record {
      text : l.text ++ marks_from l.rooms.items l.window l.layout l.bands (drop l.n l.lines) ≡ l.fn.text ++ marks l.window l.layout l.bands l.lines;
      rest : AllByRecursion IsLogLine (drop l.n l.lines);
      rooms : length l.rooms.items ≡ length l.layout.stations;
    }
