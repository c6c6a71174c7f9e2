use Rattle.std.proofs.Common.{◌≡◌, drop}
use Rattle.run_picture.specs.WordRooms.{has_no_bar_before}
use Rattle.run_picture.proofs.word_rooms.has_no_bar_before.Given as goal

abbrev pub invariant-loop-line : goal.invariant-loop-line
invariant-loop-line l = has_no_bar_before l.name l.t (drop l.line-index l.lines) ≡ has_no_bar_before l.name l.t l.lines
