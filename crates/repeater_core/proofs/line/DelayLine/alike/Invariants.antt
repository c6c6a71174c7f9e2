use Rattle.std.proofs.Common.{◌≡◌, ◌*◌, ◌<◌, ℕ, map, take, drop}
use Rattle.manchester_line.specs.Line.{is_signal}
use Rattle.repeater_core.specs.Delayed.{rotated}
use Rattle.repeater_core.proofs.line.DelayLine.alike.Given as goal

-- the rows below `row` are alike, and `turn` is that of the next
abbrev pub invariant-loop-row : goal.invariant-loop-row
invariant-loop-row l =
    let p = l.self-inside.ports in
    let items = l.self-inside.slots.items in
    let rows = rotated (l.self-inside.turn * p) items in
    record {
      turn_below : l.turn < l.self-inside.delay;
      ring : rotated (l.turn * p) items ≡ rotated (l.row * p) rows;
      alike : (k : ℕ) → k < l.row → map is_signal (take p (drop (k * p) rows)) ≡ map is_signal l.front;
    }
