use Rattle.std.proofs.Common.{◌≡◌, ◌<◌, ℕ, [], get_or, length, take}
use Rattle.frame_table.specs.Devices.{events_of}
use Rattle.frame_table.proofs.devices.note_all.Given as goal

abbrev pub invariant-loop-line : goal.invariant-loop-line
invariant-loop-line l = record {
  count : length l.events ≡ length l.fn.events;
  each : (k : ℕ) → k < length l.fn.events → get_or l.events k [] ≡ events_of l.layout k (take l.line-index l.lines);
}
