use Rattle.std.proofs.Common.{◌≡◌, ◌+◌, ◌<◌, ℕ, get_or, length, take}
use Rattle.frame_table.specs.Histories.{history}
use Rattle.frame_table.specs.declared.history.History.{History}
use Rattle.frame_table.proofs.history.note_all.Given as goal

abbrev pub invariant-loop-event : goal.invariant-loop-event
invariant-loop-event l = record {
  count : length l.histories ≡ length l.fn.histories;
  each : (k : ℕ) (d : History) → k < length l.fn.histories → get_or l.histories k d ≡ history (k + 1) (take l.event-index l.events);
}
