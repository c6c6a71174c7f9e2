use Rattle.std.proofs.Common.{◌≡◌, ◌-◌, ◌<◌, ◌++◌, ℕ, length, take, drop}
use Rattle.std.specs.Fn.{iterate}
use Rattle.repeater_core.specs.Modes.{IsMode}
use Rattle.repeater_core.specs.Steady.{mode_on}
use Rattle.repeater_core.specs.Classes.{texts_after}
use Rattle.repeater_core.proofs.texts.write_each.Given as goal

-- what is left to do leads to the same
abbrev pub invariant-loop-k : goal.invariant-loop-k
invariant-loop-k l = record {
  len : length l.sent ≡ length l.heard;
  modes : (j : ℕ) → j < length l.heard - l.k → IsMode (iterate mode_on j l.mode);
  mode_then : iterate mode_on (length l.heard - l.k) l.mode ≡ iterate mode_on (length l.heard) l.fn.mode;
  texts : take l.k l.sent ++ texts_after l.mode (drop l.k l.heard) ≡ texts_after l.fn.mode l.heard;
}
