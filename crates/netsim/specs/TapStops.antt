-- Why words name no taps (profile).
use Rattle.std.specs.Prelude.{ℕ, List}
use Rattle.layout.specs.declared.lines.Layout.{Layout}
use Rattle.netsim.specs.declared.aim.TapStop.{TapStop}
use Rattle.netsim.specs.declared.aim.TapStop.TheVariants as stop
use Rattle.program_endings.specs.Probes.{IsFirstUnknown}

-- why there are no taps of these words: the first that names none, or want of memory
abbrev pub IsTapStop : Layout → List (List ℕ) → TapStop → Type 0
IsTapStop network words (stop.Unknown word) = IsFirstUnknown network words word.now
IsTapStop network words stop.OutOfMemory = Unit {0}
