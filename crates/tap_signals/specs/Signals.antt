-- What the taps of a network emit in a window of a run, as stretches of one kind (profile). Half bits count from 0.
use Rattle.std.specs.Prelude.{◌≡◌, ℕ, ◌-◌, List, [], length, Some, slice_get, slice_index_or}
use Rattle.mac_parameters.specs.Parameters.{greatest_place}
use Rattle.layout.specs.declared.ways.Attachment.{Attachment}
use Rattle.load_plan.specs.declared.plan.Plan.{Plan}
use Rattle.tap_signals.specs.Kinds.{kind_emitted}
use Rattle.tap_signals.specs.Stretches.{AreStretches}
use Rattle.tap_signals.specs.Taps.{taps_in_order}
use Rattle.tap_signals.specs.declared.stretch.Stretch.{Stretch}

-- A signal that is emitted before this half bit is over on its cable at half bit `from`.
abbrev pub first_seen : ℕ → ℕ
first_seen from = from - greatest_place

-- There is a list for each tap, in the layout's order, of the stretches of what it emits before half bit `to`. They
-- begin so many half bits before half bit `from` as a signal may be on its cable.
pub record AreSignals (plan : Plan) (from to : ℕ) (lists : List (List Stretch)) : Type 0 where
  pub many : length lists ≡ length (taps_in_order plan.layout)
  pub each : (k : ℕ) (tap : Attachment) → slice_get (taps_in_order plan.layout) k ≡ Some tap →
      AreStretches (kind_emitted plan tap) (first_seen from) to (slice_index_or lists k [])
