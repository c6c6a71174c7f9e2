-- What is told of a tap by a network that is stepped (profile). Half bits, stations, repeaters and ports count from 0.
use Rattle.std.specs.Prelude.{◌≡◌, ℕ, ◌+◌, ◌<◌, Option, List, [], length, slice_index, slice_index_or}
use Rattle.layout.specs.Paths.{delay_of}
use Rattle.layout.specs.declared.ways.Attachment.{Attachment}
use Rattle.layout.specs.declared.ways.Attachment.TheVariants.{Station, Port}
use Rattle.load_plan.specs.declared.plan.Plan.{Plan}
use Rattle.mac_transmit.specs.Sender.{Sender, new_sender}
use Rattle.repeater_core.specs.Counts.{resting_count}
use Rattle.repeater_core.specs.Step.{RepeaterDevice, new_state}
use Rattle.net_step.specs.KeptNet.{KeptNet}
use Rattle.tap_signals.specs.Kinds.{sent_kind, decided_kind, kind_emitted}
use Rattle.tap_signals.specs.Stretches.{AreStretchesTo}
use Rattle.tap_signals.specs.declared.kind.SignalKind.{SignalKind}
use Rattle.tap_signals.specs.declared.stretch.Stretch.{Stretch}

-- The sender of a station.
abbrev pub kept_sender : KeptNet → ℕ → Sender
kept_sender n k = slice_index_or n.senders k (new_sender [] (record { seed = 0; station = 0; made = 0 }))

-- A repeater.
abbrev pub kept_repeater : KeptNet → ℕ → RepeaterDevice
kept_repeater n r = slice_index_or n.repeaters r (new_state 0 0)

-- The network has the device of this tap, and the port.
abbrev pub HasDevice : KeptNet → Attachment → Type 0
HasDevice n (Station k) = k < length n.senders
HasDevice n (Port r p) = (r < length n.repeaters) × (p < length (kept_repeater n r).guards)

-- The half bits of rest that the tap has left: none, if it is that of a station.
abbrev pub rest_told : KeptNet → Attachment → ℕ
rest_told n (Station k) = 0
rest_told n (Port r p) = (slice_index_or (kept_repeater n r).counts p (resting_count 0)).rest

-- What was decided for the tap in half bit t, the last one, before which it had so many half bits of rest left; a
-- station emits it at once.
abbrev pub kind_told : KeptNet → Attachment → ℕ → ℕ → Option SignalKind
kind_told n (Station k) rested t = sent_kind t (kept_sender n k).phase
kind_told n (Port r p) rested t = decided_kind (kept_repeater n r).mode rested (rest_told n (Port r p)) p

-- The network tells of each of these taps what it emits that was decided in half bit t, the last one. Before that the
-- taps had so many half bits of rest left.
abbrev pub TellsKinds : Plan → KeptNet → List Attachment → List ℕ → ℕ → Type 0
TellsKinds plan n taps rested t =
    (k : ℕ) (d : Attachment) → k < length taps →
    kind_told n (slice_index_or taps k d) (slice_index rested k) t
    ≡ kind_emitted plan (slice_index_or taps k d) (t + delay_of plan.layout (slice_index_or taps k d))

-- There is a list for each of these taps: the stretches of what it emits that was decided before half bit t. They are
-- in the half bits from `from` on and before `to`.
pub record AreListsTold
    (plan : Plan) (taps : List Attachment) (from to t : ℕ) (lists : List (List Stretch)) :
    Type 0 where
  pub many : length lists ≡ length taps
  pub each : (k : ℕ) (d : Attachment) → k < length taps →
      AreStretchesTo (kind_emitted plan (slice_index_or taps k d)) from to
      (t + delay_of plan.layout (slice_index_or taps k d)) (slice_index_or lists k [])
