-- When a network is quiet, so that a run can stop and go on later (profile). Half bits, taps and ports count from 0;
-- the stations' taps come first, then those of the ports.
use Rattle.std.specs.Prelude.{ℕ, ◌≡◌, ◌≢◌, ◌+◌, ◌<◌, ◌≤◌, false, All, [], length, slice_index, slice_index_or}
use Rattle.manchester_line.specs.declared.Sym.TheVariants.{Idle}
use Rattle.mac_parameters.specs.Distances.{distance}
use Rattle.mac_receive.specs.Receiver.{Receiving}
use Rattle.mac_transmit.specs.Sender.{is_sending}
use Rattle.repeater_core.specs.declared.modes.Mode.TheVariants as mode
use Rattle.layout.specs.Taps.{taps_of}
use Rattle.layout.specs.declared.lines.PortLine.{PortLine}
use Rattle.load_plan.specs.declared.plan.Plan.{Plan}
use Rattle.network.specs.Net.{net}
use Rattle.network.specs.Outputs.{half_bits}
use Rattle.network.specs.Times.{emitted, decided, port_delays}

-- A receiver that is not deaf and has no reception under way.
pub record IsStill (r : Receiving) : Type 0 where
  pub awake : r.deaf ≡ false
  pub no_reception : r.halves ≡ []

-- Every symbol that was emitted before half bit t and is heard by another tap in t or later is Idle: what tap q emits,
-- each other tap p of its segment hears as many half bits later as it is away (clause 8, in the profile's half bits).
abbrev pub CablesAreQuiet : Plan → ℕ → Type 0
CablesAreQuiet plan t =
    (p q u : ℕ) (d : PortLine) → p < length (taps_of plan.layout) → q < length (taps_of plan.layout) → p ≢ q
    → (slice_index_or (taps_of plan.layout) p d).segment ≡ (slice_index_or (taps_of plan.layout) q d).segment → u < t
    → t ≤ u + distance (slice_index_or (taps_of plan.layout) p d).at (slice_index_or (taps_of plan.layout) q d).at
    → emitted plan q u ≡ Idle

-- Every symbol that was decided before half bit t for a port and is emitted in t or later is Idle: port e of all ports
-- emits it after its repeater's delay (clause 9).
abbrev pub DelaysAreQuiet : Plan → ℕ → Type 0
DelaysAreQuiet plan t =
    (e u : ℕ) → e < length (port_delays plan.layout) → u < t → t ≤ u + slice_index (port_delays plan.layout) e
    → decided plan e u ≡ Idle

-- Half bit t of the run is quiet: before it no station is sending, no receiver is deaf or has a reception under way,
-- each repeater is in mode Idle, and of all earlier symbols none but Idle is still to be heard or emitted.
pub record IsQuiet (plan : Plan) (t : ℕ) : Type 0 where
  pub within : t < half_bits plan
  pub senders : All (λ s. is_sending s.phase ≡ false) (net plan t).senders
  pub receivers : All IsStill (net plan t).receivers
  pub repeaters : All (λ r. r.mode ≡ mode.Idle) (net plan t).repeaters
  pub cables : CablesAreQuiet plan t
  pub delays : DelaysAreQuiet plan t
