-- What kind of signal a tap emits (clauses 4 and 9; the names are profile). Half bits and ports count from 0.
use Rattle.std.specs.Prelude.{ℕ, ◌+◌, ◌-◌, nat_le, ◌==◌, ◌&&◌, if◌then◌else◌, Option, None, Some}
use Rattle.manchester_line.specs.Line.{is_signal}
use Rattle.layout.specs.Paths.{delay_of}
use Rattle.layout.specs.declared.ways.Attachment.{Attachment}
use Rattle.layout.specs.declared.ways.Attachment.TheVariants.{Station, Port}
use Rattle.load_plan.specs.declared.plan.Plan.{Plan}
use Rattle.mac_transmit.specs.Sender.{jam_start}
use Rattle.mac_transmit.specs.declared.phase.Phase.{Phase}
use Rattle.mac_transmit.specs.declared.phase.Phase.TheVariants.{Sending}
use Rattle.repeater_core.specs.SilentParts.{sends_to}
use Rattle.repeater_core.specs.declared.modes.Mode.{Mode}
use Rattle.repeater_core.specs.declared.modes.Mode.TheVariants.{Idle, Repeat, Extend, RxClash, TxClash, OnePort}
use Rattle.network.specs.Attempts.{tap_number, sender_at}
use Rattle.network.specs.Times.{emitted}
use Rattle.net_parts.specs.Standing.{repeater_state}
use Rattle.tap_signals.specs.declared.kind.SignalKind.{SignalKind}
use Rattle.tap_signals.specs.declared.kind.SignalKind.TheVariants as kind

-- What a station sends in half bit t, by the phase of its sender after it: the jam from its first symbol on, and before
-- that the frame.
abbrev pub sent_kind : ℕ → Phase → Option SignalKind
sent_kind t (Sending start None) = Some kind.Frame
sent_kind t (Sending start (Some hit)) = if nat_le (jam_start hit) (t - start) then Some kind.Jam else Some kind.Frame
sent_kind t _ = None

-- What a repeater sends in a half bit, by its mode after it: what it hears at port n, an extension, or the jam.
abbrev pub kind_of_mode : Mode → Option SignalKind
kind_of_mode Idle = None
kind_of_mode (Repeat n i) = Some (kind.Repeat n)
kind_of_mode (Extend n i j) = Some kind.Extend
kind_of_mode (RxClash n i) = Some kind.Jam
kind_of_mode (TxClash i) = Some kind.Jam
kind_of_mode (OnePort n i) = Some kind.Jam

-- The kind of the signal that a tap emits in half bit t, if it emits one. That of a station is known from its sender
-- after the half bit. That of a port is known from its repeater's mode after the half bit in which the symbol was
-- decided. That was as many half bits before as the repeater's delay.
abbrev pub kind_if_signal : Plan → Attachment → ℕ → Option SignalKind
kind_if_signal plan (Station k) t = sent_kind t (sender_at plan k (t + 1)).phase
kind_if_signal plan (Port r p) t =
    kind_of_mode (repeater_state plan r (t - delay_of plan.layout (Port r p) + 1)).mode

-- The kind of what a tap emits in half bit t, and none where that is Idle.
abbrev pub kind_emitted : Plan → Attachment → ℕ → Option SignalKind
kind_emitted plan tap t =
    if is_signal (emitted plan (tap_number plan.layout tap) t) then kind_if_signal plan tap t else None

-- What is decided for a port in a half bit. It is known from its repeater's mode after the half bit, and from how many
-- half bits of rest the port has left before and after it.
abbrev pub decided_kind : Mode → ℕ → ℕ → ℕ → Option SignalKind
decided_kind mode rested rests port =
    if sends_to mode port && ((rested == 0) && (rests == 0)) then kind_of_mode mode else None
