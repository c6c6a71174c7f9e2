-- How a quiet half bit is told by what is kept from one half bit to the next: when each tap last emitted a signal, when
-- one was last decided for each port, and what the devices say of themselves (profile). Half bits, taps and ports count
-- from 0.
use Rattle.std.specs.Prelude.{ℕ, ◌≡◌, ◌+◌, ◌-◌, ◌<◌, ◌==◌, max, if◌then◌else◌, false, All, Option, Some, None, List, [], ◌∷◌, flat_map, replicate, length, slice_index, slice_index_or}
use Rattle.manchester_line.specs.declared.Sym.{Sym}
use Rattle.manchester_line.specs.declared.Sym.TheVariants.{Idle}
use Rattle.manchester_line.specs.Line.{is_signal}
use Rattle.mac_parameters.specs.Distances.{distance}
use Rattle.mac_transmit.specs.Sender.{is_sending}
use Rattle.repeater_core.specs.declared.modes.Mode.TheVariants as mode
use Rattle.repeater_core.specs.Step.{RepeaterDevice}
use Rattle.layout.specs.declared.lines.PortLine.{PortLine}
use Rattle.network.specs.Net.{Net}
use Rattle.quiet_state.specs.Quiet.{IsStill}

-- The last half bit before half bit t in which tap q emitted something else than Idle, if there is one, where the rows
-- have what each tap emitted in each half bit, that of half bit t - 1 first; and so of what was decided for port q.
abbrev pub last_signal : ℕ → List (List Sym) → ℕ → Option ℕ
last_signal t [] q = None
last_signal t (row ∷ rows) q =
    if is_signal (slice_index_or row q Idle) then Some (t - 1) else last_signal (t - 1) rows q

-- The half bits from a tap that is here to the farthest of these taps that is on its segment, and 0 where none is
-- (profile).
abbrev pub reach_over : PortLine → List PortLine → ℕ
reach_over here [] = 0
reach_over here (x ∷ xs) =
    max (if x.segment == here.segment then distance x.at here.at else 0) (reach_over here xs)

-- Before half bit t this is over: a signal that was last sent then, if there was one, and needs so many half bits.
abbrev pub IsOverBy : ℕ → ℕ → Option ℕ → Type 0
IsOverBy t needs None = Unit {0}
IsOverBy t needs (Some last) = last + needs < t

-- The delay of each port in half bits, the ports of one repeater after those of the one before.
abbrev pub line_delays : List RepeaterDevice → List ℕ
line_delays rs = flat_map (λ r. replicate (length r.guards) r.line.delay) rs

-- The half bit is quiet as far as what is kept tells: no sender is sending, no receiver is deaf or has a reception
-- under way, each repeater is in mode Idle, what each tap last emitted has passed all other taps of its segment, and
-- what was last decided for each port was emitted.
pub record IsQuietAsKept (n : Net) : Type 0 where
  pub senders : All (λ s. is_sending s.phase ≡ false) n.senders
  pub receivers : All IsStill n.receivers
  pub repeaters : All (λ r. r.mode ≡ mode.Idle) n.repeaters
  pub cables : (q : ℕ) (d : PortLine) → q < length n.taps →
      IsOverBy n.t (reach_over (slice_index_or n.taps q d) n.taps) (last_signal n.t n.emitted q)
  pub delays : (e : ℕ) → e < length (line_delays n.repeaters) →
      IsOverBy n.t (slice_index (line_delays n.repeaters) e) (last_signal n.t n.decided e)
