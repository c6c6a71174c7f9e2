-- Where a part stands in the network of a plan (profile). Half bits, segments, stations, repeaters and edges count
-- from 0.
use Rattle.std.specs.Prelude.{ℕ, ◌+◌, ◌-◌, ◌==◌, ◌||◌, nat_lt, Bool, false, if◌then◌else◌, List, [], ◌∷◌, map, filter, length, slice_index_or}
use Rattle.manchester_line.specs.declared.Sym.{Sym}
use Rattle.manchester_line.specs.declared.Sym.TheVariants.{Idle}
use Rattle.collision_log.specs.declared.row.Row.{Row}
use Rattle.load_plan.specs.declared.plan.Plan.{Plan}
use Rattle.mac_receive.specs.Receiver.{Receiving, new_receiving}
use Rattle.network.specs.declared.outputs.Taken.{Taken}
use Rattle.repeater_core.specs.Step.{RepeaterDevice, new_state}
use Rattle.network.specs.Attempts.{sender_at}
use Rattle.network.specs.Net.{net}
use Rattle.network.specs.Times.{heard, emitted, decided}
use Rattle.net_parts.specs.Machines.{rows_before}
use Rattle.net_parts.specs.SegmentParts.{Wiring, SegmentState}
use Rattle.net_parts.specs.RepeaterParts.{RepeaterState}

-- The receiver of station k before half bit t (profile).
abbrev pub receiver_at : Plan → ℕ → ℕ → Receiving
receiver_at plan k t = slice_index_or (net plan t).receivers k (new_receiving 0 0)

-- What station k captured before half bit t (profile).
abbrev pub captures_at : Plan → ℕ → ℕ → List Taken
captures_at plan k t = slice_index_or (net plan t).captures k []

-- What comes in for edge e in half bit u: what was decided for it L half bits before, and Idle before there is such
-- a half bit (profile).
abbrev pub arrives : Plan → ℕ → ℕ → ℕ → Sym
arrives plan L e u = if nat_lt u L then Idle else decided plan e (u - L)

-- What the port of edge e hears in half bit u (profile).
abbrev pub port_hears : Plan → ℕ → ℕ → Sym
port_hears plan e u = heard plan (length plan.layout.stations + e) u

-- Whether k is one of these (profile).
abbrev pub is_one_of : ℕ → List ℕ → Bool
is_one_of k [] = false
is_one_of k (x ∷ xs) = (k == x) || is_one_of k xs

-- The rows of these devices below half bit t (profile).
abbrev pub rows_of_devices : Plan → List ℕ → ℕ → List Row
rows_of_devices plan devices t = filter (λ row. is_one_of row.device devices) (net plan t).rows

-- A segment that is wired in this way before half bit t, where L is the lookahead (profile).
abbrev pub segment_at : Plan → ℕ → Wiring → ℕ → SegmentState
segment_at plan L w t = record {
  t = t;
  senders = map (λ k. sender_at plan k t) w.stations;
  receivers = map (λ k. receiver_at plan k t) w.stations;
  own = rows_before (λ u. map (λ k. emitted plan k u) w.stations) t;
  arrived = rows_before (λ u. map (λ e. arrives plan L e u) w.edges) t;
  rows = rows_of_devices plan w.stations t;
  captures = map (λ k. captures_at plan k t) w.stations;
}

-- The modes, guards and counts of repeater i before half bit t (clause 9, profile).
abbrev pub repeater_state : Plan → ℕ → ℕ → RepeaterDevice
repeater_state plan i t = slice_index_or (net plan t).repeaters i (new_state 0 0)

-- Repeater i before half bit t, and its rows (profile).
abbrev pub repeater_at : Plan → ℕ → ℕ → RepeaterState
repeater_at plan i t = record {
  t = t;
  repeater = repeater_state plan i t;
  rows = rows_of_devices plan ((length plan.layout.stations + i) ∷ []) t;
}
