-- What a state of a plan keeps: what it takes to go on from it, and what its rows and captures tell (profile, where no
-- clause is named). Half bits, stations, devices and places count from 0, frames, attempts and ports from 1.
use Rattle.std.specs.Prelude.{ℕ, ◌≡◌, ◌+◌, ◌<◌, ◌≤◌, ◌^◌, ◌⊎◌, ◌==◌, All, List, [], ◌∷◌, map, filter, flat_map, length, slice_get, slice_index_or, Some}
use Rattle.std.specs.List.{range_with_len}
use Rattle.mac_parameters.specs.Parameters.{attempt_limit, backoff_limit, check_sequence, jabber_rest, least_frame, most_octets, most_half_bits}
use Rattle.frame_layout.specs.declared.queue.Ready.{Ready}
use Rattle.collision_log.specs.declared.row.Body.{Body}
use Rattle.collision_log.specs.declared.row.Body.TheVariants.{Sent, Collided, GivenUp, Received, Dropped, Clash, Closed, Opened, Halted}
use Rattle.collision_log.specs.declared.row.Row.{Row}
use Rattle.collision_log.specs.Merged.{IsLogOrder}
use Rattle.layout.specs.declared.lines.RepeaterLine.{RepeaterLine}
use Rattle.load_plan.specs.declared.plan.Plan.{Plan}
use Rattle.mac_transmit.specs.Resuming.{IsStateOf}
use Rattle.mac_transmit.specs.declared.state.SenderState.{SenderState}
use Rattle.port_partition.specs.Guard.{IsGuard}
use Rattle.network.specs.Outputs.{half_bits}
use Rattle.network.specs.Times.{port_delays}
use Rattle.network.specs.declared.outputs.Taken.{Taken}
use Rattle.quiet_state.specs.declared.state.NetState.{NetState}

-- One state for each of these queues, in their order, from which its sender can go on.
abbrev pub AreStatesOf : List (List Ready) → List SenderState → Type 0
AreStatesOf [] [] = Unit {0}
AreStatesOf (q ∷ qs) (s ∷ ss) = IsStateOf q s × AreStatesOf qs ss
AreStatesOf _ _ = ⊥

-- The network of a plan can go on from this state: it is of a half bit of the run, and has the state of a sender and
-- the captures for each station, and a guard and a rest, of which one half bit is over where it begins, for each port.
pub record IsResumable (plan : Plan) (s : NetState) : Type 0 where
  pub within : s.t < half_bits plan
  pub senders : AreStatesOf plan.queues s.senders
  pub guards_many : length s.guards ≡ length (port_delays plan.layout)
  pub guards : All IsGuard s.guards
  pub rests_many : length s.rests ≡ length (port_delays plan.layout)
  pub rests : All (λ rest. rest < jabber_rest) s.rests
  pub captures_many : length s.captures ≡ length plan.layout.stations

-- This is a sending of one of so many frames, at one of the attempts, that began no later than half bit t (4.2.3).
pub record IsSendingOf (frames t frame start attempt : ℕ) : Type 0 where
  pub first : 1 ≤ frame
  pub last : frame ≤ frames
  pub began : start ≤ t
  pub once : 1 ≤ attempt
  pub limit : attempt ≤ attempt_limit

-- What may happen in half bit t to a station that has so many frames, where a frame has at most so many octets before
-- its check sequence: the end of a sending (4.2.3.2), with the hit and the draw of a collision, or of a reception
-- (4.2.4).
abbrev pub HappensToStation : ℕ → ℕ → ℕ → Body → Type 0
HappensToStation frames most t (Sent frame start attempt) = IsSendingOf frames t frame start attempt
HappensToStation frames most t (Collided frame start attempt hit drawn) =
    IsSendingOf frames t frame start attempt × (hit ≤ most_half_bits) × (drawn < 2 ^ backoff_limit)
HappensToStation frames most t (GivenUp frame start hit) =
    IsSendingOf frames t frame start attempt_limit × (hit ≤ most_half_bits)
HappensToStation frames most t (Received octets) = (least_frame ≤ octets) × (octets ≤ most + check_sequence)
HappensToStation frames most t (Dropped why halves) = halves ≤ most_half_bits
HappensToStation frames most t _ = ⊥

-- What may happen to a repeater that has so many ports: a collision, or what a port comes to (clause 9).
abbrev pub HappensToRepeater : ℕ → Body → Type 0
HappensToRepeater ports Clash = Unit {0}
HappensToRepeater ports (Closed port) = (1 ≤ port) × (port ≤ ports)
HappensToRepeater ports (Opened port) = (1 ≤ port) × (port ≤ ports)
HappensToRepeater ports (Halted port) = (1 ≤ port) × (port ≤ ports)
HappensToRepeater ports _ = ⊥

-- A row of one of the plan's stations.
pub record IsStationRow (plan : Plan) (row : Row) : Type 0 where
  pub device : row.device < length plan.layout.stations
  pub happens :
      HappensToStation (length (slice_index_or plan.queues row.device []))
      (most_octets (plan.layout.format == 2)) row.t row.body

-- A row of one of the plan's repeaters, which are the devices after the stations.
pub record IsRepeaterRow (plan : Plan) (row : Row) : Type 0 where
  pub repeater : ℕ
  pub line : RepeaterLine
  pub is_line : slice_get plan.layout.repeaters repeater ≡ Some line
  pub device : row.device ≡ length plan.layout.stations + repeater
  pub happens : HappensToRepeater (length line.ports) row.body

-- A row of one of the plan's devices before half bit t.
abbrev pub IsRowOf : Plan → ℕ → Row → Type 0
IsRowOf plan t row = (row.t < t) × (IsStationRow plan row ⊎ IsRepeaterRow plan row)

-- The rows of device k.
abbrev pub own_rows : ℕ → List Row → List Row
own_rows k rows = filter (λ row. row.device == k) rows

-- The frame whose sending comes to its end with this: the frame was sent, or given up (4.2.3.2.5).
abbrev pub ended_frames : Body → List ℕ
ended_frames (Sent frame start attempt) = frame ∷ []
ended_frames (GivenUp frame start hit) = frame ∷ []
ended_frames _ = []

-- The half bit in which a reception of a frame came to its end, and the frame's number of octets.
abbrev pub received_sizes : ℕ → Body → List (ℕ × ℕ)
received_sizes t (Received octets) = (t, octets) ∷ []
received_sizes t _ = []

-- The same of a capture, which is without the check sequence (3.2.9).
abbrev pub taken_size : Taken → ℕ × ℕ
taken_size x = (x.t, length x.octets + check_sequence)

-- The rows of a state are those of the plan's devices before its half bit, in their order. Each station has sent or
-- given up its frames 1, 2, 3 and so on up to its sender's place, and has captured the frames that its rows say it
-- received.
pub record HasRowsOf (plan : Plan) (s : NetState) : Type 0 where
  pub rows : All (IsRowOf plan s.t) s.rows
  pub order : IsLogOrder s.rows
  pub ended : (k : ℕ) (d : SenderState) → k < length plan.layout.stations →
      flat_map (λ row. ended_frames row.body) (own_rows k s.rows)
      ≡ range_with_len 1 (slice_index_or s.senders k d).place
  pub received : (k : ℕ) → k < length plan.layout.stations →
      flat_map (λ row. received_sizes row.t row.body) (own_rows k s.rows)
      ≡ map taken_size (slice_index_or s.captures k [])
  pub octets : All (λ taken. All (λ x. All (λ octet. octet < 2 ^ 8) x.octets) taken) s.captures
