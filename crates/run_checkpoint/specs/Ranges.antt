-- What the numbers of a state keep, as tests (profile). Half bits, places and devices count from 0, frames, attempts
-- and ports from 1.
use Rattle.std.specs.Prelude.{ℕ, ◌+◌, ◌-◌, ◌==◌, ◌&&◌, ◌||◌, not, nat_le, nat_lt, Bool, true, false, List, [], ◌∷◌, length, slice_get, Option, None, Some, count_by}
use Rattle.collision_log.specs.declared.row.Body.{Body}
use Rattle.collision_log.specs.declared.row.Body.TheVariants.{Sent, Collided, GivenUp, Cut, Received, Dropped, Clash, Closed, Opened, Halted}
use Rattle.collision_log.specs.declared.row.Row.{Row}
use Rattle.frame_layout.specs.declared.queue.Ready.{Ready}
use Rattle.layout.specs.NameOctets.{is_between}
use Rattle.layout.specs.declared.lines.RepeaterLine.{RepeaterLine}
use Rattle.load_plan.specs.declared.plan.Plan.{Plan}
use Rattle.mac_parameters.specs.Parameters.{attempt_limit, check_sequence, interframe_gap, jabber_rest, least_frame, most_octets, partition_collision, partition_in_a_row, reconnection, most_half_bits, last_backoff, most_draws}
use Rattle.mac_transmit.specs.declared.deference.Defer.{Defer}
use Rattle.mac_transmit.specs.declared.deference.Defer.TheVariants.{Gap}
use Rattle.mac_transmit.specs.declared.phase.Phase.{Phase}
use Rattle.mac_transmit.specs.declared.phase.Phase.TheVariants.{Rest, Waiting, Sending, Backoff}
use Rattle.mac_transmit.specs.declared.state.SenderState.{SenderState}
use Rattle.port_partition.specs.Guard.{Guard}
use Rattle.run_checkpoint.specs.Fields.{beyond_ranges}

-- the greatest number that is drawn
abbrev pub greatest_draw : ℕ
greatest_draw = 1023

-- whether a sender with so many frames, of which it is at this place, may do this
abbrev pub is_phase_in : ℕ → ℕ → Phase → Bool
is_phase_in frames place Rest = true
is_phase_in frames place Waiting = nat_lt place frames
is_phase_in frames place (Sending start hit) = false
is_phase_in frames place (Backoff until) = nat_lt place frames && nat_le until last_backoff

-- whether a sender may wait so: of a gap, 1 to 192 half bits have gone
abbrev pub is_defer_in : Defer → Bool
is_defer_in (Gap k was) = is_between 1 interframe_gap k
is_defer_in _ = true

-- whether a sender with so many frames may have this state
unfoldable pub is_sender_in : ℕ → SenderState → Bool
is_sender_in frames s =
    nat_lt s.place beyond_ranges && nat_le s.place frames && is_phase_in frames s.place s.phase && is_defer_in s.defer
    && is_between 1 attempt_limit s.attempt && nat_le s.drawn most_draws

-- whether a port may have this guard and rest for so many half bits
unfoldable pub is_guard_in : Guard → ℕ → Bool
is_guard_in g rest =
    nat_le g.in_row partition_in_a_row && nat_le g.clash_run partition_collision && nat_le g.clean_run reconnection
    && (not g.mend || g.closed) && nat_lt rest jabber_rest

-- whether a row comes no earlier than the one before it, and where it is of the same half bit, its device comes no
-- earlier
abbrev pub is_in_order : Option Row → Row → Bool
is_in_order None row = true
is_in_order (Some before) row = nat_lt before.t row.t || ((before.t == row.t) && nat_le before.device row.device)

-- the last of these rows, and the one before them where there is none
abbrev pub last_row : Option Row → List Row → Option Row
last_row before [] = before
last_row before (row ∷ rows) = last_row (Some row) rows

-- the frames of a queue, where there is one
abbrev pub frames_in : Option (List Ready) → ℕ
frames_in None = 0
frames_in (Some queue) = length queue

-- the ports of a repeater, where there is one
abbrev pub ports_in : Option RepeaterLine → ℕ
ports_in None = 0
ports_in (Some repeater) = length repeater.ports

-- the place of a sender, where there is one
abbrev pub queue_place : Option SenderState → ℕ
queue_place None = 0
queue_place (Some s) = s.place

-- whether this may happen at a device with so many frames and ports, where frames have at most so many octets
abbrev pub is_body_in : ℕ → ℕ → ℕ → Body → Bool
is_body_in most frames ports (Sent frame start attempt) =
    is_between 1 frames frame && is_between 1 attempt_limit attempt
is_body_in most frames ports (Collided frame start attempt hit drawn) =
    is_between 1 frames frame && is_between 1 attempt_limit attempt && nat_le hit most_half_bits
    && nat_le drawn greatest_draw
is_body_in most frames ports (GivenUp frame start hit) = is_between 1 frames frame && nat_le hit most_half_bits
is_body_in most frames ports (Cut frame start attempt hit) = false
is_body_in most frames ports (Received octets) = is_between least_frame (most + check_sequence) octets
is_body_in most frames ports (Dropped why halves) = nat_le halves most_half_bits
is_body_in most frames ports Clash = true
is_body_in most frames ports (Closed port) = is_between 1 ports port
is_body_in most frames ports (Opened port) = is_between 1 ports port
is_body_in most frames ports (Halted port) = is_between 1 ports port

-- whether a row's numbers may be those of a row of this plan
unfoldable pub is_row_in : Plan → Row → Bool
is_row_in plan row =
    is_body_in (most_octets (plan.layout.format == 2)) (frames_in (slice_get plan.queues row.device))
    (ports_in (slice_get plan.layout.repeaters (row.device - length plan.layout.stations))) row.body

-- the frame whose sending ends with a row, from 1, where one does
abbrev pub ended_frame : Body → Option ℕ
ended_frame (Sent frame start attempt) = Some frame
ended_frame (GivenUp frame start hit) = Some frame
ended_frame _ = None

-- whether something is there
abbrev pub is_there : {A : Type 0} → Option A → Bool
is_there (Some x) = true
is_there None = false

-- whether a row ends a frame of this device
abbrev pub does_end_frame : ℕ → Row → Bool
does_end_frame device row = (row.device == device) && is_there (ended_frame row.body)

-- how many frames of this device these rows end
abbrev pub frames_ended : ℕ → List Row → ℕ
frames_ended device rows = count_by (does_end_frame device) rows

-- whether a frame that ends is the next one after so many, and not past this place
abbrev pub is_next_frame : ℕ → ℕ → Option ℕ → Bool
is_next_frame ended place None = true
is_next_frame ended place (Some frame) = (frame == ended + 1) && nat_le frame place

-- whether a row may follow these rows in a state of this plan before half bit t with these senders
unfoldable pub is_row_after : Plan → ℕ → List SenderState → List Row → Row → Bool
is_row_after plan t senders before row =
    nat_lt row.t t && is_in_order (last_row None before) row && is_row_in plan row
    && is_next_frame
    (frames_ended row.device before) (queue_place (slice_get senders row.device)) (ended_frame row.body)

-- whether these rows end as many frames of each of these senders, of which the first is the k-th, as its place says
abbrev pub do_all_end : ℕ → List SenderState → List Row → Bool
do_all_end k [] rows = true
do_all_end k (s ∷ ss) rows = (frames_ended k rows == s.place) && do_all_end (k + 1) ss rows
