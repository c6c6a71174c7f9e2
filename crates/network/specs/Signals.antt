-- How a signal goes on in the network of a plan, and what is known of the attempts there (profile, where no clause is
-- named). Half bits and stations count from 0.
use Rattle.std.specs.Prelude.{ℕ, ◌≡◌, ◌≢◌, ◌+◌, ◌<◌, Contains, List}
use Rattle.capture_file.specs.declared.entries.Record.{Record}
use Rattle.manchester_line.specs.declared.Sym.TheVariants.{Idle}
use Rattle.collision_log.specs.declared.row.Row.{Row}
use Rattle.layout.specs.declared.ways.Attachment.{Attachment}
use Rattle.layout.specs.declared.ways.Way.TheVariants as way
use Rattle.layout.specs.Paths.{IsStep, step_length}
use Rattle.load_plan.specs.Loads.{planned_queues}
use Rattle.load_plan.specs.declared.plan.Plan.{Plan}
use Rattle.mac_transmit.specs.Attempts.{Attempt, IsLawful}
use Rattle.mac_transmit.specs.Sender.{end_event}
use Rattle.network.specs.Attempts.{tap_number, sender_at, IsOpen, IsAwake, IsAttempt, HasFrames}
use Rattle.network.specs.Outputs.{rows, half_bits}
use Rattle.network.specs.Times.{heard, emitted}

-- Where a tap emits a signal, each other tap of its segment hears one as many half bits later as it is away (clause 8,
-- in the profile's half bits).
abbrev pub CablesCarry : Type 0
CablesCarry =
    (plan : Plan) (a b : Attachment) (t : ℕ) → IsStep plan.layout way.Cable a b
    → emitted plan (tap_number plan.layout a) t ≢ Idle
    → heard plan (tap_number plan.layout b) (t + step_length plan.layout way.Cable a b) ≢ Idle

-- Where a port of a repeater that is not partitioned hears a signal, each other port that does not rest then emits one
-- after the repeater's delay in half bits (clause 9).
abbrev pub RepeatersRepeat : Type 0
RepeatersRepeat =
    (plan : Plan) (a b : Attachment) (t : ℕ) → IsStep plan.layout way.Repeater a b
    → IsOpen plan a t → IsAwake plan b t → heard plan (tap_number plan.layout a) t ≢ Idle
    → emitted plan (tap_number plan.layout b) (t + step_length plan.layout way.Repeater a b) ≢ Idle

-- An attempt of a station in a network whose queues hold frames keeps what a sender promises (4.2.8).
abbrev pub StationAttemptsAreLawful : Type 0
StationAttemptsAreLawful =
    (plan : Plan) → HasFrames plan → (k : ℕ) (a : Attempt) → IsAttempt plan k a
    → IsLawful (emitted plan k) (heard plan k) a

-- The row that the end of an attempt of station k leaves.
abbrev pub row_of_attempt : Plan → ℕ → Attempt → Row
row_of_attempt plan k a =
    record { t = a.end; device = k; body = end_event (sender_at plan k a.end) a.start a.hit }

-- An attempt that ends within the run has its row there.
abbrev pub AttemptsAreLogged : Type 0
AttemptsAreLogged =
    (plan : Plan) (k : ℕ) (a : Attempt) → IsAttempt plan k a → a.end < half_bits plan
    → Contains (rows plan) (row_of_attempt plan k a)

-- The queues with which a plan is made of a layout and its loads hold frames.
abbrev pub PlansHoldFrames : Type 0
PlansHoldFrames =
    (plan : Plan) (loads : List (List Record)) → plan.queues ≡ planned_queues plan.layout loads → HasFrames plan
