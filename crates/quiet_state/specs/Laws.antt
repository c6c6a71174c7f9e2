-- The laws of quiet half bits (profile).
use Rattle.std.specs.Prelude.{ℕ, ◌≡◌, ◌+◌, ◌<◌, ◌≤◌, ◌↔◌, Bool, false, if◌then◌else◌, Some, List, ◌∷◌, slice_index_or}
use Rattle.manchester_line.specs.declared.Sym.{Sym}
use Rattle.manchester_line.specs.declared.Sym.TheVariants.{Idle}
use Rattle.manchester_line.specs.Line.{is_signal}
use Rattle.load_plan.specs.declared.plan.Plan.{Plan}
use Rattle.mac_receive.specs.KeptReceiver.{Hears, KeptReception}
use Rattle.mac_receive.specs.Receiver.{Receiving, receiver_step}
use Rattle.network.specs.Net.{net}
use Rattle.network.specs.Outputs.{half_bits, rows, captures}
use Rattle.quiet_state.specs.LastSignals.{last_signal, IsQuietAsKept}
use Rattle.quiet_state.specs.PlanStates.{IsResumable, HasRowsOf}
use Rattle.quiet_state.specs.Quiet.{IsQuiet, IsStill}
use Rattle.quiet_state.specs.Resumed.{net_state, state_at, net_of, net_from, rows_from, captures_from, rows_to, captures_to}
use Rattle.quiet_state.specs.declared.state.NetState.{NetState}

-- A run that stops in a quiet half bit and goes on from its state has the rows of the whole run.
abbrev pub ResumedRowsAreWhole : Type 0
ResumedRowsAreWhole = (plan : Plan) (t : ℕ) → IsQuiet plan t → rows_from plan (state_at plan t) ≡ rows plan

-- And it has the captures of the whole run.
abbrev pub ResumedCapturesAreWhole : Type 0
ResumedCapturesAreWhole =
    (plan : Plan) (t : ℕ) → IsQuiet plan t → captures_from plan (state_at plan t) ≡ captures plan

-- The network of a plan before each half bit, and at the end of the run, is on its way to the rows and captures of the
-- run.
abbrev pub RunsGoOn : Type 0
RunsGoOn =
    (plan : Plan) (t : ℕ) → t ≤ half_bits plan
    → (rows_to (half_bits plan) (net plan t) ≡ rows plan) × (captures_to (half_bits plan) (net plan t) ≡ captures plan)

-- The first half bit of each plan's run is quiet.
abbrev pub RunsBeginQuiet : Type 0
RunsBeginQuiet = (plan : Plan) → IsQuiet plan 0

-- A half bit of the run is quiet exactly where what is kept tells so.
abbrev pub QuietIsAsKept : Type 0
QuietIsAsKept = (plan : Plan) (t : ℕ) → t < half_bits plan → IsQuiet plan t ↔ IsQuietAsKept (net plan t)

-- Half bit t, in which the taps emit this row, is the last with a signal of a tap that emits one in it, and changes
-- nothing for the others.
abbrev pub LastSignalsGoOn : Type 0
LastSignalsGoOn =
    (t q : ℕ) (row : List Sym) (rows : List (List Sym))
    → last_signal (t + 1) (row ∷ rows) q
    ≡ (if is_signal (slice_index_or row q Idle) then Some t else last_signal t rows q)

-- After a half bit a receiver is neither deaf nor has a reception under way exactly where its station heard Idle in it
-- and did not emit.
abbrev pub StillAfterSilence : Type 0
StillAfterSilence =
    (r : Receiving) (h : Sym) (sending : Bool)
    → IsStill (receiver_step r h sending).state ↔ ((h ≡ Idle) × (sending ≡ false))

-- What is kept of a receiver tells so too.
abbrev pub StillAsKept : Type 0
StillAsKept = (r : Receiving) (k : KeptReception) → Hears r k → IsStill r ↔ ((k.deaf ≡ false) × (k.halves ≡ 0))

-- The network of the plan can go on from the state of a quiet half bit.
abbrev pub QuietStatesAreResumable : Type 0
QuietStatesAreResumable = (plan : Plan) (t : ℕ) → IsQuiet plan t → IsResumable plan (state_at plan t)

-- Each half bit of the run, quiet or not, and its end have the rows and captures that a state tells of.
abbrev pub StatesHaveTheirRows : Type 0
StatesHaveTheirRows = (plan : Plan) (t : ℕ) → t ≤ half_bits plan → HasRowsOf plan (state_at plan t)

-- The network that begins from a state of which it can go on has that state, and tells that it is quiet.
abbrev pub StatesAreKept : Type 0
StatesAreKept =
    (plan : Plan) (s : NetState) → IsResumable plan s
    → (net_state (net_of plan s) ≡ s) × IsQuietAsKept (net_of plan s)

-- So many half bits after a quiet half bit t from whose state it went on, a network has the state that the network of
-- the plan has then.
abbrev pub ResumedStatesAreTheSame : Type 0
ResumedStatesAreTheSame =
    (plan : Plan) (t k : ℕ) → IsQuiet plan t → net_state (net_from plan (state_at plan t) k) ≡ state_at plan (t + k)

-- And it tells exactly whether that half bit of the run is quiet.
abbrev pub ResumedQuietIsTheSame : Type 0
ResumedQuietIsTheSame =
    (plan : Plan) (t k : ℕ) → IsQuiet plan t → t + k < half_bits plan
    → IsQuiet plan (t + k) ↔ IsQuietAsKept (net_from plan (state_at plan t) k)
