-- How signals reach other stations, and why stations whose attempts overlap both notice it (profile, in the manner of
-- IEEE 802.3, 4.1.2.2 and clause 13). Half bits count from 0, and so do stations; distances are half bits.
use Rattle.std.specs.Prelude.{ℕ, ◌≡◌, ◌≢◌, ◌+◌, ◌*◌, ◌<◌, ◌≤◌, List, [], ◌∷◌}
use Rattle.mac_parameters.specs.Parameters.{slot_time, interframe_gap, bit_512}
use Rattle.manchester_line.specs.declared.Sym.TheVariants.{Idle}
use Rattle.layout.specs.declared.lines.Layout.{Layout}
use Rattle.layout.specs.declared.ways.Attachment.{Attachment}
use Rattle.layout.specs.declared.ways.Attachment.TheVariants.{Station}
use Rattle.layout.specs.declared.ways.Way.{Way}
use Rattle.layout.specs.declared.ways.Way.TheVariants as way
use Rattle.layout.specs.Paths.{Path, IsPath, step_length, length_of}
use Rattle.load_plan.specs.declared.plan.Plan.{Plan}
use Rattle.mac_transmit.specs.Attempts.{Attempt, IsHitBy, IsHitBelow}
use Rattle.network.specs.Attempts.{IsOpen, IsAwake, IsOpenPath, IsAttempt, Overlap, OverlapOpenly, HasFrames}
use Rattle.network.specs.Times.{heard, emitted}
use Rattle.path_checker.specs.declared.verdict.PathVerdict.{PathVerdict}
use Rattle.path_checker.specs.declared.verdict.PathVerdict.TheVariants.{Within, Over, NoPair}

-- For a wave that is at tap a in half bit t and goes on from tap to tap: when it reaches a repeater, the port by which
-- it enters is open and the port by which it leaves does not rest.
abbrev pub IsClear : Plan → Way → Attachment → List Attachment → ℕ → Type 0
IsClear plan w a [] t = Unit {0}
IsClear plan way.Cable a (b ∷ bs) t =
    IsClear plan way.Repeater b bs (t + step_length plan.layout way.Cable a b)
IsClear plan way.Repeater a (b ∷ bs) t =
    IsOpen plan a t × IsAwake plan b t × IsClear plan way.Cable b bs (t + step_length plan.layout way.Repeater a b)

-- Wave: what station a emits in half bit t, another station b hears as many half bits later as the path between them
-- is long, where the wave's way is clear.
abbrev pub WavesArrive : Type 0
WavesArrive =
    (plan : Plan) (a b t : ℕ) (path : Path) → a ≢ b → IsPath plan.layout (Station a) path (Station b)
    → IsClear plan path.begins (Station a) path.taps t
    → emitted plan a t ≢ Idle → heard plan b (t + length_of plan.layout (Station a) path) ≢ Idle

-- Attempts of two different stations that are d half bits apart, where twice d and an interframe gap are less than the
-- slot time; that of station a does not start after that of b, and their path is open from the one start to d half
-- bits after the other.
pub record ArePaired (plan : Plan) (a b d : ℕ) (x y : Attempt) : Type 0 where
  pub frames : HasFrames plan
  pub different : a ≢ b
  pub first : IsAttempt plan a x
  pub second : IsAttempt plan b y
  pub path : Path
  pub leads : IsPath plan.layout (Station a) path (Station b)
  pub long : length_of plan.layout (Station a) path ≡ d
  pub short : 2 * d + interframe_gap < slot_time
  pub in_order : x.start ≤ y.start
  pub clear : IsOpenPath plan x.start (y.start + d) path

-- Early start: where b starts before the wave of a has passed it, b has a hit within d half bits of its start, and a
-- within twice that.
abbrev pub EarlyStart : Type 0
EarlyStart =
    (plan : Plan) (a b d : ℕ) (x y : Attempt) → ArePaired plan a b d x y → y.start ≤ x.start + d
    → IsHitBy y.hit d × IsHitBy x.hit (2 * d)

-- Late start: where b starts later and the attempts overlap, it starts less than an interframe gap after the wave of a
-- came, in the part of its gap in which it does not heed it, and has a hit at once (4.2.3.2.1); a has a hit less than
-- an interframe gap after twice d half bits.
abbrev pub LateStart : Type 0
LateStart =
    (plan : Plan) (a b d : ℕ) (x y : Attempt) → ArePaired plan a b d x y → x.start + d < y.start → Overlap d x y
    → (y.start < x.start + d + interframe_gap) × IsHitBy y.hit 0 × IsHitBelow x.hit (2 * d + interframe_gap)

-- Of any two attempts of different stations that overlap over an open path both have a hit, before the 512th bit of
-- their sendings begins.
abbrev pub CollisionsAreDetected : Plan → Type 0
CollisionsAreDetected plan =
    (a b : ℕ) (x y : Attempt) → OverlapOpenly plan a b x y → IsHitBelow x.hit bit_512 × IsHitBelow y.hit bit_512

-- A plan with the segments, stations and repeaters of a layout, whose queues hold frames.
pub record HasNetworkOf (l : Layout) (plan : Plan) : Type 0 where
  pub segments : plan.layout.segments ≡ l.segments
  pub stations : plan.layout.stations ≡ l.stations
  pub repeaters : plan.layout.repeaters ≡ l.repeaters
  pub frames : HasFrames plan

-- What a verdict promises of the networks of a layout: where the worst round trip is less than the slot time, every
-- collision over an open path is detected in time.
abbrev pub IsKept : Layout → PathVerdict → Type 0
IsKept l (Within worst a b) = (plan : Plan) → HasNetworkOf l plan → CollisionsAreDetected plan
IsKept l (Over worst a b) = Unit {0}
IsKept l NoPair = Unit {0}
