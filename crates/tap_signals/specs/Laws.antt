-- What holds of the signals of every network (profile). Half bits count from 0.
use Rattle.std.specs.Prelude.{◌≡◌, ◌≢◌, ℕ, ◌<◌, ◌≤◌, Option, None, Some, List, slice_get}
use Rattle.manchester_line.specs.declared.Sym.TheVariants.{Idle}
use Rattle.layout.specs.declared.ways.Attachment.{Attachment}
use Rattle.layout.specs.Paths.{IsTap}
use Rattle.load_plan.specs.declared.plan.Plan.{Plan}
use Rattle.network.specs.Attempts.{tap_number}
use Rattle.network.specs.Times.{emitted}
use Rattle.tap_signals.specs.Kinds.{kind_emitted}
use Rattle.tap_signals.specs.Stretches.{AreStretches}
use Rattle.tap_signals.specs.declared.kind.SignalKind.{SignalKind}
use Rattle.tap_signals.specs.declared.stretch.Stretch.{Stretch}

-- A tap that emits no signal of any kind in a half bit emits Idle in it.
abbrev pub RestIsIdle : Type 0
RestIsIdle =
    (plan : Plan) (tap : Attachment) (t : ℕ) → IsTap plan.layout tap → kind_emitted plan tap t ≡ None
    → emitted plan (tap_number plan.layout tap) t ≡ Idle

-- Two stretches of a tap don't overlap, and the earlier one in the list is the earlier one in time. Where the later one
-- begins at once they are of different kinds.
abbrev pub StretchesAreApart : Type 0
StretchesAreApart =
    (f : ℕ → Option SignalKind) (from to : ℕ) (stretches : List Stretch) → AreStretches f from to stretches
    → (i j : ℕ) (s x : Stretch) → slice_get stretches i ≡ Some s → slice_get stretches j ≡ Some x → i < j
    → (s.end ≤ x.start) × (s.end ≡ x.start → s.kind ≢ x.kind)

-- There is only one list of the stretches of a tap in some half bits.
abbrev pub StretchesAreDetermined : Type 0
StretchesAreDetermined =
    (f : ℕ → Option SignalKind) (from to : ℕ) (xs ys : List Stretch)
    → AreStretches f from to xs → AreStretches f from to ys → xs ≡ ys
