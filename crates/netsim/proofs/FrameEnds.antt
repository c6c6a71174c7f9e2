-- The end of a table of frames, from what was read and what was written.
use Rattle.std.proofs.Common.{◌≡◌, ℕ, Ok, List, ◌∙◌, inl, inr}
use Rattle.layout.specs.declared.lines.Layout.{Layout}
use Rattle.load_plan.specs.declared.plan.Plan.{Plan}
use Rattle.log_meter.specs.declared.line.LogLine.{LogLine}
use Rattle.program_endings.specs.FrameTables.{IsUnplannedEnd}
use Rattle.run_endings.specs.declared.endings.Ending.{Ending}
use Rattle.run_endings.specs.declared.endings.Ending.TheVariants as ending
use Rattle.run_endings.specs.Endings.{HasOnlyRead, IsEarly, IsJudged, IsPlanned, IsUnloadedSaid}
use Rattle.program_endings.specs.Endings.{IsFramesEnd, IsTableEnd, IsUnmetered}
use Rattle.program_endings.specs.Meters.{HasLog}
use Rattle.run_endings.specs.Moments.{Moment}
use Rattle.netsim.proofs.PictureEnds.{log_before, unmetered_before}
use Rattle.run_forms.proofs.RunEnds.{said_before, text_before, unloaded_before}

-- the layout could not be read
pub frames-early : (layout log : List ℕ) (before after : Moment) (e : Ending) → after.held ≡ before.held → IsEarly layout before after e → IsFramesEnd layout log before after e
frames-early layout log before after e held early = (held, inl early)

-- the loads could not be read
pub frames-unqueued : (layout log : List ℕ) (network : Layout) (before mid after : Moment) (e : Ending) → HasOnlyRead before mid → IsJudged layout before.held (Ok network) → after.held ≡ mid.held → IsUnloadedSaid network mid after e
    → IsFramesEnd layout log before after e
frames-unqueued layout log network before mid after e read judged held said =
    (held ∙ read.held, inr (inl (record { network = network; judged = judged; said = unloaded_before network before mid after e read said })))

-- the log could not be read
pub frames-untabled : (layout log : List ℕ) (plan : Plan) (before mid after : Moment) (e : Ending) → HasOnlyRead before mid → IsPlanned layout before.held plan → after.held ≡ mid.held → IsUnmetered log mid after e
    → IsFramesEnd layout log before after e
frames-untabled layout log plan before mid after e read planned held said =
    (held ∙ read.held, inr (inr (inl (record { plan = plan; planned = planned; said = unmetered_before log before mid after e read said }))))

unplanned_before : (plan : Plan) (lines : List LogLine) (before mid after : Moment) (e : Ending) → HasOnlyRead before mid → IsUnplannedEnd plan lines mid after e → IsUnplannedEnd plan lines before after e
unplanned_before plan lines before mid after ending.Stranger read h = (h.0, h.1, said_before _ before mid after read h.2)
unplanned_before plan lines before mid after ending.Memory read h = rw read.written at h
unplanned_before plan lines before mid after _ read h = absurd h

tabled_before : (plan : Plan) (lines : List LogLine) (before mid after : Moment) (e : Ending) → HasOnlyRead before mid → IsTableEnd plan lines mid after e → IsTableEnd plan lines before after e
tabled_before plan lines before mid after e read h =
    elim h [
      | inl lacking ↦ inl (unplanned_before plan lines before mid after e read lacking)
      | inr tabled ↦ inr (record { known = tabled.known; table = tabled.table; right = tabled.right; text = text_before tabled.table before mid after e read.written read.faults tabled.text })
    ]

-- the table was written, or one of the lines names what the plan lacks
pub frames-tabled : (layout log : List ℕ) (plan : Plan) (lines : List LogLine) (before planned-at mid after : Moment) (e : Ending) → HasOnlyRead before planned-at → HasOnlyRead before mid → IsPlanned layout before.held plan
    → HasLog log planned-at.held lines → after.held ≡ mid.held → IsTableEnd plan lines mid after e → IsFramesEnd layout log before after e
frames-tabled layout log plan lines before planned-at mid after e first read planned has held tabled = (
  held ∙ read.held,
  inr (inr (inr (record { plan = plan; planned = planned; lines = lines; read = log_before log before.held planned-at.held lines first.held has; tabled = tabled_before plan lines before mid after e read tabled }))),
)
