-- The end of a run, from what was read and what was written.
use Rattle.std.proofs.Common.{◌≡◌, ℕ, ◌≤◌, Option, Ok, List, ◌∙◌, inl, inr, arith}
use Rattle.layout.specs.declared.lines.Layout.{Layout}
use Rattle.load_plan.specs.declared.plan.Plan.{Plan}
use Rattle.outside.specs.Files.{Files, Rose}
use Rattle.outside.specs.declared.file.File.{File}
use Rattle.run_endings.specs.declared.endings.Ending.{Ending}
use Rattle.run_endings.specs.declared.endings.Ending.TheVariants as ending
use Rattle.run_endings.specs.Moments.{Moment}
use Rattle.run_endings.specs.Endings.{IsBeforeRun, IsJudged, IsFiledEnd, IsFileEnd, IsPlainEnd, IsPlanned, HasOnlyFiled, HasOnlyRead, IsRunEnd, IsTakenEnd, IsText, IsTextEnd, IsUnloadedSaid, IsUnfiled}
use Rattle.run_endings.specs.Writing.{put_all, IsBrokenAmong, IsSaid}
use Rattle.collision_log.specs.declared.row.Row.{Row}
use Rattle.network.specs.declared.outputs.Taken.{Taken}
use Rattle.run_endings.specs.Runs.{IsPlanOf, IsSummary, IsSummaryOver, output_files, run_files}
use Rattle.run_endings.specs.WrittenNames.{AreNamesFree, RunOf, ToWrite}

-- a text that was written after nothing but reading or filing
pub text_before : (text : List ℕ) (before mid after : Moment) (e : Ending) → mid.written ≡ before.written → mid.faults ≡ before.faults → IsText text mid after e → IsText text before after e
text_before text before mid after ending.Done silent still told = rw silent at told
text_before text before mid after ending.Write silent still told = rw (silent, still) at told
text_before text before mid after ending.Memory silent still told = rw silent at told
text_before text before mid after _ silent still told = absurd told

-- the files are whole, and the text was written
pub run-filed : (files : List File) (IsRight : List ℕ → Type 0) (before mid after : Moment) (e : Ending) (right text : List ℕ) → HasOnlyFiled before mid → mid.held ≡ put_all files before.held → IsRight right → text ≡ right
    → IsTextEnd text mid after e → IsRunEnd files IsRight before after e
run-filed files IsRight before mid after e right text only held summed is told =
    inr (inl (told.1 ∙ held, (right, summed, text_before right before mid after e only.written only.faults (rw is at told.0))))

unfiled_by : (files : List File) (before after : Moment) (e : Ending) → IsBrokenAmong files before.held after.held → IsFileEnd before after e → after.written ≡ before.written → IsUnfiled files before after e
unfiled_by files before after ending.Write broken end silent = (broken, end, silent)
unfiled_by files before after ending.Memory broken end silent = (broken, silent)
unfiled_by files before after _ broken end silent = absurd end

-- a file could not be written
pub run-unfiled : (files : List File) (IsRight : List ℕ → Type 0) (before after : Moment) (e : Ending) → IsBrokenAmong files before.held after.held → IsFileEnd before after e → HasOnlyFiled before after → IsRunEnd files IsRight before after e
run-unfiled files IsRight before after e broken end only = inr (inr (unfiled_by files before after e broken end only.written))

pub rose-before : (a b c : ℕ) → a ≤ b → Rose b c → Rose a c
rose-before a b c le rose = omega (arith, le, rose)

unfiled_before : (files : List File) (before mid after : Moment) (e : Ending) → HasOnlyRead before mid → IsUnfiled files mid after e → IsUnfiled files before after e
unfiled_before files before mid after ending.Write read un =
    (rw read.held at un.0, rose-before before.writes mid.writes after.writes read.writes un.1, rw read.written at un.2)
unfiled_before files before mid after ending.Memory read un = (rw read.held at un.0, rw read.written at un.1)
unfiled_before files before mid after _ read un = absurd un

pub filed_before : (files : List File) (IsRight : List ℕ → Type 0) (before mid after : Moment) (e : Ending) → HasOnlyRead before mid → IsFiledEnd files IsRight mid after e → IsFiledEnd files IsRight before after e
filed_before files IsRight before mid after e read filed =
    elim filed [
      | inl all ↦ inl (rw read.held at all.0, (all.1.0, all.1.1, text_before all.1.0 before mid after e read.written read.faults all.1.2))
      | inr un ↦ inr (unfiled_before files before mid after e read un)
    ]

-- the run of the plan of a layout that was read with its loads
pub plain-ran : (layout prefix : List ℕ) (plan : Plan) (before mid after : Moment) (e : Ending) → HasOnlyRead before mid → IsPlanned layout before.held plan → AreNamesFree layout (RunOf prefix) plan.layout
    → IsRunEnd (run_files prefix plan) (IsSummary plan) mid after e → IsPlainEnd layout prefix before after e
plain-ran layout prefix plan before mid after e read planned free end =
    elim end [
      | inl unrun ↦ inl (inr (inr (inr (unrun.0, rw read.held at unrun.1, rw read.written at unrun.2))))
      | inr filed ↦ inr (record { plan = plan; planned = planned; free = free; filed = filed_before (run_files prefix plan) (IsSummary plan) before mid after e read filed })
    ]

pub said_before : (line : List ℕ) (before mid after : Moment) → HasOnlyRead before mid → IsSaid line mid.written after.written mid.refused after.refused → IsSaid line before.written after.written before.refused after.refused
said_before line before mid after read said = rw (read.written, read.refused) at said

pub unloaded_before : (network : Layout) (before mid after : Moment) (e : Ending) → HasOnlyRead before mid → IsUnloadedSaid network mid after e → IsUnloadedSaid network before after e
unloaded_before network before mid after ending.Load read said =
    record { station = said.station; fault = said.fault; loaded = rw read.held at said.loaded; name = said.name; named = said.named; said = said_before _ before mid after read said.said }
unloaded_before network before mid after ending.Read read said =
    record {
      station = said.station;
      name = said.name;
      named = said.named;
      unread = elim said.unread [ inl absent ↦ inl (rw read.held at absent) | inr rose ↦ inr (rose-before before.reads mid.reads after.reads read.reads rose) ];
      said = said_before _ before mid after read said.said;
    }
unloaded_before network before mid after ending.Memory read said = rw read.written at said
unloaded_before network before mid after _ read said = absurd said

-- the loads of a layout could not be read
pub plan-unloaded : (layout : List ℕ) (outputs : ToWrite) (network : Layout) (before mid after : Moment) (e : Ending) → HasOnlyRead before mid → IsJudged layout before.held (Ok network) → AreNamesFree layout outputs network → after.held ≡ mid.held
    → IsUnloadedSaid network mid after e → IsBeforeRun layout outputs before after e
plan-unloaded layout outputs network before mid after e read judged free held said =
    inr (inr (inl (record { network = network; judged = judged; free = free; said = unloaded_before network before mid after e read said }, rw read.held at held)))

taken_before : (layout : List ℕ) (outputs : ToWrite) (network : Layout) (before mid after : Moment) (e : Ending) → HasOnlyRead before mid → IsTakenEnd layout outputs network mid after e → IsTakenEnd layout outputs network before after e
taken_before layout outputs network before mid after ending.Output read h = (h.0, h.1, said_before _ before mid after read h.2)
taken_before layout outputs network before mid after ending.Memory read h = rw read.written at h
taken_before layout outputs network before mid after _ read h = absurd h

-- a file to be written has the name of an input
pub plan-taken : (layout : List ℕ) (outputs : ToWrite) (network : Layout) (before mid after : Moment) (e : Ending) → HasOnlyRead before mid → IsJudged layout before.held (Ok network) → after.held ≡ mid.held
    → IsTakenEnd layout outputs network mid after e → IsBeforeRun layout outputs before after e
plan-taken layout outputs network before mid after e read judged held said =
    inr (inl (record { network = network; judged = judged; said = taken_before layout outputs network before mid after e read said }, rw read.held at held))

-- the plan of what is held is that of what was held
pub plan-before : (held mid : Option Files) (network : Layout) (plan : Plan) → mid ≡ held → IsPlanOf mid network plan → IsPlanOf held network plan
plan-before held mid network plan is planned = rw is at planned

-- nothing but reading was done, and then nothing but reading
pub read-twice : (before mid after : Moment) → HasOnlyRead before mid → HasOnlyRead mid after → HasOnlyRead before after
read-twice before mid after one two =
    record {
      held = two.held ∙ one.held;
      reads = omega (arith, one.reads, two.reads);
      writes = omega (arith, one.writes, two.writes);
      written = two.written ∙ one.written;
      faults = two.faults ∙ one.faults;
      refused = two.refused ∙ one.refused;
    }

-- a run that gave these rows and captures left the files of those that they are
pub same-filed : (prefix : List ℕ) (plan : Plan) (rows rest : List Row) (captures more : List (List Taken)) (before after : Moment) (e : Ending) → rows ≡ rest → captures ≡ more
    → IsRunEnd (output_files prefix plan rows captures) (IsSummaryOver plan rows) before after e → IsRunEnd (output_files prefix plan rest more) (IsSummaryOver plan rest) before after e
same-filed prefix plan rows rest captures more before after e one two end = rw (one, two) at end
