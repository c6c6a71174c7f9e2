-- A run that stopped and then went on leaves what the run that never stopped leaves.
use Rattle.std.proofs.Common.{◌≡◌, ℕ, ◌+◌, ◌≤◌, Bool, true, false, cond, Option, None, Some, Result, Ok, Err, List, take, length, refl, sym, ap, ap₂, subst, ◌∙◌, arith}
use Rattle.std.specs.Prelude.{IfSome, min, nat_lt, option_map, unwrap_or}
use Rattle.std.proofs.lemmas.Bool.{ltb-false}
use Rattle.std.proofs.lemmas.List.{length-take, take_all}
use Rattle.load_plan.specs.declared.plan.Plan.{Plan}
use Rattle.outside.specs.Files.{Files, with_file}
use Rattle.program_texts.specs.Texts.{name_of_state}
use Rattle.program_words.specs.Requests.{Resume, Stop}
use Rattle.quiet_state.proofs.QuietNets.{resumed_captures, resumed_rows}
use Rattle.quiet_state.specs.Quiet.{IsQuiet}
use Rattle.quiet_state.specs.Resumed.{rows_from, state_at}
use Rattle.quiet_state.specs.declared.state.NetState.{NetState}
use Rattle.run_checkpoint.proofs.ResumableTexts.{quiet_states}
use Rattle.run_checkpoint.proofs.StatesJudged.{state_again}
use Rattle.run_checkpoint.specs.Judging.{judged_lines, judged_state, most_state_octets}
use Rattle.run_checkpoint.specs.TextLines.{text_lines}
use Rattle.run_checkpoint.specs.States.{text_of_state}
use Rattle.run_checkpoint.specs.declared.fault.StateFault.{StateFault}
use Rattle.run_checkpoint.specs.declared.fault.StateFault.TheVariants as fault
use Rattle.program_endings.specs.CheckpointFiles.{HasState}
use Rattle.run_endings.specs.Endings.{IsPlanned}
use Rattle.run_endings.specs.Moments.{Moment}
use Rattle.run_endings.specs.Reading.{front_of}
use Rattle.run_endings.specs.Runs.{IsSummaryOver, output_files, run_files}
use Rattle.program_endings.specs.StoppedRuns.{resumed_files}
use Rattle.program_endings.specs.Statuses.{IsResumeDone, IsStopDone}
use Rattle.run_endings.specs.Done.{IsRunDone}
use Rattle.program_endings.specs.StopLaws.{AreStoppedRunsWhole}
use Rattle.run_endings.specs.Writing.{put_all, put_file}
use Rattle.program_endings.proofs.DoneByForm.{done_as}
use Rattle.program_endings.proofs.StopsAreTold.{same_planned}
use Rattle.run_endings.proofs.WrittenByPieces.{file_of-with_file}

-- the text of the state of a quiet half bit is read back, where it isn't too large
judged_back : (plan : Plan) (t : ℕ) → IsQuiet plan t → length (text_of_state plan (state_at plan t)) ≤ most_state_octets → judged_state plan (text_of_state plan (state_at plan t)) ≡ Ok (state_at plan t)
judged_back plan t quiet few = state_again plan (state_at plan t) (text_of_state plan (state_at plan t)) (record { state = quiet_states plan t quiet; text = refl }) few

ok_same : (a b : NetState) → (let r : Result NetState StateFault = Ok a in r) ≡ Ok b → a ≡ b
ok_same a b e = cc

few_of : (large : Bool) (r : Result NetState StateFault) (state : NetState) → cond large (Err fault.TooLarge) r ≡ Ok state → large ≡ false
few_of true r state e = absurd (cc)
few_of false r state e = refl

-- octets that are a state aren't too many
judged_few : (plan : Plan) (octets : List ℕ) (state : NetState) → judged_state plan octets ≡ Ok state → length octets ≤ most_state_octets
unfolding judged_state
judged_few plan octets state judged = ltb-false most_state_octets (length octets) (few_of (nat_lt most_state_octets (length octets)) (judged_lines plan (text_lines octets)) state judged)

some_octets : (a b : List ℕ) → Some a ≡ Some b → a ≡ b
some_octets a b e = ap (λ o. unwrap_or o a) e

-- what is read of a file that was just written
front_written : (name text octets : List ℕ) (files : Files) → front_of most_state_octets name (with_file name text files) ≡ Some octets → take (most_state_octets + 1) text ≡ octets
unfolding front_of
front_written name text octets files read =
    some_octets (take (most_state_octets + 1) text) octets (sym (ap (λ o. option_map (take (most_state_octets + 1)) o) (file_of-with_file name text files)) ∙ read)

-- it is all of it, where it is a state
all_read : (plan : Plan) (text octets : List ℕ) (state : NetState) → take (most_state_octets + 1) text ≡ octets → judged_state plan octets ≡ Ok state → text ≡ octets
all_read plan text octets state front judged =
    let few : length octets ≤ most_state_octets = judged_few plan octets state judged in
    let taken : length octets ≡ min (most_state_octets + 1) (length text) = ap length (sym front) ∙ length-take (most_state_octets + 1) text in
    let short : length text ≤ most_state_octets + 1 = omega (arith, few, taken) in
    sym (take_all (most_state_octets + 1) text short) ∙ front

-- the state that is read is the one that was written
state_read : (name : List ℕ) (files : Files) (plan : Plan) (t : ℕ) (state : NetState) → IsQuiet plan t
    → HasState plan name (Some (with_file name (text_of_state plan (state_at plan t)) files)) state → state ≡ state_at plan t
state_read name files plan t state quiet has =
    let text = text_of_state plan (state_at plan t) in
    let all : text ≡ has.octets = all_read plan text has.octets state (front_written name text has.octets files has.read) has.judged in
    let few : length text ≤ most_state_octets = subst (λ (xs : List ℕ). length xs ≤ most_state_octets) (sym all) (judged_few plan has.octets state has.judged) in
    let judged : judged_state plan text ≡ Ok state = subst (λ (xs : List ℕ). judged_state plan xs ≡ Ok state) (sym all) has.judged in
    ok_same state (state_at plan t) (sym judged ∙ judged_back plan t quiet few)

-- the files of a run that went on from a quiet half bit are those of the whole run
same_files : (prefix : List ℕ) (plan other : Plan) (state : NetState) (t : ℕ) → other ≡ plan → state ≡ state_at plan t → IsQuiet plan t → resumed_files prefix other state ≡ run_files prefix plan
same_files prefix plan other state t one two quiet =
    ap₂ (λ (p : Plan) (s : NetState). resumed_files prefix p s) one two ∙ ap₂ (λ rs cs. output_files prefix plan rs cs) (resumed_rows plan t quiet) (resumed_captures plan t quiet)

same_summary : (plan other : Plan) (state : NetState) (t : ℕ) (text : List ℕ) → other ≡ plan → state ≡ state_at plan t → IsQuiet plan t → IsSummaryOver other (rows_from other state) text → IsSummaryOver plan (rows_from plan (state_at plan t)) text
same_summary plan other state t text one two quiet summed =
    subst (λ (s : NetState). IsSummaryOver plan (rows_from plan s) text) two (subst (λ (p : Plan). IsSummaryOver p (rows_from p state) text) one summed)

-- a run that went on from where it stopped, in a store that holds this
went_on : (layout prefix : List ℕ) (from : ℕ) (files : Files) (plan : Plan) (a b c d : Moment) → IsPlanned layout (Some files) plan → c.held ≡ b.held → IsPlanned layout b.held plan → a.held ≡ Some files
    → IsStopDone layout prefix from a b → IsResumeDone layout prefix c d → IsRunDone layout prefix c d
went_on layout prefix from files plan a b c d planned same still told stop resume =
    let first : stop.plan ≡ plan = same_planned layout files stop.plan plan (subst (λ (o : Option Files). IsPlanned layout o stop.plan) told stop.planned) planned in
    let t : ℕ = stop.t in
    let quiet : IsQuiet plan t = subst (λ (p : Plan). IsQuiet p t) first stop.first.quiet in
    let name : List ℕ = name_of_state prefix in
    let now : Files = with_file name (text_of_state plan (state_at plan t)) files in
    let left : b.held ≡ Some now = stop.file ∙ ap₂ (λ (p : Plan) o. put_file name (text_of_state p (state_at p t)) o) first told in
    let begun : c.held ≡ Some now = same ∙ left in
    let again : resume.plan ≡ plan =
    same_planned layout now resume.plan plan (subst (λ (o : Option Files). IsPlanned layout o resume.plan) begun resume.planned) (subst (λ (o : Option Files). IsPlanned layout o plan) left still) in
    let has : HasState plan name (Some now) resume.state =
    subst (λ (p : Plan). HasState p name (Some now) resume.state) again (subst (λ (o : Option Files). HasState resume.plan name o resume.state) begun resume.read) in
    let state : resume.state ≡ state_at plan t = state_read name files plan t resume.state quiet has in
    record {
      plan = plan;
      planned = subst (λ (o : Option Files). IsPlanned layout o plan) (sym same) still;
      files = resume.files ∙ ap (λ fs. put_all fs c.held) (same_files prefix plan resume.plan resume.state t again state quiet);
      summary = resume.summary;
      summed = subst (λ rs. IsSummaryOver plan rs resume.summary) (resumed_rows plan t quiet) (same_summary plan resume.plan resume.state t resume.summary again state quiet resume.summed);
      written = resume.written;
    }

of_told : (layout : List ℕ) (held : Option Files) (plan : Plan) (X : Type 0) → ((files : Files) → held ≡ Some files → IsPlanned layout (Some files) plan → X) → IfSome held (λ files. IsPlanned layout (Some files) plan → X)
of_told layout None plan X on = tt
of_told layout (Some files) plan X on = on files refl

-- stop, and then resume
pub stopped_runs_are_whole : AreStoppedRunsWhole
stopped_runs_are_whole stop resume layout prefix from a b c d plan is then one two =
    of_told layout a.held plan (c.held ≡ b.held → IsPlanned layout b.held plan → IsRunDone layout prefix c d)
    (λ files told planned same still. went_on layout prefix from files plan a b c d planned same still told (done_as stop (Some (Stop layout prefix from)) a b is one) (done_as resume (Some (Resume layout prefix)) c d then two))
