-- The log that a run leaves tells of its collisions.
use Rattle.std.proofs.Common.{◌≡◌, ℕ, List, ◌++◌, Option, None, Some, Ok, sym, ap, subst, ◌∙◌, append_assoc, arith}
use Rattle.std.specs.Prelude.{IfSome, codes}
use Rattle.std.proofs.lemmas.List.{append_cancel_left}
use Rattle.layout.specs.declared.lines.Layout.{Layout}
use Rattle.load_plan.specs.declared.plan.Plan.{Plan}
use Rattle.outside.specs.Files.{Files}
use Rattle.path_checker.specs.Verdicts.{IsVerdict}
use Rattle.path_checker.specs.declared.verdict.PathVerdict.{PathVerdict}
use Rattle.path_checker.specs.declared.verdict.PathVerdict.TheVariants.{Within, Over, NoPair}
use Rattle.run_texts.specs.Texts.{totals_of_rows}
use Rattle.network.specs.Outputs.{rows}
use Rattle.run_endings.specs.Endings.{IsJudged}
use Rattle.run_endings.specs.LoggedCollisions.{AreCollisionsLogged, AreLogged, IsLogHeld, IsWithin, IsWithinSaid}
use Rattle.run_endings.specs.Done.{IsRunDone}
use Rattle.run_endings.specs.Moments.{Moment}
use Rattle.run_endings.specs.Runs.{IsPlanOf, IsSummary, log, run_files}
use Rattle.program_texts.specs.Verdicts.{line_of_verdict}
use Rattle.run_endings.specs.Writing.{added, put_all}
use Rattle.run_endings.proofs.DetectedInTheLog.{are_detected, are_logged}
use Rattle.run_endings.proofs.OneNetwork.{same_network}
use Rattle.run_endings.proofs.LinesOfRows.{head}
use Rattle.run_endings.proofs.LogAmongFiles.{log_held, put_none, some_same}
use Rattle.run_endings.proofs.OnePlan.{one_plan}

-- a verdict's line begins with its word
verdict_within : (layout : Layout) (v : PathVerdict) (totals rest : List ℕ) → IsVerdict layout v → line_of_verdict layout v ++ totals ≡ codes "within " ++ rest → IsWithin layout
verdict_within layout (Within worst a b) totals rest right same = (worst, a, b, right)
verdict_within layout (Over worst a b) totals rest right same = absurd (omega (arith, ap head same))
verdict_within layout NoPair totals rest right same = absurd (omega (arith, ap head same))

-- what was said of the verdict is true
within_said : (plan : Plan) (written now : Option (List ℕ)) (summary : List ℕ) → IsSummary plan summary → now ≡ added summary written → IsWithinSaid plan.layout written now → IsWithin plan.layout
within_said plan None now summary summed text said = said
within_said plan (Some w) now summary summed text said =
    let both : Some (w ++ summary) ≡ Some (w ++ (codes "within " ++ said.0)) = sym text ∙ said.1 ∙ ap Some (append_assoc w (codes "within ") said.0) in
    let same : summary ≡ codes "within " ++ said.0 = append_cancel_left w summary (codes "within " ++ said.0) (some_same (w ++ summary) (w ++ (codes "within " ++ said.0)) both) in
    verdict_within plan.layout summed.verdict (totals_of_rows plan (rows plan)) said.0 summed.right (sym summed.is ∙ same)

-- the log as the store holds it, by the network and the plan of what it held before
log_told : (layout prefix : List ℕ) (held now : Option Files) (written after : Option (List ℕ)) (network other : Layout) (plan ran : Plan) (summary : List ℕ)
    → IsJudged layout held (Ok network) → IsJudged layout held (Ok other) → IsPlanOf held network plan → IsPlanOf held other ran
    → now ≡ put_all (run_files prefix ran) held → IsSummary ran summary → after ≡ added summary written → IsWithinSaid network written after → IfSome now (λ files. IsLogHeld prefix plan files)
log_told layout prefix held None written after network other plan ran summary one two planned run put summed text said = tt
log_told layout prefix None (Some files) written after network other plan ran summary one two planned run put summed text said = absurd (put_none (run_files prefix ran) files (sym put))
log_told layout prefix (Some old) (Some files) written after network other plan ran summary one two planned run put summed text said =
    let net : other ≡ network = same_network layout old other network two one in
    let again : IsPlanOf (Some old) network ran = subst (λ n. IsPlanOf (Some old) n ran) net run in
    let same : ran ≡ plan = one_plan old network ran plan again planned in
    let here : IsWithinSaid ran.layout written after = subst (λ n. IsWithinSaid n written after) (sym again.layout) said in
    let within : IsWithin network = subst (λ n. IsWithin n) again.layout (within_said ran written after summary summed text here) in
    record { octets = log ran; held = log_held prefix ran old files (sym put); logged = subst (λ p. AreLogged p (log ran)) same (are_logged ran (are_detected (Some old) network within ran again)) }

-- a run that is done
pub collisions_are_logged : (layout prefix : List ℕ) (entry exit : Moment) → IsRunDone layout prefix entry exit → AreCollisionsLogged layout prefix entry exit
collisions_are_logged layout prefix entry exit run network judged said plan planned =
    log_told layout prefix entry.held exit.held entry.written exit.written network run.planned.network plan run.plan run.summary judged run.planned.judged planned run.planned.is run.files run.summed run.written said
