-- What no log of a run is that has collisions.
use Rattle.std.proofs.Common.{◌≡◌, ℕ, ◌<◌, ◌≤◌, ◌^◌, List, ◌++◌, length, Some, sym, ap, subst, ◌∙◌, length-append, arith}
use Rattle.std.specs.Prelude.{IfSome, codes}
use Rattle.collision_log.specs.Rows.{body_text}
use Rattle.collision_log.specs.declared.row.Body.{Body}
use Rattle.collision_log.specs.declared.row.Body.TheVariants.{Sent, Collided, GivenUp, Cut, Received, Dropped, Clash, Closed, Opened, Halted}
use Rattle.load_plan.specs.declared.plan.Plan.{Plan}
use Rattle.mac_parameters.specs.Parameters.{bit_512}
use Rattle.outside.specs.Files.{Files, file_of}
use Rattle.run_endings.specs.declared.endings.Ending.TheVariants as ending
use Rattle.program_endings.specs.Answers.{IsAnswer}
use Rattle.run_endings.specs.LoggedCollisions.{AreCollisionsLogged, HasLine, IsLogged, IsLogHeld, ShowsHit, log_line}
use Rattle.program_endings.specs.LogLaws.{HasCollision, IsEmptyLogRefused, IsInfixRefused, IsLateHitRefused}
use Rattle.run_endings.specs.Moments.{Moment}
use Rattle.program_words.specs.Requests.{asked}
use Rattle.run_endings.specs.Done.{IfFiles, IsRunDone}
use Rattle.program_texts.specs.Texts.{name_of_log}
use Rattle.program_endings.proofs.EndingsByStatus.{end_at, files_end}
use Rattle.run_endings.proofs.DoneRuns.{run_done}
use Rattle.run_endings.proofs.LinesOfRows.{no_infix, not_given_up, same_body, same_hit}
use Rattle.run_endings.proofs.CollisionsInTheLog.{collisions_are_logged}
use Rattle.run_endings.proofs.LogAmongFiles.{some_same}

-- status 0 of a run
pub collisions_are_told : (words : List (List ℕ)) (entry exit : Moment) (status : ℕ) → IsAnswer words entry exit status → status ≡ 0 → IfFiles (asked words) (λ layout prefix. AreCollisionsLogged layout prefix entry exit)
collisions_are_told words entry exit status answer zero layout prefix is =
    collisions_are_logged layout prefix entry exit (run_done layout prefix entry exit (files_end (asked words) layout prefix entry exit ending.Done is (end_at words entry exit status 0 answer zero)))

-- what is told of the first attempt
told_first : (layout prefix octets : List ℕ) (entry exit : Moment) (plan : Plan) (files : Files) (c : HasCollision layout entry exit plan files) → file_of (name_of_log prefix) files ≡ Some octets
    → AreCollisionsLogged layout prefix entry exit → IsLogged plan octets c.first c.one
told_first layout prefix octets entry exit plan files c is all =
    let there : IsLogHeld prefix plan files = subst (λ h. IfSome h (λ files. IsLogHeld prefix plan files)) c.told (all c.network c.judged c.within plan c.planned) in
    let same : there.octets ≡ octets = some_same there.octets octets (sym there.held ∙ is) in
    subst (λ o. IsLogged plan o c.first c.one) same ((there.logged c.first c.second c.one c.other c.overlap).0 c.ends)

pub empty_log_refused : IsEmptyLogRefused
empty_log_refused layout prefix octets entry exit plan files c empty is all =
    let told : IsLogged plan octets c.first c.one = told_first layout prefix octets entry exit plan files c is all in
    omega (arith, ap length empty, ap length told.line.is, ap length told.line.one.is, length-append (told.line.before ++ log_line plan told.row) told.line.after, length-append told.line.before (log_line plan told.row), length-append told.line.one.text (codes "\n"))

late_body : (frame start attempt hit drawn begun : ℕ) (b : Body) → ShowsHit b begun bit_512 → bit_512 ≤ hit → hit < 2 ^ 64 → body_text (Collided frame start attempt hit drawn) ≡ body_text b → ⊥
late_body frame start attempt hit drawn begun (Collided f s a h d) shows late small same =
    let early : h < bit_512 = shows.1 in
    omega (arith, late, early, same_hit frame start attempt hit drawn f s a h d small (omega (arith, early)) same)
late_body frame start attempt hit drawn begun (GivenUp f s h) shows late small same = not_given_up frame start attempt hit drawn f s h same
late_body frame start attempt hit drawn begun (Sent f s a) shows late small same = shows
late_body frame start attempt hit drawn begun (Cut f s a h) shows late small same = shows
late_body frame start attempt hit drawn begun (Received o) shows late small same = shows
late_body frame start attempt hit drawn begun (Dropped why h) shows late small same = shows
late_body frame start attempt hit drawn begun Clash shows late small same = shows
late_body frame start attempt hit drawn begun (Closed port) shows late small same = shows
late_body frame start attempt hit drawn begun (Opened port) shows late small same = shows
late_body frame start attempt hit drawn begun (Halted port) shows late small same = shows

pub late_hit_refused : IsLateHitRefused
late_hit_refused layout prefix octets entry exit plan files c late is all =
    let told : IsLogged plan octets c.first c.one = told_first layout prefix octets entry exit plan files c is all in
    let same : body_text late.row.body ≡ body_text told.row.body = same_body plan late.row told.row (subst (λ o. HasLine o (log_line plan told.row)) late.line told.line) in
    late_body late.frame late.start late.attempt late.hit late.drawn c.one.start told.row.body told.shows late.late late.small (ap body_text (sym late.body) ∙ same)

pub infix_refused : IsInfixRefused
infix_refused layout prefix octets entry exit plan files c inner is all =
    let told : IsLogged plan octets c.first c.one = told_first layout prefix octets entry exit plan files c is all in
    no_infix plan inner.first inner.row told.row inner.low inner.inner (subst (λ o. HasLine o (log_line plan told.row)) inner.line told.line)
