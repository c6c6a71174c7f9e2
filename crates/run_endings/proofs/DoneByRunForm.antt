-- What status 0 says of check and plain.
use Rattle.std.proofs.Common.{◌≡◌, ℕ, Option, None, Some, List, sym, ap, subst, ◌∙◌, inl, inr}
use Rattle.program_texts.specs.Verdicts.{IsVerdictLine}
use Rattle.program_words.specs.Requests.{Asked, asked, Check, Slack, Plain, Run, Stop, Resume, Demo, Probe, Meter, Picture, Frames, Help, Version}
use Rattle.run_endings.specs.declared.endings.Ending.{Ending}
use Rattle.run_endings.specs.declared.endings.Ending.TheVariants as ending
use Rattle.run_endings.specs.Answers.{IsRunFormAnswer, IsRunFormEnd, status_of}
use Rattle.run_endings.specs.Done.{AskForFiles, IfFiles, IsRunDone, IsRunFormDone}
use Rattle.run_endings.specs.LoggedCollisions.{AreCollisionsLogged}
use Rattle.run_endings.specs.Moments.{Moment}
use Rattle.run_endings.proofs.CollisionsInTheLog.{collisions_are_logged}
use Rattle.run_endings.proofs.DoneRuns.{run_done, telling_done}
use Rattle.run_endings.proofs.WaysOfEnding.{at_status, ending_at}

done_words : ending.Done ≡ ending.Words → ⊥
done_words e = cc

done_of : (o : Option Asked) (entry exit : Moment) → IsRunFormEnd o entry exit ending.Done → IsRunFormDone o entry exit
done_of None entry exit h = absurd (done_words h.0)
done_of (Some Help) entry exit h = record { written = h.0; held = h.1 }
done_of (Some Version) entry exit h = record { written = h.0; held = h.1 }
done_of (Some (Check layout)) entry exit h = telling_done IsVerdictLine layout entry exit h
done_of (Some (Slack layout)) entry exit h = absurd h
done_of (Some (Plain layout prefix)) entry exit h = run_done layout prefix entry exit h
done_of (Some (Run layout prefix workers)) entry exit h = absurd h
done_of (Some (Stop layout prefix from)) entry exit h = absurd h
done_of (Some (Resume layout prefix)) entry exit h = absurd h
done_of (Some (Demo number workers)) entry exit h = absurd h
done_of (Some (Probe told layout from to taps)) entry exit h = absurd h
done_of (Some (Meter log)) entry exit h = absurd h
done_of (Some (Picture layout log from to)) entry exit h = absurd h
done_of (Some (Frames layout log)) entry exit h = absurd h

-- the ending of status 0
by_done : (e : Ending) → status_of e ≡ 0 → e ≡ ending.Done
by_done e zero = sym (at_status e) ∙ ap ending_at zero

-- status 0
pub done : (words : List (List ℕ)) (entry exit : Moment) (status : ℕ) → IsRunFormAnswer words entry exit status → status ≡ 0 → IsRunFormDone (asked words) entry exit
done words entry exit status answer zero =
    done_of (asked words) entry exit (subst (λ e. IsRunFormEnd (asked words) entry exit e) (by_done answer.by (sym answer.is ∙ zero)) answer.allowed)

files_done : (o : Option Asked) (layout prefix : List ℕ) (entry exit : Moment) → AskForFiles o layout prefix → IsRunFormDone o entry exit → IsRunDone layout prefix entry exit
files_done o layout prefix entry exit is h =
    elim is [ inl plain ↦ subst (λ a. IsRunFormDone a entry exit) plain h | inr run ↦ absurd (subst (λ a. IsRunFormDone a entry exit) run.1 h) ]

-- status 0 of a run
pub detected : (words : List (List ℕ)) (entry exit : Moment) (status : ℕ) → IsRunFormAnswer words entry exit status → status ≡ 0 → IfFiles (asked words) (λ layout prefix. AreCollisionsLogged layout prefix entry exit)
detected words entry exit status answer zero layout prefix is =
    collisions_are_logged layout prefix entry exit (files_done (asked words) layout prefix entry exit is (done words entry exit status answer zero))
