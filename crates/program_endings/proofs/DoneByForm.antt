-- What status 0 says: what the words ask for is done.
use Rattle.std.proofs.Common.{◌≡◌, ℕ, Option, None, Some, List, refl, subst}
use Rattle.run_endings.specs.declared.endings.Ending.TheVariants as ending
use Rattle.program_endings.specs.Answers.{IsAnswer, IsEndOf}
use Rattle.run_endings.specs.Moments.{Moment}
use Rattle.program_endings.specs.Statuses.{IsDone}
use Rattle.report_texts.specs.SlackTexts.{IsSlackText}
use Rattle.program_texts.specs.Verdicts.{IsVerdictLine}
use Rattle.program_words.specs.Requests.{Asked, asked, Check, Slack, Plain, Run, Stop, Resume, Demo, Probe, Meter, Picture, Frames, Help, Version}
use Rattle.program_endings.proofs.EndingsByStatus.{end_at}
use Rattle.program_endings.proofs.FilesAfterRuns.{demo_done}
use Rattle.run_endings.proofs.DoneRuns.{run_done, telling_done}
use Rattle.program_endings.proofs.FramesAreTold.{table_done}
use Rattle.program_endings.proofs.MetersAreTold.{meter_done}
use Rattle.program_endings.proofs.PicturesAreTold.{picture_done}
use Rattle.program_endings.proofs.ProbesAreTold.{probe_done}
use Rattle.program_endings.proofs.StopsAreTold.{resume_done, stop_done}

done_words : ending.Done ≡ ending.Words → ⊥
done_words e = cc

done_of : (o : Option Asked) (entry exit : Moment) → IsEndOf o entry exit ending.Done → IsDone o entry exit
done_of None entry exit h = absurd (done_words h.0)
done_of (Some Help) entry exit h = record { written = h.0; held = h.1 }
done_of (Some Version) entry exit h = record { written = h.0; held = h.1 }
done_of (Some (Check layout)) entry exit h = telling_done IsVerdictLine layout entry exit h
done_of (Some (Slack layout)) entry exit h = telling_done IsSlackText layout entry exit h
done_of (Some (Plain layout prefix)) entry exit h = run_done layout prefix entry exit h
done_of (Some (Run layout prefix workers)) entry exit h = run_done layout prefix entry exit h
done_of (Some (Stop layout prefix from)) entry exit h = stop_done layout prefix from entry exit h
done_of (Some (Resume layout prefix)) entry exit h = resume_done layout prefix entry exit h
done_of (Some (Demo number workers)) entry exit h = demo_done number entry exit h
done_of (Some (Probe told layout from to taps)) entry exit h = probe_done told layout from to taps entry exit h
done_of (Some (Meter log)) entry exit h = meter_done log entry exit h
done_of (Some (Picture layout log from to)) entry exit h = picture_done layout log from to entry exit h
done_of (Some (Frames layout log)) entry exit h = table_done layout log entry exit h

-- status 0
pub done : (words : List (List ℕ)) (entry exit : Moment) (status : ℕ) → IsAnswer words entry exit status → status ≡ 0 → IsDone (asked words) entry exit
done words entry exit status answer zero = done_of (asked words) entry exit (end_at words entry exit status 0 answer zero)

-- status 0 of words that ask for this
pub done_as : (words : List (List ℕ)) (o : Option Asked) (entry exit : Moment) → asked words ≡ o → IsAnswer words entry exit 0 → IsDone o entry exit
done_as words o entry exit is answer = subst (λ a. IsDone a entry exit) is (done words entry exit 0 answer refl)
