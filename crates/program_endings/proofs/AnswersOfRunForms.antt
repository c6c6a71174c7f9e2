-- What the smaller program answers is an answer of the whole one.
use Rattle.std.proofs.Common.{ℕ, Option, None, Some, List}
use Rattle.program_endings.specs.Answers.{IsEndOf}
use Rattle.program_endings.specs.StatusLaws.{AreSmallerAnswers}
use Rattle.program_words.specs.Requests.{Asked, asked, Check, Slack, Plain, Run, Stop, Resume, Demo, Probe, Meter, Picture, Frames, Help, Version}
use Rattle.run_endings.specs.Answers.{IsRunFormEnd}
use Rattle.run_endings.specs.Moments.{Moment}
use Rattle.run_endings.specs.declared.endings.Ending.{Ending}

allowed : (o : Option Asked) (entry exit : Moment) (e : Ending) → IsRunFormEnd o entry exit e → IsEndOf o entry exit e
allowed None entry exit e h = h
allowed (Some Help) entry exit e h = h
allowed (Some Version) entry exit e h = h
allowed (Some (Check layout)) entry exit e h = h
allowed (Some (Slack layout)) entry exit e h = absurd h
allowed (Some (Plain layout prefix)) entry exit e h = h
allowed (Some (Run layout prefix workers)) entry exit e h = absurd h
allowed (Some (Stop layout prefix from)) entry exit e h = absurd h
allowed (Some (Resume layout prefix)) entry exit e h = absurd h
allowed (Some (Demo number workers)) entry exit e h = absurd h
allowed (Some (Probe told layout from to taps)) entry exit e h = absurd h
allowed (Some (Meter log)) entry exit e h = absurd h
allowed (Some (Picture layout log from to)) entry exit e h = absurd h
allowed (Some (Frames layout log)) entry exit e h = absurd h

pub smaller_answers : AreSmallerAnswers
smaller_answers words entry exit status answer =
    record { by = answer.by; is = answer.is; allowed = allowed (asked words) entry exit answer.by answer.allowed }
