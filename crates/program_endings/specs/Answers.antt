-- How a call ends by its words, and the status that it answers (profile).
use Rattle.std.specs.Prelude.{◌≡◌, ℕ, List, Option, None, Some}
use Rattle.run_endings.specs.Moments.{Moment}
use Rattle.program_words.specs.Requests.{Asked, asked, Check, Slack, Plain, Run, Stop, Resume, Demo, Probe, Meter, Picture, Frames, Help, Version}
use Rattle.program_texts.specs.Texts.{line_of_words_fault}
use Rattle.run_endings.specs.declared.endings.Ending.{Ending}
use Rattle.run_endings.specs.declared.endings.Ending.TheVariants as ending
use Rattle.program_texts.specs.declared.texts.TheConstants.{HELP, VERSION}
use Rattle.run_endings.specs.Endings.{Says, IsPlainEnd, IsCheckEnd, IsTextEnd}
use Rattle.program_endings.specs.Endings.{IsDemoEnd, IsStopEnd, IsResumeEnd, IsSlackEnd, IsMeterEnd, IsPictureEnd, IsFramesEnd}
use Rattle.program_endings.specs.ProbeEnds.{IsProbeEnd}
use Rattle.run_endings.specs.Answers.{status_of}

-- the end of words that ask for this; the words are none of the forms where they ask for nothing
abbrev pub IsEndOf : Option Asked → Moment → Moment → Ending → Type 0
IsEndOf None before after e = (e ≡ ending.Words) × (after.held ≡ before.held) × Says line_of_words_fault before after
IsEndOf (Some (Check layout)) before after e = IsCheckEnd layout before after e
IsEndOf (Some (Slack layout)) before after e = IsSlackEnd layout before after e
IsEndOf (Some (Plain layout prefix)) before after e = IsPlainEnd layout prefix before after e
IsEndOf (Some (Run layout prefix workers)) before after e = IsPlainEnd layout prefix before after e
IsEndOf (Some (Stop layout prefix from)) before after e = IsStopEnd layout prefix from before after e
IsEndOf (Some (Resume layout prefix)) before after e = IsResumeEnd layout prefix before after e
IsEndOf (Some (Demo number workers)) before after e = IsDemoEnd number before after e
IsEndOf (Some (Probe told layout from to words)) before after e = IsProbeEnd told layout from to words before after e
IsEndOf (Some (Meter log)) before after e = IsMeterEnd log before after e
IsEndOf (Some (Picture layout log from to)) before after e = IsPictureEnd layout log from to before after e
IsEndOf (Some (Frames layout log)) before after e = IsFramesEnd layout log before after e
IsEndOf (Some Help) before after e = IsTextEnd HELP.now before after e
IsEndOf (Some Version) before after e = IsTextEnd VERSION.now before after e

-- the end of a call with these words
abbrev pub IsEnd : List (List ℕ) → Moment → Moment → Ending → Type 0
IsEnd words before after e = IsEndOf (asked words) before after e

-- the status is that of an ending which these words allow between entry and exit
pub record IsAnswer (words : List (List ℕ)) (entry exit : Moment) (status : ℕ) : Type 0 where
  pub by : Ending
  pub is : status ≡ status_of by
  pub allowed : IsEnd words entry exit by
