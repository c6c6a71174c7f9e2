-- How a call of the forms check and plain ends by its words, and the status that it answers (profile). Words that ask
-- for a fixed text and words of no form go with them.
use Rattle.std.specs.Prelude.{◌≡◌, ℕ, List, Option, None, Some, Result, Ok, Err}
use Rattle.program_texts.specs.Texts.{line_of_words_fault}
use Rattle.program_texts.specs.declared.texts.TheConstants.{HELP, VERSION}
use Rattle.program_words.specs.Requests.{Asked, asked, Check, Slack, Plain, Run, Stop, Resume, Demo, Probe, Meter, Picture, Frames, Help, Version}
use Rattle.run_endings.specs.declared.endings.Ending.{Ending}
use Rattle.run_endings.specs.declared.endings.Ending.TheVariants as ending
use Rattle.run_endings.specs.Endings.{IsCheckEnd, IsPlainEnd, IsTextEnd, Says}
use Rattle.run_endings.specs.Moments.{Moment}

-- how a call ends that came to its end, or to this one
abbrev pub ending_of : Result (Unit {0}) Ending → Ending
ending_of (Ok _) = ending.Done
ending_of (Err e) = e

-- the program's status
abbrev pub status_of : Ending → ℕ
status_of ending.Done = 0
status_of ending.Words = 1
status_of ending.Layout = 2
status_of ending.Load = 3
status_of ending.Read = 4
status_of ending.Write = 5
status_of ending.Memory = 6
status_of ending.Probe = 7
status_of ending.Log = 8
status_of ending.Stranger = 11
status_of ending.Unquiet = 9
status_of ending.State = 10
status_of ending.Output = 12

-- the words are of another form than check and plain
abbrev pub IsOtherForm : Option Asked → Type 0
IsOtherForm None = ⊥
IsOtherForm (Some (Check layout)) = ⊥
IsOtherForm (Some (Slack layout)) = Unit {0}
IsOtherForm (Some (Plain layout prefix)) = ⊥
IsOtherForm (Some (Run layout prefix workers)) = Unit {0}
IsOtherForm (Some (Stop layout prefix from)) = Unit {0}
IsOtherForm (Some (Resume layout prefix)) = Unit {0}
IsOtherForm (Some (Demo number workers)) = Unit {0}
IsOtherForm (Some (Probe told layout from to taps)) = Unit {0}
IsOtherForm (Some (Meter log)) = Unit {0}
IsOtherForm (Some (Picture layout log from to)) = Unit {0}
IsOtherForm (Some (Frames layout log)) = Unit {0}
IsOtherForm (Some Help) = ⊥
IsOtherForm (Some Version) = ⊥

-- the end of words that ask for this, where they aren't of another form
abbrev pub IsRunFormEnd : Option Asked → Moment → Moment → Ending → Type 0
IsRunFormEnd None before after e =
    (e ≡ ending.Words) × (after.held ≡ before.held) × Says line_of_words_fault before after
IsRunFormEnd (Some (Check layout)) before after e = IsCheckEnd layout before after e
IsRunFormEnd (Some (Plain layout prefix)) before after e = IsPlainEnd layout prefix before after e
IsRunFormEnd (Some Help) before after e = IsTextEnd HELP.now before after e
IsRunFormEnd (Some Version) before after e = IsTextEnd VERSION.now before after e
IsRunFormEnd (Some _) before after e = ⊥

-- the status is that of an ending which these words, not of another form, allow between entry and exit
pub record IsRunFormAnswer (words : List (List ℕ)) (entry exit : Moment) (status : ℕ) : Type 0 where
  pub by : Ending
  pub is : status ≡ status_of by
  pub allowed : IsRunFormEnd (asked words) entry exit by
