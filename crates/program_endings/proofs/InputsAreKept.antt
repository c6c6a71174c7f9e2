-- No file that is read is written over.
use Rattle.std.proofs.Common.{◌≡◌, ℕ, Bool, true, false, cond, Option, None, Some, Ok, List, [], ◌∷◌, take, refl, sym, ap, subst, ◌∙◌, inl, inr}
use Rattle.std.specs.Prelude.{IfSome, bytes_eq}
use Rattle.std.proofs.lemmas.Bool.{cases_Bool}
use Rattle.std.proofs.lemmas.Slice.Eq.{bytes_eq-Decides}
use Rattle.collision_log.specs.declared.row.Row.{Row}
use Rattle.layout.specs.declared.lines.Layout.{Layout}
use Rattle.layout.specs.declared.lines.StationLine.{StationLine}
use Rattle.load_plan.specs.declared.plan.Plan.{Plan}
use Rattle.network.specs.Outputs.{captures, rows}
use Rattle.network.specs.declared.outputs.Taken.{Taken}
use Rattle.outside.specs.Files.{Files, file_of, with_file}
use Rattle.outside.specs.declared.file.File.{File}
use Rattle.program_words.specs.Requests.{asked}
use Rattle.quiet_state.specs.Resumed.{captures_from, rows_from}
use Rattle.run_endings.specs.declared.endings.Ending.{Ending}
use Rattle.run_endings.specs.declared.endings.Ending.TheVariants as ending
use Rattle.run_endings.specs.Endings.{IsFiledEnd, IsJudged, IsPlainEnd, IsPlanned, IsUnfiled}
use Rattle.program_endings.specs.Endings.{IsResumeEnd, IsStopEnd}
use Rattle.run_endings.specs.Moments.{Moment}
use Rattle.program_endings.specs.OutputLaws.{AreInputsKept}
use Rattle.program_endings.specs.StoppedRuns.{IsResumedSummary, IsStopLine, resumed_files, state_files}
use Rattle.run_endings.specs.Runs.{IsSummary, capture_files, output_files, run_files}
use Rattle.run_endings.specs.Writing.{IsBrokenAmong, put_all}
use Rattle.run_endings.specs.WrittenNames.{AreNamesFree, RunOf, StateOf, ToWrite, capture_names, first_name_of_input, first_taken_name, is_name_of_input, names_to_write}
use Rattle.program_endings.proofs.EndingsByStatus.{files_end, resume_end, stop_end, frames_end}
use Rattle.run_endings.proofs.OneNetwork.{same_network}
use Rattle.run_endings.proofs.LogAmongFiles.{AreOthers, file_of_other, files_same, put_others}

-- none of these names is this one
abbrev DifferFrom : List ℕ → List (List ℕ) → Type 0
DifferFrom name [] = Unit {0}
DifferFrom name (n ∷ ns) = (bytes_eq n name ≡ false) × DifferFrom name ns

not_taken : (b : Bool) (name : List ℕ) (rest : Option (List ℕ)) → cond b (Some name) rest ≡ None → b ≡ false
not_taken true name rest none = absurd (cc)
not_taken false name rest none = refl

rest_free : (b : Bool) (name : List ℕ) (rest : Option (List ℕ)) → cond b (Some name) rest ≡ None → rest ≡ None
rest_free true name rest none = absurd (cc)
rest_free false name rest none = none

-- names that are none of an input differ from one that is
differ_from : (layout : List ℕ) (network : Layout) (name : List ℕ) (names : List (List ℕ)) → is_name_of_input layout network name ≡ true → first_name_of_input layout network names ≡ None → DifferFrom name names
differ_from layout network name [] is free = tt
differ_from layout network name (n ∷ ns) is free = (
  elim (cases_Bool (bytes_eq n name)) [
    | inl same ↦ (
        let other : is_name_of_input layout network n ≡ false = not_taken (is_name_of_input layout network n) n (first_name_of_input layout network ns) free in
        let this : is_name_of_input layout network n ≡ true = subst (λ (x : List ℕ). is_name_of_input layout network x ≡ true) (sym ((bytes_eq-Decides n name).0 same)) is in
        let both = sym this ∙ other in absurd (cc)
        )
    | inr apart ↦ apart
  ],
  differ_from layout network name ns is (rest_free (is_name_of_input layout network n) n (first_name_of_input layout network ns) free),
)

free_differ : (layout : List ℕ) (outputs : ToWrite) (network : Layout) (name : List ℕ) → is_name_of_input layout network name ≡ true → AreNamesFree layout outputs network → DifferFrom name (names_to_write outputs network)
unfolding first_taken_name
free_differ layout outputs network name is free = differ_from layout network name (names_to_write outputs network) is free

captures_differ : (name prefix : List ℕ) (stations : List StationLine) (taken : List (List Taken)) → DifferFrom name (capture_names prefix stations) → AreOthers name (capture_files prefix stations taken)
captures_differ name prefix [] taken differ = tt
captures_differ name prefix (s ∷ ss) [] differ = tt
captures_differ name prefix (s ∷ ss) (c ∷ cs) differ = (differ.0, captures_differ name prefix ss cs differ.1)

-- no file of a run has the name of an input
run_others : (layout name prefix : List ℕ) (plan : Plan) (all : List Row) (taken : List (List Taken)) → is_name_of_input layout plan.layout name ≡ true → AreNamesFree layout (RunOf prefix) plan.layout
    → AreOthers name (output_files prefix plan all taken)
run_others layout name prefix plan all taken is free =
    let differ = free_differ layout (RunOf prefix) plan.layout name is free in
    (differ.0, (differ.1.0, captures_differ name prefix plan.layout.stations taken differ.1.1))

state_others : (layout name prefix : List ℕ) (plan : Plan) (t : ℕ) → is_name_of_input layout plan.layout name ≡ true → AreNamesFree layout (StateOf prefix) plan.layout → AreOthers name (state_files prefix plan t)
state_others layout name prefix plan t is free = let differ = free_differ layout (StateOf prefix) plan.layout name is free in (differ.0, tt)

-- a file is as it was where others were begun
broken_others : (name : List ℕ) (fs : List File) (files now : Files) (after : Option Files) → AreOthers name fs → after ≡ Some now → IsBrokenAmong fs (Some files) after → file_of name now ≡ file_of name files
broken_others name [] files now after others is broken = absurd broken
broken_others name (f ∷ fs) files now after others is broken =
    elim broken [
      | inl this ↦ elim this [
        | inl same ↦ ap (file_of name) (files_same now files (sym is ∙ same))
        | inr front ↦ ap (file_of name) (files_same now (with_file f.name (take front.0 f.octets) files) (sym is ∙ front.1)) ∙ file_of_other name f.name (take front.0 f.octets) files others.0
      ]
      | inr later ↦ broken_others name fs (with_file f.name f.octets files) now after others.1 is later ∙ file_of_other name f.name f.octets files others.0
    ]

unfiled_others : (name : List ℕ) (fs : List File) (before after : Moment) (files now : Files) (e : Ending) → before.held ≡ Some files → after.held ≡ Some now → AreOthers name fs → IsUnfiled fs before after e → file_of name now ≡ file_of name files
unfiled_others name fs before after files now ending.Done told is others un = absurd un
unfiled_others name fs before after files now ending.Words told is others un = absurd un
unfiled_others name fs before after files now ending.Layout told is others un = absurd un
unfiled_others name fs before after files now ending.Load told is others un = absurd un
unfiled_others name fs before after files now ending.Read told is others un = absurd un
unfiled_others name fs before after files now ending.Write told is others un = broken_others name fs files now after.held others is (subst (λ h. IsBrokenAmong fs h after.held) told un.0)
unfiled_others name fs before after files now ending.Memory told is others un = broken_others name fs files now after.held others is (subst (λ h. IsBrokenAmong fs h after.held) told un.0)
unfiled_others name fs before after files now ending.Probe told is others un = absurd un
unfiled_others name fs before after files now ending.Log told is others un = absurd un
unfiled_others name fs before after files now ending.Stranger told is others un = absurd un
unfiled_others name fs before after files now ending.Unquiet told is others un = absurd un
unfiled_others name fs before after files now ending.State told is others un = absurd un
unfiled_others name fs before after files now ending.Output told is others un = absurd un

filed_others : (name : List ℕ) (fs : List File) (IsRight : List ℕ → Type 0) (before after : Moment) (files now : Files) (e : Ending) → before.held ≡ Some files → after.held ≡ Some now → AreOthers name fs → IsFiledEnd fs IsRight before after e
    → file_of name now ≡ file_of name files
filed_others name fs IsRight before after files now e told is others filed =
    elim filed [
      | inl all ↦ put_others name fs files now others (ap (put_all fs) (sym told) ∙ sym all.0 ∙ is)
      | inr un ↦ unfiled_others name fs before after files now e told is others un
    ]

-- a file is as it was where all are
kept_all : (name : List ℕ) (before after : Moment) (files now : Files) → before.held ≡ Some files → after.held ≡ Some now → after.held ≡ before.held → file_of name now ≡ file_of name files
kept_all name before after files now told is held = ap (file_of name) (files_same now files (sym is ∙ held ∙ told))

-- this is the name of an input of the network that was planned
of_plan : (layout name : List ℕ) (files : Files) (network : Layout) (held : Option Files) (plan : Plan) → held ≡ Some files → IsJudged layout (Some files) (Ok network) → is_name_of_input layout network name ≡ true → IsPlanned layout held plan
    → is_name_of_input layout plan.layout name ≡ true
of_plan layout name files network held plan told judged is planned =
    let good : IsJudged layout (Some files) (Ok planned.network) = subst (λ h. IsJudged layout h (Ok planned.network)) told planned.judged in
    let same : network ≡ plan.layout = same_network layout files network planned.network judged good ∙ sym planned.is.layout in
    subst (λ (n : Layout). is_name_of_input layout n name ≡ true) same is

module _ (layout prefix name : List ℕ) (before after : Moment) (files now : Files) (network : Layout) (e : Ending) (told : before.held ≡ Some files) (left : after.held ≡ Some now) (judged : IsJudged layout (Some files) (Ok network)) (is : is_name_of_input layout network name ≡ true) where
  before_kept : (after.held ≡ before.held) → file_of name now ≡ file_of name files
  before_kept held = kept_all name before after files now told left held

  plain_inputs : IsPlainEnd layout prefix before after e → file_of name now ≡ file_of name files
  plain_inputs h =
      elim h [
        | inl none ↦ elim none [ inl early ↦ before_kept early.1 | inr later ↦ elim later [ inl taken ↦ before_kept taken.1 | inr last ↦ elim last [ inl unloaded ↦ before_kept unloaded.1 | inr unrun ↦ before_kept unrun.1 ] ] ]
        | inr run ↦ filed_others name (run_files prefix run.plan) (IsSummary run.plan) before after files now e told left (run_others layout name prefix run.plan (rows run.plan) (captures run.plan) (of_plan layout name files network before.held run.plan told judged is run.planned) run.free) run.filed
      ]

  stop_inputs : (from : ℕ) → IsStopEnd layout prefix from before after e → file_of name now ≡ file_of name files
  stop_inputs from h =
      elim h [
        | inl none ↦ elim none [ inl early ↦ before_kept early.1 | inr later ↦ elim later [ inl taken ↦ before_kept taken.1 | inr last ↦ elim last [ inl unloaded ↦ before_kept unloaded.1 | inr unrun ↦ before_kept unrun.1 ] ] ]
        | inr rest ↦ elim rest [
          | inl un ↦ before_kept un.held
          | inr ran ↦ filed_others name (state_files prefix ran.plan ran.t) (IsStopLine ran.t) before after files now e told left (state_others layout name prefix ran.plan ran.t (of_plan layout name files network before.held ran.plan told judged is ran.planned) ran.free) ran.filed
        ]
      ]

  resume_inputs : IsResumeEnd layout prefix before after e → file_of name now ≡ file_of name files
  resume_inputs h =
      elim h [
        | inl none ↦ elim none [ inl early ↦ before_kept early.1 | inr later ↦ elim later [ inl taken ↦ before_kept taken.1 | inr last ↦ elim last [ inl unloaded ↦ before_kept unloaded.1 | inr unrun ↦ before_kept unrun.1 ] ] ]
        | inr rest ↦ elim rest [
          | inl un ↦ before_kept un.held
          | inr ran ↦ filed_others name (resumed_files prefix ran.plan ran.state) (IsResumedSummary ran.plan ran.state) before after files now e told left
              (run_others layout name prefix ran.plan (rows_from ran.plan ran.state) (captures_from ran.plan ran.state) (of_plan layout name files network before.held ran.plan told judged is ran.planned) ran.free) ran.filed
        ]
      ]

-- in a store that tells its files
kept_told : (held : Option Files) (P : Files → Type 0) → ((files : Files) → held ≡ Some files → P files) → IfSome held P
kept_told None P on = tt
kept_told (Some files) P on = on files refl

pub inputs_are_kept : AreInputsKept
inputs_are_kept words entry exit status answer = (
  λ layout prefix is. kept_told entry.held _ (λ files told now left network judged name input.
      plain_inputs layout prefix name entry exit files now network answer.by told left judged input (files_end (asked words) layout prefix entry exit answer.by is answer.allowed)),
  λ layout prefix from is. kept_told entry.held _ (λ files told now left network judged name input.
      stop_inputs layout prefix name entry exit files now network answer.by told left judged input from (stop_end (asked words) layout prefix from entry exit answer.by is answer.allowed)),
  λ layout prefix is. kept_told entry.held _ (λ files told now left network judged name input.
      resume_inputs layout prefix name entry exit files now network answer.by told left judged input (resume_end (asked words) layout prefix entry exit answer.by is answer.allowed)),
  λ layout log is. kept_told entry.held _ (λ files told now left network judged name input.
      kept_all name entry exit files now told left (frames_end (asked words) layout log entry exit answer.by is answer.allowed).0),
)
