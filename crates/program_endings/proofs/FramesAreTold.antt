-- The status of frames is that of its layout, of its loads and of its log, and what it leaves.
use Rattle.std.proofs.Common.{◌≡◌, ◌⊎◌, ℕ, Option, None, Some, List, refl, sym, subst, ◌∙◌, inl, inr}
use Rattle.capture_file.specs.declared.entries.Record.{Record}
use Rattle.frame_table.specs.Unplanned.{first_unplanned}
use Rattle.load_files.specs.Loaded.{Loaded, Whole, Faulty, Absent}
use Rattle.capture_file.specs.declared.fault.CaptureFault.{CaptureFault}
use Rattle.load_plan.specs.declared.plan.Plan.{Plan}
use Rattle.log_meter.specs.declared.fault.LogFault.{LogFault}
use Rattle.log_meter.specs.declared.line.LogLine.{LogLine}
use Rattle.outside.specs.Files.{Files, IsAbsent, Rose}
use Rattle.program_words.specs.Requests.{asked}
use Rattle.run_endings.specs.declared.endings.Ending.{Ending}
use Rattle.run_endings.specs.declared.endings.Ending.TheVariants as ending
use Rattle.run_endings.specs.Answers.{status_of}
use Rattle.program_endings.specs.Endings.{AreTabled, IsFramesEnd, IsTabled, IsUnmetered}
use Rattle.run_endings.specs.Endings.{IsPlanned}
use Rattle.program_endings.specs.FrameLaws.{AreTablesComplete, AreTablesCutShort, AreTablesRefused, DoTabledAbsentLogsDecide, DoTabledLogFaultsDecide, DoTablesKeepFiles, DoUnplannedDecide}
use Rattle.program_endings.specs.FrameTables.{HasUnplanned, IsPlannedLog, IsUnplannedEnd}
use Rattle.program_endings.specs.Meters.{HasLog, HasLogFault, IsFaultyLog}
use Rattle.run_endings.specs.Moments.{Moment}
use Rattle.program_endings.specs.Statuses.{IsDoneOrMemory, IsFaultStatus, IsTableCut, IsTableDone, IsTableText, IsUnreadOrMemory}
use Rattle.program_endings.proofs.EndingsByStatus.{by_frames, end_at, frames_end}
use Rattle.program_endings.proofs.LoadsDecideStatus.{AnyNetwork, IfKnown, Says, early_known, text_whole, unloaded_known}
use Rattle.program_endings.proofs.MetersAreTold.{absent_faulty, absent_unread, log_or_fault}
use Rattle.program_endings.proofs.PicturesAreTold.{same_lines}
use Rattle.program_endings.proofs.StopsAreTold.{IfPlanned, always_planned, same_planned}

-- where the loads are whole this holds of the status
abbrev WholeTells : (ℕ → Type 0) → ℕ → Loaded → Type 0
WholeTells X n l = (loads : List (List Record)) → l ≡ Whole loads → X n

absent_whole : (X : Type 0) (name : List ℕ) (loads : List (List Record)) → Absent name ≡ Whole loads → X
absent_whole X name loads is = absurd (cc)

faulty_whole : (X : Type 0) (station : ℕ) (f : CaptureFault) (loads : List (List Record)) → Faulty station f ≡ Whole loads → X
faulty_whole X station f loads is = absurd (cc)

whole_tells : (X : ℕ → Type 0) (reads risen : ℕ) → X 6 → (Rose reads risen → X 4) → Says (WholeTells X) reads risen
whole_tells X reads risen six four = record {
  memory = λ l loads is. six;
  rose = λ l rose loads is. four rose;
  absent = λ name loads is. absent_whole (X 4) name loads is;
  fault = λ station f loads is. faulty_whole (X 3) station f loads is;
}

-- a plan has whole loads
whole_planned : (X : Type 0) (P : Files → Plan → Type 0) (layout : List ℕ) (held : Option Files) → IfKnown AnyNetwork layout held (λ l. (loads : List (List Record)) → l ≡ Whole loads → X) → IfPlanned layout held P X
whole_planned X P layout None known = tt
whole_planned X P layout (Some files) known = λ has. known (Whole has.1.is.loads) (record { network = has.1.network; judged = has.1.judged; so = tt; is = has.1.is.loaded }) has.1.is.loads refl

unread_planned : (X : Type 0) (P : Files → Plan → Type 0) (layout log : List ℕ) (held : Option Files) (reads risen : ℕ) → ((files : Files) (plan : Plan) → IsAbsent log (Some files) → P files plan → X) → (Rose reads risen → X)
    → IsAbsent log held ⊎ Rose reads risen → IfPlanned layout held P X
unread_planned X P layout log None reads risen absent on unread = tt
unread_planned X P layout log (Some files) reads risen absent on unread = λ has. elim unread [ inl none ↦ absent files has.0 none has.2 | inr rose ↦ on rose ]

faulty_planned : (X : Type 0) (P : Files → Plan → Type 0) (layout log : List ℕ) (held : Option Files) (f : LogFault) → ((files : Files) (plan : Plan) (g : LogFault) → HasLogFault log (Some files) g → P files plan → X)
    → HasLogFault log held f → IfPlanned layout held P X
faulty_planned X P layout log None f fault faulty = tt
faulty_planned X P layout log (Some files) f fault faulty = λ has. fault files has.0 f faulty has.2

-- what is known of a plan and of a log is known of the plan and of the lines that were read
lines_planned : (X : Type 0) (P : Files → Plan → Type 0) (layout log : List ℕ) (held : Option Files) (plan : Plan) (lines : List LogLine) → IsPlanned layout held plan → HasLog log held lines
    → ((files : Files) → HasLog log (Some files) lines → P files plan → X) → IfPlanned layout held P X
lines_planned X P layout log None plan lines planned read on = tt
lines_planned X P layout log (Some files) plan lines planned read on =
    λ has. on files read (subst (λ (p : Plan). P files p) (same_planned layout files has.0 plan has.1 planned) has.2)

module _ (X : ℕ → Type 0) (P : Files → Plan → Type 0) (layout log : List ℕ) (before after : Moment) (six : X 6) (four : Rose before.reads after.reads → X 4) where
  unmetered_known : (e : Ending) → ((files : Files) (plan : Plan) → IsAbsent log (Some files) → P files plan → X 4) → ((files : Files) (plan : Plan) (g : LogFault) → HasLogFault log (Some files) g → P files plan → X 8)
      → IsUnmetered log before after e → IfPlanned layout before.held P (X (status_of e))
  unmetered_known ending.Done absent fault said = absurd said
  unmetered_known ending.Words absent fault said = absurd said
  unmetered_known ending.Layout absent fault said = absurd said
  unmetered_known ending.Load absent fault said = absurd said
  unmetered_known ending.Read absent fault said = unread_planned (X 4) P layout log before.held before.reads after.reads absent four said.0
  unmetered_known ending.Write absent fault said = absurd said
  unmetered_known ending.Memory absent fault said = always_planned layout before.held P (X 6) six
  unmetered_known ending.Probe absent fault said = absurd said
  unmetered_known ending.Log absent fault said = faulty_planned (X 8) P layout log before.held said.0 fault said.1
  unmetered_known ending.Stranger absent fault said = absurd said
  unmetered_known ending.Unquiet absent fault said = absurd said
  unmetered_known ending.State absent fault said = absurd said
  unmetered_known ending.Output absent fault said = absurd said

  unplanned_known : (e : Ending) (plan : Plan) (lines : List LogLine) → IsPlanned layout before.held plan → HasLog log before.held lines
      → ((n : ℕ) → first_unplanned plan lines ≡ Some n → (files : Files) → HasLog log (Some files) lines → P files plan → X 11)
      → IsUnplannedEnd plan lines before after e → IfPlanned layout before.held P (X (status_of e))
  unplanned_known ending.Done plan lines planned read strange said = absurd said
  unplanned_known ending.Words plan lines planned read strange said = absurd said
  unplanned_known ending.Layout plan lines planned read strange said = absurd said
  unplanned_known ending.Load plan lines planned read strange said = absurd said
  unplanned_known ending.Read plan lines planned read strange said = absurd said
  unplanned_known ending.Write plan lines planned read strange said = absurd said
  unplanned_known ending.Memory plan lines planned read strange said = always_planned layout before.held P (X 6) six
  unplanned_known ending.Probe plan lines planned read strange said = absurd said
  unplanned_known ending.Log plan lines planned read strange said = absurd said
  unplanned_known ending.Stranger plan lines planned read strange said = lines_planned (X 11) P layout log before.held plan lines planned read (strange said.0 said.1)
  unplanned_known ending.Unquiet plan lines planned read strange said = absurd said
  unplanned_known ending.State plan lines planned read strange said = absurd said
  unplanned_known ending.Output plan lines planned read strange said = absurd said

  -- what an end of frames says, where it is known what it says of a log that isn't held, of one with a fault, of a line that names what the plan lacks, and of a table
  table_known : (e : Ending) → ((files : Files) (plan : Plan) → IsAbsent log (Some files) → P files plan → X 4) → ((files : Files) (plan : Plan) (g : LogFault) → HasLogFault log (Some files) g → P files plan → X 8)
      → ((plan : Plan) (lines : List LogLine) (n : ℕ) → first_unplanned plan lines ≡ Some n → (files : Files) → HasLog log (Some files) lines → P files plan → X 11)
      → ((plan : Plan) (lines : List LogLine) → AreTabled plan lines before after e → (files : Files) → HasLog log (Some files) lines → P files plan → X (status_of e))
      → IsFramesEnd layout log before after e → IfPlanned layout before.held P (X (status_of e))
  table_known e absent fault strange done h =
      let says : Says (WholeTells X) before.reads after.reads = whole_tells X before.reads after.reads six four in
      by_frames (IfPlanned layout before.held P (X (status_of e))) layout log before after e
      (λ early. whole_planned (X (status_of e)) P layout before.held (early_known AnyNetwork (WholeTells X) layout before after says e early))
      (λ unqueued. whole_planned (X (status_of e)) P layout before.held (unloaded_known AnyNetwork (WholeTells X) layout before after says unqueued.network e unqueued.judged tt unqueued.said))
      (λ untabled. unmetered_known e absent fault untabled.said)
      (λ d unplanned. unplanned_known e d.plan d.lines d.planned d.read (strange d.plan d.lines) unplanned)
      (λ d tabled. lines_planned (X (status_of e)) P layout log before.held d.plan d.lines d.planned d.read (done d.plan d.lines tabled)) h

-- of these lines one names what the plan lacks, or none does
both_ways : (X : Type 0) (plan : Plan) (lines others : List LogLine) (n : ℕ) → lines ≡ others → first_unplanned plan lines ≡ Some n → first_unplanned plan others ≡ None → X
both_ways X plan lines others n same first known =
    let none : first_unplanned plan lines ≡ None = subst (λ (ls : List LogLine). first_unplanned plan ls ≡ None) (sym same) known in
    let both = sym first ∙ none in absurd (cc)

lined_absent : (X : Type 0) (log : List ℕ) (files : Files) (lines : List LogLine) → HasLog log (Some files) lines → IsAbsent log (Some files) → X
lined_absent X log files lines has absent = absurd (absent_unread log (Some files) has.octets absent has.read)

lined_faulty : (X : Type 0) (log : List ℕ) (files : Files) (lines : List LogLine) → HasLog log (Some files) lines → IsFaultyLog log (Some files) → X
lined_faulty X log files lines has faulty = absurd (log_or_fault log files has.octets lines has.read has.few has.log_of faulty)

-- status 11 where a line names what the plan lacks
pub unplanned_decide : DoUnplannedDecide
unplanned_decide words entry exit status answer layout log is =
    let X : ℕ → Type 0 = λ n. IsFaultStatus 11 n entry.reads exit.reads in
    rw answer.is (table_known X (λ files plan. (n : ℕ) × HasUnplanned plan log (Some files) n) layout log entry exit (inr (inl refl)) (λ rose. inr (inr (refl, rose))) answer.by
    (λ files plan absent has. lined_absent (X 4) log files has.1.lines has.1.read absent) (λ files plan g faulty has. lined_faulty (X 8) log files has.1.lines has.1.read (g, faulty))
    (λ plan lines n first files read has. inl refl)
    (λ plan lines tabled files read has. both_ways (X (status_of answer.by)) plan has.1.lines lines has.0 (same_lines log files has.1.lines lines has.1.read read) has.1.first tabled.known)
    (frames_end (asked words) layout log entry exit answer.by is answer.allowed))

-- status 8 where the log has a fault
pub tabled_log_faults_decide : DoTabledLogFaultsDecide
tabled_log_faults_decide words entry exit status answer layout log is =
    let X : ℕ → Type 0 = λ n. IsFaultStatus 8 n entry.reads exit.reads in
    rw answer.is (table_known X (λ files plan. IsFaultyLog log (Some files)) layout log entry exit (inr (inl refl)) (λ rose. inr (inr (refl, rose))) answer.by
    (λ files plan absent has. absurd (absent_faulty log files absent has)) (λ files plan g faulty has. inl refl) (λ plan lines n first files read has. lined_faulty (X 11) log files lines read has)
    (λ plan lines tabled files read has. lined_faulty (X (status_of answer.by)) log files lines read has) (frames_end (asked words) layout log entry exit answer.by is answer.allowed))

-- status 4 where the log isn't held
pub tabled_absent_logs_decide : DoTabledAbsentLogsDecide
tabled_absent_logs_decide words entry exit status answer layout log is =
    rw answer.is (table_known IsUnreadOrMemory (λ files plan. IsAbsent log (Some files)) layout log entry exit (inr refl) (λ rose. inl refl) answer.by
    (λ files plan absent has. inl refl) (λ files plan g faulty has. absurd (absent_faulty log files has (g, faulty))) (λ plan lines n first files read has. lined_absent (IsUnreadOrMemory 11) log files lines read has)
    (λ plan lines tabled files read has. lined_absent (IsUnreadOrMemory (status_of answer.by)) log files lines read has) (frames_end (asked words) layout log entry exit answer.by is answer.allowed))

-- frames that nothing hinders is done
pub tables_are_complete : AreTablesComplete
tables_are_complete words entry exit status answer layout log is =
    let X : ℕ → Type 0 = λ n. ¬ Rose entry.reads exit.reads → ¬ Rose entry.faults exit.faults → IsDoneOrMemory n in
    rw answer.is (table_known X (λ files plan. IsPlannedLog plan log (Some files)) layout log entry exit (λ r f. inr refl) (λ rose r f. absurd (r rose)) answer.by
    (λ files plan absent has. lined_absent (X 4) log files has.lines has.read absent) (λ files plan g faulty has. lined_faulty (X 8) log files has.lines has.read (g, faulty))
    (λ plan lines n first files read has. both_ways (X 11) plan lines has.lines n (same_lines log files lines has.lines read has.read) first has.known)
    (λ plan lines tabled files read has r f. text_whole tabled.table entry exit answer.by tabled.text f) (frames_end (asked words) layout log entry exit answer.by is answer.allowed))

-- the table that was told
text_of : (layout log : List ℕ) (before after : Moment) (e : Ending) (d : IsTabled layout log before after e) (tabled : AreTabled d.plan d.lines before after e)
    → IsTableText layout log before.held tabled.table
text_of layout log before after e d tabled = record { plan = d.plan; planned = d.planned; lines = d.lines; read = d.read; known = tabled.known; is = tabled.right }

-- frames was done
pub table_done : (layout log : List ℕ) (before after : Moment) → IsFramesEnd layout log before after ending.Done → IsTableDone layout log before after
table_done layout log before after h =
    by_frames (IsTableDone layout log before after) layout log before after ending.Done (λ early. absurd early) (λ unqueued. absurd unqueued.said) (λ untabled. absurd untabled.said) (λ d unplanned. absurd unplanned)
    (λ d tabled. record { text = tabled.table; right = text_of layout log before after ending.Done d tabled; written = tabled.text; held = h.0 }) h

pub tables_are_cut_short : AreTablesCutShort
tables_are_cut_short words entry exit status answer five layout log is =
    by_frames (Rose entry.faults exit.faults × IsTableCut layout log entry exit) layout log entry exit ending.Write (λ early. absurd early) (λ unqueued. absurd unqueued.said) (λ untabled. absurd untabled.said) (λ d unplanned. absurd unplanned)
    (λ d tabled. (tabled.text.1, record { text = tabled.table; right = text_of layout log entry exit ending.Write d tabled; cut = tabled.text.0 }))
    (frames_end (asked words) layout log entry exit ending.Write is (end_at words entry exit status 5 answer five))

pub tables_are_refused : AreTablesRefused
tables_are_refused words entry exit status answer six layout log is =
    by_frames ((exit.written ≡ entry.written) ⊎ IsTableCut layout log entry exit) layout log entry exit ending.Memory (λ early. inl early) (λ unqueued. inl unqueued.said) (λ untabled. inl untabled.said) (λ d unplanned. inl unplanned)
    (λ d tabled. inr (record { text = tabled.table; right = text_of layout log entry exit ending.Memory d tabled; cut = tabled.text }))
    (frames_end (asked words) layout log entry exit ending.Memory is (end_at words entry exit status 6 answer six))

pub tables_keep_files : DoTablesKeepFiles
tables_keep_files words entry exit status answer layout log is = (frames_end (asked words) layout log entry exit answer.by is answer.allowed).0
