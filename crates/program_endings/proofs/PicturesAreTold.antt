-- The status of picture is that of its layout and of its log, and what it leaves.
use Rattle.std.proofs.Common.{◌≡◌, ◌⊎◌, ℕ, Option, None, Some, Ok, Err, List, refl, subst, inl, inr}
use Rattle.std.specs.Prelude.{IfSome}
use Rattle.layout.specs.declared.lines.Layout.{Layout}
use Rattle.layout_file.specs.declared.fault.LayoutFault.{LayoutFault}
use Rattle.log_meter.proofs.LinesApart.{one_judgement}
use Rattle.log_meter.specs.Logs.{IsLogOf}
use Rattle.log_meter.specs.declared.fault.LogFault.{LogFault}
use Rattle.log_meter.specs.declared.line.LogLine.{LogLine}
use Rattle.outside.specs.Files.{Files, IsAbsent, Rose}
use Rattle.program_words.specs.Requests.{Asked, asked, Check, Slack, Plain, Run, Stop, Resume, Demo, Probe, Meter, Picture, Frames, Help, Version}
use Rattle.run_picture.specs.Pictures.{picture_of}
use Rattle.run_picture.specs.Strangers.{first_stranger}
use Rattle.run_endings.specs.declared.endings.Ending.{Ending}
use Rattle.run_endings.specs.declared.endings.Ending.TheVariants as ending
use Rattle.program_endings.specs.Answers.{IsEndOf}
use Rattle.run_endings.specs.Answers.{status_of}
use Rattle.program_endings.specs.Endings.{ArePictured, IsDrawn, IsPictureEnd, IsStrangeEnd, IsUnmetered}
use Rattle.run_endings.specs.Endings.{IsEarly, IsJudged}
use Rattle.program_endings.specs.Meters.{HasLog, HasLogFault, IsFaultyLog}
use Rattle.run_endings.specs.Moments.{Moment}
use Rattle.program_endings.specs.PictureLaws.{ArePicturesComplete, ArePicturesCutShort, ArePicturesRefused, AreStrangersSaid, DoPicturedAbsentLogsDecide, DoPicturedLogFaultsDecide, DoPicturesKeepFiles, DoStrangersDecide}
use Rattle.program_endings.specs.Statuses.{HasStranger, IsDoneOrMemory, IsFaultStatus, IsNetworkWith, IsPictureCut, IsPictureDone, IsPictureText, IsStrangerSaid, IsUnreadOrMemory, IsComparedWith, IsPlannedWith, IsUnplannedSaid}
use Rattle.program_endings.proofs.EndingsByStatus.{by_demo, by_meter, by_picture, by_probe, by_resume, by_stop, end_at, picture_end, by_frames}
use Rattle.run_endings.proofs.WaysOfEnding.{by_way}
use Rattle.program_endings.proofs.LayoutDecidesStatus.{absent_unjudged, good_or_faulty}
use Rattle.run_endings.proofs.OneNetwork.{same_network}
use Rattle.program_endings.proofs.LoadsDecideStatus.{text_whole}
use Rattle.program_endings.proofs.MetersAreTold.{absent_faulty, absent_unread, log_or_fault, same_octets}

-- a log that is held without fault has the same lines whenever it is read
one_log : (octets : List ℕ) (a b : List LogLine) → IsLogOf octets a → IsLogOf octets b → a ≡ b
one_log octets a b one two = let e = one_judgement octets (Ok a) (Ok b) one two in cc

pub same_lines : (log : List ℕ) (files : Files) (a b : List LogLine) → HasLog log (Some files) a → HasLog log (Some files) b → a ≡ b
same_lines log files a b one two =
    one_log one.octets a b one.log_of (subst (λ (xs : List ℕ). IsLogOf xs b) (same_octets log files two.octets one.octets two.read one.read) two.log_of)

-- what a log is: it isn't held, it has a fault, or it has these lines
data Logged : Type 0 where
  Missing : Logged
  Faulty : Logged
  Lines : (lines : List LogLine) → Logged

abbrev IsLogged : List ℕ → Files → Logged → Type 0
IsLogged log files Missing = IsAbsent log (Some files)
IsLogged log files Faulty = IsFaultyLog log (Some files)
IsLogged log files (Lines lines) = HasLog log (Some files) lines

-- X holds of a network that was judged good and of what the log is
abbrev IfLogged : List ℕ → List ℕ → Option Files → (Layout → Logged → Type 0) → Type 0
IfLogged layout log None X = Unit {0}
IfLogged layout log (Some files) X = (network : Layout) (l : Logged) → IsJudged layout (Some files) (Ok network) → IsLogged log files l → X network l

-- what a status says of a network and of a log
record Tells (X : ℕ → Layout → Logged → Type 0) (reads risen : ℕ) : Type 0 where
  memory : (network : Layout) (l : Logged) → X 6 network l
  rose : (network : Layout) (l : Logged) → Rose reads risen → X 4 network l
  missing : (network : Layout) → X 4 network Missing
  fault : (network : Layout) → X 8 network Faulty
  strange : (network : Layout) (lines : List LogLine) (n : ℕ) → first_stranger network lines ≡ Some n → X 11 network (Lines lines)

logged_always : (layout log : List ℕ) (held : Option Files) (X : Layout → Logged → Type 0) → ((network : Layout) (l : Logged) → X network l) → IfLogged layout log held X
logged_always layout log None X all = tt
logged_always layout log (Some files) X all = λ network l judged is. all network l

logged_faulty : (layout log : List ℕ) (held : Option Files) (X : Layout → Logged → Type 0) (f : LayoutFault) → IsJudged layout held (Err f) → IfLogged layout log held X
logged_faulty layout log None X f faulty = tt
logged_faulty layout log (Some files) X f faulty = λ network l judged is. absurd (good_or_faulty layout files network f judged faulty)

logged_unread : (layout log : List ℕ) (held : Option Files) (reads risen : ℕ) (X : Layout → Logged → Type 0) → ((network : Layout) (l : Logged) → Rose reads risen → X network l) → IsAbsent layout held ⊎ Rose reads risen → IfLogged layout log held X
logged_unread layout log None reads risen X on unread = tt
logged_unread layout log (Some files) reads risen X on unread =
    λ network l judged is. elim unread [ inl absent ↦ absurd (absent_unjudged layout (Some files) (Ok network) absent judged) | inr rose ↦ on network l rose ]

at_missing : (X : Logged → Type 0) (log : List ℕ) (files : Files) → IsAbsent log (Some files) → X Missing → (l : Logged) → IsLogged log files l → X l
at_missing X log files absent x Missing is = x
at_missing X log files absent x Faulty is = absurd (absent_faulty log files absent is)
at_missing X log files absent x (Lines lines) is = absurd (absent_unread log (Some files) is.octets absent is.read)

at_faulty : (X : Logged → Type 0) (log : List ℕ) (files : Files) → IsFaultyLog log (Some files) → X Faulty → (l : Logged) → IsLogged log files l → X l
at_faulty X log files faulty x Missing is = absurd (absent_faulty log files is faulty)
at_faulty X log files faulty x Faulty is = x
at_faulty X log files faulty x (Lines lines) is = absurd (log_or_fault log files is.octets lines is.read is.few is.log_of faulty)

at_lines : (X : Logged → Type 0) (log : List ℕ) (files : Files) (lines : List LogLine) → HasLog log (Some files) lines → X (Lines lines) → (l : Logged) → IsLogged log files l → X l
at_lines X log files lines has x Missing is = absurd (absent_unread log (Some files) has.octets is has.read)
at_lines X log files lines has x Faulty is = absurd (log_or_fault log files has.octets lines has.read has.few has.log_of is)
at_lines X log files lines has x (Lines others) is = subst (λ (ls : List LogLine). X (Lines ls)) (same_lines log files lines others has is) x

logged_missing : (layout log : List ℕ) (held : Option Files) (reads risen : ℕ) (X : Layout → Logged → Type 0) → ((network : Layout) → X network Missing) → ((network : Layout) (l : Logged) → Rose reads risen → X network l)
    → IsAbsent log held ⊎ Rose reads risen → IfLogged layout log held X
logged_missing layout log None reads risen X x on unread = tt
logged_missing layout log (Some files) reads risen X x on unread =
    λ network l judged is. elim unread [ inl absent ↦ at_missing (X network) log files absent (x network) l is | inr rose ↦ on network l rose ]

logged_fault : (layout log : List ℕ) (held : Option Files) (f : LogFault) (X : Layout → Logged → Type 0) → ((network : Layout) → X network Faulty) → HasLogFault log held f → IfLogged layout log held X
logged_fault layout log None f X x faulty = tt
logged_fault layout log (Some files) f X x faulty = λ network l judged is. at_faulty (X network) log files (f, faulty) (x network) l is

logged_lines : (layout log : List ℕ) (held : Option Files) (network : Layout) (lines : List LogLine) (X : Layout → Logged → Type 0) → IsJudged layout held (Ok network) → HasLog log held lines → X network (Lines lines) → IfLogged layout log held X
logged_lines layout log None network lines X judged has x = tt
logged_lines layout log (Some files) network lines X judged has x =
    λ n l good is. at_lines (X n) log files lines has (subst (λ (m : Layout). X m (Lines lines)) (same_network layout files network n judged good) x) l is

module _ (X : ℕ → Layout → Logged → Type 0) (layout log : List ℕ) (before after : Moment) (tells : Tells X before.reads after.reads) where
  early_logged : (e : Ending) → IsEarly layout before after e → IfLogged layout log before.held (X (status_of e))
  early_logged ending.Done early = absurd early
  early_logged ending.Words early = absurd early
  early_logged ending.Layout early = logged_faulty layout log before.held (X 2) early.0 early.1
  early_logged ending.Load early = absurd early
  early_logged ending.Read early = logged_unread layout log before.held before.reads after.reads (X 4) tells.rose early.0
  early_logged ending.Write early = absurd early
  early_logged ending.Memory early = logged_always layout log before.held (X 6) tells.memory
  early_logged ending.Probe early = absurd early
  early_logged ending.Log early = absurd early
  early_logged ending.Stranger early = absurd early
  early_logged ending.Unquiet early = absurd early
  early_logged ending.State early = absurd early
  early_logged ending.Output early = absurd early

  unmetered_logged : (e : Ending) → IsUnmetered log before after e → IfLogged layout log before.held (X (status_of e))
  unmetered_logged ending.Done said = absurd said
  unmetered_logged ending.Words said = absurd said
  unmetered_logged ending.Layout said = absurd said
  unmetered_logged ending.Load said = absurd said
  unmetered_logged ending.Read said = logged_missing layout log before.held before.reads after.reads (X 4) tells.missing tells.rose said.0
  unmetered_logged ending.Write said = absurd said
  unmetered_logged ending.Memory said = logged_always layout log before.held (X 6) tells.memory
  unmetered_logged ending.Probe said = absurd said
  unmetered_logged ending.Log said = logged_fault layout log before.held said.0 (X 8) tells.fault said.1
  unmetered_logged ending.Stranger said = absurd said
  unmetered_logged ending.Unquiet said = absurd said
  unmetered_logged ending.State said = absurd said
  unmetered_logged ending.Output said = absurd said

  strange_logged : (network : Layout) (lines : List LogLine) (e : Ending) → IsJudged layout before.held (Ok network) → HasLog log before.held lines
      → IsStrangeEnd network lines before after e → IfLogged layout log before.held (X (status_of e))
  strange_logged network lines ending.Done judged has said = absurd said
  strange_logged network lines ending.Words judged has said = absurd said
  strange_logged network lines ending.Layout judged has said = absurd said
  strange_logged network lines ending.Load judged has said = absurd said
  strange_logged network lines ending.Read judged has said = absurd said
  strange_logged network lines ending.Write judged has said = absurd said
  strange_logged network lines ending.Memory judged has said = logged_always layout log before.held (X 6) tells.memory
  strange_logged network lines ending.Probe judged has said = absurd said
  strange_logged network lines ending.Log judged has said = absurd said
  strange_logged network lines ending.Stranger judged has said = logged_lines layout log before.held network lines (X 11) judged has (tells.strange network lines said.0 said.1)
  strange_logged network lines ending.Unquiet judged has said = absurd said
  strange_logged network lines ending.State judged has said = absurd said
  strange_logged network lines ending.Output judged has said = absurd said

  -- what an end of a picture says, where it is known what it says of one that is drawn
  picture_known : (from to : ℕ) (e : Ending)
      → ((network : Layout) (lines : List LogLine) → ArePictured network lines from to before after e → X (status_of e) network (Lines lines))
      → IsPictureEnd layout log from to before after e → IfLogged layout log before.held (X (status_of e))
  picture_known from to e done h =
      by_picture (IfLogged layout log before.held (X (status_of e))) layout log from to before after e (early_logged e) (λ unlogged. unmetered_logged e unlogged.said)
      (λ drawn strange. strange_logged drawn.network drawn.lines e drawn.judged drawn.read strange)
      (λ drawn pictured. logged_lines layout log before.held drawn.network drawn.lines (X (status_of e)) drawn.judged drawn.read (done drawn.network drawn.lines pictured)) h

-- a line that names what the layout lacks has its status
abbrev StrangerTells : ℕ → ℕ → ℕ → Layout → Logged → Type 0
StrangerTells reads risen k network l = (lines : List LogLine) (n : ℕ) → l ≡ Lines lines → first_stranger network lines ≡ Some n → IsFaultStatus 11 k reads risen

missing_lines : (X : Type 0) (lines : List LogLine) → Missing ≡ Lines lines → X
missing_lines X lines is = absurd (cc)

faulty_lines : (X : Type 0) (lines : List LogLine) → Faulty ≡ Lines lines → X
faulty_lines X lines is = absurd (cc)

known_stranger : (X : Type 0) (network : Layout) (lines others : List LogLine) (n : ℕ) → Lines lines ≡ Lines others → first_stranger network lines ≡ None → first_stranger network others ≡ Some n → X
known_stranger X network lines others n is known first =
    let same : lines ≡ others = cc in let e : first_stranger network others ≡ None = subst (λ (ls : List LogLine). first_stranger network ls ≡ None) same known in absurd (cc)

stranger_tells : (reads risen : ℕ) → Tells (StrangerTells reads risen) reads risen
stranger_tells reads risen = record {
  memory = λ network l lines n is first. inr (inl refl);
  rose = λ network l rose lines n is first. inr (inr (refl, rose));
  missing = λ network lines n is first. missing_lines _ lines is;
  fault = λ network lines n is first. faulty_lines _ lines is;
  strange = λ network ls m known lines n is first. inl refl;
}

strangers_known : (layout log : List ℕ) (held : Option Files) (k reads risen : ℕ) → IfLogged layout log held (StrangerTells reads risen k)
    → IfSome held (λ files. (n : ℕ) → IsNetworkWith layout (Some files) (λ network. HasStranger network log (Some files) n) → IsFaultStatus 11 k reads risen)
strangers_known layout log None k reads risen known = tt
strangers_known layout log (Some files) k reads risen known = λ n has. known has.0 (Lines has.2.lines) has.1 has.2.read has.2.lines n refl has.2.first

-- status 11 where a line names what the layout lacks
pub strangers_decide : DoStrangersDecide
strangers_decide words entry exit status answer layout log from to is =
    rw answer.is (strangers_known layout log entry.held (status_of answer.by) entry.reads exit.reads
    (picture_known (StrangerTells entry.reads exit.reads) layout log entry exit (stranger_tells entry.reads exit.reads) from to answer.by
    (λ network lines pictured others n same first. known_stranger _ network lines others n same pictured.known first) (picture_end (asked words) layout log from to entry exit answer.by is answer.allowed)))

-- a fault of a log has its status
abbrev FaultTells : ℕ → ℕ → ℕ → Layout → Logged → Type 0
FaultTells reads risen k network l = l ≡ Faulty → IsFaultStatus 8 k reads risen

missing_faulty : (X : Type 0) → Missing ≡ Faulty → X
missing_faulty X is = absurd (cc)

lines_faulty : (X : Type 0) (lines : List LogLine) → Lines lines ≡ Faulty → X
lines_faulty X lines is = absurd (cc)

fault_tells : (reads risen : ℕ) → Tells (FaultTells reads risen) reads risen
fault_tells reads risen = record {
  memory = λ network l is. inr (inl refl);
  rose = λ network l rose is. inr (inr (refl, rose));
  missing = λ network is. missing_faulty _ is;
  fault = λ network is. inl refl;
  strange = λ network lines n first is. lines_faulty _ lines is;
}

faults_known : (layout log : List ℕ) (held : Option Files) (k reads risen : ℕ) → IfLogged layout log held (FaultTells reads risen k)
    → IfSome held (λ files. IsNetworkWith layout (Some files) (λ network. IsFaultyLog log (Some files)) → IsFaultStatus 8 k reads risen)
faults_known layout log None k reads risen known = tt
faults_known layout log (Some files) k reads risen known = λ has. known has.0 Faulty has.1 has.2 refl

pub pictured_log_faults_decide : DoPicturedLogFaultsDecide
pictured_log_faults_decide words entry exit status answer layout log from to is =
    rw answer.is (faults_known layout log entry.held (status_of answer.by) entry.reads exit.reads
    (picture_known (FaultTells entry.reads exit.reads) layout log entry exit (fault_tells entry.reads exit.reads) from to answer.by (λ network lines pictured same. lines_faulty _ lines same)
    (picture_end (asked words) layout log from to entry exit answer.by is answer.allowed)))

-- a log that isn't held has its status
abbrev MissingTells : ℕ → Layout → Logged → Type 0
MissingTells k network l = l ≡ Missing → IsUnreadOrMemory k

faulty_missing : (X : Type 0) → Faulty ≡ Missing → X
faulty_missing X is = absurd (cc)

lines_missing : (X : Type 0) (lines : List LogLine) → Lines lines ≡ Missing → X
lines_missing X lines is = absurd (cc)

missing_tells : (reads risen : ℕ) → Tells MissingTells reads risen
missing_tells reads risen = record {
  memory = λ network l is. inr refl;
  rose = λ network l rose is. inl refl;
  missing = λ network is. inl refl;
  fault = λ network is. faulty_missing _ is;
  strange = λ network lines n first is. lines_missing _ lines is;
}

missing_known : (layout log : List ℕ) (held : Option Files) (k : ℕ) → IfLogged layout log held (MissingTells k)
    → IfSome held (λ files. IsNetworkWith layout (Some files) (λ network. IsAbsent log (Some files)) → IsUnreadOrMemory k)
missing_known layout log None k known = tt
missing_known layout log (Some files) k known = λ has. known has.0 Missing has.1 has.2 refl

pub pictured_absent_logs_decide : DoPicturedAbsentLogsDecide
pictured_absent_logs_decide words entry exit status answer layout log from to is =
    rw answer.is (missing_known layout log entry.held (status_of answer.by)
    (picture_known MissingTells layout log entry exit (missing_tells entry.reads exit.reads) from to answer.by (λ network lines pictured same. lines_missing _ lines same)
    (picture_end (asked words) layout log from to entry exit answer.by is answer.allowed)))

-- lines of which each names what the layout has, and no fault of the outside
abbrev WholeTells : ℕ → ℕ → ℕ → ℕ → ℕ → Layout → Logged → Type 0
WholeTells reads read faults faulted k network l =
    (lines : List LogLine) → l ≡ Lines lines → first_stranger network lines ≡ None → ¬ Rose reads read → ¬ Rose faults faulted → IsDoneOrMemory k

strange_known : (X : Type 0) (network : Layout) (lines others : List LogLine) (n : ℕ) → Lines lines ≡ Lines others → first_stranger network lines ≡ Some n → first_stranger network others ≡ None → X
strange_known X network lines others n is first known =
    let same : lines ≡ others = cc in let e : first_stranger network others ≡ Some n = subst (λ (ls : List LogLine). first_stranger network ls ≡ Some n) same first in absurd (cc)

whole_tells : (reads read faults faulted : ℕ) → Tells (WholeTells reads read faults faulted) reads read
whole_tells reads read faults faulted = record {
  memory = λ network l lines is known r f. inr refl;
  rose = λ network l rose lines is known r f. absurd (r rose);
  missing = λ network lines is known r f. missing_lines _ lines is;
  fault = λ network lines is known r f. faulty_lines _ lines is;
  strange = λ network ls n first lines is known r f. strange_known _ network ls lines n is first known;
}

whole_known : (layout log : List ℕ) (held : Option Files) (k reads read faults faulted : ℕ) → IfLogged layout log held (WholeTells reads read faults faulted k)
    → IfSome held (λ files. (lines : List LogLine) → HasLog log (Some files) lines → IsNetworkWith layout (Some files) (λ network. first_stranger network lines ≡ None) → ¬ Rose reads read → ¬ Rose faults faulted → IsDoneOrMemory k)
whole_known layout log None k reads read faults faulted known = tt
whole_known layout log (Some files) k reads read faults faulted known = λ lines has good r f. known good.0 (Lines lines) good.1 has lines refl good.2 r f

-- a picture that nothing hinders is done
pub pictures_are_complete : ArePicturesComplete
pictures_are_complete words entry exit status answer layout log from to is =
    rw answer.is (whole_known layout log entry.held (status_of answer.by) entry.reads exit.reads entry.faults exit.faults
    (picture_known (WholeTells entry.reads exit.reads entry.faults exit.faults) layout log entry exit (whole_tells entry.reads exit.reads entry.faults exit.faults) from to answer.by
    (λ network lines pictured others same known r f. text_whole (picture_of network lines from to) entry exit answer.by pictured.text f) (picture_end (asked words) layout log from to entry exit answer.by is answer.allowed)))

-- the picture of what was drawn
text_of : (layout log : List ℕ) (from to : ℕ) (before after : Moment) (e : Ending) (drawn : IsDrawn layout log from to before after e) → first_stranger drawn.network drawn.lines ≡ None
    → IsPictureText layout log before.held from to (picture_of drawn.network drawn.lines from to)
text_of layout log from to before after e drawn known = record { network = drawn.network; judged = drawn.judged; lines = drawn.lines; read = drawn.read; known = known; is = refl }

-- picture was done
pub picture_done : (layout log : List ℕ) (from to : ℕ) (before after : Moment) → IsPictureEnd layout log from to before after ending.Done → IsPictureDone layout log from to before after
picture_done layout log from to before after h =
    by_picture (IsPictureDone layout log from to before after) layout log from to before after ending.Done (λ early. absurd early) (λ unlogged. absurd unlogged.said) (λ drawn strange. absurd strange)
    (λ drawn p. record { text = picture_of drawn.network drawn.lines from to; right = text_of layout log from to before after ending.Done drawn p.known; written = p.text; held = h.0 }) h

pub pictures_are_cut_short : ArePicturesCutShort
pictures_are_cut_short words entry exit status answer five layout log from to is =
    by_picture (Rose entry.faults exit.faults × IsPictureCut layout log from to entry exit) layout log from to entry exit ending.Write (λ early. absurd early) (λ unlogged. absurd unlogged.said) (λ drawn strange. absurd strange)
    (λ drawn p. (p.text.1, record { text = picture_of drawn.network drawn.lines from to; right = text_of layout log from to entry exit ending.Write drawn p.known; cut = p.text.0 }))
    (picture_end (asked words) layout log from to entry exit ending.Write is (end_at words entry exit status 5 answer five))

pub pictures_are_refused : ArePicturesRefused
pictures_are_refused words entry exit status answer six layout log from to is =
    by_picture ((exit.written ≡ entry.written) ⊎ IsPictureCut layout log from to entry exit) layout log from to entry exit ending.Memory (λ early. inl early) (λ unlogged. inl unlogged.said) (λ drawn strange. inl strange)
    (λ drawn p. inr (record { text = picture_of drawn.network drawn.lines from to; right = text_of layout log from to entry exit ending.Memory drawn p.known; cut = p.text }))
    (picture_end (asked words) layout log from to entry exit ending.Memory is (end_at words entry exit status 6 answer six))

pub pictures_keep_files : DoPicturesKeepFiles
pictures_keep_files words entry exit status answer layout log from to is = (picture_end (asked words) layout log from to entry exit answer.by is answer.allowed).0

words_strange : ending.Stranger ≡ ending.Words → ⊥
words_strange e = cc

strange_unrun : ending.Stranger ≡ ending.Memory → ⊥
strange_unrun e = cc

-- status 11 comes of a line that names what the layout or its plan lacks
stranger_said_of : (o : Option Asked) (entry exit : Moment) → IsEndOf o entry exit ending.Stranger
    → IsComparedWith o (λ layout log. IsNetworkWith layout entry.held (λ network. IsStrangerSaid network log entry exit)) (λ layout log. IsPlannedWith layout entry.held (λ plan. IsUnplannedSaid plan log entry exit))
stranger_said_of None entry exit h = absurd (words_strange h.0)
stranger_said_of (Some Help) entry exit h = absurd h.0
stranger_said_of (Some Version) entry exit h = absurd h.0
stranger_said_of (Some (Check layout)) entry exit h = elim h.1 [ inl early ↦ absurd early | inr checked ↦ absurd checked.written ]
stranger_said_of (Some (Slack layout)) entry exit h = elim h.1 [ inl early ↦ absurd early | inr checked ↦ absurd checked.written ]
stranger_said_of (Some (Plain layout prefix)) entry exit h =
    by_way ⊥ layout prefix entry exit ending.Stranger (λ early. early) (λ taken. taken.said) (λ unloaded. unloaded.said) (λ unrun. strange_unrun unrun.0) (λ run. elim run.filed [ inl all ↦ all.1.2 | inr some ↦ some ]) h
stranger_said_of (Some (Run layout prefix workers)) entry exit h =
    by_way ⊥ layout prefix entry exit ending.Stranger (λ early. early) (λ taken. taken.said) (λ unloaded. unloaded.said) (λ unrun. strange_unrun unrun.0) (λ run. elim run.filed [ inl all ↦ all.1.2 | inr some ↦ some ]) h
stranger_said_of (Some (Stop layout prefix from)) entry exit h =
    by_stop ⊥ layout prefix from entry exit ending.Stranger (λ early. early) (λ taken. taken.said) (λ unloaded. unloaded.said) (λ unrun. strange_unrun unrun.0) (λ un. un.said) (λ ran. elim ran.filed [ inl all ↦ all.1.2 | inr some ↦ some ]) h
stranger_said_of (Some (Resume layout prefix)) entry exit h =
    by_resume ⊥ layout prefix entry exit ending.Stranger (λ early. early) (λ taken. taken.said) (λ unloaded. unloaded.said) (λ unrun. strange_unrun unrun.0) (λ un. un.said) (λ ran. elim ran.filed [ inl all ↦ all.1.2 | inr some ↦ some ]) h
stranger_said_of (Some (Demo number workers)) entry exit h = by_demo ⊥ number entry exit ending.Stranger (λ is written. strange_unrun is) (λ text right written. written) h
stranger_said_of (Some (Probe told layout from to taps)) entry exit h =
    by_probe ⊥ told layout from to taps entry exit ending.Stranger (λ early. early) (λ missed. missed.missed) (λ unprobed. unprobed.said) (λ probed. probed.written) h
stranger_said_of (Some (Meter log)) entry exit h = by_meter ⊥ log entry exit ending.Stranger (λ unmetered. unmetered) (λ metered. metered.written) h
stranger_said_of (Some (Picture layout log from to)) entry exit h =
    by_picture (IsNetworkWith layout entry.held (λ network. IsStrangerSaid network log entry exit)) layout log from to entry exit ending.Stranger (λ early. absurd early) (λ unlogged. absurd unlogged.said)
    (λ drawn strange. (drawn.network, drawn.judged, (strange.0, record { lines = drawn.lines; read = drawn.read; first = strange.1 }, strange.2))) (λ drawn pictured. absurd pictured.text) h
stranger_said_of (Some (Frames layout log)) entry exit h =
    by_frames (IsPlannedWith layout entry.held (λ plan. IsUnplannedSaid plan log entry exit)) layout log entry exit ending.Stranger (λ early. absurd early) (λ unqueued. absurd unqueued.said) (λ untabled. absurd untabled.said)
    (λ d unplanned. (d.plan, d.planned, (unplanned.0, record { lines = d.lines; read = d.read; first = unplanned.1 }, unplanned.2))) (λ d tabled. absurd tabled.text) h

pub strangers_are_said : AreStrangersSaid
strangers_are_said words entry exit status answer is = stranger_said_of (asked words) entry exit (end_at words entry exit status 11 answer is)
