-- The status of probe is that of its layout, of what it aims at and of its loads, and what it leaves.
use Rattle.std.proofs.Common.{◌≡◌, ◌⊎◌, ℕ, Option, None, Some, Ok, Err, List, [], ◌∷◌, ◌++◌, refl, subst, inl, inr, arith}
use Rattle.std.specs.Prelude.{IfSome}
use Rattle.capture_file.specs.declared.entries.Record.{Record}
use Rattle.capture_file.specs.declared.fault.CaptureFault.{CaptureFault}
use Rattle.layout.specs.declared.lines.Layout.{Layout}
use Rattle.layout_file.specs.declared.fault.LayoutFault.{LayoutFault}
use Rattle.line_probe.specs.Taps.{IsWordOf}
use Rattle.line_probe.specs.declared.tap.Tap.{Tap}
use Rattle.load_files.specs.Loaded.{Loaded, IsLoaded, IsFirstAbsent, Whole, Faulty, Absent}
use Rattle.outside.specs.Files.{Files, IsAbsent, Rose}
use Rattle.run_endings.specs.declared.endings.Ending.{Ending}
use Rattle.run_endings.specs.declared.endings.Ending.TheVariants as ending
use Rattle.program_endings.specs.Answers.{IsEndOf}
use Rattle.run_endings.specs.Answers.{status_of}
use Rattle.run_endings.specs.Endings.{IsEarly, IsJudged}
use Rattle.program_endings.specs.ProbeEnds.{IsAimEnd, IsMissed, IsProbed, IsProbeEnd}
use Rattle.run_endings.specs.Moments.{Moment}
use Rattle.program_endings.specs.ProbeLaws.{AreMissesSaid, AreProbesComplete, AreProbesCutShort, AreProbesRefused, DoMissesDecide, DoProbedAbsentLoadsDecide, DoProbedLoadFaultsDecide, DoProbesKeepFiles}
use Rattle.program_endings.specs.Probes.{AreTapsOf, HasAim, HasNoAim}
use Rattle.program_words.specs.Requests.{Asked, asked, Check, Slack, Plain, Run, Stop, Resume, Demo, Probe, Meter, Picture, Frames, Help, Version}
use Rattle.program_words.specs.declared.words.Report.{Report}
use Rattle.program_endings.specs.Statuses.{IsDoneOrMemory, IsFaultStatus, IsMissSaid, IsNetworkWith, IsProbeCut, IsProbeDone, IsProbeWith, IsUnreadOrMemory}
use Rattle.program_endings.proofs.EndingsByStatus.{by_demo, by_meter, by_picture, by_probe, by_resume, by_stop, end_at, probe_end, by_frames}
use Rattle.run_endings.proofs.WaysOfEnding.{by_way}
use Rattle.program_endings.proofs.LayoutDecidesStatus.{absent_unjudged, good_or_faulty, some_of, unread_status}
use Rattle.run_endings.proofs.OneNetwork.{same_network}
use Rattle.program_endings.proofs.LoadsDecideStatus.{AnyNetwork, IfKnown, IsKnown, Says, absent_says, early_known, fault_says, known_loads, text_whole, unloaded_known}

-- of words that name taps each names one
named_front : (network : Layout) (front rest : List (List ℕ)) (word : List ℕ) (taps : List Tap) → AreTapsOf network (front ++ word ∷ rest) taps → (tap : Tap) × IsWordOf network word tap
named_front network [] rest word [] h = absurd h
named_front network [] rest word (tap ∷ taps) h = (tap, h.0)
named_front network (w ∷ ws) rest word [] h = absurd h
named_front network (w ∷ ws) rest word (tap ∷ taps) h = named_front network ws rest word taps h.1

-- what a probe aims at is there, or it isn't
aim_or_miss : (network : Layout) (to : ℕ) (taps : List (List ℕ)) → HasAim network to taps → HasNoAim network to taps → ⊥
aim_or_miss network to taps aim miss =
    elim miss [
      | inl unknown ↦
          (let one = named_front network unknown.1.front unknown.1.rest unknown.0 aim.taps (subst (λ (ws : List (List ℕ)). AreTapsOf network ws aim.taps) unknown.1.is aim.named) in
          unknown.1.unknown one.0 one.1)
      | inr past ↦ omega (arith, aim.within, past)
    ]

-- an ending after which it was said that what a probe aims at isn't there
missed_of : (told : Report) (network : Layout) (to : ℕ) (taps : List (List ℕ)) (before after : Moment) (e : Ending) → IsAimEnd told network to taps before after e → HasNoAim network to taps ⊎ (e ≡ ending.Memory)
missed_of told network to taps before after ending.Done h = absurd h
missed_of told network to taps before after ending.Words h = absurd h
missed_of told network to taps before after ending.Layout h = absurd h
missed_of told network to taps before after ending.Load h = absurd h
missed_of told network to taps before after ending.Read h = absurd h
missed_of told network to taps before after ending.Write h = absurd h
missed_of told network to taps before after ending.Memory h = inr refl
missed_of told network to taps before after ending.Probe h = inl (elim h.1 [ inl unknown ↦ inl (unknown.0, unknown.1) | inr past ↦ inr past.2 ])
missed_of told network to taps before after ending.Log h = absurd h
missed_of told network to taps before after ending.Stranger h = absurd h
missed_of told network to taps before after ending.Unquiet h = absurd h
missed_of told network to taps before after ending.State h = absurd h
missed_of told network to taps before after ending.Output h = absurd h

missed_status : (told : Report) (network : Layout) (to : ℕ) (taps : List (List ℕ)) (before after : Moment) (e : Ending) → IsAimEnd told network to taps before after e → (status_of e ≡ 7) ⊎ (status_of e ≡ 6)
missed_status told network to taps before after ending.Done h = absurd h
missed_status told network to taps before after ending.Words h = absurd h
missed_status told network to taps before after ending.Layout h = absurd h
missed_status told network to taps before after ending.Load h = absurd h
missed_status told network to taps before after ending.Read h = absurd h
missed_status told network to taps before after ending.Write h = absurd h
missed_status told network to taps before after ending.Memory h = inr refl
missed_status told network to taps before after ending.Probe h = inl refl
missed_status told network to taps before after ending.Log h = absurd h
missed_status told network to taps before after ending.Stranger h = absurd h
missed_status told network to taps before after ending.Unquiet h = absurd h
missed_status told network to taps before after ending.State h = absurd h
missed_status told network to taps before after ending.Output h = absurd h

-- this network was judged good and misses something
abbrev IsMissing : List ℕ → ℕ → List (List ℕ) → Files → Type 0
IsMissing layout to taps files = IsNetworkWith layout (Some files) (λ network. HasNoAim network to taps)

-- where a network that was judged good has what the probe aims at, none misses it
found_in : (X : Type 0) (layout : List ℕ) (to : ℕ) (taps : List (List ℕ)) (held : Option Files) (network : Layout) → IsJudged layout held (Ok network) → HasAim network to taps → IfSome held (λ files. IsMissing layout to taps files → X)
found_in X layout to taps None network judged aim = tt
found_in X layout to taps (Some files) network judged aim =
    λ miss. absurd (aim_or_miss network to taps aim (subst (λ (n : Layout). HasNoAim n to taps) (same_network layout files miss.0 network miss.1 judged) miss.2))

faulty_missing : (X : Type 0) (layout : List ℕ) (to : ℕ) (taps : List (List ℕ)) (held : Option Files) (f : LayoutFault) → IsJudged layout held (Err f) → IfSome held (λ files. IsMissing layout to taps files → X)
faulty_missing X layout to taps None f judged = tt
faulty_missing X layout to taps (Some files) f judged = λ miss. absurd (good_or_faulty layout files miss.0 f miss.1 judged)

absent_missing : (layout : List ℕ) (to : ℕ) (taps : List (List ℕ)) (files : Files) → IsAbsent layout (Some files) → IsMissing layout to taps files → ⊥
absent_missing layout to taps files absent miss = absent_unjudged layout (Some files) (Ok miss.0) absent miss.1

module _ (layout : List ℕ) (to : ℕ) (taps : List (List ℕ)) (before after : Moment) where
  early_missing : (e : Ending) → IsEarly layout before after e → IfSome before.held (λ files. IsMissing layout to taps files → IsFaultStatus 7 (status_of e) before.reads after.reads)
  early_missing ending.Done early = absurd early
  early_missing ending.Words early = absurd early
  early_missing ending.Layout early = faulty_missing (IsFaultStatus 7 2 before.reads after.reads) layout to taps before.held early.0 early.1
  early_missing ending.Load early = absurd early
  early_missing ending.Read early =
      unread_status (IsFaultStatus 7 4 before.reads after.reads) layout before.held before.reads after.reads (IsMissing layout to taps) (absent_missing layout to taps) (λ rose. inr (inr (refl, rose))) early.0
  early_missing ending.Write early = absurd early
  early_missing ending.Memory early = some_of before.held _ (λ files miss. inr (inl refl))
  early_missing ending.Probe early = absurd early
  early_missing ending.Log early = absurd early
  early_missing ending.Stranger early = absurd early
  early_missing ending.Unquiet early = absurd early
  early_missing ending.State early = absurd early
  early_missing ending.Output early = absurd early

  missed_missing : (told : Report) (e : Ending) → IsMissed told layout to taps before after e → IfSome before.held (λ files. IsMissing layout to taps files → IsFaultStatus 7 (status_of e) before.reads after.reads)
  missed_missing told e missed =
      some_of before.held _ (λ files miss. elim (missed_status told missed.network to taps before after e missed.missed) [ inl seven ↦ inl seven | inr six ↦ inr (inl six) ])

aim_of : (told : Report) (layout : List ℕ) (from to : ℕ) (taps : List (List ℕ)) (before after : Moment) (e : Ending) (probed : IsProbed told layout from to taps before after e) → HasAim probed.right.planned.network to taps
aim_of told layout from to taps before after e probed =
    subst (λ (n : Layout). HasAim n to taps) probed.right.planned.is.layout (record { taps = probed.right.taps; named = probed.right.named; within = probed.right.within })

-- status 7 where the layout has no fault, and not what the probe aims at
pub misses_decide : DoMissesDecide
misses_decide words entry exit status answer told layout from to taps is =
    rw answer.is (by_probe (IfSome entry.held (λ files. IsMissing layout to taps files → IsFaultStatus 7 (status_of answer.by) entry.reads exit.reads)) told layout from to taps entry exit answer.by
    (early_missing layout to taps entry exit answer.by) (missed_missing layout to taps entry exit told answer.by)
    (λ unprobed. found_in (IsFaultStatus 7 (status_of answer.by) entry.reads exit.reads) layout to taps entry.held unprobed.network unprobed.judged unprobed.aim)
    (λ probed. found_in (IsFaultStatus 7 (status_of answer.by) entry.reads exit.reads) layout to taps entry.held probed.right.planned.network probed.right.planned.judged (aim_of told layout from to taps entry exit answer.by probed))
    (probe_end (asked words) told layout from to taps entry exit answer.by is answer.allowed))

words_probe : ending.Probe ≡ ending.Words → ⊥
words_probe e = cc

probe_unrun : ending.Probe ≡ ending.Memory → ⊥
probe_unrun e = cc

-- status 7 comes of a probe that misses something
missed_said_of : (o : Option Asked) (entry exit : Moment) → IsEndOf o entry exit ending.Probe
    → IsProbeWith o (λ told layout to taps. IsNetworkWith layout entry.held (λ network. IsMissSaid told network to taps entry exit))
missed_said_of None entry exit h = absurd (words_probe h.0)
missed_said_of (Some Help) entry exit h = absurd h.0
missed_said_of (Some Version) entry exit h = absurd h.0
missed_said_of (Some (Check layout)) entry exit h = elim h.1 [ inl early ↦ absurd early | inr checked ↦ absurd checked.written ]
missed_said_of (Some (Slack layout)) entry exit h = elim h.1 [ inl early ↦ absurd early | inr checked ↦ absurd checked.written ]
missed_said_of (Some (Plain layout prefix)) entry exit h =
    by_way ⊥ layout prefix entry exit ending.Probe (λ early. early) (λ taken. taken.said) (λ unloaded. unloaded.said) (λ unrun. probe_unrun unrun.0) (λ run. elim run.filed [ inl all ↦ all.1.2 | inr some ↦ some ]) h
missed_said_of (Some (Run layout prefix workers)) entry exit h =
    by_way ⊥ layout prefix entry exit ending.Probe (λ early. early) (λ taken. taken.said) (λ unloaded. unloaded.said) (λ unrun. probe_unrun unrun.0) (λ run. elim run.filed [ inl all ↦ all.1.2 | inr some ↦ some ]) h
missed_said_of (Some (Stop layout prefix from)) entry exit h =
    by_stop ⊥ layout prefix from entry exit ending.Probe (λ early. early) (λ taken. taken.said) (λ unloaded. unloaded.said) (λ unrun. probe_unrun unrun.0) (λ un. un.said) (λ ran. elim ran.filed [ inl all ↦ all.1.2 | inr some ↦ some ]) h
missed_said_of (Some (Resume layout prefix)) entry exit h =
    by_resume ⊥ layout prefix entry exit ending.Probe (λ early. early) (λ taken. taken.said) (λ unloaded. unloaded.said) (λ unrun. probe_unrun unrun.0) (λ un. un.said) (λ ran. elim ran.filed [ inl all ↦ all.1.2 | inr some ↦ some ]) h
missed_said_of (Some (Demo number workers)) entry exit h = by_demo ⊥ number entry exit ending.Probe (λ is written. probe_unrun is) (λ text right written. written) h
missed_said_of (Some (Probe told layout from to taps)) entry exit h =
    by_probe (IsNetworkWith layout entry.held (λ network. IsMissSaid told network to taps entry exit)) told layout from to taps entry exit ending.Probe (λ early. absurd early) (λ missed. (missed.network, missed.judged, missed.missed))
    (λ unprobed. absurd unprobed.said) (λ probed. absurd probed.written) h
missed_said_of (Some (Meter log)) entry exit h = by_meter ⊥ log entry exit ending.Probe (λ unmetered. unmetered) (λ metered. metered.written) h
missed_said_of (Some (Picture layout log from to)) entry exit h =
    by_picture ⊥ layout log from to entry exit ending.Probe (λ early. early) (λ unlogged. unlogged.said) (λ drawn strange. strange) (λ drawn pictured. pictured.text) h
missed_said_of (Some (Frames layout log)) entry exit h =
    by_frames ⊥ layout log entry exit ending.Probe (λ early. early) (λ unqueued. unqueued.said) (λ untabled. untabled.said) (λ d unplanned. unplanned) (λ d tabled. tabled.text) h

pub misses_are_said : AreMissesSaid
misses_are_said words entry exit status answer is = missed_said_of (asked words) entry exit (end_at words entry exit status 7 answer is)

-- X holds of the loads of the layout where its network has what the probe aims at
abbrev IfAimed : List ℕ → ℕ → List (List ℕ) → Option Files → (Loaded → Type 0) → Type 0
IfAimed layout to taps None X = Unit {0}
IfAimed layout to taps (Some files) X = (l : Loaded) → IsNetworkWith layout (Some files) (λ network. HasAim network to taps) → IsKnown AnyNetwork layout files l → X l

aimed_known : (layout : List ℕ) (to : ℕ) (taps : List (List ℕ)) (held : Option Files) (X : Loaded → Type 0) → IfKnown AnyNetwork layout held X → IfAimed layout to taps held X
aimed_known layout to taps None X known = tt
aimed_known layout to taps (Some files) X known = λ l aim is. known l is

-- a probe that misses something has nothing to say of loads, but for want of memory
aimed_missed : (layout : List ℕ) (to : ℕ) (taps : List (List ℕ)) (held : Option Files) (X : Loaded → Type 0) (network : Layout) (e : Ending) → IsJudged layout held (Ok network) → HasNoAim network to taps ⊎ (e ≡ ending.Memory)
    → (e ≡ ending.Memory → (l : Loaded) → X l) → IfAimed layout to taps held X
aimed_missed layout to taps None X network e judged miss memory = tt
aimed_missed layout to taps (Some files) X network e judged miss memory =
    λ l aim is. elim miss [
      | inl none ↦ absurd (aim_or_miss network to taps (subst (λ (n : Layout). HasAim n to taps) (same_network layout files aim.0 network aim.1 judged) aim.2) none)
      | inr six ↦ memory six l
    ]

-- what an end of a probe says of its loads, where it is known what it says of one that is done
probe_known : (X : ℕ → Loaded → Type 0) (told : Report) (layout : List ℕ) (from to : ℕ) (taps : List (List ℕ)) (before after : Moment) (e : Ending) → Says X before.reads after.reads
    → ((loads : List (List Record)) → IsProbed told layout from to taps before after e → X (status_of e) (Whole loads)) → IsProbeEnd told layout from to taps before after e → IfAimed layout to taps before.held (X (status_of e))
probe_known X told layout from to taps before after e says done h =
    by_probe (IfAimed layout to taps before.held (X (status_of e))) told layout from to taps before after e
    (λ early. aimed_known layout to taps before.held (X (status_of e)) (early_known AnyNetwork X layout before after says e early))
    (λ missed. aimed_missed layout to taps before.held (X (status_of e)) missed.network e missed.judged (missed_of told missed.network to taps before after e missed.missed)
    (λ six l. subst (λ (a : Ending). X (status_of a) l) (symmetric six) (says.memory l)))
    (λ unprobed. aimed_known layout to taps before.held (X (status_of e)) (unloaded_known AnyNetwork X layout before after says unprobed.network e unprobed.judged tt unprobed.said))
    (λ probed. aimed_known layout to taps before.held (X (status_of e))
    (known_loads AnyNetwork layout before.held probed.right.planned.network (Whole probed.right.planned.is.loads) (X (status_of e)) probed.right.planned.judged tt probed.right.planned.is.loaded (done probed.right.planned.is.loads probed))) h
  where
    symmetric : e ≡ ending.Memory → ending.Memory ≡ e
    symmetric is = cc

-- a fault of a load has its status
abbrev ProbedFaultSays : ℕ → ℕ → ℕ → Loaded → Type 0
ProbedFaultSays reads risen n l = (station : ℕ) (f : CaptureFault) → l ≡ Faulty station f → IsFaultStatus 3 n reads risen

aimed_fault : (layout : List ℕ) (to : ℕ) (taps : List (List ℕ)) (held : Option Files) (n reads risen : ℕ) → IfAimed layout to taps held (ProbedFaultSays reads risen n)
    → IfSome held (λ files. (station : ℕ) (f : CaptureFault) → IsNetworkWith layout (Some files) (λ network. HasAim network to taps × IsLoaded (Some files) network.stations (Faulty station f)) → IsFaultStatus 3 n reads risen)
aimed_fault layout to taps None n reads risen known = tt
aimed_fault layout to taps (Some files) n reads risen known =
    λ station f has. known (Faulty station f) (has.0, has.1, has.2.0) (record { network = has.0; judged = has.1; so = tt; is = has.2.1 }) station f refl

whole_or : (X : Type 0) (loads : List (List Record)) (station : ℕ) (f : CaptureFault) → Whole loads ≡ Faulty station f → X
whole_or X loads station f is = absurd (cc)

pub probed_load_faults_decide : DoProbedLoadFaultsDecide
probed_load_faults_decide words entry exit status answer told layout from to taps is =
    rw answer.is (aimed_fault layout to taps entry.held (status_of answer.by) entry.reads exit.reads
    (probe_known (ProbedFaultSays entry.reads exit.reads) told layout from to taps entry exit answer.by (fault_says entry.reads exit.reads) (λ loads probed station f w. whole_or _ loads station f w)
    (probe_end (asked words) told layout from to taps entry exit answer.by is answer.allowed)))

-- a load that isn't held has its status
abbrev ProbedAbsentSays : ℕ → Loaded → Type 0
ProbedAbsentSays n l = (name : List ℕ) → l ≡ Absent name → IsUnreadOrMemory n

aimed_absent : (layout : List ℕ) (to : ℕ) (taps : List (List ℕ)) (held : Option Files) (n : ℕ) → IfAimed layout to taps held (ProbedAbsentSays n)
    → IfSome held (λ files. (name : List ℕ) → IsNetworkWith layout (Some files) (λ network. HasAim network to taps × IsFirstAbsent (Some files) network.stations name) → IsUnreadOrMemory n)
aimed_absent layout to taps None n known = tt
aimed_absent layout to taps (Some files) n known = λ name has. known (Absent name) (has.0, has.1, has.2.0) (record { network = has.0; judged = has.1; so = tt; is = has.2.1 }) name refl

whole_absent : (X : Type 0) (loads : List (List Record)) (name : List ℕ) → Whole loads ≡ Absent name → X
whole_absent X loads name is = absurd (cc)

pub probed_absent_loads_decide : DoProbedAbsentLoadsDecide
probed_absent_loads_decide words entry exit status answer told layout from to taps is =
    rw answer.is (aimed_absent layout to taps entry.held (status_of answer.by)
    (probe_known ProbedAbsentSays told layout from to taps entry exit answer.by (absent_says entry.reads exit.reads) (λ loads probed name w. whole_absent _ loads name w)
    (probe_end (asked words) told layout from to taps entry exit answer.by is answer.allowed)))

-- probe or waves was done
pub probe_done : (told : Report) (layout : List ℕ) (from to : ℕ) (taps : List (List ℕ)) (before after : Moment) → IsProbeEnd told layout from to taps before after ending.Done → IsProbeDone told layout from to taps before after
probe_done told layout from to taps before after h =
    by_probe (IsProbeDone told layout from to taps before after) told layout from to taps before after ending.Done (λ early. absurd early) (λ missed. absurd missed.missed) (λ unprobed. absurd unprobed.said)
    (λ p. record { text = p.text; right = p.right; written = p.written; held = h.0 }) h

pub probes_are_cut_short : AreProbesCutShort
probes_are_cut_short words entry exit status answer five told layout from to taps is =
    by_probe (Rose entry.faults exit.faults × IsProbeCut told layout from to taps entry exit) told layout from to taps entry exit ending.Write (λ early. absurd early) (λ missed. absurd missed.missed) (λ unprobed. absurd unprobed.said)
    (λ p. (p.written.1, record { text = p.text; right = p.right; cut = p.written.0 })) (probe_end (asked words) told layout from to taps entry exit ending.Write is (end_at words entry exit status 5 answer five))

pub probes_are_refused : AreProbesRefused
probes_are_refused words entry exit status answer six told layout from to taps is =
    by_probe ((exit.written ≡ entry.written) ⊎ IsProbeCut told layout from to taps entry exit) told layout from to taps entry exit ending.Memory (λ early. inl early) (λ missed. inl missed.missed) (λ unprobed. inl unprobed.said)
    (λ p. inr (record { text = p.text; right = p.right; cut = p.written })) (probe_end (asked words) told layout from to taps entry exit ending.Memory is (end_at words entry exit status 6 answer six))

pub probes_keep_files : DoProbesKeepFiles
probes_keep_files words entry exit status answer told layout from to taps is = (probe_end (asked words) told layout from to taps entry exit answer.by is answer.allowed).0

-- whole loads, and no fault of the outside
abbrev ProbedWholeSays : ℕ → ℕ → ℕ → ℕ → ℕ → Loaded → Type 0
ProbedWholeSays reads read faults faulted n l = (loads : List (List Record)) → l ≡ Whole loads → ¬ Rose reads read → ¬ Rose faults faulted → IsDoneOrMemory n

probed_whole_says : (reads read faults faulted : ℕ) → Says (ProbedWholeSays reads read faults faulted) reads read
probed_whole_says reads read faults faulted = record {
  memory = λ l loads is r f. inr refl;
  rose = λ l rose loads is r f. absurd (r rose);
  absent = λ a loads is r f. cc;
  fault = λ s g loads is r f. cc;
}

aimed_whole : (layout : List ℕ) (to : ℕ) (taps : List (List ℕ)) (held : Option Files) (n reads read faults faulted : ℕ) → IfAimed layout to taps held (ProbedWholeSays reads read faults faulted n)
    → IfSome held (λ files. (loads : List (List Record)) → IsNetworkWith layout (Some files) (λ network. HasAim network to taps × IsLoaded (Some files) network.stations (Whole loads)) → ¬ Rose reads read → ¬ Rose faults faulted → IsDoneOrMemory n)
aimed_whole layout to taps None n reads read faults faulted known = tt
aimed_whole layout to taps (Some files) n reads read faults faulted known =
    λ loads has r f. known (Whole loads) (has.0, has.1, has.2.0) (record { network = has.0; judged = has.1; so = tt; is = has.2.1 }) loads refl r f

-- a probe that nothing hinders is done
pub probes_are_complete : AreProbesComplete
probes_are_complete words entry exit status answer told layout from to taps is =
    rw answer.is (aimed_whole layout to taps entry.held (status_of answer.by) entry.reads exit.reads entry.faults exit.faults
    (probe_known (ProbedWholeSays entry.reads exit.reads entry.faults exit.faults) told layout from to taps entry exit answer.by (probed_whole_says entry.reads exit.reads entry.faults exit.faults)
    (λ loads p again w r f. text_whole p.text entry exit answer.by p.written f) (probe_end (asked words) told layout from to taps entry exit answer.by is answer.allowed)))
