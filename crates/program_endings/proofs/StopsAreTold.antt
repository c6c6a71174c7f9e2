-- The statuses of stop and of resume, and what they leave.
use Rattle.std.proofs.Common.{◌≡◌, ℕ, Option, None, Some, Err, List, refl, sym, ap, subst, ◌∙◌, inl, inr}
use Rattle.std.specs.Prelude.{IfSome}
use Rattle.capture_file.specs.declared.entries.Record.{Record}
use Rattle.layout.specs.declared.lines.Layout.{Layout}
use Rattle.load_files.specs.Loaded.{Loaded, Whole}
use Rattle.load_plan.specs.declared.plan.Plan.{Plan}
use Rattle.outside.specs.Files.{Files, IsAbsent}
use Rattle.program_texts.specs.Texts.{line_of_no_quiet, name_of_state}
use Rattle.program_words.specs.Requests.{Asked, asked, Check, Slack, Plain, Run, Stop, Resume, Demo, Probe, Meter, Picture, Frames, Help, Version}
use Rattle.quiet_state.specs.declared.state.NetState.{NetState}
use Rattle.run_checkpoint.specs.Judging.{judged_state, most_state_octets}
use Rattle.run_checkpoint.specs.declared.fault.StateFault.{StateFault}
use Rattle.net_step.specs.Stops.{HasNoQuiet}
use Rattle.run_endings.specs.declared.endings.Ending.{Ending}
use Rattle.run_endings.specs.declared.endings.Ending.TheVariants as ending
use Rattle.program_endings.specs.CheckpointFiles.{HasState, IsStateFaulty}
use Rattle.program_endings.specs.Answers.{IsEndOf}
use Rattle.run_endings.specs.Answers.{status_of}
use Rattle.run_endings.specs.Endings.{IsPlanned, IsUnrun, Says}
use Rattle.program_endings.specs.Endings.{HasResumed, IsResumeEnd, IsStateFaultSaid, HasStopped, IsStopEnd, IsUnquietEnd, IsUnstated}
use Rattle.run_endings.specs.Moments.{Moment}
use Rattle.run_endings.specs.Reading.{IsFront, front_of}
use Rattle.run_endings.specs.Runs.{IsPlanOf}
use Rattle.program_endings.specs.Statuses.{IsFaultStatus, IsPlannedWith, IsResumeDone, IsResumeWith, IsStopDone, IsStopWith, IsUnreadOrMemory}
use Rattle.program_endings.specs.StopLaws.{AreStateFaultsSaid, AreUnquietSaid, DoAbsentStatesDecide, DoStateFaultsDecide, DoUnquietDecide}
use Rattle.run_endings.specs.Writing.{added}
use Rattle.program_endings.proofs.EndingsByStatus.{by_demo, by_meter, by_picture, by_probe, by_resume, by_stop, end_at, resume_end, stop_end, by_frames}
use Rattle.run_endings.proofs.WaysOfEnding.{by_way}
use Rattle.run_endings.proofs.OneNetwork.{same_network}
use Rattle.program_endings.proofs.LayoutDecidesStatus.{unread_status}
use Rattle.run_endings.specs.WrittenNames.{AreNamesFree, RunOf, StateOf, ToWrite}
use Rattle.program_endings.proofs.LoadsDecideStatus.{IfKnown, Says as SaysOfLoads, early_known, of_planned, taken_known, unloaded_known}
use Rattle.run_endings.proofs.OnePlan.{one_plan}

stop_of : (layout prefix : List ℕ) (from : ℕ) (before after : Moment) → HasStopped layout prefix from before after ending.Done → IsStopDone layout prefix from before after
stop_of layout prefix from before after ran =
    elim ran.filed [
      | inl all ↦ record { plan = ran.plan; planned = ran.planned; t = ran.t; first = ran.first; file = all.0; written = subst (λ (text : List ℕ). after.written ≡ added text before.written) all.1.1 all.1.2 }
      | inr some ↦ absurd some
    ]

done_unrun : ending.Done ≡ ending.Memory → ⊥
done_unrun e = cc

-- stop was done
pub stop_done : (layout prefix : List ℕ) (from : ℕ) (before after : Moment) → IsStopEnd layout prefix from before after ending.Done → IsStopDone layout prefix from before after
stop_done layout prefix from before after h =
    by_stop (IsStopDone layout prefix from before after) layout prefix from before after ending.Done (λ early. absurd early) (λ taken. absurd taken.said) (λ unloaded. absurd unloaded.said) (λ unrun. absurd (done_unrun unrun.0)) (λ un. absurd un.said)
    (λ ran. stop_of layout prefix from before after ran) h

resume_of : (layout prefix : List ℕ) (before after : Moment) → HasResumed layout prefix before after ending.Done → IsResumeDone layout prefix before after
resume_of layout prefix before after ran =
    elim ran.filed [
      | inl all ↦ record { plan = ran.plan; planned = ran.planned; state = ran.state; read = ran.read; files = all.0; summary = all.1.0; summed = all.1.1; written = all.1.2 }
      | inr some ↦ absurd some
    ]

-- resume was done
pub resume_done : (layout prefix : List ℕ) (before after : Moment) → IsResumeEnd layout prefix before after ending.Done → IsResumeDone layout prefix before after
resume_done layout prefix before after h =
    by_resume (IsResumeDone layout prefix before after) layout prefix before after ending.Done (λ early. absurd early) (λ taken. absurd taken.said) (λ unloaded. absurd unloaded.said) (λ unrun. absurd (done_unrun unrun.0)) (λ un. absurd un.said)
    (λ ran. resume_of layout prefix before after ran) h

words_unquiet : ending.Unquiet ≡ ending.Words → ⊥
words_unquiet e = cc

unquiet_unrun : ending.Unquiet ≡ ending.Memory → ⊥
unquiet_unrun e = cc

words_state : ending.State ≡ ending.Words → ⊥
words_state e = cc

state_unrun : ending.State ≡ ending.Memory → ⊥
state_unrun e = cc

-- status 9 comes of a run without a quiet half bit
unquiet_said_of : (o : Option Asked) (entry exit : Moment) → IsEndOf o entry exit ending.Unquiet
    → IsStopWith o (λ layout from. IsPlannedWith layout entry.held (λ plan. HasNoQuiet plan from × Says line_of_no_quiet entry exit))
unquiet_said_of None entry exit h = absurd (words_unquiet h.0)
unquiet_said_of (Some Help) entry exit h = absurd h.0
unquiet_said_of (Some Version) entry exit h = absurd h.0
unquiet_said_of (Some (Check layout)) entry exit h = elim h.1 [ inl early ↦ absurd early | inr checked ↦ absurd checked.written ]
unquiet_said_of (Some (Slack layout)) entry exit h = elim h.1 [ inl early ↦ absurd early | inr checked ↦ absurd checked.written ]
unquiet_said_of (Some (Plain layout prefix)) entry exit h =
    absurd (by_way ⊥ layout prefix entry exit ending.Unquiet (λ early. early) (λ taken. taken.said) (λ unloaded. unloaded.said) (λ unrun. unquiet_unrun unrun.0) (λ run. elim run.filed [ inl all ↦ all.1.2 | inr some ↦ some ]) h)
unquiet_said_of (Some (Run layout prefix workers)) entry exit h =
    absurd (by_way ⊥ layout prefix entry exit ending.Unquiet (λ early. early) (λ taken. taken.said) (λ unloaded. unloaded.said) (λ unrun. unquiet_unrun unrun.0) (λ run. elim run.filed [ inl all ↦ all.1.2 | inr some ↦ some ]) h)
unquiet_said_of (Some (Stop layout prefix from)) entry exit h =
    by_stop (IsStopWith (Some (Stop layout prefix from)) (λ name t. IsPlannedWith name entry.held (λ plan. HasNoQuiet plan t × Says line_of_no_quiet entry exit))) layout prefix from entry exit ending.Unquiet (λ early. absurd early)
    (λ taken. absurd taken.said) (λ unloaded. absurd unloaded.said) (λ unrun. absurd (unquiet_unrun unrun.0)) (λ un. (layout, prefix, from, refl, (un.plan, un.planned, (un.never, un.said)))) (λ ran. elim ran.filed [ inl all ↦ absurd all.1.2 | inr some ↦ absurd some ]) h
unquiet_said_of (Some (Resume layout prefix)) entry exit h =
    absurd (by_resume ⊥ layout prefix entry exit ending.Unquiet (λ early. early) (λ taken. taken.said) (λ unloaded. unloaded.said) (λ unrun. unquiet_unrun unrun.0) (λ un. un.said) (λ ran. elim ran.filed [ inl all ↦ all.1.2 | inr some ↦ some ]) h)
unquiet_said_of (Some (Demo number workers)) entry exit h = absurd (by_demo ⊥ number entry exit ending.Unquiet (λ is written. unquiet_unrun is) (λ text right written. written) h)
unquiet_said_of (Some (Probe told layout from to taps)) entry exit h =
    absurd (by_probe ⊥ told layout from to taps entry exit ending.Unquiet (λ early. early) (λ missed. missed.missed) (λ unprobed. unprobed.said) (λ probed. probed.written) h)
unquiet_said_of (Some (Meter log)) entry exit h = absurd (by_meter ⊥ log entry exit ending.Unquiet (λ unmetered. unmetered) (λ metered. metered.written) h)
unquiet_said_of (Some (Picture layout log from to)) entry exit h =
    absurd (by_picture ⊥ layout log from to entry exit ending.Unquiet (λ early. early) (λ unlogged. unlogged.said) (λ drawn strange. strange) (λ drawn pictured. pictured.text) h)
unquiet_said_of (Some (Frames layout log)) entry exit h =
    absurd (by_frames ⊥ layout log entry exit ending.Unquiet (λ early. early) (λ unqueued. unqueued.said) (λ untabled. untabled.said) (λ d unplanned. unplanned) (λ d tabled. tabled.text) h)

pub unquiet_are_said : AreUnquietSaid
unquiet_are_said words entry exit status answer is = unquiet_said_of (asked words) entry exit (end_at words entry exit status 9 answer is)

-- status 10 comes of a state with a fault
state_faulty_of : (o : Option Asked) (entry exit : Moment) → IsEndOf o entry exit ending.State
    → IsResumeWith o (λ layout prefix. IsPlannedWith layout entry.held (λ plan. IsStateFaultSaid plan (name_of_state prefix) entry exit))
state_faulty_of None entry exit h = absurd (words_state h.0)
state_faulty_of (Some Help) entry exit h = absurd h.0
state_faulty_of (Some Version) entry exit h = absurd h.0
state_faulty_of (Some (Check layout)) entry exit h = elim h.1 [ inl early ↦ absurd early | inr checked ↦ absurd checked.written ]
state_faulty_of (Some (Slack layout)) entry exit h = elim h.1 [ inl early ↦ absurd early | inr checked ↦ absurd checked.written ]
state_faulty_of (Some (Plain layout prefix)) entry exit h =
    absurd (by_way ⊥ layout prefix entry exit ending.State (λ early. early) (λ taken. taken.said) (λ unloaded. unloaded.said) (λ unrun. state_unrun unrun.0) (λ run. elim run.filed [ inl all ↦ all.1.2 | inr some ↦ some ]) h)
state_faulty_of (Some (Run layout prefix workers)) entry exit h =
    absurd (by_way ⊥ layout prefix entry exit ending.State (λ early. early) (λ taken. taken.said) (λ unloaded. unloaded.said) (λ unrun. state_unrun unrun.0) (λ run. elim run.filed [ inl all ↦ all.1.2 | inr some ↦ some ]) h)
state_faulty_of (Some (Stop layout prefix from)) entry exit h =
    absurd (by_stop ⊥ layout prefix from entry exit ending.State (λ early. early) (λ taken. taken.said) (λ unloaded. unloaded.said) (λ unrun. state_unrun unrun.0) (λ un. un.said) (λ ran. elim ran.filed [ inl all ↦ all.1.2 | inr some ↦ some ]) h)
state_faulty_of (Some (Resume layout prefix)) entry exit h =
    by_resume (IsResumeWith (Some (Resume layout prefix)) (λ name p. IsPlannedWith name entry.held (λ plan. IsStateFaultSaid plan (name_of_state p) entry exit))) layout prefix entry exit ending.State (λ early. absurd early)
    (λ taken. absurd taken.said) (λ unloaded. absurd unloaded.said) (λ unrun. absurd (state_unrun unrun.0)) (λ un. (layout, prefix, refl, (un.plan, un.planned, un.said))) (λ ran. elim ran.filed [ inl all ↦ absurd all.1.2 | inr some ↦ absurd some ]) h
state_faulty_of (Some (Demo number workers)) entry exit h = absurd (by_demo ⊥ number entry exit ending.State (λ is written. state_unrun is) (λ text right written. written) h)
state_faulty_of (Some (Probe told layout from to taps)) entry exit h =
    absurd (by_probe ⊥ told layout from to taps entry exit ending.State (λ early. early) (λ missed. missed.missed) (λ unprobed. unprobed.said) (λ probed. probed.written) h)
state_faulty_of (Some (Meter log)) entry exit h = absurd (by_meter ⊥ log entry exit ending.State (λ unmetered. unmetered) (λ metered. metered.written) h)
state_faulty_of (Some (Picture layout log from to)) entry exit h =
    absurd (by_picture ⊥ layout log from to entry exit ending.State (λ early. early) (λ unlogged. unlogged.said) (λ drawn strange. strange) (λ drawn pictured. pictured.text) h)
state_faulty_of (Some (Frames layout log)) entry exit h =
    absurd (by_frames ⊥ layout log entry exit ending.State (λ early. early) (λ unqueued. unqueued.said) (λ untabled. untabled.said) (λ d unplanned. unplanned) (λ d tabled. tabled.text) h)

pub state_faults_are_said : AreStateFaultsSaid
state_faults_are_said words entry exit status answer is = state_faulty_of (asked words) entry exit (end_at words entry exit status 10 answer is)

-- the plan of a layout and of the loads that a store tells
pub same_planned : (layout : List ℕ) (files : Files) (a b : Plan) → IsPlanned layout (Some files) a → IsPlanned layout (Some files) b → a ≡ b
same_planned layout files a b one two =
    let net : two.network ≡ one.network = same_network layout files two.network one.network two.judged one.judged in
    one_plan files one.network a b one.is (subst (λ (n : Layout). IsPlanOf (Some files) n b) net two.is)

-- where the loads are whole the status is this one, but for a failed read and want of memory
abbrev WholeFault : ℕ → ℕ → ℕ → ℕ → Loaded → Type 0
WholeFault fault reads risen n l = (loads : List (List Record)) → l ≡ Whole loads → IsFaultStatus fault n reads risen

whole_fault : (fault reads risen : ℕ) → SaysOfLoads (WholeFault fault reads risen) reads risen
whole_fault fault reads risen = record {
  memory = λ l loads is. inr (inl refl);
  rose = λ l rose loads is. inr (inr (refl, rose));
  absent = λ a loads is. cc;
  fault = λ s g loads is. cc;
}

-- X holds where a store tells a plan and this holds of it
abbrev pub IfPlanned : List ℕ → Option Files → (Files → Plan → Type 0) → Type 0 → Type 0
IfPlanned layout held P X = IfSome held (λ files. IsPlannedWith layout (Some files) (λ plan. P files plan) → X)

-- this, where no file to be written has the name of an input
abbrev pub FreeAnd : List ℕ → ToWrite → (Files → Plan → Type 0) → Files → Plan → Type 0
FreeAnd layout outputs P files plan = AreNamesFree layout outputs plan.layout × P files plan

fault_planned : (layout : List ℕ) (outputs : ToWrite) (held : Option Files) (P : Files → Plan → Type 0) (fault n reads risen : ℕ) → IfKnown (AreNamesFree layout outputs) layout held (WholeFault fault reads risen n)
    → IfPlanned layout held (FreeAnd layout outputs P) (IsFaultStatus fault n reads risen)
fault_planned layout outputs None P fault n reads risen known = tt
fault_planned layout outputs (Some files) P fault n reads risen known =
    λ has. known (Whole has.1.is.loads) (record { network = has.1.network; judged = has.1.judged; so = of_planned (AreNamesFree layout outputs) layout (Some files) has.0 has.1 has.2.0; is = has.1.is.loaded }) has.1.is.loads refl

pub always_planned : (layout : List ℕ) (held : Option Files) (P : Files → Plan → Type 0) (X : Type 0) → X → IfPlanned layout held P X
always_planned layout None P X x = tt
always_planned layout (Some files) P X x = λ has. x

pub never_planned : (layout : List ℕ) (held : Option Files) (P : Files → Plan → Type 0) (X : Type 0) (plan : Plan) → IsPlanned layout held plan → ((files : Files) → held ≡ Some files → P files plan → ⊥) → IfPlanned layout held P X
never_planned layout None P X plan planned never = tt
never_planned layout (Some files) P X plan planned never =
    λ has. absurd (never files refl (subst (λ (p : Plan). P files p) (same_planned layout files has.0 plan has.1 planned) has.2))

pub unquiet_status : (before after : Moment) (e : Ending) → IsUnquietEnd before after e → status_of e ≡ 9
unquiet_status before after ending.Done said = absurd said
unquiet_status before after ending.Words said = absurd said
unquiet_status before after ending.Layout said = absurd said
unquiet_status before after ending.Load said = absurd said
unquiet_status before after ending.Read said = absurd said
unquiet_status before after ending.Write said = absurd said
unquiet_status before after ending.Memory said = absurd said
unquiet_status before after ending.Probe said = absurd said
unquiet_status before after ending.Log said = absurd said
unquiet_status before after ending.Stranger said = absurd said
unquiet_status before after ending.Unquiet said = refl
unquiet_status before after ending.State said = absurd said
unquiet_status before after ending.Output said = absurd said

pub unrun_status : (before after : Moment) (e : Ending) → IsUnrun before after e → status_of e ≡ 6
unrun_status before after e unrun = ap status_of unrun.0

-- status 9 where the run has no quiet half bit
pub unquiet_decide : DoUnquietDecide
unquiet_decide words entry exit status answer layout prefix from is =
    let N : Files → Plan → Type 0 = λ files plan. HasNoQuiet plan from in
    let P : Files → Plan → Type 0 = FreeAnd layout (StateOf prefix) N in
    let n : ℕ = status_of answer.by in
    let X : Type 0 = IsFaultStatus 9 n entry.reads exit.reads in
    rw answer.is (by_stop (IfPlanned layout entry.held P X) layout prefix from entry exit answer.by
    (λ early. fault_planned layout (StateOf prefix) entry.held N 9 n entry.reads exit.reads (early_known (AreNamesFree layout (StateOf prefix)) (WholeFault 9 entry.reads exit.reads) layout entry exit (whole_fault 9 entry.reads exit.reads) answer.by early))
    (λ taken. fault_planned layout (StateOf prefix) entry.held N 9 n entry.reads exit.reads (taken_known (WholeFault 9 entry.reads exit.reads) layout (StateOf prefix) entry exit (whole_fault 9 entry.reads exit.reads) taken.network answer.by taken.judged taken.said))
    (λ unloaded. fault_planned layout (StateOf prefix) entry.held N 9 n entry.reads exit.reads (unloaded_known (AreNamesFree layout (StateOf prefix)) (WholeFault 9 entry.reads exit.reads) layout entry exit (whole_fault 9 entry.reads exit.reads) unloaded.network answer.by unloaded.judged unloaded.free unloaded.said))
    (λ unrun. always_planned layout entry.held P X (inr (inl (unrun_status entry exit answer.by unrun)))) (λ un. always_planned layout entry.held P X (inl (unquiet_status entry exit answer.by un.said)))
    (λ ran. never_planned layout entry.held P X ran.plan ran.planned (λ files told never. never.1 ran.t ran.first.reached ran.first.quiet))
    (stop_end (asked words) layout prefix from entry exit answer.by is answer.allowed))

-- what is read of a state is only ever the same
same_front : (name : List ℕ) (files : Files) (a b : List ℕ) → IsFront most_state_octets name (Some files) a → IsFront most_state_octets name (Some files) b → a ≡ b
same_front name files a b one two = cc

pub absent_front : (name : List ℕ) (files : Files) (octets : List ℕ) → IsAbsent name (Some files) → IsFront most_state_octets name (Some files) octets → ⊥
unfolding front_of
absent_front name files octets absent read = let e = rw absent at read in cc

-- a state has no fault
pub faultless : (plan : Plan) (name : List ℕ) (files : Files) (state : NetState) (fault : StateFault) → HasState plan name (Some files) state → IsStateFaulty plan name (Some files) fault → ⊥
faultless plan name files state fault has faulty =
    let there : judged_state plan has.octets ≡ Err fault = subst (λ (octets : List ℕ). judged_state plan octets ≡ Err fault) (same_front name files faulty.octets has.octets faulty.read has.read) faulty.judged in
    let both = sym has.judged ∙ there in cc

told_state : (plan : Plan) (name : List ℕ) (held : Option Files) (files : Files) (state : NetState) → held ≡ Some files → HasState plan name held state → HasState plan name (Some files) state
told_state plan name held files state told has = rw told at has

abbrev IsFaultyIn : List ℕ → StateFault → Files → Plan → Type 0
IsFaultyIn prefix fault files plan = IsStateFaulty plan (name_of_state prefix) (Some files) fault

abbrev IsFaultyFree : List ℕ → List ℕ → StateFault → Files → Plan → Type 0
IsFaultyFree layout prefix fault = FreeAnd layout (RunOf prefix) (IsFaultyIn prefix fault)

unstated_faulty : (layout prefix : List ℕ) (fault : StateFault) (plan : Plan) (before after : Moment) (e : Ending) → IsPlanned layout before.held plan → IsUnstated plan (name_of_state prefix) before after e
    → IfPlanned layout before.held (IsFaultyFree layout prefix fault) (IsFaultStatus 10 (status_of e) before.reads after.reads)
unstated_faulty layout prefix fault plan before after ending.Done planned said = absurd said
unstated_faulty layout prefix fault plan before after ending.Words planned said = absurd said
unstated_faulty layout prefix fault plan before after ending.Layout planned said = absurd said
unstated_faulty layout prefix fault plan before after ending.Load planned said = absurd said
unstated_faulty layout prefix fault plan before after ending.Read planned said =
    unread_status (IsFaultStatus 10 4 before.reads after.reads) (name_of_state prefix) before.held before.reads after.reads (λ files. IsPlannedWith layout (Some files) (λ p. IsFaultyFree layout prefix fault files p))
    (λ files absent has. absent_front (name_of_state prefix) files has.2.1.octets absent has.2.1.read) (λ rose. inr (inr (refl, rose))) said.0
unstated_faulty layout prefix fault plan before after ending.Write planned said = absurd said
unstated_faulty layout prefix fault plan before after ending.Memory planned said = always_planned layout before.held (IsFaultyFree layout prefix fault) (IsFaultStatus 10 6 before.reads after.reads) (inr (inl refl))
unstated_faulty layout prefix fault plan before after ending.Probe planned said = absurd said
unstated_faulty layout prefix fault plan before after ending.Log planned said = absurd said
unstated_faulty layout prefix fault plan before after ending.Stranger planned said = absurd said
unstated_faulty layout prefix fault plan before after ending.Unquiet planned said = absurd said
unstated_faulty layout prefix fault plan before after ending.State planned said = always_planned layout before.held (IsFaultyFree layout prefix fault) (IsFaultStatus 10 10 before.reads after.reads) (inl refl)
unstated_faulty layout prefix fault plan before after ending.Output planned said = absurd said

abbrev AreDecided : List ℕ → List ℕ → Option Files → ℕ → ℕ → ℕ → Type 0
AreDecided layout prefix held n reads risen = (fault : StateFault) → IfPlanned layout held (IsFaultyFree layout prefix fault) (IsFaultStatus 10 n reads risen)

decided_told : (layout prefix : List ℕ) (held : Option Files) (n reads risen : ℕ) → AreDecided layout prefix held n reads risen
    → IfSome held (λ files. (fault : StateFault) → IsPlannedWith layout (Some files) (λ plan. AreNamesFree layout (RunOf prefix) plan.layout × IsStateFaulty plan (name_of_state prefix) (Some files) fault) → IsFaultStatus 10 n reads risen)
decided_told layout prefix None n reads risen all = tt
decided_told layout prefix (Some files) n reads risen all = all

-- status 10 where the state has a fault
pub state_faults_decide : DoStateFaultsDecide
state_faults_decide words entry exit status answer layout prefix is =
    let n : ℕ = status_of answer.by in
    rw answer.is (decided_told layout prefix entry.held n entry.reads exit.reads (λ fault.
    let N : Files → Plan → Type 0 = IsFaultyIn prefix fault in
    let P : Files → Plan → Type 0 = FreeAnd layout (RunOf prefix) N in
    let X : Type 0 = IsFaultStatus 10 n entry.reads exit.reads in
    by_resume (IfPlanned layout entry.held P X) layout prefix entry exit answer.by
    (λ early. fault_planned layout (RunOf prefix) entry.held N 10 n entry.reads exit.reads (early_known (AreNamesFree layout (RunOf prefix)) (WholeFault 10 entry.reads exit.reads) layout entry exit (whole_fault 10 entry.reads exit.reads) answer.by early))
    (λ taken. fault_planned layout (RunOf prefix) entry.held N 10 n entry.reads exit.reads (taken_known (WholeFault 10 entry.reads exit.reads) layout (RunOf prefix) entry exit (whole_fault 10 entry.reads exit.reads) taken.network answer.by taken.judged taken.said))
    (λ unloaded. fault_planned layout (RunOf prefix) entry.held N 10 n entry.reads exit.reads (unloaded_known (AreNamesFree layout (RunOf prefix)) (WholeFault 10 entry.reads exit.reads) layout entry exit (whole_fault 10 entry.reads exit.reads) unloaded.network answer.by unloaded.judged unloaded.free unloaded.said))
    (λ unrun. always_planned layout entry.held P X (inr (inl (unrun_status entry exit answer.by unrun)))) (λ un. unstated_faulty layout prefix fault un.plan entry exit answer.by un.planned un.said)
    (λ ran. never_planned layout entry.held P X ran.plan ran.planned (λ files told has. faultless ran.plan (name_of_state prefix) files ran.state fault (told_state ran.plan (name_of_state prefix) entry.held files ran.state told ran.read) has.1))
    (resume_end (asked words) layout prefix entry exit answer.by is answer.allowed)))

-- where the loads are whole the status is 4 or 6
abbrev WholeAbsent : ℕ → ℕ → ℕ → Loaded → Type 0
WholeAbsent reads risen n l = (loads : List (List Record)) → l ≡ Whole loads → IsUnreadOrMemory n

whole_absent : (reads risen : ℕ) → SaysOfLoads (WholeAbsent reads risen) reads risen
whole_absent reads risen = record {
  memory = λ l loads is. inr refl;
  rose = λ l rose loads is. inl refl;
  absent = λ a loads is. cc;
  fault = λ s g loads is. cc;
}

absent_planned : (layout : List ℕ) (outputs : ToWrite) (held : Option Files) (P : Files → Plan → Type 0) (n reads risen : ℕ) → IfKnown (AreNamesFree layout outputs) layout held (WholeAbsent reads risen n)
    → IfPlanned layout held (FreeAnd layout outputs P) (IsUnreadOrMemory n)
absent_planned layout outputs None P n reads risen known = tt
absent_planned layout outputs (Some files) P n reads risen known =
    λ has. known (Whole has.1.is.loads) (record { network = has.1.network; judged = has.1.judged; so = of_planned (AreNamesFree layout outputs) layout (Some files) has.0 has.1 has.2.0; is = has.1.is.loaded }) has.1.is.loads refl

abbrev IsAbsentIn : List ℕ → Files → Plan → Type 0
IsAbsentIn prefix files plan = IsAbsent (name_of_state prefix) (Some files)

abbrev IsAbsentFree : List ℕ → List ℕ → Files → Plan → Type 0
IsAbsentFree layout prefix = FreeAnd layout (RunOf prefix) (IsAbsentIn prefix)

pub told_faulty : (plan : Plan) (name : List ℕ) (held : Option Files) (files : Files) (fault : StateFault) → held ≡ Some files → IsStateFaulty plan name held fault → IsStateFaulty plan name (Some files) fault
told_faulty plan name held files fault told has = rw told at has

unstated_absent : (layout prefix : List ℕ) (plan : Plan) (before after : Moment) (e : Ending) → IsPlanned layout before.held plan → IsUnstated plan (name_of_state prefix) before after e
    → IfPlanned layout before.held (IsAbsentFree layout prefix) (IsUnreadOrMemory (status_of e))
unstated_absent layout prefix plan before after ending.Done planned said = absurd said
unstated_absent layout prefix plan before after ending.Words planned said = absurd said
unstated_absent layout prefix plan before after ending.Layout planned said = absurd said
unstated_absent layout prefix plan before after ending.Load planned said = absurd said
unstated_absent layout prefix plan before after ending.Read planned said = always_planned layout before.held (IsAbsentFree layout prefix) (IsUnreadOrMemory 4) (inl refl)
unstated_absent layout prefix plan before after ending.Write planned said = absurd said
unstated_absent layout prefix plan before after ending.Memory planned said = always_planned layout before.held (IsAbsentFree layout prefix) (IsUnreadOrMemory 6) (inr refl)
unstated_absent layout prefix plan before after ending.Probe planned said = absurd said
unstated_absent layout prefix plan before after ending.Log planned said = absurd said
unstated_absent layout prefix plan before after ending.Stranger planned said = absurd said
unstated_absent layout prefix plan before after ending.Unquiet planned said = absurd said
unstated_absent layout prefix plan before after ending.State planned said =
    never_planned layout before.held (IsAbsentFree layout prefix) (IsUnreadOrMemory 10) plan planned
    (λ files told absent. let has = told_faulty plan (name_of_state prefix) before.held files said.0 told said.1 in absent_front (name_of_state prefix) files has.octets absent.1 has.read)
unstated_absent layout prefix plan before after ending.Output planned said = absurd said

-- status 4 where the state isn't held
pub absent_states_decide : DoAbsentStatesDecide
absent_states_decide words entry exit status answer layout prefix is =
    let N : Files → Plan → Type 0 = IsAbsentIn prefix in
    let P : Files → Plan → Type 0 = FreeAnd layout (RunOf prefix) N in
    let n : ℕ = status_of answer.by in
    let X : Type 0 = IsUnreadOrMemory n in
    rw answer.is (by_resume (IfPlanned layout entry.held P X) layout prefix entry exit answer.by
    (λ early. absent_planned layout (RunOf prefix) entry.held N n entry.reads exit.reads (early_known (AreNamesFree layout (RunOf prefix)) (WholeAbsent entry.reads exit.reads) layout entry exit (whole_absent entry.reads exit.reads) answer.by early))
    (λ taken. absent_planned layout (RunOf prefix) entry.held N n entry.reads exit.reads (taken_known (WholeAbsent entry.reads exit.reads) layout (RunOf prefix) entry exit (whole_absent entry.reads exit.reads) taken.network answer.by taken.judged taken.said))
    (λ unloaded. absent_planned layout (RunOf prefix) entry.held N n entry.reads exit.reads (unloaded_known (AreNamesFree layout (RunOf prefix)) (WholeAbsent entry.reads exit.reads) layout entry exit (whole_absent entry.reads exit.reads) unloaded.network answer.by unloaded.judged unloaded.free unloaded.said))
    (λ unrun. always_planned layout entry.held P X (inr (unrun_status entry exit answer.by unrun))) (λ un. unstated_absent layout prefix un.plan entry exit answer.by un.planned un.said)
    (λ ran. never_planned layout entry.held P X ran.plan ran.planned (λ files told absent. let has = told_state ran.plan (name_of_state prefix) entry.held files ran.state told ran.read in absent_front (name_of_state prefix) files has.octets absent.1 has.read))
    (resume_end (asked words) layout prefix entry exit answer.by is answer.allowed))
