use Rattle.std.proofs.Common.{◌≡◌, ◌∙◌, replicate, ap, subst, refl, rules, arith}
use Rattle.std.proofs.lemmas.Grind.{common_steps}
use Rattle.manchester_line.specs.declared.Sym.TheVariants.{Idle}
use Rattle.repeater_core.specs.declared.modes.Mode.TheVariants as mode
use Rattle.repeater_core.specs.Step.{IsState, mode_next, chosen}
use Rattle.repeater_core.proofs.SilentPorts.{idle_decides}
use Rattle.repeater_core.proofs.Lawful.{step_state}
use Rattle.repeater_core.proofs.UnchangedStep.{unchanged_is, law_repeats, law_ends_long, law_no_clash, law_no_clash_emitted}
use Rattle.repeater_core.proofs.repeater.Repeater.step.Goals as goal

pub invariant_of-self : goal.invariant_of-self
invariant_of-self c =
    let q = c.self.inside in
    step_state _ _ _ _ c.args.hears.now (record { mode = q.mode; guards = q.guards.items; counts = q.counts.items; line = q.line })
    (search rules) (grind (arith, common_steps)) (grind (arith, common_steps)) (search rules) c.self.invariant

pub step-requires-clause-idle : goal.step-requires-clause-idle
step-requires-clause-idle c = λ yes.
    let m : c.next_mode-self-inside.result ≡ mode.Idle = grind (arith, common_steps) in
    idle_decides c.next_mode-self-inside.result c.args.hears.now _ _ m c.decide_all-halted.ensures.decided

pub returns-clause-decided : goal.returns-clause-decided
unfolding mode_next chosen
returns-clause-decided c = search rules

pub returns-clause-repeats : goal.returns-clause-repeats
returns-clause-repeats c = law_repeats c.args.self.now c.args.hears.now _ c.requires.hears_len (returns-clause-decided c)

pub returns-clause-ends_long : goal.returns-clause-ends_long
returns-clause-ends_long c = law_ends_long c.args.self.now c.args.hears.now _ (subst IsState c.self.view_is c.self.invariant) (returns-clause-decided c)

pub returns-clause-no_clash_emitted : goal.returns-clause-no_clash_emitted
returns-clause-no_clash_emitted c = law_no_clash_emitted c.args.self.now _ (subst IsState c.self.view_is c.self.invariant) (search rules)

pub returns-clause-no_clash_decided : goal.returns-clause-no_clash_decided
returns-clause-no_clash_decided c = law_no_clash c.args.self.now c.args.hears.now _ (returns-clause-decided c)

pub returns-then-is_unchanged : goal.returns-then-is_unchanged
returns-then-is_unchanged c =
    let r = c.args.self.now in
    let ss = c.args.hears.now in
    let h = subst IsState c.self.view_is c.self.invariant in
    let emits = c.fill_idle.ensures ∙ ap (λ n. replicate n Idle) c.requires.emits_len in
    let decided = c.fill_idle-then-is_unchanged.ensures ∙ ap (λ n. replicate n Idle) c.requires.decided_len in
    let unchanged = unchanged_is ss r c.fill_idle.new.symbols c.fill_idle-then-is_unchanged.new.symbols h (c.is_unchanged.ensures c.if-is_unchanged.true) (c.all_idle.ensures c.if-all_idle.true) c.requires.hears_len emits decided in
    record {
      state = unchanged.state;
      ports = refl;
      emits = unchanged.emits;
      decided = unchanged.decided;
      clash = unchanged.clash;
      closed = unchanged.closed;
      opened = unchanged.opened;
      halted = unchanged.halted;
      repeats = law_repeats r ss c.fill_idle-then-is_unchanged.new.symbols c.requires.hears_len unchanged.decided;
      ends_long = law_ends_long r ss c.fill_idle-then-is_unchanged.new.symbols h unchanged.decided;
      no_clash_emitted = law_no_clash_emitted r c.fill_idle.new.symbols h unchanged.emits;
      no_clash_decided = law_no_clash r ss c.fill_idle-then-is_unchanged.new.symbols unchanged.decided;
    }
