use Rattle.std.proofs.Common.{◌<◌, ◌∙◌, length, ap, subst, arith, rules}
use Rattle.std.proofs.lemmas.List.{with_items_is}
use Rattle.std.proofs.lemmas.Grind.{common_steps}
use Rattle.repeater_core.specs.Step.{RepeaterDevice, IsState, decided_by}
use Rattle.repeater_core.specs.Classes.{texts_after}
use Rattle.repeater_core.proofs.SteadyState.{modes_are}
use Rattle.repeater_core.proofs.SteadyRows.{steps_are, decisions_are, emissions_are}
use Rattle.repeater_core.proofs.LeapedParts.{may_leap, no_event_heard, decided_first, sent_all_along, texts_keep, class_leap}
use Rattle.repeater_core.proofs.repeater.Repeater.leap_classes.Goals as goal

pub leap_guards-requires-clause-calm : goal.leap_guards-requires-clause-calm
leap_guards-requires-clause-calm c =
    let may = may_leap (length c.args.heard.now) c.args.hears.now _ _ c.self.view_is c.self.invariant c.requires.hears_len c.requires.steady in
    no_event_heard _ _ _ _ _ may c.front.ensures c.deref_mut.ensures.value

pub leap_counts-requires-clause-sent : goal.leap_counts-requires-clause-sent
leap_counts-requires-clause-sent c =
    let may = may_leap (length c.args.heard.now) c.args.hears.now _ _ c.self.view_is c.self.invariant c.requires.hears_len c.requires.steady in
    let some : 0 < length c.args.heard.now = grind (arith, common_steps) in
    let decided = decided_first _ _ _ _ _ _ may some c.decide_row.ensures c.mode_on.ensures c.deref.ensures.value in
    sent_all_along _ _ _ _ _ may some decided c.deref_mut-2.ensures.value

pub leap_texts-self-inside-requires-clause-modes : goal.leap_texts-self-inside-requires-clause-modes
leap_texts-self-inside-requires-clause-modes c =
    let may = may_leap (length c.args.heard.now) c.args.hears.now _ _ c.self.view_is c.self.invariant c.requires.hears_len c.requires.steady in
    modes_are _ _ _ may.state may.ports may.steady

pub leap_texts-self-inside-requires-clause-alike : goal.leap_texts-self-inside-requires-clause-alike
leap_texts-self-inside-requires-clause-alike c =
    let may = may_leap (length c.args.heard.now) c.args.hears.now _ _ c.self.view_is c.self.invariant c.requires.hears_len c.requires.steady in
    let some : 0 < length c.args.heard.now = grind (arith, common_steps) in
    let decided = decided_first _ _ _ _ _ _ may some c.decide_row.ensures c.mode_on.ensures c.deref.ensures.value in
    texts_keep _ _ _ _ _ c.self.view_is may some c.requires.source decided

pub invariant_of-self : goal.invariant_of-self
invariant_of-self c =
    let q = c.self.inside in
    let may = may_leap (length c.args.heard.now) c.args.hears.now _ _ c.self.view_is c.self.invariant c.requires.hears_len c.requires.steady in
    let some : 0 < length c.args.heard.now = grind (arith, common_steps) in
    let decided = decided_first _ _ _ _ _ _ may some c.decide_row.ensures c.mode_on.ensures c.deref.ensures.value in
    (class_leap c.args.hears.now c.args.heard.now _ _ _ _ _ _ _ _ _ _ c.self.view_is may some c.requires.source c.front.ensures decided c.deref_mut.ensures.value c.deref_mut-2.ensures.value c.leap_texts-self-inside.ensures.mode
    (with_items_is q.guards c.leap_guards.new.guards (search rules) ∙ c.leap_guards.ensures) (with_items_is q.counts c.leap_counts.new.counts (search rules) ∙ c.leap_counts.ensures) c.leap_texts-self-inside.ensures.line).0

pub returns-clause-state : goal.returns-clause-state
returns-clause-state c =
    let q = c.self.inside in
    let may = may_leap (length c.args.heard.now) c.args.hears.now _ _ c.self.view_is c.self.invariant c.requires.hears_len c.requires.steady in
    let some : 0 < length c.args.heard.now = grind (arith, common_steps) in
    let decided = decided_first _ _ _ _ _ _ may some c.decide_row.ensures c.mode_on.ensures c.deref.ensures.value in
    (class_leap c.args.hears.now c.args.heard.now _ _ _ _ _ _ _ _ _ _ c.self.view_is may some c.requires.source c.front.ensures decided c.deref_mut.ensures.value c.deref_mut-2.ensures.value c.leap_texts-self-inside.ensures.mode
    (with_items_is q.guards c.leap_guards.new.guards (search rules) ∙ c.leap_guards.ensures) (with_items_is q.counts c.leap_counts.new.counts (search rules) ∙ c.leap_counts.ensures) c.leap_texts-self-inside.ensures.line).1

pub returns-clause-decided : goal.returns-clause-decided
returns-clause-decided c = λ some.
    let may = may_leap (length c.args.heard.now) c.args.hears.now _ _ c.self.view_is c.self.invariant c.requires.hears_len c.requires.steady in
    decided_first _ _ _ _ _ _ may some c.decide_row.ensures c.mode_on.ensures c.deref.ensures.value ∙ ap (decided_by c.args.hears.now) c.self.view_is

pub returns-clause-steps : goal.returns-clause-steps
returns-clause-steps c = λ rows heard_as. steps_are rows c.args.hears.now c.args.heard.now c.args.self.now c.requires.steady heard_as

pub returns-clause-decisions : goal.returns-clause-decisions
returns-clause-decisions c = λ rows heard_as.
    let texts = c.leap_texts-self-inside.ensures.sent ∙ ap (λ (r : RepeaterDevice). texts_after r.mode c.args.heard.now) c.self.view_is in
    decisions_are rows c.args.hears.now c.args.heard.now c.leap_texts-self-inside.new.sent c.args.self.now texts c.requires.steady heard_as

pub returns-clause-emissions : goal.returns-clause-emissions
returns-clause-emissions c = λ rows heard_as.
    emissions_are rows c.args.hears.now c.args.heard.now c.args.self.now (subst IsState c.self.view_is c.self.invariant) c.requires.hears_len heard_as
