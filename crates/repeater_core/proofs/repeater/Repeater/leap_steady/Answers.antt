use Rattle.std.proofs.Common.{◌<◌, ◌∙◌, rules, arith}
use Rattle.std.proofs.lemmas.List.{with_items_is}
use Rattle.repeater_core.proofs.SteadyState.{modes_are}
use Rattle.repeater_core.proofs.LeapedParts.{may_leap, no_event_heard, decided_first, sent_all_along, texts_all_along, steady_leap, emitted_last, decided_last}
use Rattle.repeater_core.proofs.repeater.Repeater.leap_steady.Goals as goal

pub leap_guards-requires-clause-calm : goal.leap_guards-requires-clause-calm
leap_guards-requires-clause-calm c =
    let may = may_leap c.args.n c.args.hears.now _ _ c.self.view_is c.self.invariant c.requires.hears_len c.requires.steady in
    no_event_heard _ _ _ _ _ may c.front.ensures c.deref_mut.ensures.value

pub leap_counts-requires-clause-sent : goal.leap_counts-requires-clause-sent
leap_counts-requires-clause-sent c =
    let may = may_leap c.args.n c.args.hears.now _ _ c.self.view_is c.self.invariant c.requires.hears_len c.requires.steady in
    let some : 0 < c.args.n = (let nz = c.if-n-eq0.false in omega arith) in
    let decided = decided_first _ _ _ _ _ _ may some c.decide_row.ensures c.mode_on.ensures c.deref.ensures.value in
    sent_all_along _ _ _ _ _ may some decided c.deref_mut-2.ensures.value

pub leap_line-self-inside-requires-clause-modes : goal.leap_line-self-inside-requires-clause-modes
leap_line-self-inside-requires-clause-modes c =
    let may = may_leap c.args.n c.args.hears.now _ _ c.self.view_is c.self.invariant c.requires.hears_len c.requires.steady in
    modes_are _ _ _ may.state may.ports may.steady

pub leap_line-self-inside-requires-clause-texts : goal.leap_line-self-inside-requires-clause-texts
leap_line-self-inside-requires-clause-texts c =
    let may = may_leap c.args.n c.args.hears.now _ _ c.self.view_is c.self.invariant c.requires.hears_len c.requires.steady in
    let some : 0 < c.args.n = (let nz = c.if-n-eq0.false in omega arith) in
    let decided = decided_first _ _ _ _ _ _ may some c.decide_row.ensures c.mode_on.ensures c.deref.ensures.value in
    texts_all_along _ _ _ _ may decided

pub invariant_of-self : goal.invariant_of-self
invariant_of-self c =
    let q = c.self.inside in
    let may = may_leap c.args.n c.args.hears.now _ _ c.self.view_is c.self.invariant c.requires.hears_len c.requires.steady in
    let some : 0 < c.args.n = (let nz = c.if-n-eq0.false in omega arith) in
    let decided = decided_first _ _ _ _ _ _ may some c.decide_row.ensures c.mode_on.ensures c.deref.ensures.value in
    (steady_leap _ _ _ _ _ _ _ _ _ _ _ _ c.self.view_is may c.front.ensures decided c.deref_mut.ensures.value c.deref_mut-2.ensures.value c.leap_line-self-inside.ensures.mode
    (with_items_is q.guards c.leap_guards.new.guards (search rules) ∙ c.leap_guards.ensures) (with_items_is q.counts c.leap_counts.new.counts (search rules) ∙ c.leap_counts.ensures) c.leap_line-self-inside.ensures.line).0

pub returns-clause-state : goal.returns-clause-state
returns-clause-state c =
    let q = c.self.inside in
    let may = may_leap c.args.n c.args.hears.now _ _ c.self.view_is c.self.invariant c.requires.hears_len c.requires.steady in
    let some : 0 < c.args.n = (let nz = c.if-n-eq0.false in omega arith) in
    let decided = decided_first _ _ _ _ _ _ may some c.decide_row.ensures c.mode_on.ensures c.deref.ensures.value in
    (steady_leap _ _ _ _ _ _ _ _ _ _ _ _ c.self.view_is may c.front.ensures decided c.deref_mut.ensures.value c.deref_mut-2.ensures.value c.leap_line-self-inside.ensures.mode
    (with_items_is q.guards c.leap_guards.new.guards (search rules) ∙ c.leap_guards.ensures) (with_items_is q.counts c.leap_counts.new.counts (search rules) ∙ c.leap_counts.ensures) c.leap_line-self-inside.ensures.line).1

pub returns-clause-emits : goal.returns-clause-emits
returns-clause-emits c = λ some.
    let may = may_leap c.args.n c.args.hears.now _ _ c.self.view_is c.self.invariant c.requires.hears_len c.requires.steady in
    let decided = decided_first _ _ _ _ _ _ may some c.decide_row.ensures c.mode_on.ensures c.deref.ensures.value in
    emitted_last _ _ _ _ _ _ c.self.view_is may some decided (c.leap_line-self-inside.ensures.emits some)

pub returns-clause-decided : goal.returns-clause-decided
returns-clause-decided c = λ some.
    let may = may_leap c.args.n c.args.hears.now _ _ c.self.view_is c.self.invariant c.requires.hears_len c.requires.steady in
    let decided = decided_first _ _ _ _ _ _ may some c.decide_row.ensures c.mode_on.ensures c.deref.ensures.value in
    decided_last _ _ _ _ _ _ c.self.view_is may some decided (c.leap_line-self-inside.ensures.decided some)
