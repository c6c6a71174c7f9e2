use Rattle.std.proofs.Common.{◌<◌, ◌∙◌, length, map, sym, ap, subst, rules, arith}
use Rattle.std.proofs.lemmas.List.{with_items_is, length-map}
use Rattle.repeater_core.specs.SilentParts.{silent_guard}
use Rattle.repeater_core.specs.Step.{RepeaterDevice}
use Rattle.repeater_core.specs.Calm.{IsCalm}
use Rattle.repeater_core.proofs.CalmIsExact.{calm_within, line_within, leap_told}
use Rattle.repeater_core.proofs.repeater.Repeater.leap.Goals as goal

pub leap-requires-clause-calm : goal.leap-requires-clause-calm
leap-requires-clause-calm c =
    let q = c.self.inside in
    let r : RepeaterDevice = record { mode = q.mode; guards = q.guards.items; counts = q.counts.items; line = q.line } in
    let calm = calm_within c.args.n r c.self.invariant (subst (λ r. IsCalm r c.args.n) (sym c.self.view_is) c.requires) in
    let within = line_within r in omega arith

pub invariant_of-self : goal.invariant_of-self
invariant_of-self c =
    let q = c.self.inside in
    let some : 0 < c.args.n = (let nz = c.if-n-eq0.false in omega arith) in
    (leap_told c.args.n _ _ _ _ _ _ _ _ c.self.view_is c.self.invariant c.requires some c.silent_mode-self-inside.ensures c.deref_mut.ensures.value c.deref_mut-2.ensures.value
    (with_items_is q.guards c.silent_guards.new.guards (search rules) ∙ c.silent_guards.ensures) (with_items_is q.counts c.silent_counts.new.counts (search rules) ∙ c.silent_counts.ensures) c.leap.ensures).0

pub returns-clause-state : goal.returns-clause-state
returns-clause-state c =
    let q = c.self.inside in
    let some : 0 < c.args.n = (let nz = c.if-n-eq0.false in omega arith) in
    (leap_told c.args.n _ _ _ _ _ _ _ _ c.self.view_is c.self.invariant c.requires some c.silent_mode-self-inside.ensures c.deref_mut.ensures.value c.deref_mut-2.ensures.value
    (with_items_is q.guards c.silent_guards.new.guards (search rules) ∙ c.silent_guards.ensures) (with_items_is q.counts c.silent_counts.new.counts (search rules) ∙ c.silent_counts.ensures) c.leap.ensures).1

pub returns-clause-ports : goal.returns-clause-ports
returns-clause-ports c =
    let q = c.self.inside in
    let guards = with_items_is q.guards c.silent_guards.new.guards (search rules) in
    ap length (guards ∙ c.silent_guards.ensures ∙ ap (map silent_guard) c.deref_mut.ensures.value) ∙ length-map q.guards.items silent_guard ∙ ap (λ (r : RepeaterDevice). length r.guards) c.self.view_is
