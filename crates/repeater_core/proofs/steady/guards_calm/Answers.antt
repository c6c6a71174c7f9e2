use Rattle.std.proofs.Common.{◌≡◌, ◌+◌, sym, subst, inl, inr, arith, get_or}
use Rattle.std.proofs.lemmas.Bool.{cases_lt}
use Rattle.std.proofs.lemmas.Grind.{common_steps}
use Rattle.manchester_line.specs.declared.Sym.TheVariants.{Idle}
use Rattle.manchester_line.specs.Line.{is_signal}
use Rattle.port_partition.specs.Guard.{new_guard}
use Rattle.port_partition.specs.Alike.{HasNoEvent}
use Rattle.repeater_core.specs.Step.{collides}
use Rattle.repeater_core.proofs.SteadyLeap.{told_at, back_at}
use Rattle.repeater_core.proofs.steady.guards_calm.Goals as goal

pub loop-k-preserved : goal.loop-k-preserved
loop-k-preserved c =
    let hears = c.args.hears.now in
    let emits = c.args.emits.now in
    let guards = c.args.guards.now in
    let i = c.loop-k.k in
    let before = c.loop-k.calm in
    let here = c.calm.result in
    let guard : get_or guards i new_guard ≡ c.index-guards-k.result = grind (arith, common_steps) in
    record {
      none = λ q b k d. elim (cases_lt q i) [
        | inl l ↦ c.loop-k.invariant.none q l k (omega arith)
        | inr l ↦
            let same : i ≡ q = omega arith in
            let none = subst (λ x. HasNoEvent c.is_signal.result c.collision_at.result c.is_signal-in-loop-k.result here x) (sym guard) c.calm.ensures.calm in
            let told = told_at here i c.is_signal.result c.collision_at.result c.is_signal-in-loop-k.result hears emits guards _ _ new_guard (omega arith) (omega arith) (omega arith) c.is_signal.ensures c.collision_at.ensures c.is_signal-in-loop-k.ensures none in
            subst (λ j. HasNoEvent (is_signal (get_or hears j Idle)) (collides (get_or hears j Idle) (get_or emits j Idle)) (is_signal (get_or emits j Idle)) here (get_or guards j new_guard)) same told k (omega arith)
      ];
      some = λ few all. elim (cases_lt here before) [
        | inl l ↦
            let least : c.min-calm.result ≡ here = omega arith in
            let told = back_at (c.min-calm.result + 1) i c.is_signal.result c.collision_at.result c.is_signal-in-loop-k.result hears emits guards _ _ new_guard (omega arith) (omega arith) (omega arith) c.is_signal.ensures c.collision_at.ensures c.is_signal-in-loop-k.ensures (all i (omega arith)) in
            let none = subst (λ x. HasNoEvent c.is_signal.result c.collision_at.result c.is_signal-in-loop-k.result (c.min-calm.result + 1) x) guard told in
            c.calm.ensures.greatest (omega arith) (none here (omega arith))
        | inr l ↦
            let least : c.min-calm.result ≡ before = omega arith in
            c.loop-k.invariant.some (omega arith) (λ q b k d. all q (omega arith) k (omega arith))
      ];
    }

pub returns-clause-greatest : goal.returns-clause-greatest
returns-clause-greatest c = λ few all. c.loop-k.invariant.some few (λ q b. all q (omega arith))
