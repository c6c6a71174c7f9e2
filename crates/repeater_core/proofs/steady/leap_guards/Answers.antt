use Rattle.std.proofs.Common.{◌≡◌, ◌+◌, ◌<◌, length, suc, arith}
use Rattle.std.proofs.lemmas.Grind.{common_steps}
use Rattle.repeater_core.proofs.SteadyLeap.{no_event_at, guard_put, guard_behind}
use Rattle.repeater_core.proofs.steady.leap_guards.Goals as goal

pub leap-requires-clause-calm : goal.leap-requires-clause-calm
leap-requires-clause-calm c =
    let l : c.loop-k.k < length c.args.guards.now = omega arith in
    let lh : c.loop-k.k < length c.args.hears.now = omega arith in
    let le : c.loop-k.k < length c.args.emits.now = omega arith in
    no_event_at c.args.n c.loop-k.k c.is_signal.result c.collision_at.result c.is_signal-in-loop-k.result c.args.hears.now c.args.emits.now c.args.guards.now c.loop-k.guards _ _ _ l lh le
    c.loop-k.invariant.behind c.requires.calm c.is_signal.ensures c.collision_at.ensures c.is_signal-in-loop-k.ensures

pub loop-k-preserved : goal.loop-k-preserved
loop-k-preserved c =
    let i = c.loop-k.invariant in
    let l : c.loop-k.k < length c.loop-k.guards = omega arith in
    let m : c.loop-k.k + 1 ≡ suc c.loop-k.k = omega arith in
    record {
      len = grind (arith, common_steps);
      states =
          guard_put c.args.n c.loop-k.k (c.loop-k.k + 1) c.is_signal.result c.collision_at.result c.is_signal-in-loop-k.result c.args.hears.now c.args.emits.now c.loop-k.guards _ c.leap.new.self _ _ _ m l (omega arith) (omega arith)
          c.is_signal.ensures c.collision_at.ensures c.is_signal-in-loop-k.ensures c.leap.ensures i.states;
      behind = guard_behind c.loop-k.k c.args.guards.now c.loop-k.guards c.leap.new.self i.behind;
    }
