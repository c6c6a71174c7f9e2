use Rattle.std.proofs.Common.{◌<◌, length, refl, rules, arith}
use Rattle.load_files.specs.Loaded.{IsUnloadedOf}
use Rattle.load_files.proofs.LoadsSoFar.{element-at, loaded-none, loaded-stopped, held-same}
use Rattle.load_files.proofs.loads.read_loads.Goals as goal

pub loop-k-init : goal.loop-k-init
loop-k-init g c = (rw c.new-loads.ensures (loaded-none (g.S.Store.held c.args.store.now) c.args.stations.now), search rules, search rules, search rules, search rules, refl, omega arith, omega arith)

pub returns-in-Err-clause-stopped : goal.returns-in-Err-clause-stopped
returns-in-Err-clause-stopped g c =
    let s = c.index-stations-k.result in
    let within : c.loop-k.k < length c.args.stations.now = search rules in
    let e = element-at c.args.stations.now c.loop-k.k s within c.index-stations-k.is in
    let stopped : IsUnloadedOf c.loop-k.before s.load (g.S.Store.held c.args.store.now) (g.S.Store.read_faults c.loop-k.store) (g.S.Store.read_faults c.read_station.new.store) c.in-Err.unloaded =
    held-same c.loop-k.before s.load _ _ _ _ _ c.loop-k.invariant.5 c.in-Err.ensures.stopped in
    rw c.stop_at.ensures (loaded-stopped (g.S.Store.held c.args.store.now) c.args.stations.now c.loop-k.loads c.loop-k.before c.loop-k.k s s.load _ _ _ c.in-Err.unloaded e.0 e.1 refl (omega arith) c.loop-k.invariant.0 stopped)
