use Rattle.std.proofs.Common.{◌≡◌, rules, Some}
use Rattle.load_files.proofs.LoadsSoFar.{most-after, station-load, station-stopped}
use Rattle.load_files.proofs.loads.read_station.Goals as goal

pub returns-in-Some-clause-load : goal.returns-in-Some-clause-load
returns-in-Some-clause-load g c =
    let name : c.args.station.now.load ≡ Some c.as_str.result.now = search rules in
    station-load c.args.before c.args.station.now.load c.as_str.result.now (g.S.Store.held c.args.store.now) _ c.read_load.result name (most-after c.args.before _ c.min-most.ensures) c.read_load.ensures.records c.read_load.ensures.octets

pub returns-in-Some-clause-stopped : goal.returns-in-Some-clause-stopped
returns-in-Some-clause-stopped g c =
    let name : c.args.station.now.load ≡ Some c.as_str.result.now = search rules in
    station-stopped c.args.before c.args.station.now.load c.as_str.result.now (g.S.Store.held c.args.store.now) _ _ _ c.read_load.result name (most-after c.args.before _ c.min-most.ensures) c.read_load.ensures.stopped
