use Rattle.std.proofs.Common.{◌≡◌, ◌++◌, drop}
use Rattle.std.specs.List.{flat_map}
use Rattle.run_page.specs.LayoutLines.{station_line}
use Rattle.run_page.proofs.layout_lines.add_stations.Given as goal

abbrev pub invariant-loop-station : goal.invariant-loop-station
invariant-loop-station l = l.text ++ flat_map (station_line l.layout) (drop l.station-index l.stations) ≡ l.fn.text ++ flat_map (station_line l.layout) l.stations
