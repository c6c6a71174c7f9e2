use Rattle.std.proofs.Common.{◌≡◌, ℕ, ◌<◌, map, Some}
use Rattle.std.specs.Prelude.{slice_get}
use Rattle.line_probe.proofs.tap.station_named.Given as goal

abbrev pub invariant-stations : goal.invariant-stations
invariant-stations l = (j : ℕ) → j < l.k → slice_get (map (λ s. s.name) l.stations) j ≡ Some l.word → ⊥
