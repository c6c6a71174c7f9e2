-- What the code's surroundings of a row stand for.
use Rattle.std.specs.Prelude.{map}
use Rattle.layout_file.specs.declared.rows.Surroundings.{Surroundings}
use Rattle.layout_file.specs.RowFaults.{Around}

-- what the tests of a row know, as lists
abbrev pub around : Surroundings → Around
around s = record {
  two = s.two;
  segments = map (λ n. n.now) s.segments.now;
  stations = map (λ n. n.now) s.stations.now;
}
