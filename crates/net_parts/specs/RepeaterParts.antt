-- A repeater as a part (profile, in the manner of clause 9). Half bits, repeaters, devices and edges count from 0.
use Rattle.std.specs.Prelude.{ℕ, zero, suc, ◌+◌, List, [], ◌∷◌, ◌++◌, length}
use Rattle.manchester_line.specs.declared.Sym.{Sym}
use Rattle.collision_log.specs.declared.row.Row.{Row}
use Rattle.layout.specs.declared.lines.Layout.{Layout}
use Rattle.layout.specs.declared.lines.RepeaterLine.{RepeaterLine}
use Rattle.repeater_core.specs.Step.{RepeaterDevice, after, decided_by}
use Rattle.network.specs.Rows.{rows_of_bodies, repeater_bodies}
use Rattle.net_parts.specs.Machines.{span, Machine}

-- A repeater before half bit t, and its rows (profile).
pub record RepeaterState : Type 0 where
  pub t : ℕ
  pub repeater : RepeaterDevice
  pub rows : List Row

-- One half bit of the repeater that is this device, in which its ports hear this row (clause 9, profile).
abbrev pub repeater_step : ℕ → List Sym → RepeaterState → RepeaterState
repeater_step device row s = record {
  t = s.t + 1;
  repeater = after row s.repeater;
  rows = s.rows ++ rows_of_bodies s.t device (repeater_bodies row s.repeater);
}

-- A repeater as a machine: what its ports hear comes in, and what is decided for them goes out (profile).
abbrev pub repeater_machine : ℕ → Machine RepeaterState
repeater_machine device = record { step = repeater_step device; gives = λ row s. decided_by row s.repeater }

-- How many edges the first i repeaters have (profile).
abbrev pub edges_before : List RepeaterLine → ℕ → ℕ
edges_before (r ∷ rs) (suc i) = length r.ports + edges_before rs i
edges_before _ _ = 0

-- How many edges repeater i has, and none where there is no such repeater (profile).
abbrev pub edges_in : List RepeaterLine → ℕ → ℕ
edges_in [] i = 0
edges_in (r ∷ rs) zero = length r.ports
edges_in (r ∷ rs) (suc i) = edges_in rs i

-- The edges of repeater i, ascending (profile).
abbrev pub edges_at : Layout → ℕ → List ℕ
edges_at l i = span (λ e. e) (edges_before l.repeaters i) (edges_in l.repeaters i)
