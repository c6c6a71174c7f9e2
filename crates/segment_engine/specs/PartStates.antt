-- The parcels of a segment's edges over a window (profile). Half bits, edges and windows count from 0.
use Rattle.std.specs.Prelude.{ℕ, ◌+◌, ◌-◌, ◌*◌, false, true, ◌++◌, take}
use Rattle.load_plan.specs.declared.plan.Plan.{Plan}
use Rattle.net_parts.specs.declared.parcel.Parcel.{Parcel}
use Rattle.net_parts.specs.Machines.{span}
use Rattle.net_parts.specs.Standing.{arrives, port_hears}

-- The parcel of edge e when k half bits of window w are made: what its port heard in them, and then what came in for
-- the others, where a window has L half bits (profile).
abbrev pub half_filled : Plan → ℕ → ℕ → ℕ → ℕ → Parcel
half_filled plan L w k e = record {
  edge = e;
  window = w;
  to_repeater = false;
  symbols = span (port_hears plan e) (w * L) k ++ span (arrives plan L e) (w * L + k) (L - k);
  spoiled = false;
}

-- A parcel on the way to its repeater, with its first n symbols (profile).
abbrev pub turned_to_repeater : ℕ → Parcel → Parcel
turned_to_repeater n p = record p { symbols = take n p.symbols; to_repeater = true }
