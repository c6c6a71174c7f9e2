-- Half bits in which nothing but Idle goes over edges (profile). Edges, half bits and places in a list count from 0.
use Rattle.std.specs.Prelude.{ℕ, ◌≡◌, ◌+◌, ◌<◌, List, length, slice_index}
use Rattle.manchester_line.specs.declared.Sym.TheVariants.{Idle}
use Rattle.load_plan.specs.declared.plan.Plan.{Plan}
use Rattle.network.specs.Times.{decided}
use Rattle.net_parts.specs.Standing.{port_hears}

-- The ports of these edges hear Idle in the n half bits from t on (profile).
abbrev pub PortsHearIdle : Plan → List ℕ → ℕ → ℕ → Type 0
PortsHearIdle plan es t n =
    (p j : ℕ) → p < length es → j < n → port_hears plan (slice_index es p) (t + j) ≡ Idle

-- Idle is decided for the ports of these edges in the n half bits from t on (clause 9).
abbrev pub AreDecidedIdle : Plan → List ℕ → ℕ → ℕ → Type 0
AreDecidedIdle plan es t n = (p j : ℕ) → p < length es → j < n → decided plan (slice_index es p) (t + j) ≡ Idle
