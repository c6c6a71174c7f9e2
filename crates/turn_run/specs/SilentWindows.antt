-- Half bits in which nothing but Idle goes over edges (profile). Edges, half bits and places in a list count from 0.
use Rattle.std.specs.Prelude.{ℕ, ◌≡◌, ◌+◌, ◌<◌, ◌≤◌, List, length, slice_index}
use Rattle.manchester_line.specs.declared.Sym.{Sym}
use Rattle.manchester_line.specs.declared.Sym.TheVariants.{Idle}
use Rattle.net_parts.specs.declared.parcel.Parcel.{Parcel}

-- Nothing but Idle goes over these edges in the n half bits from t on, where f says what goes over an edge in a half
-- bit (profile).
abbrev pub IsIdleOver : (ℕ → ℕ → Sym) → List ℕ → ℕ → ℕ → Type 0
IsIdleOver f es t n = (p j : ℕ) → p < length es → j < n → f (slice_index es p) (t + j) ≡ Idle

-- In the n half bits from t on, nothing but Idle goes out over these edges as long as nothing but Idle comes in
-- (profile).
abbrev pub StaysIdle : (ℕ → ℕ → Sym) → (ℕ → ℕ → Sym) → List ℕ → ℕ → ℕ → Type 0
StaysIdle comes goes es t n = (m : ℕ) → m ≤ n → IsIdleOver comes es t m → IsIdleOver goes es t m

-- A parcel with this stamp (profile).
abbrev pub stamped : ℕ → Parcel → Parcel
stamped w p = record p { window = w }
