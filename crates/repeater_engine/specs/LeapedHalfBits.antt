-- Half bits of a window that a repeater makes at once: those in which each port, a closed one too, hears symbols of one
-- class, and nothing happens but counts (profile, for the modes and guards of clause 9). Half bits, ports and places in
-- a list count from 0.
use Rattle.std.specs.Prelude.{◌≡◌, ℕ, ◌+◌, ◌<◌, ◌≤◌, List, map, length, slice_index_or}
use Rattle.std.specs.List.{All, AllByRecursion}
use Rattle.manchester_line.specs.declared.Sym.{Sym}
use Rattle.manchester_line.specs.declared.Sym.TheVariants.{Idle}
use Rattle.manchester_line.specs.Line.{is_signal}
use Rattle.repeater_core.specs.Classes.{class_of}
use Rattle.net_parts.specs.declared.parcel.Parcel.{Parcel}
use Rattle.net_parts.specs.Machines.{span, Ran, run_rows}
use Rattle.net_parts.specs.RepeaterParts.{RepeaterState, repeater_machine}
use Rattle.repeater_engine.specs.KeptRepeaters.{piece_of, row_brought, with_piece}

-- What parcels bring for the m half bits of a window from k on: a row for each half bit (profile).
abbrev pub rows_brought : ℕ → ℕ → List Parcel → List (List Sym)
rows_brought k m parcels = span (λ j. row_brought j parcels) k m

-- Each parcel has symbols for the m half bits of a window from k on (profile).
abbrev pub ReachFrom : ℕ → ℕ → List Parcel → Type 0
ReachFrom k m parcels = All (λ p. k + m ≤ length p.symbols) parcels

-- These rows have, place by place, symbols of the classes of this row: Idle, a signal of either level, or Clash
-- (profile).
abbrev pub AreOfClasses : List Sym → List (List Sym) → Type 0
AreOfClasses heard rows = AllByRecursion (λ row. map class_of row ≡ map class_of heard) rows

-- What a repeater that is this device makes of half bits in which its ports hear these rows: how it stands after them,
-- and what is decided for its ports in each (clause 9, profile).
abbrev pub made_of : ℕ → List (List Sym) → RepeaterState → Ran RepeaterState
made_of device rows s = run_rows (repeater_machine device) rows s

-- The parcels have these rows for the half bits of a window from k on, and are else as they were (profile).
abbrev pub HaveRows : ℕ → List (List Sym) → List Parcel → List Parcel → Type 0
HaveRows k rows old new =
    (p : ℕ) (d : Parcel) → p < length new
    → slice_index_or new p d ≡ with_piece k (map (λ row. slice_index_or row p Idle) rows) (slice_index_or old p d)

-- The parcels of the ports that are sent a signal in this row have what is sent for the half bits of a window from k
-- on, the others Idle, and all are else as they were (profile).
abbrev pub HavePieces : ℕ → List Sym → List Sym → List Parcel → List Parcel → Type 0
HavePieces k decided sent old new =
    (p : ℕ) (d : Parcel) → p < length new
    → slice_index_or new p d
    ≡ with_piece k (piece_of (is_signal (slice_index_or decided p Idle)) sent) (slice_index_or old p d)
