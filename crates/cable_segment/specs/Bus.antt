-- What the taps of a segment hear of one another (clause 8; that a tap does not hear itself is profile).
use Rattle.std.specs.Prelude.{ℕ, ◌+◌, ◌==◌, if◌then◌else◌, List, [], ◌∷◌, slice_index}
use Rattle.manchester_line.specs.declared.Sym.{Sym}
use Rattle.manchester_line.specs.declared.Sym.TheVariants.{Idle}
use Rattle.manchester_line.specs.Line.{mix_of}
use Rattle.mac_parameters.specs.Distances.{distance}

-- What tap `tap`, whose place is `at` half bits from the cable's end, hears of the taps at these places, which are
-- numbered from q on: what each of them but itself emitted as many half bits ago as it is away, mixed. told back q is
-- what tap q emitted `back` half bits ago.
abbrev pub heard_among : (ℕ → ℕ → Sym) → ℕ → ℕ → ℕ → List ℕ → Sym
heard_among told tap at q [] = Idle
heard_among told tap at q (p ∷ ps) =
    mix_of (if q == tap then Idle else told (distance at p) q) (heard_among told tap at (q + 1) ps)

-- what a tap, from 0, of a segment hears, given what each tap emitted and the place of each in half bits
abbrev pub heard_at : (ℕ → ℕ → Sym) → List ℕ → ℕ → Sym
heard_at told positions tap = heard_among told tap (slice_index positions tap) 0 positions
