-- What each tap of a network hears of the others (clause 8, in the profile's half bits).
use Rattle.std.specs.Prelude.{ℕ, ◌+◌, ◌==◌, ◌&&◌, not, if◌then◌else◌, List, [], ◌∷◌}
use Rattle.manchester_line.specs.declared.Sym.{Sym}
use Rattle.manchester_line.specs.declared.Sym.TheVariants.{Idle}
use Rattle.manchester_line.specs.Line.{mix_of}
use Rattle.mac_parameters.specs.Distances.{distance}
use Rattle.layout.specs.declared.lines.PortLine.{PortLine}

-- What tap p, which is `here`, hears of these taps, the first of which is tap q, where told back q is what tap q
-- emitted `back` half bits ago: the mix over those of its segment but itself, each as many half bits ago as it is
-- away. Taps count from 0.
abbrev pub heard_of : (ℕ → ℕ → Sym) → ℕ → PortLine → ℕ → List PortLine → Sym
heard_of told p here q [] = Idle
heard_of told p here q (x ∷ xs) =
    mix_of (if x.segment == here.segment && not (q == p) then told (distance here.at x.at) q else Idle)
    (heard_of told p here (q + 1) xs)

-- What each of these taps hears of all taps, in their order; the first of these is tap p, counted from 0.
abbrev pub heard_by : (ℕ → ℕ → Sym) → List PortLine → ℕ → List PortLine → List Sym
heard_by told all p [] = []
heard_by told all p (x ∷ xs) = heard_of told p x 0 all ∷ heard_by told all (p + 1) xs
