-- Each half bit of an octet, of the preamble and of the jam is a level: neither Idle nor Clash.
use Rattle.std.proofs.Common.{◌≡◌, ◌≢◌, ℕ, ◌%◌, Bool, true, false, eqb, sym, subst}
use Rattle.std.proofs.lemmas.Bool.{cond_both}
use Rattle.std.specs.Prelude.{◌||◌}
use Rattle.manchester_line.specs.declared.Sym.{Sym}
use Rattle.manchester_line.specs.declared.Sym.TheVariants.{Idle, Hi, Lo, Clash}
use Rattle.manchester_line.specs.Line.{half_at, jam_at}

-- a signal that is no clash
abbrev pub IsLevel : Sym → Type 0
IsLevel s = (s ≢ Idle) × (s ≢ Clash)

pub high : IsLevel Hi
high = (λ e. cc, λ e. cc)

pub low : IsLevel Lo
low = (λ e. cc, λ e. cc)

pub half_level : (bit second : Bool) → IsLevel (half_at bit second)
half_level true true = high
half_level true false = low
half_level false true = low
half_level false false = high

pub jam_level : (i : ℕ) → IsLevel (jam_at i)
jam_level i = cond_both (eqb (i % 4) 0 || eqb (i % 4) 3) Lo Hi IsLevel (λ _. low) (λ _. high)

-- a symbol that is a half bit of the line text
pub level_at : (s : Sym) (bit second : Bool) → s ≡ half_at bit second → IsLevel s
level_at s bit second e = subst IsLevel (sym e) (half_level bit second)
