-- When two symbols are the same.
use Rattle.std.proofs.Common.{◌≡◌, ◌≢◌, true, false, refl}
use denote.Enum.Bare.{sameb}
use Rattle.manchester_line.specs.contracts.Sym.{the_type}
use Rattle.manchester_line.specs.declared.Sym.{Sym}
use Rattle.manchester_line.specs.declared.Sym.TheVariants.{Idle, Hi, Lo, Clash}

pub same_symbols : (a b : Sym) → sameb the_type a b ≡ true → a ≡ b
same_symbols Idle Idle h = refl
same_symbols Idle Hi h = cc h
same_symbols Idle Lo h = cc h
same_symbols Idle Clash h = cc h
same_symbols Hi Idle h = cc h
same_symbols Hi Hi h = refl
same_symbols Hi Lo h = cc h
same_symbols Hi Clash h = cc h
same_symbols Lo Idle h = cc h
same_symbols Lo Hi h = cc h
same_symbols Lo Lo h = refl
same_symbols Lo Clash h = cc h
same_symbols Clash Idle h = cc h
same_symbols Clash Hi h = cc h
same_symbols Clash Lo h = cc h
same_symbols Clash Clash h = refl

pub other_symbols : (a b : Sym) → sameb the_type a b ≡ false → a ≢ b
other_symbols Idle Idle h e = cc h
other_symbols Idle Hi h e = cc e
other_symbols Idle Lo h e = cc e
other_symbols Idle Clash h e = cc e
other_symbols Hi Idle h e = cc e
other_symbols Hi Hi h e = cc h
other_symbols Hi Lo h e = cc e
other_symbols Hi Clash h e = cc e
other_symbols Lo Idle h e = cc e
other_symbols Lo Hi h e = cc e
other_symbols Lo Lo h e = cc h
other_symbols Lo Clash h e = cc e
other_symbols Clash Idle h e = cc e
other_symbols Clash Hi h e = cc e
other_symbols Clash Lo h e = cc e
other_symbols Clash Clash h e = cc h
