-- An example of what is read from a value change dump: in half bits 10 to 13, b hears lo, hi twice, and lo.
use Rattle.std.proofs.Common.{◌≡◌, [], ◌∷◌, refl}
use Rattle.std.specs.Prelude.{codes}
use Rattle.manchester_line.specs.declared.Sym.TheVariants.{Hi, Lo}
use Rattle.wave_dump.specs.Reading.{read_dump}

pub b_hears : read_dump (codes "$comment netsim: half bits 10 to 14, of 50 ns each $end\n$timescale 1 ns $end\n$scope module net $end\n$var wire 1 ! b $end\n$upscope $end\n$enddefinitions $end\n#500\n$dumpvars\n0!\n$end\n#550\n1!\n#650\n0!\n#700\n") ≡ record { names = codes "b" ∷ []; heard = (Lo ∷ Hi ∷ Hi ∷ Lo ∷ []) ∷ []; to = 14 }
unfolding read_dump
b_hears = refl
