use Rattle.std.proofs.lemmas.List.{take-replicate}
use Rattle.manchester_line.specs.declared.Sym.TheVariants.{Idle}
use Rattle.repeater_engine.proofs.parcels.idle_piece.Goals as goal

pub returns : goal.returns
returns c = take-replicate c.args.m 200 Idle c.requires
