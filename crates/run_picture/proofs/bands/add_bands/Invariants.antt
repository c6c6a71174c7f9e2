use Rattle.std.proofs.Common.{◌≡◌, ◌++◌, drop}
use Rattle.run_picture.specs.Bands.{bands_text}
use Rattle.run_picture.proofs.bands.add_bands.Given as goal

abbrev pub invariant-segments : goal.invariant-segments
invariant-segments l = l.text ++ bands_text l.layout (drop l.k l.segments) (drop l.k l.bands) ≡ l.fn.text ++ bands_text l.layout l.segments l.bands
