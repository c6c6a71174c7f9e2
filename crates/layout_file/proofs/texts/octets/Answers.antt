use Rattle.std.proofs.Common.{rules}
use Rattle.layout_file.proofs.OctetsOfDigits.{octets_of-drop_all}
use Rattle.layout_file.proofs.texts.octets.Goals as goal

pub returns : goal.returns
returns c = grind (rules, octets_of-drop_all)
