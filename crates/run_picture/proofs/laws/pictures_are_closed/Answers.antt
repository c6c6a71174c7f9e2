use Rattle.run_picture.proofs.WholePictures.{pictures_are_closed}
use Rattle.run_picture.proofs.laws.pictures_are_closed.Goals as goal

pub returns : goal.returns
returns c = pictures_are_closed
