use Rattle.run_page.proofs.PictureRows.{rows_are_as_in_pictures}
use Rattle.run_page.proofs.laws.rows_are_as_in_pictures.Goals as goal

pub returns : goal.returns
returns c = rows_are_as_in_pictures
