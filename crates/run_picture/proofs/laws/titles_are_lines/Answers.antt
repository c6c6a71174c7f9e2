use Rattle.run_picture.proofs.Titles.{line_is_title}
use Rattle.run_picture.proofs.WholePictures.{titles_are_lines}
use Rattle.run_picture.proofs.laws.titles_are_lines.Goals as goal

pub returns-clause-titles : goal.returns-clause-titles
returns-clause-titles c = titles_are_lines

pub returns-clause-lines : goal.returns-clause-lines
returns-clause-lines c = line_is_title
