use Rattle.run_picture.proofs.Legends.{entries_have_shapes, shapes_have_entries}
use Rattle.run_picture.proofs.laws.legends_are_whole.Goals as goal

pub returns-clause-shapes : goal.returns-clause-shapes
returns-clause-shapes c = shapes_have_entries

pub returns-clause-entries : goal.returns-clause-entries
returns-clause-entries c = entries_have_shapes
