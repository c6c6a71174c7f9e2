use Rattle.run_texts.proofs.ShortNames.{short_name, short_names}
use Rattle.run_page.proofs.row_lines.add_row.Goals as goal

pub row_text-count-requires-clause-name : goal.row_text-count-requires-clause-name
row_text-count-requires-clause-name c = rw c.name_of_device-name.ensures (short_name _ c.args.row.now.device (short_names c.args.layout.now c.requires))
