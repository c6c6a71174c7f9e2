use Rattle.run_forms.proofs.FrontsOfFiles.{is_front}
use Rattle.run_forms.proofs.files.read_file.Goals as goal

pub returns-clause-octets : goal.returns-clause-octets
returns-clause-octets g c = is_front c.args.limit c.args.name.now (g.S.Store.held c.args.store.now) _ _ c.in_ok-read_pieces.ensures.given
