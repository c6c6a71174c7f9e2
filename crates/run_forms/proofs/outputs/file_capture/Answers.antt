use Rattle.std.proofs.Common.{◌≡◌, rules}
use Rattle.run_endings.specs.declared.endings.Ending.{Ending}
use Rattle.program_texts.specs.Texts.{name_of_capture}
use Rattle.run_texts.specs.Captures.{pcap_of_taken}
use Rattle.run_forms.proofs.FilesInTurn.{broken-same}
use Rattle.run_forms.proofs.outputs.file_capture.Goals as goal

pub returns-clause-err : goal.returns-clause-err
returns-clause-err g c =
    let name : c.as_str-2.result.now ≡ name_of_capture c.args.prefix.now c.args.station.now.name = search rules in
    let text : c.bytes.result.now ≡ pcap_of_taken c.args.taken.now = search rules in
    broken-same Ending c.file.result _ (name_of_capture c.args.prefix.now c.args.station.now.name) _ (pcap_of_taken c.args.taken.now) c.args.world.now.held c.file.new.self.held name text c.file.ensures.err
