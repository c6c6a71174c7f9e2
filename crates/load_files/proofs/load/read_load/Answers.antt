use Rattle.std.proofs.Common.{rules}
use Rattle.load_files.proofs.FedReaders.{whole-records, whole-fault, judged-over}
use Rattle.load_files.proofs.load.read_load.Goals as goal

pub returns-in-Ok-clause-records : goal.returns-in-Ok-clause-records
returns-in-Ok-clause-records g c = whole-records c.args.most c.args.name.now _ c.in-Ok.seen c.read_pieces.new.taker c.finish.result (search rules) c.in-Ok.ensures.given c.finish.ensures.whole

pub returns-in-Ok-clause-stopped : goal.returns-in-Ok-clause-stopped
returns-in-Ok-clause-stopped g c = whole-fault c.args.most c.args.name.now _ c.in-Ok.seen _ _ c.read_pieces.new.taker c.finish.result (search rules) c.in-Ok.ensures.given c.finish.ensures.fault

pub returns-in-Ok-2-clause-stopped : goal.returns-in-Ok-2-clause-stopped
returns-in-Ok-2-clause-stopped g c = judged-over c.args.most c.args.name.now (g.S.Store.held c.args.store.now) c.in-Ok-2.field-0 c.read_pieces.new.taker (search rules) c.in-Ok-2.ensures.given
