use Rattle.manchester_line.specs.declared.decoder.TheConstants.{KEPT_OCTETS}
use Rattle.manchester_line.proofs.KeptOctets.{keep_room, keep_full}
use Rattle.manchester_line.proofs.decoder.keep.Goals as goal

pub returns-then-count-lt-KEPT_OCTETS : goal.returns-then-count-lt-KEPT_OCTETS
returns-then-count-lt-KEPT_OCTETS c = keep_room c.args.buffer.now c.args.count KEPT_OCTETS c.args.octet c.requires c.if-count-lt-KEPT_OCTETS.true

pub returns-else-count-lt-KEPT_OCTETS : goal.returns-else-count-lt-KEPT_OCTETS
returns-else-count-lt-KEPT_OCTETS c = keep_full c.args.buffer.now c.args.count KEPT_OCTETS c.args.octet c.requires c.if-count-lt-KEPT_OCTETS.false
