use Rattle.layout.specs.declared.ways.Attachment.TheVariants.{Station}
use Rattle.tap_signals.proofs.emitting.write_rests.Goals as goal

pub rest_of-requires : goal.rest_of-requires
rest_of-requires c = c.requires.taps c.loop-k.k (Station 0) c.loop-k-test.true
