use Rattle.exchange_core.proofs.ShareLaws.{refused_may_be_spoiled}
use Rattle.part_tests.proofs.shares.give_up.Goals as goal

pub spoil-requires-clause-cause : goal.spoil-requires-clause-cause
spoil-requires-clause-cause c κs = refused_may_be_spoiled c.args.part c.args.share.now c.is_refused.new.share (c.is_refused.ensures search)
