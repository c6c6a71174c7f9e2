use Rattle.std.proofs.lemmas.Bool.{leb-true, le-leb}
use Rattle.path_slack.proofs.DelayGrowth.{delay_bound}
use Rattle.path_slack.proofs.lengthen.delay_fits.Goals as goal

pub returns : goal.returns
returns c =
    let both = delay_bound c.args.layout.now c.args.repeater c.args.x c.get.result.now c.get.ensures c.requires.sound in (
      λ e. both.1 (leb-true c.args.x _ e),
      λ keeps. le-leb c.args.x _ (both.0 keeps),
    )
