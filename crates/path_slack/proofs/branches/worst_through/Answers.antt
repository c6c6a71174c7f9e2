use Rattle.std.proofs.Common.{refl, arith}
use Rattle.path_checker.proofs.ShortWalks.{has_room}
use Rattle.layout.specs.declared.ways.Attachment.TheVariants.{Port}
use Rattle.layout.specs.declared.ways.Way.TheVariants as way
use Rattle.path_slack.proofs.BranchesSoFar.{port_reaches}
use Rattle.path_slack.proofs.PairsThrough.{beyond_none, through_none, beyond_more, through_more, port_stands, port_fits, seen_fits, after_fits, through_all}
use Rattle.path_slack.proofs.branches.worst_through.Goals as goal

pub loop-k-init : goal.loop-k-init
loop-k-init c = record { seen = beyond_none c.args.layout.now c.args.repeater; worst = through_none c.args.layout.now c.args.repeater c.get-line.result.now.delay; table = c.requires.table }

pub farthest-far-requires-clause-from : goal.farthest-far-requires-clause-from
farthest-far-requires-clause-from c = port_stands c.args.layout.now c.requires.sound c.args.repeater c.get-line.result.now c.get-line.ensures c.loop-k.k c.get-port.result.now c.get-port.ensures

pub farthest-far-requires-clause-room : goal.farthest-far-requires-clause-room
farthest-far-requires-clause-room c = has_room c.args.layout.now c.requires.sound way.Cable _

pub lengthened-requires : goal.lengthened-requires
lengthened-requires c = λ f is.
    omega (arith, port_fits c.args.layout.now c.requires.sound c.args.repeater c.get-line.result.now c.get-line.ensures c.loop-k.k c.farthest-far.result f (port_reaches c.args.layout.now way.Cable (Port c.args.repeater c.loop-k.k) c.args.repeater c.loop-k.k c.farthest-far.result refl c.farthest-far.ensures.far) is)

pub pair_over-requires-clause-near : goal.pair_over-requires-clause-near
pair_over-requires-clause-near c = λ f is.
    seen_fits c.args.layout.now c.requires.sound c.args.repeater c.get-line.result.now c.get-line.ensures c.loop-k.k c.loop-k.seen f c.loop-k.invariant.seen is

pub pair_over-requires-clause-far : goal.pair_over-requires-clause-far
pair_over-requires-clause-far c = λ f is.
    after_fits c.args.layout.now c.requires.sound c.args.repeater c.get-line.result.now c.get-line.ensures c.loop-k.k c.farthest-far.result c.lengthened.result f (port_reaches c.args.layout.now way.Cable (Port c.args.repeater c.loop-k.k) c.args.repeater c.loop-k.k c.farthest-far.result refl c.farthest-far.ensures.far) c.lengthened.ensures is

pub loop-k-preserved : goal.loop-k-preserved
loop-k-preserved c = record {
  seen = beyond_more c.args.layout.now c.args.repeater c.loop-k.k c.loop-k.seen c.farthest-far.result c.farther-seen.result c.loop-k.invariant.seen (port_reaches c.args.layout.now way.Cable (Port c.args.repeater c.loop-k.k) c.args.repeater c.loop-k.k c.farthest-far.result refl c.farthest-far.ensures.far) c.farther-seen.ensures;
  worst = through_more c.args.layout.now c.requires.sound c.args.repeater c.get-line.result.now c.get-line.ensures c.loop-k.k c.loop-k.worst c.pair_over.result c.worse-worst.result c.loop-k.seen c.farthest-far.result c.lengthened.result
      (omega arith) c.loop-k.invariant.worst c.loop-k.invariant.seen (port_reaches c.args.layout.now way.Cable (Port c.args.repeater c.loop-k.k) c.args.repeater c.loop-k.k c.farthest-far.result refl c.farthest-far.ensures.far) c.lengthened.ensures c.pair_over.ensures c.worse-worst.ensures;
  table = c.farthest-far.ensures.table;
}

pub returns-clause-worst : goal.returns-clause-worst
returns-clause-worst c =
    through_all c.args.layout.now c.requires.sound c.args.repeater c.get-line.result.now c.get-line.ensures c.loop-k.k c.loop-k.worst (omega arith) (omega arith) c.loop-k.invariant.worst
