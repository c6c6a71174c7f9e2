use Rattle.std.proofs.Common.{◌≡◌, true}
use Rattle.std.specs.Prelude.{Some}
use Rattle.exchange_core.specs.Shares.{has_place_for}
use Rattle.worker_gate.proofs.KeptPlans.{posted, taken, true_if_boxed, true_for_all}
use Rattle.part_tests.proofs.orders.carry.Goals as goal

pub take-requires-clause-honest : goal.take-requires-clause-honest
take-requires-clause-honest g c κs within =
    let boxed = Some c.args.plan.now in
    let has : has_place_for c.post-parcel.result c.args.to.now ≡ true = cc in
    true_for_all boxed c.args.to.now c.post-parcel.result c.requires.to has
    (true_if_boxed boxed c.args.from.now c.post-parcel.result c.requires.from c.post-parcel.ensures.honest)

pub returns-clause-from : goal.returns-clause-from
returns-clause-from g c = posted (Some c.args.plan.now) c.args.edge c.args.from.now c.requires.from c.post-parcel.new.self c.post-parcel.ensures.new

pub returns-clause-to : goal.returns-clause-to
returns-clause-to g c = taken (Some c.args.plan.now) c.post-parcel.result c.args.to.now c.requires.to c.take.new.self c.take.ensures
