use Rattle.std.proofs.Common.{◌≡◌, arith}
use Rattle.std.proofs.lemmas.Grind.{common_steps}
use Rattle.repeater_engine.proofs.ClassesOfRows.{row_classes, one_class}
use Rattle.repeater_engine.proofs.leaps.heard_alike.Goals as goal

pub returns-then-ne-clause-differs : goal.returns-then-ne-clause-differs
returns-then-ne-clause-differs c = λ e.
    let parcel = c.index-parcels-p.result in
    let long = c.requires.long c.loop-p.p parcel c.loop-p-test.true in
    let same : c.class_of.result ≡ c.class_of-in-loop-p.result =
    one_class c.args.heard.now c.args.parcels.now c.args.k c.loop-p.p parcel _ _ _ _ _ c.loop-p-test.true c.requires.as_many c.index-parcels-p.is long c.as_slice.ensures c.class_of.ensures c.class_of-in-loop-p.ensures e in
    grind (arith, common_steps)

pub returns-clause-alike : goal.returns-clause-alike
returns-clause-alike c = λ t. row_classes c.args.heard.now c.args.parcels.now c.args.k c.requires.as_many (λ q d l. c.loop-p.invariant q d (omega arith))
