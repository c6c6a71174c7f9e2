use Rattle.std.proofs.Common.{◌≡◌, ◌+◌, ◌-◌, ◌≤◌, [], false, take, drop, length, arith, refl, ap, ◌∙◌}
use Rattle.net_parts.specs.declared.parcel.Parcel.{Parcel}
use Rattle.repeater_engine.proofs.ClassesOfRows.{of_classes, class_kept, next_port}
use Rattle.repeater_engine.proofs.leaps.alike_ahead.Goals as goal

pub loop-p-preserved : goal.loop-p-preserved
loop-p-preserved c =
    let parcel = c.index-parcels-p.result in
    let k = c.args.k in
    let least = c.loop-p.least in
    let whole : k + least - k ≡ least = omega arith in
    let cut = ap (λ m. take m (drop k c.as_slice.result.now)) whole ∙ ap (λ xs. take least (drop k xs)) c.as_slice.ensures in
    let here = c.requires.long c.loop-p.p parcel c.loop-p-test.true in
    let long : k + least ≤ length parcel.symbols = omega (arith, here, ap (λ (x : Parcel). length x.symbols) c.index-parcels-p.is) in
    next_port c.args.parcels.now c.args.heard.now _ k c.args.most least c.loop-p.p c.alike_in-least.result parcel _ c.loop-p-test.true c.index-parcels-p.is cut long refl
    c.alike_in-least.ensures.within c.alike_in-least.ensures.alike c.alike_in-least.ensures.differs c.loop-p.invariant

pub returns-clause-alike : goal.returns-clause-alike
returns-clause-alike c = of_classes c.args.heard.now c.args.parcels.now c.args.k c.loop-p.least c.requires.as_many (λ p j d i l. c.loop-p.invariant.alike p j d (omega arith) l)

pub returns-clause-greatest : goal.returns-clause-greatest
returns-clause-greatest c = λ less all.
    let end = c.loop-p.invariant.ends less in
    let none : Parcel = record { edge = 0; window = 0; to_repeater = false; symbols = []; spoiled = false } in
    end.2 none (class_kept c.args.heard.now c.args.parcels.now c.args.k (c.loop-p.least + 1) end.0 c.loop-p.least none c.requires.as_many (omega (arith, end.1)) (omega arith) all)
