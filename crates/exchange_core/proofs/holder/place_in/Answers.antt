use Rattle.std.proofs.Common.{sym, ◌∙◌, true≢false, arith}
use Rattle.exchange_core.proofs.EdgePlaces.{place_found, none_found}
use Rattle.exchange_core.proofs.holder.place_in.Goals as goal

pub returns-then-parcels-i-clause-place : goal.returns-then-parcels-i-clause-place
returns-then-parcels-i-clause-place c = sym (place_found c.args.parcels.now c.args.edge c.loop-i.i c.index-parcels-i.result c.loop-i-test.true c.if-parcels-i.true c.loop-i.invariant).0

pub returns-clause-place : goal.returns-clause-place
returns-clause-place c = let past = c.loop-i-test.false in sym (none_found c.args.parcels.now c.args.edge (λ k d l. c.loop-i.invariant k d (omega (arith, l, past)))).0

pub returns-clause-within : goal.returns-clause-within
returns-clause-within c has = let past = c.loop-i-test.false in absurd (true≢false (sym has ∙ (none_found c.args.parcels.now c.args.edge (λ k d l. c.loop-i.invariant k d (omega (arith, l, past)))).1))
