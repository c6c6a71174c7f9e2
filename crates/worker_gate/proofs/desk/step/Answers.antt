use Rattle.std.proofs.Common.{rules, sym, ◌∙◌, true≢false}
use Rattle.exchange_core.specs.Shares.{part_of}
use Rattle.worker_gate.specs.SteppedShares.{IsGivenUp}
use Rattle.worker_gate.proofs.SteppedParts.{spoiled_stays}
use Rattle.worker_gate.proofs.KeptPlans.{spoil_stays}
use Rattle.worker_gate.proofs.desk.step.Goals as goal

pub returns-then-lost-clause-planned : goal.returns-then-lost-clause-planned
returns-then-lost-clause-planned g c = spoil_stays c.args.part c.args.share.now c.spoil.new.self c.spoil.ensures

pub returns-then-not-clean-clause-planned : goal.returns-then-not-clean-clause-planned
returns-then-not-clean-clause-planned g c = spoil_stays c.args.part c.args.share.now c.spoil-then-not-clean.new.self c.spoil-then-not-clean.ensures

pub returns-then-not-clean-clause-goes : goal.returns-then-not-clean-clause-goes
returns-then-not-clean-clause-goes g c _ =
    IsGivenUp (spoiled_stays (part_of c.args.part c.args.share.now) (search rules) (λ clean. true≢false (sym (c.clean.ensures.1 clean) ∙ c.if-not-clean.true))) c.spoil-then-not-clean.ensures
