use Rattle.std.proofs.Common.{ap, ◌∙◌}
use Rattle.exchange_core.specs.Holdings.{run_holding, spoil_holding}
use Rattle.exchange_core.specs.Shares.{change, part_of}
use Rattle.worker_gate.specs.SteppedShares.{Runs, LacksRoom}
use Rattle.worker_gate.proofs.SteppedParts.{clean_goes}
use Rattle.worker_gate.proofs.KeptPlans.{clean_reserved, kept_reserved, room_reserved, ready_refused, cause_refused, made_stays, refused_stays}
use Rattle.worker_gate.proofs.desk.make.Goals as goal

pub run-requires-clause-clean : goal.run-requires-clause-clean
run-requires-clause-clean g c κs within = clean_reserved c.args.part c.args.share.now c.reserve.new.self c.in-Ok.ensures.ok c.requires.clean

pub run-requires-clause-kept : goal.run-requires-clause-kept
run-requires-clause-kept g c κs within = kept_reserved c.args.part c.args.share.now c.reserve.new.self c.in-Ok.ensures.ok c.requires.kept

pub run-requires-clause-room : goal.run-requires-clause-room
run-requires-clause-room g c κs within = room_reserved c.args.part c.args.share.now c.reserve.new.self c.in-Ok.ensures.ok c.requires.ready

pub spoil-requires-clause-ready : goal.spoil-requires-clause-ready
spoil-requires-clause-ready g c κs within = ready_refused c.args.part c.args.share.now c.reserve.new.self c.in-Err.ensures.err c.requires.ready

pub spoil-requires-clause-cause : goal.spoil-requires-clause-cause
spoil-requires-clause-cause g c κs within = cause_refused c.args.part c.args.share.now c.reserve.new.self c.in-Err.ensures.err c.requires.ready

pub returns-in-Ok-clause-planned : goal.returns-in-Ok-clause-planned
returns-in-Ok-clause-planned g c = made_stays c.args.part c.args.share.now c.reserve.new.self c.run.new.self c.in-Ok.ensures.ok c.run.ensures

pub returns-in-Err-clause-planned : goal.returns-in-Err-clause-planned
returns-in-Err-clause-planned g c = refused_stays c.args.part c.args.share.now c.reserve.new.self c.spoil.new.self c.in-Err.ensures.err c.spoil.ensures

pub returns-in-Ok-clause-goes : goal.returns-in-Ok-clause-goes
returns-in-Ok-clause-goes g c =
    Runs (clean_goes (part_of c.args.part c.args.share.now) c.requires.kept c.requires.clean) (c.run.ensures ∙ ap (change run_holding c.args.part) c.in-Ok.ensures.ok)

pub returns-in-Err-clause-goes : goal.returns-in-Err-clause-goes
returns-in-Err-clause-goes g c =
    LacksRoom (clean_goes (part_of c.args.part c.args.share.now) c.requires.kept c.requires.clean) (c.spoil.ensures ∙ ap (change spoil_holding c.args.part) c.in-Err.ensures.err)
