use Rattle.std.proofs.Common.{◌++◌, sym, ap, ◌∙◌}
use Rattle.std.proofs.lemmas.List.{append-nil}
use Rattle.log_meter.specs.Tallies.{repeaters_named, stations_named}
use Rattle.log_meter.proofs.NamesListed.{figures_listed}
use Rattle.log_meter.proofs.metering.figures_of.Goals as goal

pub returns : goal.returns
returns c lines told =
    let gives = c.into_iter-name-iterator.ensures.into_iter_gives in
    let none = c.in-None.ensures.steps.0 in
    figures_listed lines c.args.tallies (record { stations = c.loop-name.stations; repeaters = c.loop-name.repeaters }) gives.5 told
    (sym (append-nil c.loop-name.stations) ∙ sym (ap (λ es. c.loop-name.stations ++ stations_named es) none) ∙ c.loop-name.invariant.stations ∙ ap stations_named gives.0)
    (sym (append-nil c.loop-name.repeaters) ∙ sym (ap (λ es. c.loop-name.repeaters ++ repeaters_named es) none) ∙ c.loop-name.invariant.repeaters ∙ ap repeaters_named gives.0)
