use Rattle.std.proofs.Common.{◌++◌, map, length, ap, refl, ◌∙◌}
use Rattle.net_parts.specs.OutputsOfParts.{rows_of_part, captures_of_part}
use Rattle.turn_run.proofs.PartsOneByOne.{all_parts}
use Rattle.window_run.proofs.FinishedParts.{handed}
use Rattle.window_run.proofs.run.run_parts.Goals as goal

pub gather_outputs-requires-clause-logs : goal.gather_outputs-requires-clause-logs
gather_outputs-requires-clause-logs g c =
    let plan = c.args.plan.now in
    let n = length plan.layout.segments in
    let m = length plan.layout.repeaters in
    let done = c.in-Some in
    let of_segments = rw done.is at c.in_ok-planned.ensures.segments in
    let of_repeaters = rw done.is at c.in_ok-planned.ensures.repeaters in
    let segments = handed (λ s. g.S.Part.plan s.part) (λ s. g.S.Part.number s.part) (λ s. g.S.Part.at s.part) plan rows_of_part 0 n done.segments.items of_segments in
    let repeaters = handed (λ s. g.R.Part.plan s.part) (λ s. g.R.Part.number s.part) (λ s. g.R.Part.at s.part) plan rows_of_part n m done.repeaters.items of_repeaters in
    let first = c.in_ok-collect_parts.ensures.rows ∙ ap (λ xs. xs ++ map (λ s. rows_of_part (g.S.Part.plan s.part) (g.S.Part.number s.part)) done.segments.items) c.new-logs.ensures in
    c.in_ok-collect_parts-2.ensures.rows ∙ all_parts (rows_of_part plan) plan _ _ _ n first segments refl repeaters

pub gather_outputs-requires-clause-of_parts : goal.gather_outputs-requires-clause-of_parts
gather_outputs-requires-clause-of_parts g c =
    let plan = c.args.plan.now in
    let n = length plan.layout.segments in
    let m = length plan.layout.repeaters in
    let done = c.in-Some in
    let of_segments = rw done.is at c.in_ok-planned.ensures.segments in
    let of_repeaters = rw done.is at c.in_ok-planned.ensures.repeaters in
    let segments = handed (λ s. g.S.Part.plan s.part) (λ s. g.S.Part.number s.part) (λ s. g.S.Part.at s.part) plan captures_of_part 0 n done.segments.items of_segments in
    let repeaters = handed (λ s. g.R.Part.plan s.part) (λ s. g.R.Part.number s.part) (λ s. g.R.Part.at s.part) plan captures_of_part n m done.repeaters.items of_repeaters in
    let first = c.in_ok-collect_parts.ensures.captures ∙ ap (λ xs. xs ++ map (λ s. captures_of_part (g.S.Part.plan s.part) (g.S.Part.number s.part)) done.segments.items) c.new-of_parts.ensures.items in
    c.in_ok-collect_parts-2.ensures.captures ∙ all_parts (captures_of_part plan) plan _ _ _ n first segments refl repeaters
