use Rattle.std.proofs.Common.{◌≡◌, ◌++◌, [], map, length, ap, refl, ◌∙◌}
use Rattle.net_parts.specs.OutputsOfParts.{rows_of_part, captures_of_part}
use Rattle.net_parts.specs.Windows.{windows}
use Rattle.turn_run.proofs.PartsOneByOne.{handed, all_parts, all_finished}
use Rattle.turn_run.proofs.run.gather_parts.Goals as goal

pub collect_parts-requires-after_bounds : goal.collect_parts-requires-after_bounds
collect_parts-requires-after_bounds g c κs within =
    let plan = c.args.plan.now in
    all_finished g.S.Part.plan g.S.Part.number g.S.Part.at plan 0 (length plan.layout.segments) (windows plan) c.args.segments.items refl c.requires.segments

pub collect_parts-requires-2-after_bounds : goal.collect_parts-requires-2-after_bounds
collect_parts-requires-2-after_bounds g c κs within =
    let plan = c.args.plan.now in
    all_finished g.R.Part.plan g.R.Part.number g.R.Part.at plan (length plan.layout.segments) (length plan.layout.repeaters) (windows plan) c.args.repeaters.items refl c.requires.repeaters

pub gather_outputs-requires-clause-logs : goal.gather_outputs-requires-clause-logs
gather_outputs-requires-clause-logs g c =
    let plan = c.args.plan.now in
    let n = length plan.layout.segments in
    let m = length plan.layout.repeaters in
    let w = windows plan in
    let ss = c.args.segments.items in
    let rs = c.args.repeaters.items in
    let f = λ (s : g.row.S.Denot). rows_of_part (g.S.Part.plan s) (g.S.Part.number s) in
    let h = λ (s : g.row.R.Denot). rows_of_part (g.R.Part.plan s) (g.R.Part.number s) in
    let first : c.collect_parts.new.rows ≡ [] ++ map f ss = c.in_ok-collect_parts.ensures.rows ∙ ap (λ xs. xs ++ map f ss) c.new-logs.ensures in
    let second : c.collect_parts-2.new.rows ≡ c.collect_parts.new.rows ++ map h rs = c.in_ok-collect_parts-2.ensures.rows in
    let segments = handed g.S.Part.plan g.S.Part.number g.S.Part.at plan rows_of_part 0 n w ss c.requires.segments in
    let repeaters = handed g.R.Part.plan g.R.Part.number g.R.Part.at plan rows_of_part n m w rs c.requires.repeaters in
    second ∙ all_parts (rows_of_part plan) plan _ _ _ n first segments refl repeaters

pub gather_outputs-requires-clause-of_parts : goal.gather_outputs-requires-clause-of_parts
gather_outputs-requires-clause-of_parts g c =
    let plan = c.args.plan.now in
    let n = length plan.layout.segments in
    let m = length plan.layout.repeaters in
    let w = windows plan in
    let ss = c.args.segments.items in
    let rs = c.args.repeaters.items in
    let f = λ (s : g.row.S.Denot). captures_of_part (g.S.Part.plan s) (g.S.Part.number s) in
    let h = λ (s : g.row.R.Denot). captures_of_part (g.R.Part.plan s) (g.R.Part.number s) in
    let first : c.collect_parts.new.captures.items ≡ [] ++ map f ss = c.in_ok-collect_parts.ensures.captures ∙ ap (λ xs. xs ++ map f ss) c.new-of_parts.ensures.items in
    let second : c.collect_parts-2.new.captures.items ≡ c.collect_parts.new.captures.items ++ map h rs = c.in_ok-collect_parts-2.ensures.captures in
    let segments = handed g.S.Part.plan g.S.Part.number g.S.Part.at plan captures_of_part 0 n w ss c.requires.segments in
    let repeaters = handed g.R.Part.plan g.R.Part.number g.R.Part.at plan captures_of_part n m w rs c.requires.repeaters in
    second ∙ all_parts (captures_of_part plan) plan _ _ _ n first segments refl repeaters
