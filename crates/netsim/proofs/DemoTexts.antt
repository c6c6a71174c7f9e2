-- The text of demo, from its parts.
use Rattle.std.proofs.Common.{◌≡◌, ℕ, List, [], ◌++◌, length, ap, ◌∙◌}
use Rattle.std.specs.Prelude.{replicate}
use Rattle.capture_file.specs.declared.entries.Record.{Record}
use Rattle.demo_layout.specs.Demo.{demo_of}
use Rattle.layout.specs.declared.lines.Layout.{Layout}
use Rattle.load_plan.specs.Loads.{planned_queues, planned_skips}
use Rattle.load_plan.specs.declared.plan.Plan.{Plan}
use Rattle.program_endings.specs.Demos.{IsDemoText, line_of_demo, empty_loads}
use Rattle.run_endings.specs.Runs.{IsMadeOf, IsSummary}

-- the plan of a layout without loads
pub demo-plan : (number count : ℕ) (network : Layout) (loads : List (List Record)) (plan : Plan) → network ≡ demo_of number → count ≡ length network.stations → loads ≡ replicate count []
    → plan.layout ≡ network → plan.queues ≡ planned_queues network loads → plan.skips ≡ planned_skips network loads → IsMadeOf (demo_of number) (empty_loads (demo_of number)) plan
demo-plan number count network loads plan is counted none layout queues skips =
    let without : loads ≡ empty_loads (demo_of number) = none ∙ ap (λ n. replicate n []) (counted ∙ ap (λ (l : Layout). length l.stations) is) in
    record {
      layout = layout ∙ is;
      queues = queues ∙ ap (λ n. planned_queues n loads) is ∙ ap (λ ls. planned_queues (demo_of number) ls) without;
      skips = skips ∙ ap (λ n. planned_skips n loads) is ∙ ap (λ ls. planned_skips (demo_of number) ls) without;
    }

-- the line and the summary of such a plan
pub demo-text : (number : ℕ) (plan : Plan) (line summary shown text : List ℕ) → IsMadeOf (demo_of number) (empty_loads (demo_of number)) plan
    → line ≡ line_of_demo number plan.layout → IsSummary plan summary → shown ≡ summary → text ≡ line ++ shown → IsDemoText number text
demo-text number plan line summary shown text made lined summed same whole =
    record {
      plan = plan;
      made = made;
      summary = summary;
      summed = summed;
      is = whole ∙ ap (λ l. l ++ shown) (lined ∙ ap (line_of_demo number) made.layout) ∙ ap (λ s. line_of_demo number (demo_of number) ++ s) same;
    }
