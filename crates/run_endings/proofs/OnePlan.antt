-- A layout and the loads that are held have one plan.
use Rattle.std.proofs.Common.{◌≡◌, Some, List, [], length, sym, ap, ◌∙◌}
use Rattle.std.proofs.Math.Logic.{∥∥₁_prop}
use Rattle.std.proofs.Math.Nat.{ℕ_set}
use mathlib.Core.HLevel.{is_prop→PathP}
use Rattle.capture_file.specs.declared.entries.Record.{Record}
use Rattle.layout.specs.Sound.{IsSound}
use Rattle.layout.specs.declared.lines.Layout.{Layout}
use Rattle.load_files.specs.Loaded.{Loaded, Whole, loaded}
use Rattle.load_plan.specs.Loads.{planned_queues, planned_skips}
use Rattle.load_plan.specs.declared.plan.Plan.{Plan}
use Rattle.outside.specs.Files.{Files}
use Rattle.run_endings.specs.Runs.{IsPlanOf}

-- plans are the same where their layouts, queues and skips are
same_plan : (a b : Plan) → a.layout ≡ b.layout → a.queues ≡ b.queues → a.skips ≡ b.skips → a ≡ b
same_plan a b l q s =
    λ i. record {
      layout = l i;
      queues = q i;
      skips = s i;
      queued = is_prop→PathP (λ j. length (q j) ≡ length (l j).stations) (λ j. ℕ_set (length (q j)) (length (l j).stations)) a.queued b.queued i;
      counted = is_prop→PathP (λ j. length (s j) ≡ length (l j).stations) (λ j. ℕ_set (length (s j)) (length (l j).stations)) a.counted b.counted i;
      sound = is_prop→PathP (λ j. ∥ IsSound (l j) ∥₁) (λ j. ∥∥₁_prop) a.sound b.sound i;
    }

abbrev records_of : Loaded → List (List Record)
records_of (Whole rs) = rs
records_of l = []

same_loads : (files : Files) (network : Layout) (one two : List (List Record)) → loaded files network.stations ≡ Whole one → loaded files network.stations ≡ Whole two → one ≡ two
same_loads files network one two a b = ap records_of (sym a ∙ b)

-- the plan of a network and of the loads that a store tells
pub one_plan : (files : Files) (network : Layout) (a b : Plan) → IsPlanOf (Some files) network a → IsPlanOf (Some files) network b → a ≡ b
one_plan files network a b one two =
    let loads : one.loads ≡ two.loads = same_loads files network one.loads two.loads one.loaded two.loaded in
    same_plan a b (one.layout ∙ sym two.layout)
    (one.queues ∙ ap (λ ls. planned_queues network ls) loads ∙ sym two.queues)
    (one.skips ∙ ap (λ ls. planned_skips network ls) loads ∙ sym two.skips)
