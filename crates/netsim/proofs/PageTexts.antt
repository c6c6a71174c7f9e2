-- The text that is made of a run's signals and rows is the page of the run.
use Rattle.std.proofs.Common.{◌≡◌, ℕ, List, Result, Ok, Err, ap, ◌∙◌}
use Rattle.std.specs.Prelude.{IfOk}
use Rattle.collision_log.specs.declared.row.Row.{Row}
use Rattle.load_plan.specs.declared.plan.Plan.{Plan}
use Rattle.network.specs.Outputs.{rows}
use Rattle.run_page.specs.Pages.{IsPage, page_text}
use Rattle.tap_signals.specs.Signals.{AreSignals}
use Rattle.tap_signals.specs.declared.stretch.Stretch.{Stretch}

pub page-of : (E : Type 0) (plan : Plan) (from to : ℕ) (signals : List (List Stretch)) (told : List Row) (text : Result (List ℕ) E) → AreSignals plan from to signals → told ≡ rows plan
    → IfOk text (λ t. t ≡ page_text plan.layout from to signals told) → IfOk text (λ t. IsPage plan from to t)
page-of E plan from to signals told (Ok t) are all is = record { signals = signals; are = are; told = is ∙ ap (page_text plan.layout from to signals) all }
page-of E plan from to signals told (Err e) are all is = tt
