-- A plan has at most one page of a window.
use Rattle.std.proofs.Common.{◌≡◌, ℕ, ◌<◌, List, [], length, get_or, sym, ap, ◌∙◌, inl, inr, arith}
use Rattle.std.proofs.lemmas.List.{ext_get_or}
use Rattle.std.proofs.lemmas.Option.{slice_get_cases}
use Rattle.load_plan.specs.declared.plan.Plan.{Plan}
use Rattle.network.specs.Outputs.{rows}
use Rattle.tap_signals.proofs.StretchesDetermined.{stretches_are_determined}
use Rattle.tap_signals.specs.Kinds.{kind_emitted}
use Rattle.tap_signals.specs.Signals.{AreSignals, first_seen}
use Rattle.tap_signals.specs.Taps.{taps_in_order}
use Rattle.tap_signals.specs.declared.stretch.Stretch.{Stretch}
use Rattle.run_page.specs.Pages.{page_text}
use Rattle.run_page.specs.PageLaws.{OnePage}

one_of_tap : (plan : Plan) (from to : ℕ) (a b : List (List Stretch)) → AreSignals plan from to a → AreSignals plan from to b → (k : ℕ) → k < length a → get_or a k [] ≡ get_or b k []
one_of_tap plan from to a b one other k within =
    elim (slice_get_cases (taps_in_order plan.layout) k).1 [
      | inl (tap, lt, is, same) ↦ stretches_are_determined (kind_emitted plan tap) (first_seen from) to (get_or a k []) (get_or b k []) (one.each k tap is) (other.each k tap is)
      | inr (past, none) ↦ absurd (omega (arith, one.many))
    ]

one_signals : (plan : Plan) (from to : ℕ) (a b : List (List Stretch)) → AreSignals plan from to a → AreSignals plan from to b → a ≡ b
one_signals plan from to a b one other = ext_get_or [] a b (one.many ∙ sym other.many) (one_of_tap plan from to a b one other)

pub one_page : OnePage
one_page plan from to a b one other =
    one.told ∙ ap (λ signals. page_text plan.layout from to signals (rows plan)) (one_signals plan from to one.signals other.signals one.are other.are) ∙ sym other.told
