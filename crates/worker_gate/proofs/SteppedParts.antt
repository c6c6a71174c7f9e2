-- When a part of a share may go on.
use Rattle.std.proofs.Common.{◌≡◌, Bool, true, false, sym, ◌∙◌, true≢false}
use Rattle.std.specs.Prelude.{Option, Some, None, IfSome}
use Rattle.exchange_core.specs.Holdings.{Holding, IsHoldingClean}
use Rattle.exchange_core.specs.Shares.{is_owned}

abbrev GoesOn : Holding → Type 0
GoesOn h = (h.lost ≡ false) × IsHoldingClean h

pub lost_stays : (o : Option Holding) → is_owned o ≡ true → (lost : Bool) → IfSome o (λ h. lost ≡ h.lost) → lost ≡ true → IfSome o GoesOn → ⊥
lost_stays None none lost is gone may = true≢false (sym none)
lost_stays (Some h) has lost is gone may = true≢false (sym gone ∙ is ∙ may.0)

pub spoiled_stays : (o : Option Holding) → is_owned o ≡ true → (IfSome o IsHoldingClean → ⊥) → IfSome o GoesOn → ⊥
spoiled_stays None none spoiled may = true≢false (sym none)
spoiled_stays (Some h) has spoiled may = spoiled may.1

pub clean_goes : (o : Option Holding) → IfSome o (λ h. h.lost ≡ false) → IfSome o IsHoldingClean → IfSome o GoesOn
clean_goes None kept clean = tt
clean_goes (Some h) kept clean = (kept, clean)
