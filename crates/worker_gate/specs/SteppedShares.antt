-- What a worker's step makes of a part that is ready (profile). Parts count from 0.
use Rattle.std.specs.Prelude.{◌≡◌, ◌≤◌, ℕ, true, false, List, All, IfSome}
use Rattle.exchange_core.specs.Holdings.{IsHoldingReady, IsHoldingClean, reserved_holding, refused_holding, run_holding, spoil_holding}
use Rattle.exchange_core.specs.Shares.{Held, part_of, owns, change}
use Rattle.part_dealing.specs.declared.duties.Duty.{Duty}

-- A share has this part, and it is ready (profile).
abbrev pub IsReadyIn : ℕ → Held → Type 0
IsReadyIn u s = (owns u s ≡ true) × IfSome (part_of u s) IsHoldingReady

-- A part isn't lost, and no parcel at it is spoiled (profile).
abbrev pub MayGoOn : ℕ → Held → Type 0
MayGoOn u s = IfSome (part_of u s) (λ h. (h.lost ≡ false) × IsHoldingClean h)

-- A part makes its window once there is room for it; or it is given up for it, after room was refused, or because it is
-- lost or a parcel at it is spoiled (profile).
pub data IsStepped (u : ℕ) (before after : Held) : Type 0 where
  Runs : MayGoOn u before → after ≡ change run_holding u (change reserved_holding u before) → IsStepped u before after
  LacksRoom : MayGoOn u before → after ≡ change spoil_holding u (change refused_holding u before)
      → IsStepped u before after
  IsGivenUp : (MayGoOn u before → ⊥) → after ≡ change spoil_holding u before → IsStepped u before after

-- Each of these parts that the share has has made so many windows, or was given up for them (profile).
abbrev pub ArePast : ℕ → Held → List Duty → Type 0
ArePast windows s duties = All (λ (duty : Duty). IfSome (part_of duty.part s) (λ h. windows ≤ h.window)) duties
