-- What is carried of a plan by what a worker owns (profile). Parts count from 0.
use Rattle.std.specs.Prelude.{◌≡◌, ◌≤◌, ℕ, false, Option, Some}
use Rattle.load_plan.specs.declared.plan.Plan.{Plan}
use Rattle.exchange_core.specs.Holdings.{Holding}
use Rattle.exchange_core.specs.Shares.{Rack, Held, owns, part_on}

-- All parts of a rack are of this plan, if it is one (profile).
abbrev pub IsPlannedRack : Option Plan → Rack → Type 0
IsPlannedRack boxed r = (u : ℕ) (h : Holding) → part_on u r ≡ Some h → Some h.plan ≡ boxed

-- All parts of a share are of this plan, if it is one (profile).
pub record IsPlannedShare (boxed : Option Plan) (s : Held) : Type 0 where
  pub segments : IsPlannedRack boxed s.segments
  pub repeaters : IsPlannedRack boxed s.repeaters

-- A share has no part of this number, and none of a later one (profile).
pub record HasNoneFrom (first : ℕ) (s : Held) : Type 0 where
  pub none : (u : ℕ) → first ≤ u → owns u s ≡ false

-- A share of parts of this plan is one of them still (profile).
abbrev pub StaysPlanned : Held → Held → Type 0
StaysPlanned before after = (boxed : Option Plan) → IsPlannedShare boxed before → IsPlannedShare boxed after
