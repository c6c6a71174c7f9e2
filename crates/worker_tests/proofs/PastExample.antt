-- An example of parts that are past their windows: a worker has segment 0, which has made 3 windows, and segment 2,
-- which was given up for its second.
use Rattle.std.proofs.Common.{zero, suc, true, false, List, [], ◌∷◌, Some, None, arith}
use Rattle.load_plan.specs.declared.plan.Plan.{Plan}
use Rattle.exchange_core.specs.Holdings.{Holding}
use Rattle.exchange_core.specs.Holders.{held_as}
use Rattle.exchange_core.specs.Shares.{Held, rack, share_of}
use Rattle.part_dealing.specs.declared.duties.Duty.{Duty}
use Rattle.part_dealing.specs.Turns.{duty_with}
use Rattle.worker_gate.specs.SteppedShares.{ArePast}

abbrev two_duties : List Duty
two_duties = duty_with 0 0 0 1 false ∷ duty_with 2 2 1 1 true ∷ []

module _ (plan : Plan) where
  abbrev segment_0 : Holding
  segment_0 = held_as plan 0 3 3 false false false [] []

  abbrev segment_2 : Holding
  segment_2 = held_as plan 2 1 2 true false false [] []

  abbrev two_parts : Held
  two_parts = share_of (rack (Some segment_0 ∷ None ∷ Some segment_2 ∷ []) (0 ∷ 2 ∷ [])) (rack [] [])

  -- both are past 2 windows
  pub past_two : ArePast 2 two_parts two_duties
  past_two zero d within = omega arith
  past_two (suc zero) d within = omega arith
  past_two (suc (suc k)) d within = absurd (omega (arith, within))

  pub not_past_three : ArePast 3 two_parts two_duties → ⊥
  not_past_three past = let second = past 1 (duty_with 2 2 1 1 true) (omega arith) in omega (arith, second)
