-- An example of turns: a worker has segment 0, and segment 2 as part 2, with an outlet each.
use Rattle.std.proofs.Common.{◌≡◌, true, false, List, [], ◌∷◌, refl}
use Rattle.part_dealing.specs.declared.duties.Duty.{Duty}
use Rattle.part_dealing.specs.Turns.{turn_place, duty_with}

abbrev two_turns : List Duty
two_turns = duty_with 0 0 0 1 false ∷ duty_with 2 2 1 1 true ∷ []

-- a repeater whose last segment is 1 has its turn between them
pub between : turn_place 1 two_turns ≡ 1
between = refl

-- one whose last segment is 2 has it behind both
pub behind : turn_place 2 two_turns ≡ 2
behind = refl

-- and one whose last segment is 0 behind segment 0 alone
pub behind_first : turn_place 0 two_turns ≡ 1
behind_first = refl

-- part 5, a repeater with two outlets behind those two
pub a_repeater : duty_with 5 2 2 2 true ≡ record { part = 5; last = 2; first = 2; end = 4; border = true }
a_repeater = refl
