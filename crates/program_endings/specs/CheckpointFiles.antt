-- What is read of the file of a state (profile).
use Rattle.std.specs.Prelude.{◌≡◌, ℕ, List, Option, Ok, Err}
use Rattle.load_plan.specs.declared.plan.Plan.{Plan}
use Rattle.outside.specs.Files.{Files}
use Rattle.quiet_state.specs.declared.state.NetState.{NetState}
use Rattle.run_checkpoint.specs.Judging.{judged_state, most_state_octets}
use Rattle.run_checkpoint.specs.declared.fault.StateFault.{StateFault}
use Rattle.run_endings.specs.Reading.{IsFront}

-- the file, whole or at one octet past the most that it may have, is the text of this state of the plan
pub record HasState (plan : Plan) (name : List ℕ) (held : Option Files) (state : NetState) : Type 0 where
  pub octets : List ℕ
  pub read : IsFront most_state_octets name held octets
  pub judged : judged_state plan octets ≡ Ok state

-- the file, whole or at one octet past the most that it may have, has this first fault
pub record IsStateFaulty (plan : Plan) (name : List ℕ) (held : Option Files) (fault : StateFault) : Type 0 where
  pub octets : List ℕ
  pub read : IsFront most_state_octets name held octets
  pub judged : judged_state plan octets ≡ Err fault
