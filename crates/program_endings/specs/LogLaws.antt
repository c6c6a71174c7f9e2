-- What no log may lack, where collisions are told: laws beside the clause on detected collisions (profile).
use Rattle.std.specs.Prelude.{◌≡◌, ◌≢◌, ℕ, ◌<◌, ◌≤◌, ◌^◌, List, [], ◌∷◌, Some, Ok}
use Rattle.collision_log.specs.declared.row.Body.TheVariants.{Collided}
use Rattle.collision_log.specs.declared.row.Row.{Row}
use Rattle.layout.specs.declared.lines.Layout.{Layout}
use Rattle.load_plan.specs.declared.plan.Plan.{Plan}
use Rattle.mac_parameters.specs.Parameters.{bit_512}
use Rattle.mac_transmit.specs.Attempts.{Attempt}
use Rattle.network.specs.Attempts.{OverlapOpenly}
use Rattle.network.specs.Outputs.{half_bits}
use Rattle.outside.specs.Files.{Files, file_of}
use Rattle.run_endings.specs.Endings.{IsJudged}
use Rattle.run_endings.specs.LoggedCollisions.{AreCollisionsLogged, IsWithinSaid, log_line}
use Rattle.run_endings.specs.Moments.{Moment}
use Rattle.run_endings.specs.Runs.{IsPlanOf}
use Rattle.program_texts.specs.Texts.{name_of_log}

-- the run of a layout has two attempts that overlap over an open path, the first of which ends within the run; the
-- verdict is within, and the store tells its files at exit
pub record HasCollision (layout : List ℕ) (entry exit : Moment) (plan : Plan) (files : Files) : Type 0 where
  pub network : Layout
  pub judged : IsJudged layout entry.held (Ok network)
  pub within : IsWithinSaid network entry.written exit.written
  pub planned : IsPlanOf entry.held network plan
  pub told : exit.held ≡ Some files
  pub first : ℕ
  pub second : ℕ
  pub one : Attempt
  pub other : Attempt
  pub overlap : OverlapOpenly plan first second one other
  pub ends : one.end < half_bits plan

-- where there is such a collision these octets as PREFIX.log don't meet the clause
abbrev pub IsNoLog : (List ℕ → Plan → Type 0) → Type 0
IsNoLog P =
    (layout prefix octets : List ℕ) (entry exit : Moment) (plan : Plan) (files : Files)
    → HasCollision layout entry exit plan files → P octets plan → file_of (name_of_log prefix) files ≡ Some octets
    → ¬ AreCollisionsLogged layout prefix entry exit

-- an empty log tells of no collision
abbrev pub IsEmptyLogRefused : Type 0
IsEmptyLogRefused = IsNoLog (λ octets plan. octets ≡ [])

-- the line of a collision with a hit at the 512th bit or later
pub record IsLateHit (octets : List ℕ) (plan : Plan) : Type 0 where
  pub row : Row
  pub frame : ℕ
  pub start : ℕ
  pub attempt : ℕ
  pub hit : ℕ
  pub drawn : ℕ
  pub body : row.body ≡ Collided frame start attempt hit drawn
  pub late : bit_512 ≤ hit
  pub small : hit < 2 ^ 64
  pub line : octets ≡ log_line plan row

-- a log with a late hit alone tells of no collision
abbrev pub IsLateHitRefused : Type 0
IsLateHitRefused = IsNoLog IsLateHit

-- the line of a row behind one octet that is neither a digit (48 and more) nor a line feed (10), so that it is no whole
-- line
pub record IsInfix (octets : List ℕ) (plan : Plan) : Type 0 where
  pub row : Row
  pub first : ℕ
  pub low : first < 48
  pub inner : first ≢ 10
  pub line : octets ≡ first ∷ log_line plan row

-- a log in which a row's line is no whole line tells of no collision
abbrev pub IsInfixRefused : Type 0
IsInfixRefused = IsNoLog IsInfix
