-- What the log that a run leaves (profile) tells of attempts that overlap, where the layout is within the slot time
-- (slotTime, 4.4.2).
use Rattle.std.specs.Prelude.{◌≡◌, ◌≢◌, ◌⊎◌, ℕ, ◌<◌, List, [], ◌++◌, Option, None, Some, Ok, All, IfSome, codes, length, Contains}
use Rattle.collision_log.specs.declared.row.Body.{Body}
use Rattle.collision_log.specs.declared.row.Body.TheVariants.{Sent, Collided, GivenUp, Cut, Received, Dropped, Clash, Closed, Opened, Halted}
use Rattle.collision_log.specs.declared.row.Row.{Row}
use Rattle.layout.specs.Sound.{device_names}
use Rattle.layout.specs.declared.lines.Layout.{Layout}
use Rattle.load_plan.specs.declared.plan.Plan.{Plan}
use Rattle.mac_parameters.specs.Parameters.{bit_512}
use Rattle.mac_transmit.specs.Attempts.{Attempt}
use Rattle.network.specs.Attempts.{OverlapOpenly}
use Rattle.network.specs.Outputs.{rows, half_bits}
use Rattle.outside.specs.Files.{Files, file_of}
use Rattle.path_checker.specs.Verdicts.{IsVerdict}
use Rattle.path_checker.specs.declared.verdict.PathVerdict.TheVariants.{Within}
use Rattle.run_texts.specs.Texts.{line_of_row}
use Rattle.run_endings.specs.Endings.{IsJudged}
use Rattle.run_endings.specs.Moments.{Moment}
use Rattle.run_endings.specs.Runs.{IsPlanOf, log}
use Rattle.program_texts.specs.Texts.{name_of_log}

-- the attempt that started in half bit start collided, or ended in excessive collisions, with a hit below this
-- position of the sending, counted in half bits from 0
abbrev pub ShowsHit : Body → ℕ → ℕ → Type 0
ShowsHit (Collided frame begun attempt hit drawn) start limit = (begun ≡ start) × (hit < limit)
ShowsHit (GivenUp frame begun hit) start limit = (begun ≡ start) × (hit < limit)
ShowsHit (Sent frame begun attempt) start limit = ⊥
ShowsHit (Cut frame begun attempt hit) start limit = ⊥
ShowsHit (Received octets) start limit = ⊥
ShowsHit (Dropped why half_bits) start limit = ⊥
ShowsHit Clash start limit = ⊥
ShowsHit (Closed port) start limit = ⊥
ShowsHit (Opened port) start limit = ⊥
ShowsHit (Halted port) start limit = ⊥

-- nothing, or octets that end with a line feed
abbrev pub EndsLine : List ℕ → Type 0
EndsLine octets = (octets ≡ []) ⊎ ((front : List ℕ) × (octets ≡ front ++ codes "\n"))

-- a text without a line feed, which is the octet 10, and a line feed
pub record IsOneLine (line : List ℕ) : Type 0 where
  pub text : List ℕ
  pub is : line ≡ text ++ codes "\n"
  pub one : All (λ c. c ≢ 10) text

-- this is a whole line of these octets: it stands at their beginning or after a line feed, and goes to the next line
-- feed
pub record HasLine (octets line : List ℕ) : Type 0 where
  pub before : List ℕ
  pub after : List ℕ
  pub is : octets ≡ before ++ line ++ after
  pub begins : EndsLine before
  pub one : IsOneLine line

-- the line of a row in the log of a plan's run
abbrev pub log_line : Plan → Row → List ℕ
log_line plan row = line_of_row (device_names plan.layout) (length plan.layout.stations) row

-- the run of a plan has a row, with its line in the log, that shows the attempt of this station, from 0, with a hit
-- before the 512th bit of the sending, whose half bits have the positions 1,022 and 1,023
pub record IsDetected (plan : Plan) (station : ℕ) (a : Attempt) : Type 0 where
  pub row : Row
  pub among : Contains (rows plan) row
  pub t : row.t ≡ a.end
  pub device : row.device ≡ station
  pub shows : ShowsHit row.body a.start bit_512
  pub line : HasLine (log plan) (log_line plan row)

-- of two attempts of different stations that overlap over an open path, each that ends within the run is detected
abbrev pub AreDetected : Plan → Type 0
AreDetected plan =
    (a b : ℕ) (x y : Attempt) → OverlapOpenly plan a b x y
    → (x.end < half_bits plan → IsDetected plan a x) × (y.end < half_bits plan → IsDetected plan b y)

-- a whole line of these octets is that of a row which shows the attempt of this station, from 0, with a hit before the
-- 512th bit of the sending
pub record IsLogged (plan : Plan) (octets : List ℕ) (station : ℕ) (a : Attempt) : Type 0 where
  pub row : Row
  pub t : row.t ≡ a.end
  pub device : row.device ≡ station
  pub shows : ShowsHit row.body a.start bit_512
  pub line : HasLine octets (log_line plan row)

-- of two attempts of different stations that overlap over an open path in the run of a plan, each that ends within the
-- run is told by these octets
abbrev pub AreLogged : Plan → List ℕ → Type 0
AreLogged plan octets =
    (a b : ℕ) (x y : Attempt) → OverlapOpenly plan a b x y
    → (x.end < half_bits plan → IsLogged plan octets a x) × (y.end < half_bits plan → IsLogged plan octets b y)

-- these files have PREFIX.log, and it tells of the run's collisions
pub record IsLogHeld (prefix : List ℕ) (plan : Plan) (files : Files) : Type 0 where
  pub octets : List ℕ
  pub held : file_of (name_of_log prefix) files ≡ Some octets
  pub logged : AreLogged plan octets

-- the path verdict of a layout is that its worst round trip is within the slot time
abbrev pub IsWithin : Layout → Type 0
IsWithin network = (worst a b : ℕ) × IsVerdict network (Within worst a b)

-- the sink got a text that begins with the word within; or it doesn't tell, and the verdict of the layout is so
abbrev pub IsWithinSaid : Layout → Option (List ℕ) → Option (List ℕ) → Type 0
IsWithinSaid network None now = IsWithin network
IsWithinSaid network (Some written) now = (rest : List ℕ) × (now ≡ Some (written ++ codes "within " ++ rest))

-- collisions are told in the log that a run left: where the sink got the verdict within, and the store tells its files
abbrev pub AreCollisionsLogged : List ℕ → List ℕ → Moment → Moment → Type 0
AreCollisionsLogged layout prefix entry exit =
    (network : Layout) → IsJudged layout entry.held (Ok network) → IsWithinSaid network entry.written exit.written
    → (plan : Plan) → IsPlanOf entry.held network plan → IfSome exit.held (λ files. IsLogHeld prefix plan files)

-- where a layout is within, the rows of its run with the loads held at entry tell of its collisions, and the run's log
-- has their lines
abbrev pub AreRunCollisionsDetected : Type 0
AreRunCollisionsDetected =
    (held : Option Files) (network : Layout) → IsWithin network → (plan : Plan) → IsPlanOf held network plan
    → AreDetected plan
