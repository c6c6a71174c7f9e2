-- Texts of runs, and the first fault of octets that are none (profile). Half bits count from 0, lines from 1.
use Rattle.std.specs.Prelude.{◌≡◌, ◌≢◌, ℕ, ◌+◌, ◌≤◌, List, [], ◌∷◌, ◌++◌, length, Option, None, Some, Result, Ok, Err, ⊤, ◌⊎◌}
use Rattle.std.specs.List.{AllByRecursion}
use Rattle.mac_parameters.specs.Parameters.{most_half_bits}
use Rattle.line_probe.specs.RunTexts.{line_of_run, text_of_runs}
use Rattle.line_probe.specs.declared.fault.RunsFault.{RunsFault}
use Rattle.line_probe.specs.declared.fault.RunsFault.TheVariants as fault
use Rattle.line_probe.specs.declared.run.Run.{Run}

-- a run that a line may tell: it has at least one half bit, and its numbers are at most 2,000,000,000
pub record IsToldRun (r : Run) : Type 0 where
  pub start : r.start ≤ most_half_bits
  pub some : 1 ≤ r.count
  pub count : r.count ≤ most_half_bits

-- the last of these runs, and the one before them where there is none
abbrev pub last_run : Option Run → List Run → Option Run
last_run before [] = before
last_run before (r ∷ rs) = last_run (Some r) rs

-- the run begins where the one before ends, if there is one before
abbrev pub BeginsAtEnd : Option Run → Run → Type 0
BeginsAtEnd None r = ⊤
BeginsAtEnd (Some before) r = r.start ≡ before.start + before.count

-- the run has another symbol than the one before, if there is one before
abbrev pub HasOtherSymbol : Option Run → Run → Type 0
HasOtherSymbol None r = ⊤
HasOtherSymbol (Some before) r = r.symbol ≢ before.symbol

-- the run doesn't begin where the one before ends
abbrev pub LeavesGap : Option Run → Run → Type 0
LeavesGap None r = ⊥
LeavesGap (Some before) r = r.start ≢ before.start + before.count

-- the run begins where the one before ends, with the same symbol
abbrev pub GoesOnAlike : Option Run → Run → Type 0
GoesOnAlike None r = ⊥
GoesOnAlike (Some before) r = (r.start ≡ before.start + before.count) × (r.symbol ≡ before.symbol)

-- each run begins where the one before ends, with another symbol
abbrev pub FollowOn : Option Run → List Run → Type 0
FollowOn before [] = ⊤
FollowOn before (r ∷ rs) = BeginsAtEnd before r × HasOtherSymbol before r × FollowOn (Some r) rs

-- what is wrong with a run in this line after the one before: nothing, or it leaves a gap, or it has the same symbol
abbrev pub IsFaultAfter : Option Run → Run → ℕ → Option RunsFault → Type 0
IsFaultAfter before r line None = BeginsAtEnd before r × HasOtherSymbol before r
IsFaultAfter before r line (Some (fault.Gap n)) = (n ≡ line) × LeavesGap before r
IsFaultAfter before r line (Some (fault.Same n)) = (n ≡ line) × GoesOnAlike before r
IsFaultAfter before r line (Some _) = ⊥

-- runs that lines may tell, each of which begins where the one before ends, with another symbol
pub record AreTold (runs : List Run) : Type 0 where
  pub each : AllByRecursion IsToldRun runs
  pub order : FollowOn None runs

-- the octets are the text of these runs
pub record IsTextOf (octets : List ℕ) (runs : List Run) : Type 0 where
  pub told : AreTold runs
  pub text : octets ≡ text_of_runs runs

-- no line of a run stands in front, with its line feed
abbrev pub HasNoRunLine : List ℕ → Type 0
HasNoRunLine octets = (r : Run) (more : List ℕ) → IsToldRun r → octets ≢ line_of_run r ++ more

-- the octets begin with the text of runs, and then, in line n, something else than the line of a run stands
pub record IsBadRunAt (n : ℕ) (octets : List ℕ) : Type 0 where
  pub front : List Run
  pub rest : List ℕ
  pub told : AreTold front
  pub text : octets ≡ text_of_runs front ++ rest
  pub more : rest ≢ []
  pub bad : HasNoRunLine rest
  pub number : n ≡ length front + 1

-- the octets begin with the text of runs, and then, in line n, the line of another run stands, which is so to the one
-- before
pub record IsRunAt (So : Option Run → Run → Type 0) (n : ℕ) (octets : List ℕ) : Type 0 where
  pub front : List Run
  pub run : Run
  pub rest : List ℕ
  pub told : AreTold front
  pub line : IsToldRun run
  pub text : octets ≡ text_of_runs front ++ (line_of_run run ++ rest)
  pub so : So (last_run None front) run
  pub number : n ≡ length front + 1

-- the run in line n doesn't begin where the one before ends
abbrev pub IsGapAt : ℕ → List ℕ → Type 0
IsGapAt n octets = IsRunAt LeavesGap n octets

-- the run in line n begins where the one before ends, with the same symbol
abbrev pub IsSameAt : ℕ → List ℕ → Type 0
IsSameAt n octets = IsRunAt GoesOnAlike n octets

-- what octets are: the text of runs, or octets with this first fault
abbrev pub AreJudgedRuns : List ℕ → Result (List Run) RunsFault → Type 0
AreJudgedRuns octets (Ok runs) = IsTextOf octets runs
AreJudgedRuns octets (Err (fault.BadLine n)) = IsBadRunAt n octets
AreJudgedRuns octets (Err (fault.Gap n)) = IsGapAt n octets
AreJudgedRuns octets (Err (fault.Same n)) = IsSameAt n octets
AreJudgedRuns octets (Err fault.OutOfMemory) = ⊥

-- the answer is this, unless memory ran out
abbrev pub AreUnlessMemory : Result (List Run) RunsFault → Result (List Run) RunsFault → Type 0
AreUnlessMemory answer judged = (answer ≡ judged) ⊎ (answer ≡ Err fault.OutOfMemory)
