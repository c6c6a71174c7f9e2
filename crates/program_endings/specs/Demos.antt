-- What demo writes of its layout (profile).
use Rattle.std.specs.Prelude.{◌≡◌, ℕ, List, [], ◌++◌, codes, decimal, length, replicate}
use Rattle.capture_file.specs.declared.entries.Record.{Record}
use Rattle.demo_layout.specs.Demo.{demo_of}
use Rattle.layout.specs.declared.lines.Layout.{Layout}
use Rattle.load_plan.specs.declared.plan.Plan.{Plan}
use Rattle.run_endings.specs.Runs.{IsMadeOf, IsSummary}

-- no records for any station of a network
abbrev pub empty_loads : Layout → List (List Record)
empty_loads network = replicate (length network.stations) []

-- the line of demo of a number: how many segments, repeaters and stations its layout has
abbrev pub line_of_demo : ℕ → Layout → List ℕ
line_of_demo number network =
    codes "demo " ++ decimal number ++ codes " segments " ++ decimal (length network.segments)
    ++ codes " repeaters " ++ decimal (length network.repeaters)
    ++ codes " stations " ++ decimal (length network.stations) ++ codes "\n"

-- the text of demo of a number: its line, and the summary of the run of its layout, none of whose stations has a load
pub record IsDemoText (number : ℕ) (text : List ℕ) : Type 0 where
  pub plan : Plan
  pub made : IsMadeOf (demo_of number) (empty_loads (demo_of number)) plan
  pub summary : List ℕ
  pub summed : IsSummary plan summary
  pub is : text ≡ line_of_demo number (demo_of number) ++ summary
