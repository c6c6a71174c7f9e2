-- The text of a layout's slacks (profile). Places, delays and slacks are half bits; segments, repeaters and stations
-- count from 0.
use Rattle.std.specs.Prelude.{◌≡◌, ℕ, List, [], ◌∷◌, ◌++◌, All, Option, None, Some, codes, decimal, length, map, slice_get, unwrap_or}
use Rattle.layout.specs.declared.lines.Layout.{Layout}
use Rattle.layout.specs.Joined.{counted_up}
use Rattle.path_slack.specs.Slacks.{AreGaps, IsDelaySlack, IsGapSlack}
use Rattle.path_slack.specs.declared.slack.DelaySlack.{DelaySlack}
use Rattle.path_slack.specs.declared.slack.GapSlack.{GapSlack}
use Rattle.path_slack.specs.declared.slack.Limit.{Limit}
use Rattle.path_slack.specs.declared.slack.Limit.TheVariants.{Pair, Bound}
use Rattle.path_slack.specs.declared.slack.Slacks.{Slacks}
use Rattle.program_texts.specs.Verdicts.{IsVerdictLine, name_of_station}

-- the name of a segment
abbrev pub name_of_segment : Layout → ℕ → List ℕ
name_of_segment network segment = unwrap_or (slice_get (map (λ s. s.name) network.segments) segment) []

-- the name of a repeater
abbrev pub name_of_repeater : Layout → ℕ → List ℕ
name_of_repeater network repeater = unwrap_or (slice_get (map (λ r. r.name) network.repeaters) repeater) []

-- the delay of a repeater
abbrev pub delay_of_repeater : Layout → ℕ → ℕ
delay_of_repeater network repeater = unwrap_or (slice_get (map (λ r. r.delay) network.repeaters) repeater) 0

-- what stops a lengthening: two stations, by their names, or the bound of a place or of a delay
abbrev pub text_of_limit : Layout → Limit → List ℕ
text_of_limit network (Pair a b) =
    codes " pair " ++ name_of_station network a ++ codes " " ++ name_of_station network b ++ codes "\n"
text_of_limit network Bound = codes " bound\n"

-- how far something can grow, and what stops it, or that the layout itself is over
abbrev pub text_of_slack : Layout → Option (ℕ × Limit) → List ℕ
text_of_slack network None = codes " over\n"
text_of_slack network (Some s) = codes " slack " ++ decimal s.0 ++ text_of_limit network s.1

-- the line of a gap: its segment, the places of its two taps, and its slack
abbrev pub line_of_gap : Layout → GapSlack → List ℕ
line_of_gap network g =
    codes "segment " ++ name_of_segment network g.segment ++ codes " " ++ decimal g.low
    ++ codes " " ++ decimal g.high ++ text_of_slack network g.slack

-- the line of a repeater's delay: its repeater, the delay as it is, and its slack
abbrev pub line_of_delay : Layout → DelaySlack → List ℕ
line_of_delay network d =
    codes "repeater " ++ name_of_repeater network d.repeater ++ codes " "
    ++ decimal (delay_of_repeater network d.repeater) ++ text_of_slack network d.slack

-- the lines of these gaps, in their order
abbrev pub lines_of_gaps : Layout → List GapSlack → List ℕ
lines_of_gaps network [] = []
lines_of_gaps network (g ∷ gs) = line_of_gap network g ++ lines_of_gaps network gs

-- the lines of these delays, in their order
abbrev pub lines_of_delays : Layout → List DelaySlack → List ℕ
lines_of_delays network [] = []
lines_of_delays network (d ∷ ds) = line_of_delay network d ++ lines_of_delays network ds

-- the lines of these slacks: all gaps, and then all delays
abbrev pub slack_text : Layout → Slacks → List ℕ
slack_text network slacks = lines_of_gaps network slacks.gaps ++ lines_of_delays network slacks.delays

-- these are the slacks of a layout: of all its gaps, in order of segments and then of places, and of the delays of all
-- its repeaters, in the file's order
pub record AreSlacks (network : Layout) (slacks : Slacks) : Type 0 where
  pub gaps : AreGaps network slacks.gaps
  pub gap_slacks : All (IsGapSlack network) slacks.gaps
  pub delays : map (λ d. d.repeater) slacks.delays ≡ counted_up (length network.repeaters)
  pub delay_slacks : All (IsDelaySlack network) slacks.delays

-- the text of the layout's slacks: the line of its verdict, and the lines of its slacks
pub record IsSlackText (network : Layout) (text : List ℕ) : Type 0 where
  pub line : List ℕ
  pub verdict : IsVerdictLine network line
  pub slacks : Slacks
  pub right : AreSlacks network slacks
  pub is : text ≡ line ++ slack_text network slacks
