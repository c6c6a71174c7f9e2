-- Which stations a frame reached that was sent (profile). Half bits, stations, repeaters and ports count from 0.
use Rattle.std.specs.Prelude.{ℕ, ◌+◌, ◌*◌, ◌==◌, ◌&&◌, not, Bool, true, false, nat_lt, if◌then◌else◌, List, length, count_by, filter, Option, None, Some}
use Rattle.std.specs.List.{list_all}
use Rattle.mac_parameters.specs.Parameters.{half_bits_a_bit}
use Rattle.layout.specs.Joined.{counted_up}
use Rattle.layout.specs.Paths.{Path, length_of}
use Rattle.layout.specs.declared.lines.Layout.{Layout}
use Rattle.layout.specs.declared.ways.Attachment.TheVariants.{Station}
use Rattle.load_plan.specs.declared.plan.Plan.{Plan}
use Rattle.log_meter.specs.declared.line.LogLine.{LogLine}
use Rattle.frame_table.specs.Devices.{events_of}
use Rattle.frame_table.specs.Ports.{changes_of, is_open}
use Rattle.frame_table.specs.Receptions.{has_received, receptions_of}
use Rattle.frame_table.specs.Ways.{entries_on_path}
use Rattle.frame_table.specs.declared.history.End.{End}
use Rattle.frame_table.specs.declared.history.Outcome.{Outcome}
use Rattle.frame_table.specs.declared.history.Outcome.TheVariants.{Sent, GivenUp, Cut}
use Rattle.frame_table.specs.declared.reach.Reach.{Reach}
use Rattle.frame_table.specs.declared.routes.WayIn.{WayIn}

-- whether a port is open when the end of a frame comes to it that ended in half bit t where the way began
abbrev pub is_entered : Layout → List LogLine → ℕ → WayIn → Bool
is_entered l lines t e =
    is_open (t + e.at) (changes_of (e.port + 1) (events_of l (length l.stations + e.repeater) lines))

-- whether the frame of so many octets that station a sent to its end in half bit t reached station b by this path: b
-- has received as many octets when the end came to b, and the ports by which the path enters repeaters were open for it
abbrev pub is_reached : Layout → List LogLine → ℕ → ℕ → ℕ → ℕ → Path → Bool
is_reached l lines octets t a b path =
    has_received (t + length_of l (Station a) path) octets (receptions_of (events_of l b lines))
    && list_all (is_entered l lines t) (entries_on_path l (Station a) path)

-- whether the end of a frame comes to a station within so many half bits of the run, and the frame did not reach it
abbrev pub is_missed : ℕ → Layout → List LogLine → ℕ → ℕ → ℕ → ℕ → Path → Bool
is_missed half_bits l lines octets t a b path =
    nat_lt (t + length_of l (Station a) path) half_bits && not (is_reached l lines octets t a b path)

-- the first n stations but station a
abbrev pub others : ℕ → ℕ → List ℕ
others a n = filter (λ b. not (b == a)) (counted_up n)

-- of the other ones among the first n stations, how many the frame reached and how many it missed
abbrev pub reach_among : ℕ → Layout → (ℕ → ℕ → Path) → List LogLine → ℕ → ℕ → ℕ → ℕ → Reach
reach_among half_bits l routes lines octets t a n =
    record {
      reached = count_by (λ b. is_reached l lines octets t a b (routes a b)) (others a n);
      missed = count_by (λ b. is_missed half_bits l lines octets t a b (routes a b)) (others a n);
    }

-- how many half bits the run of a plan has
abbrev pub half_bits_run : Plan → ℕ
half_bits_run plan = half_bits_a_bit * plan.layout.until_bits

-- whether a frame was sent
abbrev pub was_sent : Outcome → Bool
was_sent Sent = true
was_sent GivenUp = false
was_sent Cut = false

-- whom a frame of station a reached and missed, by its end: nothing is told of a frame that was not sent
abbrev pub reach_of : ℕ → Layout → (ℕ → ℕ → Path) → List LogLine → ℕ → ℕ → Option End → Option Reach
reach_of half_bits l routes lines octets a None = None
reach_of half_bits l routes lines octets a (Some e) =
    if was_sent e.outcome
    then Some (reach_among half_bits l routes lines octets e.t a (length l.stations))
    else None
