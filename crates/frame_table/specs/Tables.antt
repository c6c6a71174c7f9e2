-- The table of all frames that the stations of a plan have to send, by a log (profile, after RFC 4180 with line feeds).
-- Stations and half bits count from 0, frames from 1.
use Rattle.std.specs.Prelude.{◌≡◌, ℕ, ◌+◌, List, [], ◌∷◌, ◌++◌, length, codes, decimal, Option, None, Some}
use Rattle.frame_layout.specs.declared.queue.Ready.{Ready}
use Rattle.layout.specs.Paths.{Path}
use Rattle.layout.specs.declared.lines.StationLine.{StationLine}
use Rattle.load_plan.specs.declared.plan.Plan.{Plan}
use Rattle.log_meter.specs.declared.line.LogLine.{LogLine}
use Rattle.frame_table.specs.Devices.{events_of}
use Rattle.frame_table.specs.Histories.{history}
use Rattle.frame_table.specs.Reached.{half_bits_run, reach_of}
use Rattle.frame_table.specs.Ways.{AreRoutes}
use Rattle.frame_table.specs.declared.history.End.{End}
use Rattle.frame_table.specs.declared.history.History.{History}
use Rattle.frame_table.specs.declared.history.Outcome.{Outcome}
use Rattle.frame_table.specs.declared.history.Outcome.TheVariants.{Sent, GivenUp, Cut}
use Rattle.frame_table.specs.declared.reach.Reach.{Reach}

-- the first line: the names of the fields
abbrev pub table_header : List ℕ
table_header = codes "station,frame,octets,ready,first,start,end,attempts,outcome,reached,missed\n"

-- a number, and nothing where there is none
abbrev pub number_text : Option ℕ → List ℕ
number_text None = []
number_text (Some n) = decimal n

-- the word for what became of a frame
abbrev pub outcome_text : Outcome → List ℕ
outcome_text Sent = codes "sent"
outcome_text GivenUp = codes "given_up"
outcome_text Cut = codes "cut"

-- the half bit of a frame's end, and nothing where it has none
abbrev pub end_text : Option End → List ℕ
end_text None = []
end_text (Some e) = decimal e.t

-- the word for what became of a frame, which is left where it has no end
abbrev pub outcome_field : Option End → List ℕ
outcome_field None = codes "left"
outcome_field (Some e) = outcome_text e.outcome

-- the fields `reached` and `missed`
abbrev pub reach_text : Option Reach → List ℕ
reach_text None = codes ","
reach_text (Some r) = decimal r.reached ++ codes "," ++ decimal r.missed

-- the fields of a frame's attempts
unfoldable pub history_text : History → List ℕ
history_text h =
    number_text h.first ++ codes "," ++ number_text h.start ++ codes "," ++ end_text h.end ++ codes ","
    ++ decimal h.attempts ++ codes "," ++ outcome_field h.end ++ codes ","

-- the fields of a frame that is known before the run: its station's name, its number, its octets with pad and check
-- sequence, and the half bit from which on it may be sent
unfoldable pub frame_text : List ℕ → ℕ → Ready → List ℕ
frame_text name n ready =
    name ++ codes "," ++ decimal n ++ codes "," ++ decimal (length ready.frame) ++ codes "," ++ decimal ready.at
    ++ codes ","

-- the line of a frame
unfoldable pub line_text : List ℕ → ℕ → Ready → History → Option Reach → List ℕ
line_text name n ready h reach = frame_text name n ready ++ history_text h ++ reach_text reach ++ codes "\n"

-- the line of frame n of station a
abbrev pub line_of_frame : Plan → (ℕ → ℕ → Path) → List LogLine → ℕ → List ℕ → ℕ → Ready → List ℕ
line_of_frame plan routes lines a name n ready =
    line_text name n ready (history n (events_of plan.layout a lines))
    (reach_of (half_bits_run plan) plan.layout routes lines (length ready.frame) a
    (history n (events_of plan.layout a lines)).end)

-- the lines of these frames of station a, the first of which is frame n
abbrev pub lines_of_frames : Plan → (ℕ → ℕ → Path) → List LogLine → ℕ → List ℕ → ℕ → List Ready → List ℕ
lines_of_frames plan routes lines a name n [] = []
lines_of_frames plan routes lines a name n (r ∷ rs) =
    line_of_frame plan routes lines a name n r ++ lines_of_frames plan routes lines a name (n + 1) rs

-- the lines of these stations with their queues, the first of which is station a
abbrev pub table_lines :
    Plan → (ℕ → ℕ → Path) → List LogLine → ℕ → List StationLine → List (List Ready) → List ℕ
table_lines plan routes lines a (s ∷ ss) (q ∷ qs) =
    lines_of_frames plan routes lines a s.name 1 q ++ table_lines plan routes lines (a + 1) ss qs
table_lines plan routes lines a _ _ = []

-- the table of a plan and a log, with these paths from station to station
unfoldable pub frames : Plan → (ℕ → ℕ → Path) → List LogLine → List ℕ
frames plan routes lines = table_header ++ table_lines plan routes lines 0 plan.layout.stations plan.queues

-- the text is the table of a plan and a log
pub record IsFrameTable (plan : Plan) (lines : List LogLine) (text : List ℕ) : Type 0 where
  pub routes : ℕ → ℕ → Path
  pub are : AreRoutes plan.layout routes
  pub told : text ≡ frames plan routes lines
