-- The log of the run of a plan, and how many frames its table and its summary have as sent (profile). Stations count
-- from 0.
use Rattle.std.specs.Prelude.{ℕ, List}
use Rattle.load_plan.specs.declared.plan.Plan.{Plan}
use Rattle.network.specs.Outputs.{rows}
use Rattle.run_texts.specs.Counts.{counts_of, totals}
use Rattle.log_meter.specs.LoggedRows.{logged_lines}
use Rattle.log_meter.specs.declared.line.LogLine.{LogLine}
use Rattle.frame_table.specs.TableLaws.{all_sent_frames}

-- the lines of the log of the run of a plan
abbrev pub run_lines : Plan → List LogLine
run_lines plan = logged_lines plan.layout (rows plan)

-- how many frames the table of a plan has as sent, by the log of the plan's run
abbrev pub table_sent : Plan → ℕ
table_sent plan = all_sent_frames plan.layout (run_lines plan) 0 plan.queues

-- how many frames the summary of the run of a plan has as sent
abbrev pub summary_sent : Plan → ℕ
summary_sent plan = (totals (counts_of plan (rows plan))).sent
