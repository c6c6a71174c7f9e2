-- The laws of the log of a run: its frames end once, it names what its plan has, and its table counts as its summary.
use Rattle.std.proofs.Common.{◌≡◌, ℕ, ◌+◌, ◌≤◌, Bool, true, false, cond, eqb, Option, Some, None, is_some, List, [], ◌∷◌, count_by, refl, sym, ap, ap₂, subst, ◌∙◌, arith}
use Rattle.std.specs.List.{AllByRecursion, cons_option}
use Rattle.std.proofs.lemmas.List.Sums.{sum_by-cons}
use Rattle.collision_log.specs.declared.row.Body.{Body}
use Rattle.collision_log.specs.declared.row.Body.TheVariants.{Sent, Collided, GivenUp, Cut, Received, Dropped, Clash, Closed, Opened, Halted}
use Rattle.collision_log.specs.declared.row.Row.{Row}
use Rattle.layout.specs.Sound.{IsSound}
use Rattle.layout.specs.declared.lines.Layout.{Layout}
use Rattle.load_plan.proofs.PlansAreSound.{sound_of_plan}
use Rattle.load_plan.specs.declared.plan.Plan.{Plan}
use Rattle.network.specs.Outputs.{rows}
use Rattle.run_texts.specs.Texts.{log_of_rows}
use Rattle.log_meter.specs.LoggedRows.{IsLoggable, logged_line, logged_lines}
use Rattle.log_meter.specs.Logs.{IsLog}
use Rattle.log_meter.proofs.PlannedRows.{planned_rows}
use Rattle.log_meter.proofs.RowsRead.{rows_are_log}
use Rattle.frame_table.specs.Devices.{events_of, is_number}
use Rattle.frame_table.specs.Histories.{end_at}
use Rattle.frame_table.specs.TableLaws.{EndOnce}
use Rattle.frame_table.specs.Unplanned.{first_unplanned, is_had_by, is_planned, unplanned_from}
use Rattle.frame_table.specs.declared.events.Event.{Event}
use Rattle.frame_table.specs.declared.history.End.{End}
use Rattle.frame_table.proofs.SentFrames.{sent_frames_are_rows}
use Rattle.run_frames.specs.RunLogs.{summary_sent, table_sent, run_lines}
use Rattle.run_frames.proofs.EndedOnce.{ended_once, times_ended}
use Rattle.run_frames.proofs.HadRows.{IsHad, rows_had}
use Rattle.run_frames.proofs.NamedDevices.{row_named}
use Rattle.run_frames.proofs.NumberedFrames.{ends_frame}
use Rattle.run_frames.proofs.SentRows.{lines_summed}

-- ---- frames end once

some_if : (b : Bool) (x : End) → cond {A = ℕ} (is_some (cond b (Some x) None)) 1 0 ≡ cond b 1 0
some_if true x = refl
some_if false x = refl

none_if : (b : Bool) → cond {A = ℕ} (is_some (cond {A = Option End} b None None)) 1 0 ≡ 0
none_if true = refl
none_if false = refl

end_told : (n t : ℕ) (b : Body) → cond {A = ℕ} (is_some (end_at n (record { t = t; body = b }))) 1 0 ≡ ends_frame n b
end_told n t (Sent frame start attempt) = some_if (eqb frame n) _
end_told n t (Collided frame start attempt hit drawn) = none_if (eqb frame n)
end_told n t (GivenUp frame start hit) = some_if (eqb frame n) _
end_told n t (Cut frame start attempt hit) = some_if (eqb frame n) _
end_told n t (Received octets) = refl
end_told n t (Dropped why halves) = refl
end_told n t Clash = refl
end_told n t (Closed port) = refl
end_told n t (Opened port) = refl
end_told n t (Halted port) = refl

-- how many of these events end frame n
abbrev ends_told : ℕ → List Event → ℕ
ends_told n events = count_by (λ e. is_some (end_at n e)) events

one_told : (here : Bool) (n : ℕ) (row : Row) (events : List Event) (m : ℕ) → ends_told n events ≡ m
    → ends_told n (cons_option (cond here (Some (record { t = row.t; body = row.body })) None) events) ≡ cond here (ends_frame n row.body) 0 + m
one_told true n row events m e = sum_by-cons (λ (x : Event). cond (is_some (end_at n x)) 1 0) (record { t = row.t; body = row.body }) events ∙ ap₂ (λ (a b : ℕ). a + b) (end_told n row.t row.body) e
one_told false n row events m e = omega (arith, e)

all_told : (l : Layout) (n a : ℕ) (rows : List Row) → IsSound l → AllByRecursion (IsLoggable l) rows → ends_told n (events_of l a (logged_lines l rows)) ≡ times_ended n a rows
all_told l n a [] sound h = refl
all_told l n a (row ∷ rows) sound h =
    let rest : List Event = events_of l a (logged_lines l rows) in
    ap (λ (o : Option ℕ). ends_told n (cons_option (cond (is_number a o) (Some (record { t = row.t; body = row.body })) None) rest)) (row_named l row sound h.0)
    ∙ one_told (eqb row.device a) n row rest (times_ended n a rows) (all_told l n a rows sound h.1)

pub frames_end_once : (plan : Plan) → EndOnce plan.layout (run_lines plan)
frames_end_once plan a n = subst (λ m. m ≤ 1) (sym (all_told plan.layout n a (rows plan) (sound_of_plan plan) (planned_rows plan).each)) (ended_once plan n a)

-- ---- the plan has what is named

all_had : (plan : Plan) (n : ℕ) (rows : List Row) → AllByRecursion (IsLoggable plan.layout) rows → AllByRecursion (IsHad plan) rows → unplanned_from plan n (logged_lines plan.layout rows) ≡ None
all_had plan n [] loggable had = refl
all_had plan n (row ∷ rows) loggable had =
    let planned : is_planned plan (logged_line plan.layout row) ≡ true = ap (λ (o : Option ℕ). is_had_by plan o row.body) (row_named plan.layout row (sound_of_plan plan) loggable.0) ∙ had.0 in
    ap (λ b. cond b (unplanned_from plan (n + 1) (logged_lines plan.layout rows)) (Some n)) planned ∙ all_had plan (n + 1) rows loggable.1 had.1

pub run_logs_are_planned : (plan : Plan) → first_unplanned plan (run_lines plan) ≡ None
run_logs_are_planned plan = all_had plan 1 (rows plan) (planned_rows plan).each (rows_had plan)

-- ---- the table counts as the summary

run_log : (plan : Plan) → IsLog (run_lines plan)
run_log plan = (rows_are_log plan.layout (rows plan) (log_of_rows plan.layout (rows plan)) (sound_of_plan plan) (planned_rows plan) refl).log

pub sent_frames_are_counted : (plan : Plan) → table_sent plan ≡ summary_sent plan
sent_frames_are_counted plan = sent_frames_are_rows plan (run_lines plan) (run_log plan) (run_logs_are_planned plan) (frames_end_once plan) ∙ lines_summed plan
