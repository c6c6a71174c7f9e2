-- The summary of a run has as many frames as sent as the run has rows that say so.
use Rattle.std.proofs.Common.{◌≡◌, ℕ, zero, suc, ◌+◌, ◌<◌, ◌≤◌, Bool, true, false, cond, eqb, List, [], ◌∷◌, length, filter, sum_by, refl, sym, ap, ap₂, subst, ◌∙◌, inl, inr, arith}
use Rattle.std.specs.Prelude.{replicate}
use Rattle.std.specs.List.{AllByRecursion}
use Rattle.std.proofs.lemmas.Bool.{cases_eq, eq-eqb, ne_eqb}
use Rattle.std.proofs.lemmas.List.Sums.{sum_by-append, sum_by-cons}
use Rattle.frame_layout.specs.declared.queue.Ready.{Ready}
use Rattle.collision_log.specs.Counters.{no_counts, with_dropped, with_row}
use Rattle.collision_log.specs.declared.counters.Counters.{Counters}
use Rattle.collision_log.specs.declared.row.Body.{Body}
use Rattle.collision_log.specs.declared.row.Body.TheVariants.{Sent, Collided, GivenUp, Cut, Received, Dropped, Clash, Closed, Opened, Halted}
use Rattle.collision_log.specs.declared.row.Row.{Row}
use Rattle.collision_log.specs.declared.row.Why.{Why}
use Rattle.collision_log.specs.declared.row.Why.TheVariants as why
use Rattle.layout.specs.declared.lines.Layout.{Layout}
use Rattle.load_plan.specs.declared.plan.Plan.{Plan}
use Rattle.load_plan.specs.declared.plan.Skips.{Skips}
use Rattle.network.specs.Outputs.{rows}
use Rattle.run_texts.specs.Counting.{counted}
use Rattle.run_texts.specs.Counts.{all_counts_after, counts_of, first_counts, station_counts, stations_counts, totals}
use Rattle.run_texts.proofs.CountedRows.{counted_first, counted_none, length-counted, length-first_counts}
use Rattle.log_meter.specs.Figures.{is_sent_body, kind_count}
use Rattle.log_meter.specs.LoggedRows.{IsLoggable, logged_lines}
use Rattle.log_meter.specs.declared.line.LogLine.{LogLine}
use Rattle.log_meter.proofs.PlannedRows.{planned_rows}
use Rattle.run_frames.specs.RunLogs.{summary_sent, run_lines}

-- how many rows say that a frame was sent
abbrev rows_sent : List Row → ℕ
rows_sent [] = 0
rows_sent (row ∷ rows) = cond (is_sent_body row.body) 1 0 + rows_sent rows

-- how many frames these devices have as sent
abbrev all_sent : List Counters → ℕ
all_sent cs = sum_by (λ c. c.sent) cs

one_kept : (b : Bool) (x : LogLine) (xs : List LogLine) (n : ℕ) → length xs ≡ n → length (cond b (x ∷ xs) xs) ≡ cond b 1 0 + n
one_kept true x xs n e = omega (arith, e)
one_kept false x xs n e = omega (arith, e)

lines_sent : (l : Layout) (rows : List Row) → kind_count is_sent_body (logged_lines l rows) ≡ rows_sent rows
lines_sent l [] = refl
lines_sent l (row ∷ rows) = one_kept (is_sent_body row.body) _ (filter (λ (x : LogLine). is_sent_body x.body) (logged_lines l rows)) (rows_sent rows) (lines_sent l rows)

-- ---- one row

dropped_sent : (c : Counters) (why : Why) → (with_dropped c why).sent ≡ c.sent
dropped_sent c why.Fragment = refl
dropped_sent c why.TooLong = refl
dropped_sent c why.FcsError = refl
dropped_sent c why.AlignError = refl
dropped_sent c why.Damaged = refl

row_sent : (c : Counters) (body : Body) → (with_row c body).sent ≡ c.sent + cond (is_sent_body body) 1 0
row_sent c (Sent frame start attempt) = refl
row_sent c (Collided frame start attempt hit drawn) = omega arith
row_sent c (GivenUp frame start hit) = omega arith
row_sent c (Cut frame start attempt hit) = omega arith
row_sent c (Received octets) = omega arith
row_sent c (Dropped why halves) = omega (arith, dropped_sent c why)
row_sent c Clash = omega arith
row_sent c (Closed port) = omega arith
row_sent c (Opened port) = omega arith
row_sent c (Halted port) = omega arith

sent-cons : (c : Counters) (cs : List Counters) → all_sent (c ∷ cs) ≡ c.sent + all_sent cs
sent-cons c cs = sum_by-cons (λ (x : Counters). x.sent) c cs

-- a row of a device before these counts nothing
before_all : (k : ℕ) (cs : List Counters) (row : Row) → row.device < k → all_sent (counted k cs row) ≡ all_sent cs
before_all k [] row lt = refl
before_all k (c ∷ cs) row lt =
    let same : cond (eqb row.device k) (with_row c row.body) c ≡ c = ap (λ b. cond b (with_row c row.body) c) (ne_eqb row.device k (λ e. omega (arith, e, lt))) in
    sent-cons (cond (eqb row.device k) (with_row c row.body) c) (counted (k + 1) cs row)
    ∙ ap₂ (λ (x : Counters) (n : ℕ). x.sent + n) same (before_all (k + 1) cs row (omega (arith, lt))) ∙ sym (sent-cons c cs)

-- a row of one of these devices counts once
counted_once : (k : ℕ) (cs : List Counters) (row : Row) → k ≤ row.device → row.device < k + length cs → all_sent (counted k cs row) ≡ all_sent cs + cond (is_sent_body row.body) 1 0
counted_once k [] row low high = absurd (omega (arith, low, high))
counted_once k (c ∷ cs) row low high =
    let here = cond (eqb row.device k) (with_row c row.body) c in
    let more = counted (k + 1) cs row in
    elim (cases_eq row.device k) [
      | inl e ↦ (
          let same : here ≡ with_row c row.body = ap (λ b. cond b (with_row c row.body) c) (eq-eqb row.device k e) in
          let counts : here.sent ≡ c.sent + cond (is_sent_body row.body) 1 0 = ap (λ (x : Counters). x.sent) same ∙ row_sent c row.body in
          let rest : all_sent more ≡ all_sent cs = before_all (k + 1) cs row (omega (arith, e)) in
          omega (arith, sent-cons here more, counts, rest, sent-cons c cs)
          )
      | inr ne ↦ (
          let same : here ≡ c = ap (λ b. cond b (with_row c row.body) c) (ne_eqb row.device k ne) in
          let counts : here.sent ≡ c.sent = ap (λ (x : Counters). x.sent) same in
          let above : k + 1 ≤ row.device = after_it k row.device low ne in
          let rest : all_sent more ≡ all_sent cs + cond (is_sent_body row.body) 1 0 = counted_once (k + 1) cs row above (omega (arith, high)) in
          omega (arith, sent-cons here more, counts, rest, sent-cons c cs)
          )
    ]
  where
    after_it : (k n : ℕ) → k ≤ n → (n ≡ k → ⊥) → k + 1 ≤ n
    after_it k n le ne = grind arith

-- ---- all rows

-- a row of the first so many devices
abbrev IsAmong : ℕ → Row → Type 0
IsAmong many row = row.device < many

counted_all : (cs : List Counters) (rows : List Row) → AllByRecursion (IsAmong (length cs)) rows → all_sent (all_counts_after 0 cs rows) ≡ all_sent cs + rows_sent rows
counted_all cs [] h = ap all_sent (counted_none 0 cs) ∙ omega arith
counted_all cs (row ∷ rows) h =
    let next = counted 0 cs row in
    let rest : all_sent (all_counts_after 0 next rows) ≡ all_sent next + rows_sent rows =
    counted_all next rows (subst (λ n. AllByRecursion (IsAmong n) rows) (sym (length-counted 0 cs row)) h.1) in
    let one : all_sent next ≡ all_sent cs + cond (is_sent_body row.body) 1 0 = counted_once 0 cs row (omega arith) (omega (arith, h.0)) in
    ap all_sent (counted_first 0 cs row rows) ∙ omega (arith, rest, one)

none_yet : (qs : List (List Ready)) (ss : List Skips) → all_sent (stations_counts qs ss) ≡ 0
none_yet [] ss = refl
none_yet (q ∷ qs) [] = refl
none_yet (q ∷ qs) (s ∷ ss) =
    let first : all_sent (stations_counts (q ∷ qs) (s ∷ ss)) ≡ 0 + all_sent (stations_counts qs ss) = sent-cons (station_counts q s) (stations_counts qs ss) in
    omega (arith, first, none_yet qs ss)

none_repeated : (n : ℕ) → all_sent (replicate n no_counts) ≡ 0
none_repeated zero = refl
none_repeated (suc n) =
    let first : all_sent (replicate (suc n) no_counts) ≡ 0 + all_sent (replicate n no_counts) = sent-cons no_counts (replicate n no_counts) in
    omega (arith, first, none_repeated n)

first_sent : (plan : Plan) → all_sent (first_counts plan) ≡ 0
unfolding first_counts
first_sent plan =
    sum_by-append (λ (c : Counters). c.sent) (stations_counts plan.queues plan.skips) (replicate (length plan.layout.repeaters) no_counts)
    ∙ ap₂ (λ (a b : ℕ). a + b) (none_yet plan.queues plan.skips) (none_repeated (length plan.layout.repeaters))

devices_among : (l : Layout) (many : ℕ) (rows : List Row) → ((row : Row) → IsLoggable l row → row.device < many) → AllByRecursion (IsLoggable l) rows → AllByRecursion (IsAmong many) rows
devices_among l many [] within h = tt
devices_among l many (row ∷ rows) within h = (within row h.0, devices_among l many rows within h.1)

summed : (plan : Plan) (rows : List Row) → AllByRecursion (IsLoggable plan.layout) rows → (totals (counts_of plan rows)).sent ≡ rows_sent rows
unfolding totals counts_of
summed plan rows h =
    let many = length-first_counts plan plan.queued plan.counted in
    counted_all (first_counts plan) rows (devices_among plan.layout (length (first_counts plan)) rows (λ row is. omega (arith, is.device, many)) h)
    ∙ omega (arith, first_sent plan)

-- the lines of the log that say that a frame was sent are as many as the summary has
pub lines_summed : (plan : Plan) → kind_count is_sent_body (run_lines plan) ≡ summary_sent plan
lines_summed plan = lines_sent plan.layout (rows plan) ∙ sym (summed plan (rows plan) (planned_rows plan).each)
