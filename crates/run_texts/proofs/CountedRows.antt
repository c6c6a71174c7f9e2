-- A row counts at its own device.
use Rattle.std.proofs.Common.{◌≡◌, ℕ, zero, suc, ◌+◌, ◌<◌, ◌≤◌, Bool, true, false, cond, eqb, Some, List, [], ◌∷◌, ◌++◌, map, length, get_or, set, drop, refl, sym, ap, ap₂, ◌∙◌, arith, lit≤, append_assoc, length-append}
use Rattle.std.specs.Prelude.{replicate, slice_get}
use Rattle.std.proofs.Math.Seq.{drop-cons}
use Rattle.std.proofs.lemmas.Bool.{eq-eqb, ne_eqb}
use Rattle.std.proofs.lemmas.List.Elements.{All-append, All-cons, All-nil, All-replicate, All-set}
use Rattle.std.proofs.lemmas.List.{drop_all, length-map, length-replicate}
use Rattle.collision_log.specs.Counters.{RowsAtMost, no_counts, with_row}
use Rattle.collision_log.specs.declared.counters.Counters.{Counters}
use Rattle.collision_log.specs.declared.row.Row.{Row}
use Rattle.frame_layout.specs.declared.queue.Ready.{Ready}
use Rattle.layout.specs.Sound.{device_names}
use Rattle.load_plan.specs.declared.plan.Plan.{Plan}
use Rattle.load_plan.specs.declared.plan.Skips.{Skips}
use Rattle.run_texts.specs.Counting.{AreAtMost, counted}
use Rattle.run_texts.specs.Counts.{all_counts_after, counts_after, counts_of, first_counts, rows_of_device, station_counts, stations_counts}

front : (here : Bool) (c : Counters) (row : Row) (rows : List Row) → counts_after c (cond here (row ∷ rows) rows) ≡ counts_after (cond here (with_row c row.body) c) rows
front true c row rows = refl
front false c row rows = refl

-- one more row in front of others
pub counted_first : (k : ℕ) (cs : List Counters) (row : Row) (rows : List Row) → all_counts_after k cs (row ∷ rows) ≡ all_counts_after k (counted k cs row) rows
counted_first k [] row rows = refl
counted_first k (c ∷ cs) row rows = ap₂ (λ x xs. x ∷ xs) (front (eqb row.device k) c row (rows_of_device k rows)) (counted_first (k + 1) cs row rows)

pub counted_none : (k : ℕ) (cs : List Counters) → all_counts_after k cs [] ≡ cs
counted_none k [] = refl
counted_none k (c ∷ cs) = ap (λ xs. c ∷ xs) (counted_none (k + 1) cs)

at_no : (n m : ℕ) (x y : Counters) → (n ≡ m → ⊥) → cond (eqb n m) x y ≡ y
at_no n m x y ne = ap (λ b. cond b x y) (ne_eqb n m ne)

at_yes : (n m : ℕ) (x y : Counters) → n ≡ m → cond (eqb n m) x y ≡ x
at_yes n m x y e = ap (λ b. cond b x y) (eq-eqb n m e)

below : (k : ℕ) (cs : List Counters) (row : Row) → row.device < k → counted k cs row ≡ cs
below k [] row lt = refl
below k (c ∷ cs) row lt = ap₂ (λ x xs. x ∷ xs) (at_no row.device k (with_row c row.body) c (λ e. absurd (omega arith))) (below (k + 1) cs row (omega arith))

-- a row of no device counts nowhere
pub counted_past : (k : ℕ) (cs : List Counters) (row : Row) → k + length cs ≤ row.device → counted k cs row ≡ cs
counted_past k [] row le = refl
counted_past k (c ∷ cs) row le = ap₂ (λ x xs. x ∷ xs) (at_no row.device k (with_row c row.body) c (λ e. absurd (omega arith))) (counted_past (k + 1) cs row (omega arith))

-- a row counts at its device, which is the i-th of these
pub counted_at : (k : ℕ) (cs : List Counters) (row : Row) (i : ℕ) (d : Counters) → i < length cs → row.device ≡ k + i → counted k cs row ≡ set cs i (with_row (get_or cs i d) row.body)
counted_at k [] row i d lt e = absurd (omega arith)
counted_at k (c ∷ cs) row zero d lt e = ap₂ (λ x xs. x ∷ xs) (at_yes row.device k (with_row c row.body) c (omega arith)) (below (k + 1) cs row (omega arith))
counted_at k (c ∷ cs) row (suc i) d lt e = ap₂ (λ x xs. x ∷ xs) (at_no row.device k (with_row c row.body) c (λ s. absurd (omega arith))) (counted_at (k + 1) cs row i d (omega arith) (omega arith))

pub length-counted : (k : ℕ) (cs : List Counters) (row : Row) → length (counted k cs row) ≡ length cs
length-counted k [] row = refl
length-counted k (c ∷ cs) row = ap suc (length-counted (k + 1) cs row)

pub length-all_counts_after : (k : ℕ) (cs : List Counters) (rows : List Row) → length (all_counts_after k cs rows) ≡ length cs
length-all_counts_after k [] rows = refl
length-all_counts_after k (c ∷ cs) rows = ap suc (length-all_counts_after (k + 1) cs rows)

pub at_most_more : (c : Counters) (n m : ℕ) → n ≤ m → RowsAtMost c n → RowsAtMost c m
at_most_more c n m le h = record {
  at_most_sent = omega (arith, h.at_most_sent);
  at_most_collided = omega (arith, h.at_most_collided);
  at_most_late = omega (arith, h.at_most_late);
  at_most_given_up = omega (arith, h.at_most_given_up);
  at_most_cut = omega (arith, h.at_most_cut);
  at_most_received = omega (arith, h.at_most_received);
  at_most_fragment = omega (arith, h.at_most_fragment);
  at_most_too_long = omega (arith, h.at_most_too_long);
  at_most_fcs = omega (arith, h.at_most_fcs);
  at_most_align = omega (arith, h.at_most_align);
  at_most_damaged = omega (arith, h.at_most_damaged);
  at_most_clash = omega (arith, h.at_most_clash);
  at_most_closed = omega (arith, h.at_most_closed);
  at_most_opened = omega (arith, h.at_most_opened);
  at_most_halted = omega (arith, h.at_most_halted);
}

pub are_at_most_more : (cs : List Counters) (n m : ℕ) → n ≤ m → AreAtMost cs n → AreAtMost cs m
are_at_most_more cs n m le h = λ k d lt. at_most_more (get_or cs k d) n m le (h k d lt)

-- one device's counts rise by at most 1
pub rise_at : (cs : List Counters) (i n : ℕ) (d c : Counters) → i < length cs → ((m : ℕ) → RowsAtMost (get_or cs i d) m → RowsAtMost c (m + 1)) → AreAtMost cs n → AreAtMost (set cs i c) (n + 1)
rise_at cs i n d c lt rise h = All-set (λ x. RowsAtMost x (n + 1)) cs i c (rise n (h i d lt)) (are_at_most_more cs n (n + 1) (omega arith) h)

none : (queued short long snapped : ℕ) → RowsAtMost (record no_counts { queued = queued; short = short; long = long; snapped = snapped }) 0
none queued short long snapped = record {
  at_most_sent = lit≤ tt;
  at_most_collided = lit≤ tt;
  at_most_late = lit≤ tt;
  at_most_given_up = lit≤ tt;
  at_most_cut = lit≤ tt;
  at_most_received = lit≤ tt;
  at_most_fragment = lit≤ tt;
  at_most_too_long = lit≤ tt;
  at_most_fcs = lit≤ tt;
  at_most_align = lit≤ tt;
  at_most_damaged = lit≤ tt;
  at_most_clash = lit≤ tt;
  at_most_closed = lit≤ tt;
  at_most_opened = lit≤ tt;
  at_most_halted = lit≤ tt;
}

abbrev IsNone : Counters → Type 0
IsNone c = RowsAtMost c 0

stations_none : (qs : List (List Ready)) (ss : List Skips) → AreAtMost (stations_counts qs ss) 0
stations_none [] ss = All-nil IsNone
stations_none (q ∷ qs) [] = All-nil IsNone
stations_none (q ∷ qs) (s ∷ ss) = All-cons IsNone (station_counts q s) (stations_counts qs ss) (none (length q) s.short s.long s.snapped) (stations_none qs ss)

-- no row is counted before a run
pub first_none : (plan : Plan) → AreAtMost (first_counts plan) 0
unfolding first_counts
first_none plan =
    let many = length plan.layout.repeaters in
    All-append IsNone (stations_counts plan.queues plan.skips) (replicate many no_counts) (stations_none plan.queues plan.skips) (All-replicate IsNone many no_counts (none 0 0 0 0))

length-stations_counts : (qs : List (List Ready)) (ss : List Skips) → length ss ≡ length qs → length (stations_counts qs ss) ≡ length qs
length-stations_counts [] ss e = refl
length-stations_counts (q ∷ qs) [] e = absurd (omega arith)
length-stations_counts (q ∷ qs) (s ∷ ss) e = ap suc (length-stations_counts qs ss (omega arith))

-- each device counts
pub length-first_counts : (plan : Plan) → length plan.queues ≡ length plan.layout.stations → length plan.skips ≡ length plan.layout.stations → length (first_counts plan) ≡ length (device_names plan.layout)
unfolding first_counts
length-first_counts plan queued counted =
    let many = length plan.layout.repeaters in
    let same : length plan.skips ≡ length plan.queues = omega arith in
    let stations : length (stations_counts plan.queues plan.skips) ≡ length plan.queues = length-stations_counts plan.queues plan.skips same in
    let repeaters : length (replicate many no_counts) ≡ many = length-replicate many no_counts in
    let names : length (map (λ s. s.name) plan.layout.stations) ≡ length plan.layout.stations = length-map plan.layout.stations (λ s. s.name) in
    let others : length (map (λ r. r.name) plan.layout.repeaters) ≡ many = length-map plan.layout.repeaters (λ r. r.name) in
    simp length-append (omega (arith, stations, repeaters, names, others))

-- the devices that count are those that have names
pub length-counts_of : (plan : Plan) (rows : List Row) → length (counts_of plan rows) ≡ length (device_names plan.layout)
unfolding counts_of
length-counts_of plan rows = length-all_counts_after 0 (first_counts plan) rows ∙ length-first_counts plan plan.queued plan.counted

drop_get : {X : Type 0} (xs : List X) (k : ℕ) (x : X) → slice_get xs k ≡ Some x → drop k xs ≡ x ∷ drop (k + 1) xs
drop_get [] k x e = absurd (cc)
drop_get (y ∷ ys) zero x e = let same : y ≡ x = cc in ap (λ z. z ∷ ys) same
drop_get (y ∷ ys) (suc k) x e = let more : suc k + 1 ≡ suc (k + 1) = omega arith in rw more (drop_get ys k x e)

-- one more station
pub next_station : (qs : List (List Ready)) (ss : List Skips) (k : ℕ) (q : List Ready) (s : Skips) (all before after : List Counters) → slice_get qs k ≡ Some q → slice_get ss k ≡ Some s
    → all ≡ before ++ stations_counts (drop k qs) (drop k ss) → after ≡ before ++ station_counts q s ∷ [] → all ≡ after ++ stations_counts (drop (k + 1) qs) (drop (k + 1) ss)
next_station qs ss k q s all before after eq es is push =
    let rest = stations_counts (drop (k + 1) qs) (drop (k + 1) ss) in
    is ∙ ap₂ (λ x y. before ++ stations_counts x y) (drop_get qs k q eq) (drop_get ss k s es) ∙ sym (append_assoc before (station_counts q s ∷ []) rest) ∙ ap (λ x. x ++ rest) (sym push)

-- one more row
pub next_row : (all before after : List Counters) (rows : List Row) (i : ℕ) (d : Row) → i < length rows → all ≡ all_counts_after 0 before (drop i rows) → after ≡ counted 0 before (get_or rows i d)
    → all ≡ all_counts_after 0 after (drop (i + 1) rows)
next_row all before after rows i d lt is here =
    let next : i + 1 ≡ suc i = omega arith in
    let row = get_or rows i d in
    rw next (is ∙ ap (all_counts_after 0 before) (drop-cons rows i d lt) ∙ counted_first 0 before row (drop (suc i) rows) ∙ ap (λ x. all_counts_after 0 x (drop (suc i) rows)) (sym here))

-- after the last row
pub last_row : (all counts : List Counters) (rows : List Row) (i : ℕ) → length rows ≤ i → all ≡ all_counts_after 0 counts (drop i rows) → counts ≡ all
last_row all counts rows i le is = sym (is ∙ ap (all_counts_after 0 counts) (drop_all i rows le) ∙ counted_none 0 counts)
