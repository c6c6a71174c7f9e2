-- The state of a quiet half bit is one of its plan: its rows and captures tell its entries.
use Rattle.std.proofs.Common.{◌≡◌, ℕ, zero, suc, ◌+◌, ◌-◌, ◌<◌, ◌^◌, ◌==◌, true, false, if◌then◌else◌, List, [], ◌∷◌, ◌++◌, drop, flat_map, map, length, get_or, Option, None, Some, refl, sym, ap, subst, ◌∙◌, arith, inl, inr}
use Rattle.std.specs.Prelude.{◌⊎◌, nat_lt, slice_get, slice_set}
use Rattle.std.specs.List.{AllByRecursion, range_with_len}
use Rattle.std.proofs.lemmas.Bool.{cases_Bool, eqb-true, eqb-false, false≢true, le-leb, lt-ltb, ne_eqb}
use Rattle.std.proofs.lemmas.List.Sums.{sum_by_push}
use Rattle.collision_log.specs.Merged.{IsLogOrder, IsNotAfter}
use Rattle.collision_log.specs.declared.row.Body.{Body}
use Rattle.collision_log.specs.declared.row.Body.TheVariants.{Sent, Collided, GivenUp, Cut, Received, Dropped, Clash, Closed, Opened, Halted}
use Rattle.collision_log.specs.declared.row.Row.{Row}
use Rattle.frame_layout.specs.declared.queue.Ready.{Ready}
use Rattle.load_plan.specs.declared.plan.Plan.{Plan}
use Rattle.log_meter.specs.LoggedRows.{IsLoggable}
use Rattle.mac_parameters.specs.Parameters.{attempt_limit, check_sequence, least_frame, most_octets, most_half_bits}
use Rattle.mac_transmit.specs.declared.state.SenderState.{SenderState}
use Rattle.network.specs.declared.outputs.Taken.{Taken}
use Rattle.quiet_state.specs.PlanStates.{HappensToRepeater, HappensToStation, IsRowOf, ended_frames, own_rows, received_sizes, taken_size}
use Rattle.run_checkpoint.specs.Entries.{StateRow, entries_of, is_length_of, is_reception, taken_by_station}
use Rattle.run_checkpoint.specs.Ranges.{does_end_frame, ended_frame, frames_ended, frames_in, greatest_draw, is_body_in, is_in_order, is_next_frame, is_row_after, is_row_in, is_there, last_row, queue_place}
use Rattle.run_checkpoint.specs.States.{AreEntriesAfter}
use Rattle.run_checkpoint.proofs.EntriesOfRows.{frame_of, no_frame, other_frame, own_frame, same_eqb, set_in, value_in}

-- what happens to a station is in range
station_in : (most frames ports t : ℕ) (body : Body) → HappensToStation frames most t body → is_body_in most frames ports body ≡ true
station_in most frames ports t (Sent frame start attempt) h =
    rw (le-leb 1 frame h.first, le-leb frame frames h.last, le-leb 1 attempt h.once, le-leb attempt attempt_limit h.limit) refl
station_in most frames ports t (Collided frame start attempt hit drawn) h =
    rw (
      le-leb 1 frame h.0.first,
      le-leb frame frames h.0.last,
      le-leb 1 attempt h.0.once,
      le-leb attempt attempt_limit h.0.limit,
      le-leb hit most_half_bits h.1,
      le-leb drawn greatest_draw (omega (arith, h.2)),
    ) refl
station_in most frames ports t (GivenUp frame start hit) h = rw (le-leb 1 frame h.0.first, le-leb frame frames h.0.last, le-leb hit most_half_bits h.1) refl
station_in most frames ports t (Cut frame start attempt hit) h = absurd h
station_in most frames ports t (Received octets) h = rw (le-leb least_frame octets h.0, le-leb octets (most + check_sequence) h.1) refl
station_in most frames ports t (Dropped why halves) h = le-leb halves most_half_bits h
station_in most frames ports t Clash h = refl
station_in most frames ports t (Closed port) h = absurd h
station_in most frames ports t (Opened port) h = absurd h
station_in most frames ports t (Halted port) h = absurd h

repeater_in : (most frames ports : ℕ) (body : Body) → HappensToRepeater ports body → is_body_in most frames ports body ≡ true
repeater_in most frames ports Clash h = refl
repeater_in most frames ports (Closed port) h = rw (le-leb 1 port h.0, le-leb port ports h.1) refl
repeater_in most frames ports (Opened port) h = rw (le-leb 1 port h.0, le-leb port ports h.1) refl
repeater_in most frames ports (Halted port) h = rw (le-leb 1 port h.0, le-leb port ports h.1) refl
repeater_in most frames ports (Sent frame start attempt) h = absurd h
repeater_in most frames ports (Collided frame start attempt hit drawn) h = absurd h
repeater_in most frames ports (GivenUp frame start hit) h = absurd h
repeater_in most frames ports (Cut frame start attempt hit) h = absurd h
repeater_in most frames ports (Received octets) h = absurd h
repeater_in most frames ports (Dropped why halves) h = absurd h

frames_at : (queues : List (List Ready)) (k : ℕ) → length (get_or queues k []) ≡ frames_in (slice_get queues k)
frames_at [] k = refl
frames_at (q ∷ qs) zero = refl
frames_at (q ∷ qs) (suc k) = frames_at qs k

row_in : (plan : Plan) (t : ℕ) (row : Row) → IsRowOf plan t row → is_row_in plan row ≡ true
unfolding is_row_in
row_in plan t row (before, inl s) =
    station_in (most_octets (plan.layout.format == 2)) _ _ row.t row.body (subst (λ n. HappensToStation n (most_octets (plan.layout.format == 2)) row.t row.body) (frames_at plan.queues row.device) s.happens)
row_in plan t row (before, inr r) =
    let e : row.device - length plan.layout.stations ≡ r.repeater = omega (arith, r.device) in
    rw (e, r.is_line) (repeater_in (most_octets (plan.layout.format == 2)) (frames_in (slice_get plan.queues row.device)) (length r.line.ports) row.body r.happens)

-- a row that ends no frame, or one
record EndsOne (body : Body) : Type 0 where
  pub frame : ℕ
  pub one : ended_frame body ≡ Some frame
  pub list : ended_frames body ≡ frame ∷ []

ends : (body : Body) → ((ended_frame body ≡ None) × (ended_frames body ≡ [])) ⊎ EndsOne body
ends (Sent frame start attempt) = inr (record { frame = frame; one = refl; list = refl })
ends (GivenUp frame start hit) = inr (record { frame = frame; one = refl; list = refl })
ends (Collided frame start attempt hit drawn) = inl (refl, refl)
ends (Cut frame start attempt hit) = inl (refl, refl)
ends (Received octets) = inl (refl, refl)
ends (Dropped why halves) = inl (refl, refl)
ends Clash = inl (refl, refl)
ends (Closed port) = inl (refl, refl)
ends (Opened port) = inl (refl, refl)
ends (Halted port) = inl (refl, refl)

-- one row more
ended_more : (k : ℕ) (rows : List Row) (row : Row) → frames_ended k (rows ++ row ∷ []) ≡ frames_ended k rows + (if does_end_frame k row then 1 else 0)
ended_more k rows row = sum_by_push (λ (x : Row). if does_end_frame k x then 1 else 0) rows row

-- so many frames of station k have ended, and the rows to come end the others up to its place
pub record EndsRest (k place : ℕ) (before rows : List Row) : Type 0 where
  pub left : ℕ
  pub frames : flat_map (λ (row : Row). ended_frames row.body) (own_rows k rows) ≡ range_with_len (frames_ended k before + 1) left
  pub all : frames_ended k before + left ≡ place

-- a row's own frame comes next
record EndsNext (k place : ℕ) (before : List Row) (row : Row) (rows : List Row) : Type 0 where
  pub next : row.device ≡ k → is_next_frame (frames_ended k before) place (ended_frame row.body) ≡ true
  pub rest : EndsRest k place (before ++ row ∷ []) rows

abbrev head_of : ℕ → List ℕ → ℕ
head_of d [] = d
head_of d (x ∷ xs) = x

end_next : (k place : ℕ) (before : List Row) (row : Row) (rows : List Row) → EndsRest k place before (row ∷ rows) → EndsNext k place before row rows
end_next k place before row rows h =
    let c = frames_ended k before in
    elim (cases_Bool (row.device == k)) [
      | inr other ↦
          let same : frames_ended k (before ++ row ∷ []) ≡ c = rw (ended_more k before row, other) (omega arith) in
          record {
            next = λ e. absurd (false≢true (sym other ∙ (ap (λ (j : ℕ). j == k) e ∙ same_eqb k)));
            rest = record { left = h.left; frames = rw (other, ← same) at h.frames; all = rw same h.all };
          }
      | inl own ↦ elim (ends row.body) [
        | inl none ↦
            let same : frames_ended k (before ++ row ∷ []) ≡ c = rw (ended_more k before row, own, none.0) (omega arith) in
            record {
              next = λ _. rw none.0 refl;
              rest = record { left = h.left; frames = rw same (rw (own, none.1) at h.frames); all = rw same h.all };
            }
        | inr one ↦
            let more : frames_ended k (before ++ row ∷ []) ≡ c + 1 = rw (ended_more k before row, own, one.one) refl in
            with_frame one more h.left (rw (own, one.list) at h.frames) h.all
      ]
    ]
  where
    with_frame : (one : EndsOne row.body) → frames_ended k (before ++ row ∷ []) ≡ frames_ended k before + 1 → (left : ℕ)
        → one.frame ∷ flat_map (λ (r : Row). ended_frames r.body) (own_rows k rows) ≡ range_with_len (frames_ended k before + 1) left → frames_ended k before + left ≡ place
        → EndsNext k place before row rows
    with_frame one more zero frames all = cc frames
    with_frame one more (suc left) frames all =
        let c = frames_ended k before in
        let e : one.frame ≡ c + 1 = ap (head_of 0) frames in
        record {
          next = λ _. rw (one.one, e, same_eqb (c + 1)) (le-leb (c + 1) place (omega (arith, all)));
          rest = record { left = left; frames = rw more (ap (drop 1) frames); all = rw more (omega (arith, all)) };
        }

-- the rows come in order after this one
abbrev pub ComeAfter : Option Row → List Row → Type 0
ComeAfter before [] = Unit {0}
ComeAfter before (row ∷ rows) = (is_in_order before row ≡ true) × ComeAfter (Some row) rows

not_after : (a b : Row) → IsNotAfter a b → is_in_order (Some a) b ≡ true
not_after a b (inl less) = rw (lt-ltb a.t b.t less) refl
not_after a b (inr same) =
    elim (cases_Bool (nat_lt a.t b.t)) [
      | inl less ↦ rw less refl
      | inr not ↦ rw (not, same.0, same_eqb b.t) (le-leb a.device b.device same.1)
    ]

come_after : (row : Row) (rows : List Row) → IsLogOrder (row ∷ rows) → ComeAfter (Some row) rows
come_after row [] h = tt
come_after row (r ∷ rs) h = (not_after row r (h 0 1 row (omega arith) (omega arith)), come_after r rs (λ i j d l m. h (suc i) (suc j) d (omega (arith, l)) (omega (arith, m))))

pub in_order : (rows : List Row) → IsLogOrder rows → ComeAfter None rows
in_order [] h = tt
in_order (row ∷ rows) h = (refl, come_after row rows h)

last_snoc : (p : Option Row) (rows : List Row) (row : Row) → last_row p (rows ++ row ∷ []) ≡ Some row
last_snoc p [] row = refl
last_snoc p (r ∷ rs) row = last_snoc (Some r) rs row

-- each octet of these frames is one
abbrev pub HoldOctets : List Taken → Type 0
HoldOctets taken = AllByRecursion (λ x. AllByRecursion (λ octet. octet < 2 ^ 8) x.octets) taken

-- rows that come after others, and the frames that so many stations still have to tell
pub record Follow (plan : Plan) (t : ℕ) (senders : List SenderState) (before : List Row) (last : Option Row) (rows : List Row) (h : ℕ → List Taken) : Type 0 where
  pub is_last : last_row None before ≡ last
  pub loggable : AllByRecursion (IsLoggable plan.layout) rows
  pub each : AllByRecursion (IsRowOf plan t) rows
  pub order : ComeAfter last rows
  pub ended : (k : ℕ) → k < length plan.layout.stations → EndsRest k (queue_place (slice_get senders k)) before rows
  pub received : (k : ℕ) → k < length plan.layout.stations → flat_map (λ (row : Row). received_sizes row.t row.body) (own_rows k rows) ≡ map taken_size (h k)
  pub octets : (k : ℕ) → k < length plan.layout.stations → HoldOctets (h k)

abbrev pub spread : Plan → (ℕ → List Taken) → List (List Taken)
spread plan h = map h (range_with_len 0 (length plan.layout.stations))

-- the entries follow, and tell the frames again
pub record ToldSoFar (plan : Plan) (t : ℕ) (senders : List SenderState) (before rows : List Row) (h : ℕ → List Taken) : Type 0 where
  pub entries : AreEntriesAfter plan t senders before (entries_of rows (spread plan h))
  pub frames : (k : ℕ) → k < length plan.layout.stations → taken_by_station k (entries_of rows (spread plan h)) ≡ h k

-- a device whose row ends a frame, or receives one, is a station
station_of : (plan : Plan) (t : ℕ) (row : Row) → IsRowOf plan t row → (is_there (ended_frame row.body) ≡ true) ⊎ (is_reception row.body ≡ true) → row.device < length plan.layout.stations
station_of plan t row (before, inl s) some = s.device
station_of plan t row (before, inr r) some = absurd (no_repeater (length r.line.ports) row.body r.happens some)
  where
    no_repeater : (ports : ℕ) (body : Body) → HappensToRepeater ports body → (is_there (ended_frame body) ≡ true) ⊎ (is_reception body ≡ true) → ⊥
    no_repeater ports Clash h (inl e) = cc e
    no_repeater ports Clash h (inr e) = cc e
    no_repeater ports (Closed port) h (inl e) = cc e
    no_repeater ports (Closed port) h (inr e) = cc e
    no_repeater ports (Opened port) h (inl e) = cc e
    no_repeater ports (Opened port) h (inr e) = cc e
    no_repeater ports (Halted port) h (inl e) = cc e
    no_repeater ports (Halted port) h (inr e) = cc e
    no_repeater ports (Sent frame start attempt) h some = absurd h
    no_repeater ports (Collided frame start attempt hit drawn) h some = absurd h
    no_repeater ports (GivenUp frame start hit) h some = absurd h
    no_repeater ports (Cut frame start attempt hit) h some = absurd h
    no_repeater ports (Received octets) h some = absurd h
    no_repeater ports (Dropped why halves) h some = absurd h

-- a row's frame is due
due : (plan : Plan) (t : ℕ) (senders : List SenderState) (before : List Row) (last : Option Row) (row : Row) (rows : List Row) (h : ℕ → List Taken) → Follow plan t senders before last (row ∷ rows) h
    → is_next_frame (frames_ended row.device before) (queue_place (slice_get senders row.device)) (ended_frame row.body) ≡ true
due plan t senders before last row rows h f =
    elim (ends row.body) [
      | inl none ↦ rw none.0 refl
      | inr one ↦
          let d = station_of plan t row f.each.0 (inl (rw one.one refl)) in
          (end_next row.device (queue_place (slice_get senders row.device)) before row rows (f.ended row.device d)).next refl
    ]

row_after : (plan : Plan) (t : ℕ) (senders : List SenderState) (before : List Row) (last : Option Row) (row : Row) (rows : List Row) (h : ℕ → List Taken) → Follow plan t senders before last (row ∷ rows) h
    → is_row_after plan t senders before row ≡ true
unfolding is_row_after
row_after plan t senders before last row rows h f =
    rw (lt-ltb row.t t f.each.0.0, f.is_last, f.order.0, row_in plan t row f.each.0, due plan t senders before last row rows h f) refl

-- the sizes of a row
sizes_other : (t : ℕ) (body : Body) → is_reception body ≡ false → received_sizes t body ≡ []
sizes_other t (Received octets) other = cc other
sizes_other t (Sent frame start attempt) other = refl
sizes_other t (Collided frame start attempt hit drawn) other = refl
sizes_other t (GivenUp frame start hit) other = refl
sizes_other t (Cut frame start attempt hit) other = refl
sizes_other t (Dropped why halves) other = refl
sizes_other t Clash other = refl
sizes_other t (Closed port) other = refl
sizes_other t (Opened port) other = refl
sizes_other t (Halted port) other = refl

no_length : (body : Body) → is_reception body ≡ false → is_length_of body 0 ≡ true
no_length (Received octets) other = cc other
no_length (Sent frame start attempt) other = refl
no_length (Collided frame start attempt hit drawn) other = refl
no_length (GivenUp frame start hit) other = refl
no_length (Cut frame start attempt hit) other = refl
no_length (Dropped why halves) other = refl
no_length Clash other = refl
no_length (Closed port) other = refl
no_length (Opened port) other = refl
no_length (Halted port) other = refl

-- a frame that was received
record Came (t : ℕ) (body : Body) : Type 0 where
  pub octets : ℕ
  pub is : body ≡ Received octets

came_of : (t : ℕ) (body : Body) → is_reception body ≡ true → Came t body
came_of t (Received octets) came = record { octets = octets; is = refl }
came_of t (Sent frame start attempt) came = cc came
came_of t (Collided frame start attempt hit drawn) came = cc came
came_of t (GivenUp frame start hit) came = cc came
came_of t (Cut frame start attempt hit) came = cc came
came_of t (Dropped why halves) came = cc came
came_of t Clash came = cc came
came_of t (Closed port) came = cc came
came_of t (Opened port) came = cc came
came_of t (Halted port) came = cc came

-- the frame of a row, and those after it
record FirstFrame (t octets : ℕ) (sizes : List (ℕ × ℕ)) (taken : List Taken) : Type 0 where
  pub one : Taken
  pub more : List Taken
  pub is : taken ≡ one ∷ more
  pub time : one.t ≡ t
  pub long : length one.octets + check_sequence ≡ octets
  pub rest : sizes ≡ map taken_size more

first_frame : (t octets : ℕ) (sizes : List (ℕ × ℕ)) (taken : List Taken) → (t, octets) ∷ sizes ≡ map taken_size taken → FirstFrame t octets sizes taken
first_frame t octets sizes [] e = cc e
first_frame t octets sizes (x ∷ xs) e =
    let one : (t, octets) ≡ taken_size x = ap (pair_of (t, octets)) e in
    record { one = x; more = xs; is = refl; time = sym (ap (λ (p : ℕ × ℕ). p.0) one); long = sym (ap (λ (p : ℕ × ℕ). p.1) one); rest = ap (drop 1) e }
  where
    pair_of : ℕ × ℕ → List (ℕ × ℕ) → ℕ × ℕ
    pair_of d [] = d
    pair_of d (y ∷ ys) = y

-- what is left of the frames after a row of device d
abbrev left_of : (ℕ → List Taken) → ℕ → List Taken → ℕ → List Taken
left_of h d more k = if d == k then more else h k

-- one row is told
follow_more : (plan : Plan) (t : ℕ) (senders : List SenderState) (before : List Row) (last : Option Row) (row : Row) (rows : List Row) (h : ℕ → List Taken) → Follow plan t senders before last (row ∷ rows) h
    → is_reception row.body ≡ false → Follow plan t senders (before ++ row ∷ []) (Some row) rows h
follow_more plan t senders before last row rows h f other =
    record {
      is_last = last_snoc None before row;
      loggable = f.loggable.1;
      each = f.each.1;
      order = f.order.1;
      ended = λ k l. (end_next k (queue_place (slice_get senders k)) before row rows (f.ended k l)).rest;
      received = λ k l. same_sizes k (f.received k l);
      octets = f.octets;
    }
  where
    same_sizes : (k : ℕ) → flat_map (λ (r : Row). received_sizes r.t r.body) (own_rows k (row ∷ rows)) ≡ map taken_size (h k) → flat_map (λ (r : Row). received_sizes r.t r.body) (own_rows k rows) ≡ map taken_size (h k)
    same_sizes k e =
        elim (cases_Bool (row.device == k)) [
          | inl own ↦ rw (own, sizes_other row.t row.body other) at e
          | inr apart ↦ rw apart at e
        ]

-- a row and its frame are told
follow_frame : (plan : Plan) (t : ℕ) (senders : List SenderState) (before : List Row) (last : Option Row) (row : Row) (rows : List Row) (h : ℕ → List Taken) → Follow plan t senders before last (row ∷ rows) h
    → (octets : ℕ) → row.body ≡ Received octets → (x : FirstFrame row.t octets (flat_map (λ (r : Row). received_sizes r.t r.body) (own_rows row.device rows)) (h row.device))
    → row.device < length plan.layout.stations → Follow plan t senders (before ++ row ∷ []) (Some row) rows (left_of h row.device x.more)
follow_frame plan t senders before last row rows h f octets is x low =
    record {
      is_last = last_snoc None before row;
      loggable = f.loggable.1;
      each = f.each.1;
      order = f.order.1;
      ended = λ k l. (end_next k (queue_place (slice_get senders k)) before row rows (f.ended k l)).rest;
      received = λ k l.
          elim (cases_Bool (row.device == k)) [
            | inl own ↦ rw own (subst (λ (j : ℕ). flat_map (λ (r : Row). received_sizes r.t r.body) (own_rows j rows) ≡ map taken_size x.more) (eqb-true row.device k own) x.rest)
            | inr apart ↦ rw apart (rw apart at (f.received k l))
          ];
      octets = λ k l.
          elim (cases_Bool (row.device == k)) [
            | inl own ↦ rw own (rw x.is at (f.octets row.device low)).1
            | inr apart ↦ rw apart (f.octets k l)
          ];
    }

no_frames : (taken : List Taken) → [] ≡ map taken_size taken → [] ≡ taken
no_frames [] e = refl
no_frames (x ∷ xs) e = cc e

frame_is : (y : Taken) (t : ℕ) → y.t ≡ t → ◌≡◌ {A = Taken} (record { t = t; octets = y.octets }) y
frame_is y t is = rw (← is) refl

size_of : (body : Body) (n : ℕ) (octets : List ℕ) → body ≡ Received n → length octets + check_sequence ≡ n → is_length_of body (length octets) ≡ true
size_of body n octets is long = ap (λ (b : Body). is_length_of b (length octets)) is ∙ rw long (same_eqb n)

pub tells : (plan : Plan) (t : ℕ) (senders : List SenderState) (before : List Row) (last : Option Row) (rows : List Row) (h : ℕ → List Taken) → Follow plan t senders before last rows h → ToldSoFar plan t senders before rows h
tells plan t senders before last [] h f = record { entries = tt; frames = λ k l. no_frames (h k) (f.received k l) }
tells plan t senders before last (row ∷ rows) h f =
    let s = length plan.layout.stations in
    let after = row_after plan t senders before last row rows h f in
    elim (cases_Bool (is_reception row.body)) [
      | inr other ↦
          let r = tells plan t senders (before ++ row ∷ []) (Some row) rows h (follow_more plan t senders before last row rows h f other) in
          let e : StateRow = record { row = row; octets = [] } in
          let es = entries_of rows (spread plan h) in
          let all : entries_of (row ∷ rows) (spread plan h) ≡ e ∷ es = rw other refl in
          record {
            entries = subst (AreEntriesAfter plan t senders before) (sym all) (record { row = f.loggable.0; after = after; length = no_length row.body other; octets = tt }, r.entries);
            frames = λ k l. ap (taken_by_station k) all ∙ (no_frame k e es other ∙ r.frames k l);
          }
      | inl came ↦
          let c = came_of row.t row.body came in
          let d = row.device in
          let low = station_of plan t row f.each.0 (inr came) in
          let x = first_frame row.t c.octets _ (h d) (rw (same_eqb d, c.is) at (f.received d low)) in
          let h' = left_of h d x.more in
          let e : StateRow = record { row = row; octets = x.one.octets } in
          let at : slice_get (spread plan h) d ≡ Some (x.one ∷ x.more) = value_in h s d low ∙ ap Some x.is in
          let own : h' d ≡ x.more = rw (same_eqb d) refl in
          let set : slice_set (spread plan h) d x.more ≡ spread plan h' =
          ap (slice_set (spread plan h) d) (sym own) ∙ set_in h h' s d (λ k apart. rw (ne_eqb d k apart) refl) in
          let r = tells plan t senders (before ++ row ∷ []) (Some row) rows h' (follow_frame plan t senders before last row rows h f c.octets c.is x low) in
          let es = entries_of rows (spread plan h') in
          let all : entries_of (row ∷ rows) (spread plan h) ≡ e ∷ es = rw (came, at, set) refl in
          let size : is_length_of row.body (length e.octets) ≡ true = size_of row.body c.octets e.octets c.is x.long in
          let bytes = (rw x.is at (f.octets d low)).0 in
          let told : taken_by_station d (e ∷ es) ≡ h d =
          own_frame e es came ∙ (ap (λ (ts : List Taken). frame_of e ∷ ts) (r.frames d low ∙ own) ∙ (ap (λ (y : Taken). y ∷ x.more) (frame_is x.one row.t x.time) ∙ sym x.is)) in
          record {
            entries = subst (AreEntriesAfter plan t senders before) (sym all) (record { row = f.loggable.0; after = after; length = size; octets = bytes }, r.entries);
            frames = λ k l.
                ap (taken_by_station k) all
                ∙ elim (cases_Bool (d == k)) [
                  | inl mine ↦ subst (λ (j : ℕ). taken_by_station j (e ∷ es) ≡ h j) (eqb-true d k mine) told
                  | inr apart ↦ other_frame k e es (eqb-false d k apart) ∙ (r.frames k l ∙ rw apart refl)
                ];
          }
    ]
