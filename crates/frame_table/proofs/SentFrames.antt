-- The table has as many frames that were sent as the log has rows that say so.
use Rattle.std.proofs.Common.{◌≡◌, ℕ, zero, suc, ◌+◌, ◌<◌, ◌≤◌, ◌==◌, ◌&&◌, cond, Bool, true, false, refl, sym, ap, ap₂, ◌∙◌, subst, inl, inr, List, [], ◌∷◌, length, Option, None, Some, is_some, count_by, slice_get, nat_lt, arith, eqb-true, eq-eqb, ne_eqb, ltb-true, lt-ltb, leb-true, nat_le}
use Rattle.std.specs.List.{AllByRecursion}
use Rattle.std.specs.Option.{option_or}
use Rattle.std.proofs.lemmas.Bool.{and_parts, cases_Bool, cases_order}
use Rattle.std.proofs.lemmas.List.Sums.{length-filter, sum_by-cons}
use Rattle.std.proofs.lemmas.Option.{same_Some}
use Rattle.collision_log.specs.declared.row.Body.{Body}
use Rattle.collision_log.specs.declared.row.Body.TheVariants as body
use Rattle.frame_layout.specs.declared.queue.Ready.{Ready}
use Rattle.layout.specs.Sound.{device_names}
use Rattle.layout.specs.declared.lines.Layout.{Layout}
use Rattle.load_plan.specs.declared.plan.Plan.{Plan}
use Rattle.log_meter.specs.Figures.{is_sent_body}
use Rattle.log_meter.specs.Lines.{IsLogLine, is_of_repeater}
use Rattle.log_meter.specs.Logs.{IsLog}
use Rattle.log_meter.specs.declared.line.LogLine.{LogLine}
use Rattle.frame_table.specs.Devices.{device_named, events_of, is_number, of_kind, place_of_name}
use Rattle.frame_table.specs.Found.{last_found}
use Rattle.frame_table.specs.Histories.{end_at, end_of, frame_named, is_attempt}
use Rattle.frame_table.specs.TableLaws.{EndOnce, SentFramesAreRows, all_sent_frames, is_end_of_sent, sent_frames}
use Rattle.frame_table.specs.Unplanned.{frames_queued, is_counted, is_had_by, is_planned, unplanned_from}
use Rattle.frame_table.specs.declared.events.Event.{Event}
use Rattle.frame_table.specs.declared.history.End.{End}

-- ---- sums

sum_from : (ℕ → ℕ) → ℕ → ℕ → ℕ
sum_from f a zero = 0
sum_from f a (suc n) = f a + sum_from f (a + 1) n

sum_zero : (f : ℕ → ℕ) (a n : ℕ) → ((k : ℕ) → a ≤ k → f k ≡ 0) → sum_from f a n ≡ 0
unfolding sum_from
sum_zero f a zero h = refl
sum_zero f a (suc n) h = let x : f a ≡ 0 = h a (omega arith) in let more : sum_from f (a + 1) n ≡ 0 = sum_zero f (a + 1) n (λ k le. h k (omega arith)) in omega (arith, x, more)

sum_same : (f g : ℕ → ℕ) (a n : ℕ) → ((k : ℕ) → f k ≡ g k) → sum_from f a n ≡ sum_from g a n
unfolding sum_from
sum_same f g a zero h = refl
sum_same f g a (suc n) h = ap₂ (λ x y. x + y) (h a) (sum_same f g (a + 1) n h)

sum_add : (f g : ℕ → ℕ) (a n : ℕ) → sum_from (λ k. f k + g k) a n ≡ sum_from f a n + sum_from g a n
unfolding sum_from
sum_add f g a zero = refl
sum_add f g a (suc n) = let more : sum_from (λ k. f k + g k) (a + 1) n ≡ sum_from f (a + 1) n + sum_from g (a + 1) n = sum_add f g (a + 1) n in omega (arith, more)

sum_one : (f : ℕ → ℕ) (a n j : ℕ) → a ≤ j → j < a + n → f j ≡ 1 → ((k : ℕ) → (k ≡ j → ⊥) → f k ≡ 0) → sum_from f a n ≡ 1
unfolding sum_from
sum_one f a zero j low high one none = absurd (omega arith)
sum_one f a (suc n) j low high one none =
    elim (cases_Bool (a == j)) [
      | inl same ↦
          let e : a ≡ j = eqb-true a j same in
          let x : f a ≡ 1 = ap f e ∙ one in
          let rest : sum_from f (a + 1) n ≡ 0 = sum_zero f (a + 1) n (λ k le. none k (λ at. omega arith)) in
          omega (arith, x, rest)
      | inr other ↦
          let ne : a ≡ j → ⊥ = λ e. let t : (a == j) ≡ true = eq-eqb a j e in let not_so : false ≡ true = sym other ∙ t in cc in
          let x : f a ≡ 0 = none a ne in
          let above : a + 1 ≤ j = elim (cases_order a j) [ inl e ↦ absurd (ne e) | inr apart ↦ elim apart [ inl less ↦ omega (arith, less) | inr more ↦ absurd (omega (arith, more, low)) ] ] in
          let rest : sum_from f (a + 1) n ≡ 1 = sum_one f (a + 1) n j above (omega arith) one none in
          omega (arith, x, rest)
    ]

-- ---- what is counted for each of some numbers is counted

-- the test names just one of the n numbers from a on
record Once {X : Type 0} (hit : ℕ → X → Bool) (a n : ℕ) (x : X) : Type 0 where
  at : ℕ
  low : a ≤ at
  high : at < a + n
  so : hit at x ≡ true
  not_so : (k : ℕ) → (k ≡ at → ⊥) → hit k x ≡ false

one_of : (b c d : Bool) → b ≡ true → c ≡ d → cond {A = ℕ} (b && c) 1 0 ≡ cond d 1 0
one_of b c d e f = rw (e, f) refl

none_of : (b c : Bool) → b ≡ false → cond {A = ℕ} (b && c) 1 0 ≡ 0
none_of b c e = rw e refl

one_total : {X : Type 0} (p : X → Bool) (hit : ℕ → X → Bool) (a n : ℕ) (x : X) → (p x ≡ true → Once hit a n x) → sum_from (λ k. cond (p x && hit k x) 1 0) a n ≡ cond (p x) 1 0
one_total p hit a n x h =
    elim (cases_Bool (p x)) [
      | inl so ↦
          let o = h so in
          sum_one (λ k. cond (p x && hit k x) 1 0) a n o.at o.low o.high (one_of (p x) (hit o.at x) true so o.so) (λ k ne. one_of (p x) (hit k x) false so (o.not_so k ne)) ∙ sym (ap (λ b. cond b 1 0) so)
      | inr not_so ↦ sum_zero (λ k. cond (p x && hit k x) 1 0) a n (λ k le. none_of (p x) (hit k x) not_so) ∙ sym (ap (λ b. cond b 1 0) not_so)
    ]

count_all : {X : Type 0} (p : X → Bool) (hit : ℕ → X → Bool) (a n : ℕ) (xs : List X) → AllByRecursion (λ x. p x ≡ true → Once hit a n x) xs → sum_from (λ k. count_by (λ x. p x && hit k x) xs) a n ≡ count_by p xs
count_all p hit a n [] h = sum_zero (λ k. 0) a n (λ k le. refl)
count_all p hit a n (x ∷ xs) h =
    sum_same (λ k. count_by (λ y. p y && hit k y) (x ∷ xs)) (λ k. cond (p x && hit k x) 1 0 + count_by (λ y. p y && hit k y) xs) a n (λ k. sum_by-cons (λ y. cond (p y && hit k y) 1 0) x xs)
    ∙ sum_add (λ k. cond (p x && hit k x) 1 0) (λ k. count_by (λ y. p y && hit k y) xs) a n
    ∙ ap₂ (λ m o. m + o) (one_total p hit a n x h.0) (count_all p hit a n xs h.1)
    ∙ sym (sum_by-cons (λ y. cond (p y) 1 0) x xs)

or_none : {X : Type 0} (o : Option X) → option_or o None ≡ o
or_none None = refl
or_none (Some x) = refl

-- ---- a frame that ends once was sent where a row says so

sent_end : (t : ℕ) (b : Body) → is_end_of_sent (end_of t b) ≡ is_sent_body b
sent_end t (body.Sent frame start attempt) = refl
sent_end t (body.Collided frame start attempt hit drawn) = refl
sent_end t (body.GivenUp frame start hit) = refl
sent_end t (body.Cut frame start attempt hit) = refl
sent_end t (body.Received octets) = refl
sent_end t (body.Dropped why halves) = refl
sent_end t body.Clash = refl
sent_end t (body.Closed port) = refl
sent_end t (body.Opened port) = refl
sent_end t (body.Halted port) = refl

and_true : (b c : Bool) → c ≡ true → (b && c) ≡ b
and_true true c e = e
and_true false c e = refl

and_false : (b c : Bool) → c ≡ false → (b && c) ≡ false
and_false true c e = e
and_false false c e = refl

end_sent : (n : ℕ) (e : Event) → is_end_of_sent (end_at n e) ≡ (is_sent_body e.body && is_attempt n e)
end_sent n e =
    elim (cases_Bool (is_attempt n e)) [
      | inl so ↦ let here : end_at n e ≡ end_of e.t e.body = rw so refl in ap is_end_of_sent here ∙ sent_end e.t e.body ∙ sym (and_true (is_sent_body e.body) (is_attempt n e) so)
      | inr not_so ↦ let here : end_at n e ≡ None = rw not_so refl in ap is_end_of_sent here ∙ sym (and_false (is_sent_body e.body) (is_attempt n e) not_so)
    ]

none_at : (n : ℕ) (e : Event) (es : List Event) (o : Option End) → end_at n e ≡ o → (count_by (λ x. is_some (end_at n x)) es ≡ 0 → last_found (end_at n) es ≡ None) → cond (is_some (end_at n e)) 1 0 + count_by (λ x. is_some (end_at n x)) es ≡ 0
    → option_or (last_found (end_at n) es) (end_at n e) ≡ None
none_at n e es None is more h =
    let zero_here : cond {A = ℕ} (is_some (end_at n e)) 1 0 ≡ 0 = rw is refl in
    let rest : count_by (λ x. is_some (end_at n x)) es ≡ 0 = omega (arith, zero_here, h) in
    ap₂ option_or (more rest) is
none_at n e es (Some x) is more h = let one : cond {A = ℕ} (is_some (end_at n e)) 1 0 ≡ 1 = rw is refl in absurd (omega (arith, one, h))

none_ended : (n : ℕ) (es : List Event) → count_by (λ x. is_some (end_at n x)) es ≡ 0 → last_found (end_at n) es ≡ None
none_ended n [] h = refl
none_ended n (e ∷ es) h = none_at n e es (end_at n e) refl (none_ended n es) (sym (sum_by-cons (λ x. cond (is_some (end_at n x)) 1 0) e es) ∙ h)

-- which of these rows say that frame n was sent
abbrev says_sent : ℕ → Event → Bool
says_sent n e = is_sent_body e.body && is_attempt n e

told_at : (n : ℕ) (e : Event) (es : List Event) (o : Option End) → end_at n e ≡ o → cond (is_some (end_at n e)) 1 0 + count_by (λ x. is_some (end_at n x)) es ≤ 1
    → (count_by (λ x. is_some (end_at n x)) es ≤ 1 → cond (is_end_of_sent (last_found (end_at n) es)) 1 0 ≡ count_by (says_sent n) es)
    → cond (is_end_of_sent (option_or (last_found (end_at n) es) (end_at n e))) 1 0 ≡ cond (says_sent n e) 1 0 + count_by (says_sent n) es
told_at n e es None is h more =
    let last : option_or (last_found (end_at n) es) (end_at n e) ≡ last_found (end_at n) es = ap (option_or (last_found (end_at n) es)) is ∙ or_none (last_found (end_at n) es) in
    let quiet : says_sent n e ≡ false = sym (end_sent n e) ∙ ap is_end_of_sent is in
    let rest : cond (is_end_of_sent (last_found (end_at n) es)) 1 0 ≡ count_by (says_sent n) es = more (omega (arith, h)) in
    let plus : 0 + count_by (says_sent n) es ≡ count_by (says_sent n) es = omega arith in
    ap (λ o. cond (is_end_of_sent o) 1 0) last ∙ rest ∙ sym plus ∙ ap (λ b. cond b 1 0 + count_by (says_sent n) es) (sym quiet)
told_at n e es (Some x) is h more =
    let one : cond {A = ℕ} (is_some (end_at n e)) 1 0 ≡ 1 = rw is refl in
    let none : count_by (λ y. is_some (end_at n y)) es ≡ 0 = omega (arith, one, h) in
    let before : last_found (end_at n) es ≡ None = none_ended n es none in
    let last : option_or (last_found (end_at n) es) (end_at n e) ≡ end_at n e = ap (λ o. option_or o (end_at n e)) before in
    let no_row : count_by (says_sent n) es ≡ 0 = sym (more (omega (arith, none))) ∙ ap (λ o. cond (is_end_of_sent o) 1 0) before in
    let plus : cond {A = ℕ} (says_sent n e) 1 0 + 0 ≡ cond (says_sent n e) 1 0 = omega arith in
    ap (λ o. cond (is_end_of_sent o) 1 0) last ∙ ap (λ b. cond b 1 0) (end_sent n e) ∙ sym plus ∙ ap (λ m. cond (says_sent n e) 1 0 + m) (sym no_row)

frame_told : (n : ℕ) (es : List Event) → count_by (λ x. is_some (end_at n x)) es ≤ 1 → cond (is_end_of_sent (last_found (end_at n) es)) 1 0 ≡ count_by (says_sent n) es
frame_told n [] h = refl
frame_told n (e ∷ es) h =
    let ends : count_by (λ x. is_some (end_at n x)) (e ∷ es) ≡ cond (is_some (end_at n e)) 1 0 + count_by (λ x. is_some (end_at n x)) es = sum_by-cons (λ x. cond (is_some (end_at n x)) 1 0) e es in
    told_at n e es (end_at n e) refl (omega (arith, ends, h)) (frame_told n es) ∙ sym (sum_by-cons (λ x. cond (says_sent n x) 1 0) e es)

-- ---- the rows of a station, and those of all stations

sent_rows : (l : Layout) (k : ℕ) (lines : List LogLine) → count_by (λ (e : Event). is_sent_body e.body) (events_of l k lines) ≡ count_by (λ (x : LogLine). is_sent_body x.body && is_number k (device_named l x)) lines
sent_rows l k [] = refl
sent_rows l k (x ∷ xs) =
    let p : Event → Bool = λ e. is_sent_body e.body in
    let q : LogLine → Bool = λ y. is_sent_body y.body && is_number k (device_named l y) in
    elim (cases_Bool (is_number k (device_named l x))) [
      | inl so ↦
          let here : events_of l k (x ∷ xs) ≡ record { t = x.t; body = x.body } ∷ events_of l k xs = rw so refl in
          ap (count_by p) here ∙ sum_by-cons (λ e. cond (p e) 1 0) (record { t = x.t; body = x.body }) (events_of l k xs)
          ∙ ap₂ (λ m o. m + o) (ap (λ b. cond b 1 0) (sym (and_true (is_sent_body x.body) (is_number k (device_named l x)) so))) (sent_rows l k xs)
          ∙ sym (sum_by-cons (λ y. cond (q y) 1 0) x xs)
      | inr not_so ↦
          let here : events_of l k (x ∷ xs) ≡ events_of l k xs = rw not_so refl in
          let off : cond {A = ℕ} (q x) 1 0 ≡ 0 = ap (λ b. cond b 1 0) (and_false (is_sent_body x.body) (is_number k (device_named l x)) not_so) in
          let cons : count_by q (x ∷ xs) ≡ cond (q x) 1 0 + count_by q xs = sum_by-cons (λ y. cond (q y) 1 0) x xs in
          ap (count_by p) here ∙ sent_rows l k xs ∙ omega (arith, off, cons)
    ]

-- ---- each row `sent` is of a station and of one of its frames

sent_body_frame : (b : Body) → is_sent_body b ≡ true → (f : ℕ) × (frame_named b ≡ Some f) × (is_of_repeater b ≡ false)
sent_body_frame (body.Sent frame start attempt) h = (frame, refl, refl)
sent_body_frame (body.Collided frame start attempt hit drawn) h = absurd (cc)
sent_body_frame (body.GivenUp frame start hit) h = absurd (cc)
sent_body_frame (body.Cut frame start attempt hit) h = absurd (cc)
sent_body_frame (body.Received octets) h = absurd (cc)
sent_body_frame (body.Dropped why halves) h = absurd (cc)
sent_body_frame body.Clash h = absurd (cc)
sent_body_frame (body.Closed port) h = absurd (cc)
sent_body_frame (body.Opened port) h = absurd (cc)
sent_body_frame (body.Halted port) h = absurd (cc)

all_planned : (plan : Plan) (n : ℕ) (lines : List LogLine) → unplanned_from plan n lines ≡ None → AllByRecursion (λ x. is_planned plan x ≡ true) lines
all_planned plan n [] h = tt
all_planned plan n (x ∷ xs) h =
    elim (cases_Bool (is_planned plan x)) [
      | inl so ↦ (so, all_planned plan (n + 1) xs (rw so at h))
      | inr not_so ↦ let wrong : Some n ≡ None = rw not_so at h in absurd (cc)
    ]

-- the device of a line that is no repeater's
of_station : (n : ℕ) (o : Option ℕ) (k : ℕ) → of_kind n false o ≡ Some k → k < n
of_station n None k h = absurd (cc)
of_station n (Some j) k h =
    elim (cases_Bool (nat_lt j n)) [
      | inl low ↦ let found : Some j ≡ Some k = rw low at h in let same : j ≡ k = same_Some j k found in let lt : j < n = ltb-true j n low in omega (arith, same, lt)
      | inr high ↦ let wrong : None ≡ Some k = rw high at h in absurd (cc)
    ]

-- where a row `sent` is of station k, and of a frame that it has
pub record IsOfStation (plan : Plan) (x : LogLine) : Type 0 where
  pub k : ℕ
  pub device : device_named plan.layout x ≡ Some k
  pub low : k < length plan.layout.stations
  pub frame : ℕ
  pub of_frame : frame_named x.body ≡ Some frame
  pub within : is_counted (frames_queued (slice_get plan.queues k)) (Some frame) ≡ true

had_station : (plan : Plan) (x : LogLine) (o : Option ℕ) → device_named plan.layout x ≡ o → is_had_by plan o x.body ≡ true → IsLogLine x → is_sent_body x.body ≡ true → IsOfStation plan x
had_station plan x None is h grammar sent = absurd (cc)
had_station plan x (Some k) is h grammar sent =
    let parts = sent_body_frame x.body sent in
    let station : x.repeater ≡ false = grammar.device ∙ parts.2 in
    let kind : of_kind (length plan.layout.stations) false (place_of_name (device_names plan.layout) x.name) ≡ Some k = ap (λ b. of_kind (length plan.layout.stations) b (place_of_name (device_names plan.layout) x.name)) (sym station) ∙ is in
    let low : k < length plan.layout.stations = of_station (length plan.layout.stations) (place_of_name (device_names plan.layout) x.name) k kind in
    let test : nat_lt k (length plan.layout.stations) ≡ true = lt-ltb k (length plan.layout.stations) low in
    let had : is_counted (frames_queued (slice_get plan.queues k)) (frame_named x.body) ≡ true = rw test at h in
    record { k = k; device = is; low = low; frame = parts.0; of_frame = parts.1; within = sym (ap (is_counted (frames_queued (slice_get plan.queues k))) parts.1) ∙ had }

lines_once : (plan : Plan) (lines : List LogLine) → AllByRecursion IsLogLine lines → AllByRecursion (λ x. is_planned plan x ≡ true) lines
    → AllByRecursion (λ x. is_sent_body x.body ≡ true → Once (λ k x. is_number k (device_named plan.layout x)) 0 (length plan.layout.stations) x) lines
lines_once plan [] g h = tt
lines_once plan (x ∷ xs) g h = (
  λ sent.
      let s = had_station plan x (device_named plan.layout x) refl h.0 g.0 sent in
      record {
        at = s.k;
        low = omega arith;
        high = omega (arith, s.low);
        so = ap (is_number s.k) s.device ∙ eq-eqb s.k s.k refl;
        not_so = λ k ne. ap (is_number k) s.device ∙ ne_eqb s.k k (λ e. ne (sym e));
      },
  lines_once plan xs g.1 h.1,
)

events_once : (plan : Plan) (k : ℕ) (q : List Ready) (lines : List LogLine) → slice_get plan.queues k ≡ Some q → AllByRecursion IsLogLine lines → AllByRecursion (λ x. is_planned plan x ≡ true) lines
    → AllByRecursion (λ e. is_sent_body e.body ≡ true → Once is_attempt 1 (length q) e) (events_of plan.layout k lines)
events_once plan k q [] got g h = tt
events_once plan k q (x ∷ xs) got g h =
    elim (cases_Bool (is_number k (device_named plan.layout x))) [
      | inl so ↦ rw so (
        (λ sent.
            let s = had_station plan x (device_named plan.layout x) refl h.0 g.0 sent in
            let same : s.k ≡ k = eqb-true s.k k (sym (ap (is_number k) s.device) ∙ so) in
            let queue : slice_get plan.queues s.k ≡ Some q = ap (slice_get plan.queues) same ∙ got in
            let both = and_parts (nat_le 1 s.frame) (nat_le s.frame (length q)) (sym (ap (λ o. is_counted (frames_queued o) (Some s.frame)) queue) ∙ s.within) in
            let least : 1 ≤ s.frame = leb-true 1 s.frame both.0 in
            let most : s.frame ≤ length q = leb-true s.frame (length q) both.1 in
            record {
              at = s.frame;
              low = least;
              high = omega (arith, most);
              so = ap (is_number s.frame) s.of_frame ∙ eq-eqb s.frame s.frame refl;
              not_so = λ n ne. ap (is_number n) s.of_frame ∙ ne_eqb s.frame n (λ e. ne (sym e));
            }),
        events_once plan k q xs got g.1 h.1,
      )
      | inr not_so ↦ rw not_so (events_once plan k q xs got g.1 h.1)
    ]

-- ---- the frames of a station, and of all

frames_counted : (l : Layout) (lines : List LogLine) (a n : ℕ) (q : List Ready) → EndOnce l lines → sent_frames l lines a n q ≡ sum_from (λ m. count_by (says_sent m) (events_of l a lines)) n (length q)
unfolding sum_from
frames_counted l lines a n [] once = refl
frames_counted l lines a n (r ∷ rs) once = ap₂ (λ x y. x + y) (frame_told n (events_of l a lines) (once a n)) (frames_counted l lines a (n + 1) rs once)

stations_counted : (plan : Plan) (lines : List LogLine) (a : ℕ) (qs : List (List Ready)) → IsLog lines → AllByRecursion (λ x. is_planned plan x ≡ true) lines → EndOnce plan.layout lines
    → ((k : ℕ) (q : List Ready) → slice_get qs k ≡ Some q → slice_get plan.queues (a + k) ≡ Some q)
    → all_sent_frames plan.layout lines a qs ≡ sum_from (λ k. count_by (λ (x : LogLine). is_sent_body x.body && is_number k (device_named plan.layout x)) lines) a (length qs)
unfolding sum_from
stations_counted plan lines a [] log planned once got = refl
stations_counted plan lines a (q ∷ qs) log planned once got =
    let zero_more : a + 0 ≡ a = omega arith in
    let queue : slice_get plan.queues a ≡ Some q = subst (λ k. slice_get plan.queues k ≡ Some q) zero_more (got 0 q refl) in
    let one : sent_frames plan.layout lines a 1 q ≡ count_by (λ (x : LogLine). is_sent_body x.body && is_number a (device_named plan.layout x)) lines =
    frames_counted plan.layout lines a 1 q once
    ∙ count_all (λ (e : Event). is_sent_body e.body) is_attempt 1 (length q) (events_of plan.layout a lines) (events_once plan a q lines queue log.grammar planned)
    ∙ sent_rows plan.layout a lines in
    ap₂ (λ x y. x + y) one (stations_counted plan lines (a + 1) qs log planned once (λ k p is. let e : a + suc k ≡ a + 1 + k = omega arith in subst (λ j. slice_get plan.queues j ≡ Some p) e (got (suc k) p is)))

pub sent_frames_are_rows : SentFramesAreRows
sent_frames_are_rows plan lines log planned once =
    let all = all_planned plan 1 lines planned in
    let queues : length plan.queues ≡ length plan.layout.stations = plan.queued in
    stations_counted plan lines 0 plan.queues log all once (λ k q is. let e : k ≡ 0 + k = omega arith in subst (λ j. slice_get plan.queues j ≡ Some q) e is)
    ∙ ap (sum_from (λ k. count_by (λ (x : LogLine). is_sent_body x.body && is_number k (device_named plan.layout x)) lines) 0) queues
    ∙ count_all (λ (x : LogLine). is_sent_body x.body) (λ k x. is_number k (device_named plan.layout x)) 0 (length plan.layout.stations) lines (lines_once plan lines log.grammar all)
    ∙ sym (length-filter (λ (x : LogLine). is_sent_body x.body) lines)
