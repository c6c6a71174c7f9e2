-- The rows of a run are in order, and each is of one part.
use Rattle.std.proofs.Common.{◌≡◌, ◌≢◌, ℕ, zero, suc, ◌+◌, ◌-◌, ◌<◌, ◌≤◌, Bool, true, false, ◌&&◌, ◌||◌, cond, eqb, ltb, inl, inr, All, List, [], ◌∷◌, ◌++◌, map, filter, length, get_or, None, refl, sym, subst, ap, ap₂, ◌∙◌, arith}
use Rattle.std.proofs.lemmas.List.{length-map, get_or-map}
use Rattle.std.proofs.lemmas.List.Elements.{All-append}
use Rattle.std.proofs.lemmas.Bool.{cases_lt, cases_eq, eq-eqb, ne_eqb, false≢true}
use Rattle.std.proofs.lemmas.Bool.Decides.{nat_tests}
use Rattle.collision_log.specs.declared.row.Row.{Row}
use Rattle.collision_log.specs.Merged.{IsNotAfter, IsLogOrder, rows_at_half_bit, rows_of_all}
use Rattle.layout.specs.declared.lines.PortLine.{PortLine}
use Rattle.layout.specs.declared.lines.StationLine.{StationLine}
use Rattle.load_plan.specs.declared.plan.Plan.{Plan}
use Rattle.mac_transmit.specs.Sender.{SendOutcome}
use Rattle.mac_receive.specs.Receiver.{Reception}
use Rattle.layout.specs.Taps.{tap_of}
use Rattle.network.specs.TapsOnSegments.{numbers_on}
use Rattle.network.specs.Net.{net, rows_in, each_repeater, ports_hear, sendings_in, receptions_in}
use Rattle.network.specs.Rows.{rows_of, repeater_rows, repeater_bodies}
use Rattle.network.specs.Outputs.{rows, half_bits, cut_rows}
use Rattle.network.proofs.RunnablePlans.{runnable_plan}
use Rattle.network.proofs.SortedRows.{Between, IsSorted, pairs_append, wider, in_order, stations_sorted, cut_sorted, repeaters_sorted}
use Rattle.network.proofs.TapsOnSegments.{numbers-here, numbers-there}
use Rattle.net_parts.specs.Machines.{span}
use Rattle.net_parts.specs.Standing.{is_one_of}
use Rattle.net_parts.specs.Parts.{device_of, parts}
use Rattle.net_parts.specs.OutputsOfParts.{devices_of_kind, devices_of_part, rows_of_part, rows_of_parts}
use Rattle.net_parts.specs.PartLaws.{RowsAreGathered}
use Rattle.net_parts.proofs.DeviceSteps.{time_is}
use Rattle.net_parts.proofs.StationRows.{filter-two}
use Rattle.net_parts.proofs.NetworkFacts.{station_facts, repeater_facts}
use Rattle.net_parts.proofs.RepeaterSteps.{length-each}

-- rows below half bit t, of devices below n
pub record Below (t n : ℕ) (r : Row) : Type 0 where
  pub time : r.t < t
  pub device : r.device < n

pub record IsLog (t n : ℕ) (rs : List Row) : Type 0 where
  pub below : All (Below t n) rs
  pub order : IsLogOrder rs

more_rows : (t n : ℕ) (old now : List Row) → IsLog t n old → IsSorted t 0 n now → IsLog (suc t) n (old ++ now)
more_rows t n old now l s = record {
  below = All-append (Below (suc t) n) old now
      (λ i d m. let b = l.below i d m in record { time = let x = b.time in omega (arith, x); device = b.device })
      (λ i d m. let b = s.between i d m in record { time = let x = b.time in omega (arith, x); device = b.high_end });
  order = pairs_append IsNotAfter (Below t n) (Between t 0 n) old now l.order s.order l.below s.between (λ x y p q. inl (let a = p.time in let b = q.time in omega (arith, a, b)));
}

module _ (plan : Plan) where
  abbrev S : ℕ
  S = length plan.layout.stations

  abbrev R : ℕ
  R = length plan.layout.repeaters

  abbrev G : ℕ
  G = length plan.layout.segments

  now_sorted : (t : ℕ) → IsSorted t 0 (S + R) (rows_in (net plan t))
  now_sorted t =
      let n = net plan t in
      let known = station_facts plan in
      let es = map (λ (o : SendOutcome). o.event) (sendings_in n) in
      let rs = map (λ (r : Reception). r.event) (receptions_in n) in
      let all = each_repeater repeater_bodies (ports_hear n) n.repeaters in
      let sent_all : length es ≡ S = length-map (sendings_in n) (λ (o : SendOutcome). o.event) ∙ known.send_all t in
      let repeaters : length all ≡ R = length-each repeater_bodies (ports_hear n) n.repeaters ∙ (repeater_facts plan).many t in
      subst (λ v. IsSorted t 0 (S + R) (rows_of v 0 es rs ++ repeater_rows v (length n.senders) all)) (sym (time_is plan t))
      (subst (λ m. IsSorted t 0 (S + R) (rows_of t 0 es rs ++ repeater_rows t m all)) (sym (known.senders t))
      (in_order t 0 S (S + R) (rows_of t 0 es rs) (repeater_rows t S all) (stations_sorted t 0 S es rs (omega (arith, sent_all))) (repeaters_sorted t S (S + R) all (omega (arith, repeaters))) (omega arith) (omega arith)))

  logged : (t : ℕ) → IsLog t (S + R) (net plan t).rows
  logged zero = record { below = λ i d m. absurd (omega arith); order = λ i j d l m. absurd (omega arith) }
  logged (suc t) = more_rows t (S + R) (net plan t).rows (rows_in (net plan t)) (logged t) (now_sorted t)

  pub whole : IsLog (suc (half_bits plan)) (S + R) (rows plan)
  unfolding rows
  whole =
      let h = half_bits plan in
      let n = net plan h in
      let cut = cut_sorted h 0 S n.senders (let s = (station_facts plan).senders h in omega (arith, s)) in
      more_rows h (S + R) n.rows (cut_rows h 0 n.senders) (logged h) (record { between = wider h 0 S 0 (S + R) (cut_rows h 0 n.senders) (omega arith) (omega arith) cut.between; order = cut.order })

  -- the rows of one device at one half bit, among those of some devices
  among_devices : (t d : ℕ) (ds : List ℕ) (xs : List Row) → rows_at_half_bit t d (filter (λ (r : Row). is_one_of r.device ds) xs) ≡ cond (is_one_of d ds) (rows_at_half_bit t d xs) []
  among_devices t d ds [] = by (is_one_of d ds)
    where
      by : (b : Bool) → [] ≡ cond b (let none : List Row = [] in none) []
      by true = refl
      by false = refl
  among_devices t d ds (x ∷ xs) =
      elim (cases_eq x.device d) [
        | inl same ↦
            let is : is_one_of x.device ds ≡ is_one_of d ds = ap (λ k. is_one_of k ds) same in
            kept (is_one_of d ds) (is_one_of x.device ds) is (among_devices t d ds xs)
        | inr other ↦
            let no : (eqb x.t t && eqb x.device d) ≡ false = ap (λ b. eqb x.t t && b) (ne_eqb x.device d other) ∙ and_false (eqb x.t t) in
            let both : rows_at_half_bit t d (x ∷ xs) ≡ rows_at_half_bit t d xs = ap (λ b. cond b (x ∷ rows_at_half_bit t d xs) (rows_at_half_bit t d xs)) no in
            left_out (is_one_of x.device ds) no ∙ among_devices t d ds xs ∙ sym (ap (λ rs. cond (is_one_of d ds) rs []) both)
      ]
    where
      and_false : (b : Bool) → (b && false) ≡ false
      and_false true = refl
      and_false false = refl

      left_out : (b : Bool) → (eqb x.t t && eqb x.device d) ≡ false → rows_at_half_bit t d (cond b (x ∷ filter (λ (r : Row). is_one_of r.device ds) xs) (filter (λ (r : Row). is_one_of r.device ds) xs)) ≡ rows_at_half_bit t d (filter (λ (r : Row). is_one_of r.device ds) xs)
      left_out true gone = ap (λ b. cond b (x ∷ rows_at_half_bit t d (filter (λ (r : Row). is_one_of r.device ds) xs)) (rows_at_half_bit t d (filter (λ (r : Row). is_one_of r.device ds) xs))) gone
      left_out false gone = refl

      kept : (b c : Bool) → c ≡ b → rows_at_half_bit t d (filter (λ (r : Row). is_one_of r.device ds) xs) ≡ cond b (rows_at_half_bit t d xs) [] → rows_at_half_bit t d (cond c (x ∷ filter (λ (r : Row). is_one_of r.device ds) xs) (filter (λ (r : Row). is_one_of r.device ds) xs)) ≡ cond b (rows_at_half_bit t d (x ∷ xs)) []
      kept true true e h = ap (λ rs. cond (eqb x.t t && eqb x.device d) (x ∷ rs) rs) h
      kept false false e h = h
      kept true false e h = absurd (false≢true e)
      kept false true e h = absurd (false≢true (sym e))

  at_two : (t d : ℕ) (xs ys : List Row) → rows_at_half_bit t d (xs ++ ys) ≡ rows_at_half_bit t d xs ++ rows_at_half_bit t d ys
  at_two t d xs ys = filter-two (λ (r : Row). eqb r.t t && eqb r.device d) xs ys

  append_none : (xs : List Row) → xs ++ [] ≡ xs
  append_none [] = refl
  append_none (x ∷ xs) = ap (λ ys. x ∷ ys) (append_none xs)

  -- parts from u on, n in all, none of which is the device's
  none_of : (t d u n : ℕ) → ((v : ℕ) → u ≤ v → v < u + n → is_one_of d (devices_of_part plan v) ≡ false) → rows_at_half_bit t d (rows_of_all (map (rows_of_part plan) (span (λ v. v) u n))) ≡ []
  none_of t d u zero h = refl
  none_of t d u (suc n) h =
      at_two t d (rows_of_part plan u) (rows_of_all (map (rows_of_part plan) (span (λ v. v) (suc u) n)))
      ∙ ap₂ (λ a b. a ++ b) (among_devices t d (devices_of_part plan u) (rows plan) ∙ ap (λ b. cond b (rows_at_half_bit t d (rows plan)) []) (h u (omega arith) (omega arith))) (none_of t d (suc u) n (λ v l m. h v (omega arith) (omega arith)))

  -- and one of which is
  one_of : (t d u n owner : ℕ) → u ≤ owner → owner < u + n → is_one_of d (devices_of_part plan owner) ≡ true → ((v : ℕ) → v ≢ owner → v < u + n → is_one_of d (devices_of_part plan v) ≡ false) →
      rows_at_half_bit t d (rows_of_all (map (rows_of_part plan) (span (λ v. v) u n))) ≡ rows_at_half_bit t d (rows plan)
  one_of t d u zero owner l m is others = absurd (omega arith)
  one_of t d u (suc n) owner l m is others = elim (cases_eq u owner) [
    | inl same ↦
        let here : is_one_of d (devices_of_part plan u) ≡ true = ap (λ v. is_one_of d (devices_of_part plan v)) same ∙ is in
        at_two t d (rows_of_part plan u) (rows_of_all (map (rows_of_part plan) (span (λ v. v) (suc u) n)))
        ∙ ap₂ (λ a b. a ++ b) (among_devices t d (devices_of_part plan u) (rows plan) ∙ ap (λ b. cond b (rows_at_half_bit t d (rows plan)) []) here) (none_of t d (suc u) n (λ v a b. others v (λ e. omega (arith, e, a, same)) (omega arith)))
        ∙ append_none (rows_at_half_bit t d (rows plan))
    | inr other ↦
        at_two t d (rows_of_part plan u) (rows_of_all (map (rows_of_part plan) (span (λ v. v) (suc u) n)))
        ∙ ap₂ (λ a b. a ++ b) (among_devices t d (devices_of_part plan u) (rows plan) ∙ ap (λ b. cond b (rows_at_half_bit t d (rows plan)) []) (others u other (omega arith))) (one_of t d (suc u) n owner (omega (arith, l, other)) (omega arith) is (λ v a b. others v a (omega arith)))
  ]

-- which numbers are on a segment
on_segment : (s k : ℕ) (xs : List PortLine) (i d : ℕ) (p : PortLine) → i < length xs → d ≡ k + i → is_one_of d (numbers_on s k xs) ≡ eqb (get_or xs i p).segment s
on_segment s k [] i d p h e = absurd (omega arith)
on_segment s k (x ∷ xs) zero d p h e = elim (cases_eq x.segment s) [
  | inl on ↦ ap (is_one_of d) (numbers-here s k x xs on) ∙ ap (λ b. b || is_one_of d (numbers_on s (k + 1) xs)) (eq-eqb d k (omega arith)) ∙ sym (eq-eqb x.segment s on)
  | inr off ↦ ap (is_one_of d) (numbers-there s k x xs off) ∙ before_it s (k + 1) xs d (omega arith) ∙ sym (ne_eqb x.segment s off)
]
  where
    before_it : (s k : ℕ) (ys : List PortLine) (j : ℕ) → j < k → is_one_of j (numbers_on s k ys) ≡ false
    before_it s k [] j l = refl
    before_it s k (y ∷ ys) j l = elim (cases_eq y.segment s) [
      | inl on ↦ ap (is_one_of j) (numbers-here s k y ys on) ∙ ap₂ (λ a b. a || b) (ne_eqb j k (λ z. omega (arith, z))) (before_it s (k + 1) ys j (omega arith))
      | inr off ↦ ap (is_one_of j) (numbers-there s k y ys off) ∙ before_it s (k + 1) ys j (omega arith)
    ]
on_segment s k (x ∷ xs) (suc i) d p h e =
    let rest = on_segment s (k + 1) xs i d p (omega arith) (omega arith) in
    elim (cases_eq x.segment s) [
      | inl on ↦ ap (is_one_of d) (numbers-here s k x xs on) ∙ ap (λ b. b || is_one_of d (numbers_on s (k + 1) xs)) (ne_eqb d k (λ z. omega (arith, z, e))) ∙ rest
      | inr off ↦ ap (is_one_of d) (numbers-there s k x xs off) ∙ rest
    ]

past_stations : (s k : ℕ) (xs : List PortLine) (j : ℕ) → k + length xs ≤ j → is_one_of j (numbers_on s k xs) ≡ false
past_stations s k [] j h = refl
past_stations s k (x ∷ xs) j h = elim (cases_eq x.segment s) [
  | inl on ↦ ap (is_one_of j) (numbers-here s k x xs on) ∙ ap₂ (λ a b. a || b) (ne_eqb j k (λ e. omega (arith, e))) (past_stations s (k + 1) xs j (omega arith))
  | inr off ↦ ap (is_one_of j) (numbers-there s k x xs off) ∙ past_stations s (k + 1) xs j (omega arith)
]

-- no row of a device that there isn't
none_there : (t d n h : ℕ) (xs : List Row) → n ≤ d → All (λ r. r.device < n) xs → rows_at_half_bit t d xs ≡ []
none_there t d n h [] l all = refl
none_there t d n h (x ∷ xs) l all =
    let small : x.device < n = all 0 x (omega arith) in
    let no : (eqb x.t t && eqb x.device d) ≡ false = ap (λ b. eqb x.t t && b) (ne_eqb x.device d (λ e. omega (arith, e, small, l))) ∙ and_false (eqb x.t t) in
    ap (λ b. cond b (x ∷ rows_at_half_bit t d xs) (rows_at_half_bit t d xs)) no ∙ none_there t d n h xs l (λ i e m. all (suc i) e (omega arith))
  where
    and_false : (b : Bool) → (b && false) ≡ false
    and_false true = refl
    and_false false = refl

less : (a b : ℕ) → a < b → ltb a b ≡ true
less a b h = grind (arith, nat_tests)

not_less : (a b : ℕ) → b ≤ a → ltb a b ≡ false
not_less a b h = grind (arith, nat_tests)

module _ (plan : Plan) where
  abbrev xs : List PortLine
  xs = map tap_of plan.layout.stations

  many : length xs ≡ length plan.layout.stations
  many = length-map plan.layout.stations tap_of

  as_segment : (v : ℕ) → v < length plan.layout.segments → devices_of_part plan v ≡ numbers_on v 0 xs
  as_segment v h = ap (λ b. devices_of_kind plan b v) (less v (length plan.layout.segments) h)

  as_repeater : (v : ℕ) → length plan.layout.segments ≤ v → devices_of_part plan v ≡ device_of plan v ∷ []
  as_repeater v h = ap (λ b. devices_of_kind plan b v) (not_less v (length plan.layout.segments) h)

  station_rows : (t d : ℕ) → d < length plan.layout.stations → rows_at_half_bit t d (rows plan) ≡ rows_at_half_bit t d (rows_of_all (rows_of_parts plan))
  station_rows t d h =
      let no_station : StationLine = get_or_station in
      let at = get_or xs d (tap_of no_station) in
      let on : at.segment < length plan.layout.segments = subst (λ (p : PortLine). p.segment < length plan.layout.segments) (sym (get_or-map tap_of plan.layout.stations d no_station (tap_of no_station) h)) ((runnable_plan plan).stations_on d no_station h) in
      sym (one_of plan t d 0 (parts plan) at.segment (omega arith) (omega (arith, on))
      (ap (is_one_of d) (as_segment at.segment on) ∙ on_segment at.segment 0 xs d d (tap_of no_station) (omega (arith, many, h)) (omega arith) ∙ eq-eqb at.segment at.segment refl)
      (λ v ne below. elim (cases_lt v (length plan.layout.segments)) [
        | inl segment ↦ ap (is_one_of d) (as_segment v segment) ∙ on_segment v 0 xs d d (tap_of no_station) (omega (arith, many, h)) (omega arith) ∙ ne_eqb at.segment v (λ e. ne (sym e))
        | inr repeater ↦ ap (is_one_of d) (as_repeater v repeater) ∙ ap (λ b. b || false) (ne_eqb d (device_of plan v) (λ e. omega (arith, e, h)))
      ]))
    where
      get_or_station : StationLine
      get_or_station = record { name = []; segment = 0; at = 0; load = None; lose = 0 }

  repeater_rows_of : (t d : ℕ) → length plan.layout.stations ≤ d → d < length plan.layout.stations + length plan.layout.repeaters → rows_at_half_bit t d (rows plan) ≡ rows_at_half_bit t d (rows_of_all (rows_of_parts plan))
  repeater_rows_of t d l h =
      let owner = length plan.layout.segments + (d - length plan.layout.stations) in
      sym (one_of plan t d 0 (parts plan) owner (omega arith) (omega (arith, h, l))
      (ap (is_one_of d) (as_repeater owner (omega arith)) ∙ ap (λ b. b || false) (eq-eqb d (device_of plan owner) (omega (arith, l))))
      (λ v ne below. elim (cases_lt v (length plan.layout.segments)) [
        | inl segment ↦ ap (is_one_of d) (as_segment v segment) ∙ past_stations v 0 xs d (omega (arith, many, l))
        | inr repeater ↦ ap (is_one_of d) (as_repeater v repeater) ∙ ap (λ b. b || false) (ne_eqb d (device_of plan v) (λ e. ne (omega (arith, e, l, repeater))))
      ]))

  no_device : (t d : ℕ) → length plan.layout.stations + length plan.layout.repeaters ≤ d → rows_at_half_bit t d (rows plan) ≡ rows_at_half_bit t d (rows_of_all (rows_of_parts plan))
  no_device t d l =
      none_there t d (length plan.layout.stations + length plan.layout.repeaters) 0 (rows plan) l (λ i e m. ((whole plan).below i e m).device)
      ∙ sym (none_of plan t d 0 (parts plan) (λ v a b. elim (cases_lt v (length plan.layout.segments)) [
        | inl segment ↦ ap (is_one_of d) (as_segment v segment) ∙ past_stations v 0 xs d (omega (arith, many, l))
        | inr repeater ↦ ap (is_one_of d) (as_repeater v repeater) ∙ ap (λ c. c || false) (ne_eqb d (device_of plan v) (λ e. omega (arith, e, l, repeater, b)))
      ]))

pub rows_are_gathered : RowsAreGathered
rows_are_gathered plan = record {
  order = (whole plan).order;
  own = λ t d. elim (cases_lt d (length plan.layout.stations)) [
    | inl station ↦ station_rows plan t d station
    | inr past ↦ elim (cases_lt d (length plan.layout.stations + length plan.layout.repeaters)) [
      | inl repeater ↦ repeater_rows_of plan t d past repeater
      | inr none ↦ no_device plan t d none
    ]
  ];
}
