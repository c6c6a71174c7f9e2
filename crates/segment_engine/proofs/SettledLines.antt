-- Lines that have forgotten what they needn't keep, where all stations stand before the same half bit.
use Rattle.std.proofs.Common.{◌≡◌, ℕ, ◌+◌, ◌-◌, ◌<◌, ◌≤◌, true, inl, inr, List, [], ◌∷◌, max, length, get_or, sym, subst, ap, ap₂, ◌∙◌, arith}
use Rattle.std.proofs.lemmas.List.{get_or-map, get_or_past, length-map}
use Rattle.mac_parameters.specs.Distances.{distance}
use Rattle.std.proofs.lemmas.Bool.{cases_lt}
use Rattle.manchester_line.specs.declared.Sym.{Sym}
use Rattle.manchester_line.specs.declared.Sym.TheVariants.{Idle}
use Rattle.manchester_line.specs.Line.{is_signal}
use Rattle.load_plan.specs.declared.plan.Plan.{Plan}
use Rattle.mac_receive.specs.KeptReceiver.{KeptReception}
use Rattle.mac_transmit.specs.Sender.{Sender}
use Rattle.net_parts.specs.SegmentParts.{Wiring}
use Rattle.net_parts.proofs.LateRows.{if_false}
use Rattle.tap_lines.specs.TapLines.{TapLine, no_line, AreIdleFrom, IsReachOf, class_on, class_by_lines, forgotten, half_bits_back, symbol_on}
use Rattle.tap_lines.proofs.KeptLines.{forgotten_backlog, forgotten_base, forgotten_class, forgotten_delay, forgotten_end, forgotten_place, forgotten_size, forgotten_symbol}
use Rattle.tap_lines.proofs.LineClasses.{class_same, class_within}
use Rattle.segment_engine.specs.declared.apart.Watch.{Watch}
use Rattle.segment_engine.specs.declared.segment.Segment.{Segment}
use Rattle.segment_engine.specs.KnownLines.{KnowLines}
use Rattle.segment_engine.specs.RunningStates.{HaveRoomFrom}
use Rattle.segment_engine.specs.StationsApart.{StandAllApart, HearAllByLines}
use Rattle.segment_engine.proofs.AnewLines.{reaches_of}
use Rattle.segment_engine.proofs.ChangedLines.{same_places}

-- lines ls' that have forgotten what is further back from half bit t than they keep, and are right below it
pub record HaveForgotten (t : ℕ) (ls ls' : List TapLine) : Type 0 where
  pub many : length ls' ≡ length ls
  pub each : (r : ℕ) → r < length ls → get_or ls' r no_line ≡ forgotten t (get_or ls r no_line)
  pub others : (r : ℕ) → length ls ≤ r → get_or ls' r no_line ≡ get_or ls r no_line
  pub last : (r : ℕ) → r < length ls → 1 ≤ (get_or ls r no_line).backlog
  pub right : (r a : ℕ) → r < length ls → a < t → class_on (get_or ls r no_line) a ≡ is_signal (symbol_on (get_or ls r no_line) a)

-- they have, where all come to half bit t
pub have_forgotten : (plan : Plan) (w : Wiring) (L t front from : ℕ) (ls ls' : List TapLine) → KnowLines plan w L t front ls → t ≤ front → HaveRoomFrom from L ls → length ls' ≡ length ls →
    ((r : ℕ) (d : TapLine) → r < length ls' → get_or ls' r d ≡ forgotten t (get_or ls r d)) → HaveForgotten t ls ls'
have_forgotten plan w L t front from ls ls' know upto room many each = record {
  many = many;
  each = λ r h. each r no_line (omega (arith, h, many));
  others = λ r h. get_or_past ls' r no_line (omega (arith, h, many)) ∙ sym (get_or_past ls r no_line h);
  last = room.last;
  right = λ r a h low. elim (cases_lt r (length w.stations)) [
    | inl station ↦ know.classes r a station low
    | inr port ↦
        let p = r - length w.stations in
        let there : length w.stations + p ≡ r = omega (arith, port) in
        let all = know.many in
        subst (λ j. class_on (get_or ls j no_line) a ≡ is_signal (symbol_on (get_or ls j no_line) a)) there
        (know.port_classes p a (omega (arith, h, all, there)) (omega (arith, low, upto)))
  ];
}

-- a line keeps what reaches any tap
pub near_of : (plan : Plan) (w : Wiring) (L t front : ℕ) (ls : List TapLine) → KnowLines plan w L t front ls →
    (p r : ℕ) → p < length ls → r < length ls → half_bits_back L (get_or ls p no_line).at (get_or ls r no_line) ≤ (get_or ls r no_line).backlog
near_of plan w L t front ls know p r hp hr =
    let at = λ (i : ℕ) (h : i < length ls). sym (get_or-map (λ (l : TapLine). l.at) ls i no_line 0 h) ∙ ap (λ xs. get_or xs i 0) know.places in
    let size = sym (length-map ls (λ (l : TapLine). l.at)) ∙ ap length know.places in
    let way = ap₂ distance (at p hp) (at r hr) in
    let near = know.near p r (omega (arith, hp, size)) hr in
    omega (arith, way, near)

-- below the half bit from which on they hear by the lines there is none
pub hear_settled : (of : Segment) (t : ℕ) (ls : List TapLine) → HearAllByLines of t t ls
hear_settled of t ls = λ i h. record {
  hears = λ a low high. absurd (omega (arith, low, high));
  classes = λ a low high. absurd (omega (arith, low, high));
  emits = λ a low high. absurd (omega (arith, low, high));
}

-- a line that goes on with a signal has a symbol
some_of : (xs : List Sym) → is_signal (get_or xs (length xs - 1) Idle) ≡ true → 0 < length xs
some_of [] e = absurd (cc)
some_of (x ∷ xs) e = omega arith

module _ (t : ℕ) (ls ls' : List TapLine) (is : HaveForgotten t ls ls') where
  place_was : (r : ℕ) → (get_or ls' r no_line).at ≡ (get_or ls r no_line).at
  place_was r = elim (cases_lt r (length ls)) [
    | inl one ↦ ap (λ (x : TapLine). x.at) (is.each r one) ∙ forgotten_place t (get_or ls r no_line)
    | inr other ↦ ap (λ (x : TapLine). x.at) (is.others r other)
  ]

  delay_was : (r : ℕ) → (get_or ls' r no_line).delay ≡ (get_or ls r no_line).delay
  delay_was r = elim (cases_lt r (length ls)) [
    | inl one ↦ ap (λ (x : TapLine). x.delay) (is.each r one) ∙ forgotten_delay t (get_or ls r no_line)
    | inr other ↦ ap (λ (x : TapLine). x.delay) (is.others r other)
  ]

  backlog_was : (r : ℕ) → (get_or ls' r no_line).backlog ≡ (get_or ls r no_line).backlog
  backlog_was r = elim (cases_lt r (length ls)) [
    | inl one ↦ ap (λ (x : TapLine). x.backlog) (is.each r one) ∙ forgotten_backlog t (get_or ls r no_line)
    | inr other ↦ ap (λ (x : TapLine). x.backlog) (is.others r other)
  ]

  base_was : (r : ℕ) → r < length ls → (get_or ls' r no_line).base ≡ max (get_or ls r no_line).base (t - (get_or ls r no_line).backlog)
  base_was r h = ap (λ (x : TapLine). x.base) (is.each r h) ∙ forgotten_base t (get_or ls r no_line)

  -- what it keeps, and below half bit t
  symbol_was : (r a : ℕ) → r < length ls → t - (get_or ls r no_line).backlog ≤ a → symbol_on (get_or ls' r no_line) a ≡ symbol_on (get_or ls r no_line) a
  symbol_was r a h near = ap (λ x. symbol_on x a) (is.each r h) ∙ forgotten_symbol t a (get_or ls r no_line) near

  pub class_was : (r a : ℕ) → r < length ls → t - (get_or ls r no_line).backlog ≤ a → class_on (get_or ls' r no_line) a ≡ class_on (get_or ls r no_line) a
  class_was r a h near =
      let l = get_or ls r no_line in
      let right : (b : ℕ) → b < t → class_on l b ≡ is_signal (symbol_on l b) = λ b low. is.right r b h low in
      let reaches = reaches_of t l right in
      let some = is.last r h in
      ap (λ x. class_on x a) (is.each r h)
      ∙ forgotten_class t a l near reaches
      (λ on. let there = reaches on in let more = some_of l.symbols on in omega (arith, some, there, more))

  class_below : (r a : ℕ) → r < length ls → a < t → class_on (get_or ls' r no_line) a ≡ is_signal (symbol_on (get_or ls' r no_line) a)
  class_below r a h low =
      let end = ap (λ (x : TapLine). x.base + length x.symbols) (is.each r h) ∙ forgotten_end t (get_or ls r no_line) in
      class_within (get_or ls' r no_line) a (omega (arith, end, low))

  pub known_settled : (plan : Plan) (w : Wiring) (L front : ℕ) → KnowLines plan w L t front ls → KnowLines plan w L t front ls'
  known_settled plan w L front know =
      let n = length w.stations in
      let many = know.many in
      let size = is.many in
      record {
        many = size ∙ many;
        places = same_places ls ls' size place_was ∙ know.places;
        no_delays = λ r h. delay_was r ∙ know.no_delays r h;
        delays = λ p h. delay_was (n + p) ∙ know.delays p h;
        begins = λ r h.
            let base = base_was r (omega (arith, h, size)) in
            let back = backlog_was r in
            let z = know.begins r (omega (arith, h, size)) in
            omega (arith, base, back, z);
        near = λ p r hp hr.
            let delay = delay_was r in
            let back = backlog_was r in
            let z = know.near p r hp (omega (arith, hr, size)) in
            omega (arith, delay, back, z);
        emissions = λ r u h low high.
            let in_it : r < length ls = omega (arith, h, many) in
            let base = base_was r in_it in
            symbol_was r u in_it (omega (arith, base, low)) ∙ know.emissions r u h (omega (arith, base, low)) high;
        arrivals = λ p u h low high.
            let in_it : n + p < length ls = omega (arith, h, many) in
            let base = base_was (n + p) in_it in
            symbol_was (n + p) u in_it (omega (arith, base, low)) ∙ know.arrivals p u h (omega (arith, base, low)) high;
        classes = λ r u h high. class_below r u (omega (arith, h, many)) high;
        port_classes = λ p u h high.
            let in_it : n + p < length ls = omega (arith, h, many) in
            elim (cases_lt u t) [
              | inl before ↦ class_below (n + p) u in_it before
              | inr after ↦
                  class_was (n + p) u in_it (omega (arith, after))
                  ∙ know.port_classes p u h high
                  ∙ sym (ap is_signal (symbol_was (n + p) u in_it (omega (arith, after))))
            ];
      }

  -- they are as idle, reach as far, and end at half bit t or later
  pub idle_settled : (u : ℕ) → u ≤ t → AreIdleFrom u ls → AreIdleFrom u ls'
  idle_settled u early idle = λ r v h late.
      let size = is.many in
      let in_it : r < length ls = omega (arith, h, size) in
      let base = base_was r in_it in
      elim (cases_lt v (t - (get_or ls r no_line).backlog)) [
        | inl gone ↦
            class_below r v in_it (omega (arith, gone))
            ∙ ap is_signal (if_false {m = (get_or ls' r no_line).base} {n = v} _ _ (omega (arith, gone, base)))
        | inr kept ↦ class_was r v in_it kept ∙ idle r v in_it late
      ]

  pub reach_settled : (far L : ℕ) → IsReachOf far L ls → IsReachOf far L ls'
  reach_settled far L reach = λ p r hp hr.
      let size = is.many in
      let near = reach p r (omega (arith, hp, size)) (omega (arith, hr, size)) in
      let places = ap₂ distance (place_was p) (place_was r) in
      let delay = delay_was r in
      omega (arith, places, delay, near)

  pub end_settled : (r : ℕ) → r < length ls → (get_or ls' r no_line).base + length (get_or ls' r no_line).symbols ≡ max ((get_or ls r no_line).base + length (get_or ls r no_line).symbols) t
  end_settled r h = ap (λ (x : TapLine). x.base + length x.symbols) (is.each r h) ∙ forgotten_end t (get_or ls r no_line)

  -- all stations stand before half bit t
  module _ (of : Segment) (from : ℕ) (ws : List Watch) (ss : List Sender) (ks : List KeptReception) (all : StandAllApart of from t ls ws ss ks)
      (since : (i : ℕ) (w : Watch) → i < length of.stations.items → (get_or ws i w).since ≡ t)
      (near : (p r : ℕ) → p < length ls → r < length ls → half_bits_back of.lookahead (get_or ls p no_line).at (get_or ls r no_line) ≤ (get_or ls r no_line).backlog) where
    class_same_later : (i a : ℕ) → i < length ls → t ≤ a → class_by_lines of.lookahead a ls' i ≡ class_by_lines of.lookahead a ls i
    class_same_later i a h late =
        class_same of.lookahead a i ls ls' is.many (place_was i) (λ r l e. place_was r) (λ r l e. delay_was r) (λ r l e there.
        let back = half_bits_back of.lookahead (get_or ls i no_line).at (get_or ls r no_line) in
        let few = near i r h l in
        class_was r (a - back) l (omega (arith, few, late)))

    pub stand_settled : StandAllApart of t t ls' ws ss ks
    stand_settled =
        let taps = all.taps in
        let size = is.many in
        record {
          senders = all.senders;
          receivers = all.receivers;
          watches = all.watches;
          taps = omega (arith, taps, size);
          each = λ i w s k h.
              let one = all.each i w s k h in
              let b = one.behind in
              let at = since i w h in
              let in_it : i < length ls = omega (arith, h, taps) in
              record {
                behind = record {
                  from_start = omega (arith, at);
                  ordered = b.ordered;
                  within = b.within;
                  sender = b.sender;
                  receiver = b.receiver;
                  time = b.time;
                  steps = b.steps;
                  calm = b.calm;
                  steady = λ a low high. class_same_later i a in_it (omega (arith, low, at)) ∙ b.steady a low high;
                  line = λ j l. symbol_was i ((get_or ws i w).since + j) in_it (omega (arith, at)) ∙ b.line j l;
                  signal = b.signal;
                  goes = λ a low. class_was i a in_it (omega (arith, low, at)) ∙ b.goes a low;
                  lasts = b.lasts;
                };
                since = one.since;
                until = one.until;
                within = one.within;
                still = one.still;
              };
        }

  pub room_settled : (from L : ℕ) → HaveRoomFrom from L ls → HaveRoomFrom t L ls'
  room_settled from L room =
      let size = is.many in
      record {
        last = λ r h. let back = backlog_was r in let z = room.last r (omega (arith, h, size)) in omega (arith, back, z);
        keep = λ r h.
            let in_it : r < length ls = omega (arith, h, size) in
            let back = backlog_was r in
            let base = base_was r in_it in
            omega (arith, back, base);
        size = λ r h.
            let in_it : r < length ls = omega (arith, h, size) in
            let back = backlog_was r in
            let big = room.size r in_it in
            let same = same_size r in_it (omega (arith, big)) in
            omega (arith, back, big, same);
        fits = λ r h.
            let in_it : r < length ls = omega (arith, h, size) in
            let big = room.size r in_it in
            let same = same_size r in_it (omega (arith, big)) in
            let z = room.fits r in_it in
            omega (arith, z, same);
      }
    where
      same_size : (r : ℕ) → r < length ls → (get_or ls r no_line).backlog ≤ length (get_or ls r no_line).symbols + (get_or ls r no_line).room →
          length (get_or ls' r no_line).symbols + (get_or ls' r no_line).room ≡ length (get_or ls r no_line).symbols + (get_or ls r no_line).room
      same_size r h enough = ap (λ (x : TapLine). length x.symbols + x.room) (is.each r h) ∙ forgotten_size t (get_or ls r no_line) enough
