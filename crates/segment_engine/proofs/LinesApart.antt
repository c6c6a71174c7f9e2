-- While stations go on one by one, what their lines tell comes true, and so does what the taps hear by them, for as long as
-- no station is due.
use Rattle.std.proofs.Common.{◌≡◌, ℕ, zero, suc, ◌+◌, ◌-◌, ◌<◌, ◌≤◌, inl, inr, List, length, get_or, sym, subst, ap, ◌∙◌, arith}
use Rattle.std.proofs.lemmas.Bool.{cases_lt}
use Rattle.manchester_line.specs.Line.{is_signal}
use Rattle.load_plan.specs.declared.plan.Plan.{Plan}
use Rattle.mac_receive.specs.KeptReceiver.{KeptReception}
use Rattle.mac_transmit.specs.Sender.{Sender, sender_step}
use Rattle.mac_transmit.specs.Calm.{AllHeardAs, AreOverBefore, after_all, change_in}
use Rattle.mac_transmit.specs.Emissions.{emission_by}
use Rattle.mac_transmit.proofs.CalmEmissions.{emits_so}
use Rattle.network.specs.Attempts.{sender_at}
use Rattle.network.specs.Times.{heard}
use Rattle.net_parts.specs.Windows.{lookahead}
use Rattle.net_parts.specs.Machines.{span}
use Rattle.net_parts.specs.SegmentParts.{Wiring, wiring}
use Rattle.net_parts.specs.Standing.{port_hears}
use Rattle.net_parts.proofs.NetworkFacts.{station_facts}
use Rattle.net_parts.proofs.LookaheadLeads.{leads}
use Rattle.net_parts.proofs.RepeaterSteps.{length-span, get_or-span}
use Rattle.tap_lines.specs.TapLines.{TapLine, no_line, symbol_on, class_by_lines, heard_by_lines}
use Rattle.segment_engine.specs.declared.apart.Watch.{Watch}
use Rattle.segment_engine.specs.KnownLines.{KnowLines}
use Rattle.segment_engine.specs.StationsApart.{StandsBehind, HearsByLines, SaysOf}
use Rattle.segment_engine.proofs.CalmLater.{fewer_over}
use Rattle.segment_engine.proofs.ChangedLines.{class_known}
use Rattle.segment_engine.proofs.LinesHear.{station_by_lines, port_by_lines}
use Rattle.segment_engine.proofs.StationsLater.{sender_runs, station}

module _ (plan : Plan) (s u front : ℕ) (ls : List TapLine) (know : KnowLines plan (wiring plan.layout s) (lookahead plan.layout) u front ls) where
  abbrev w : Wiring
  w = wiring plan.layout s

  abbrev L : ℕ
  L = lookahead plan.layout

  abbrev n : ℕ
  n = length w.stations

  abbrev number : ℕ → ℕ
  number r = get_or w.stations r 0

  -- the lines are right from half bit u on below half bit b
  abbrev AreRight : ℕ → Type 0
  AreRight b = (r a : ℕ) → r < n → u ≤ a → a < b → SaysOf plan (number r) a (get_or ls r no_line)

  pub know_to : (b : ℕ) → u ≤ b → AreRight b → KnowLines plan w L b front ls
  know_to b h right = record {
    many = know.many;
    places = know.places;
    no_delays = know.no_delays;
    delays = know.delays;
    begins = λ r l. let x = know.begins r l in omega (arith, x, h);
    near = know.near;
    emissions = λ r a l low high. elim (cases_lt a u) [
      | inl before ↦ know.emissions r a l low before
      | inr after ↦ sym (right r a l after high).emits
    ];
    arrivals = know.arrivals;
    classes = λ r a l high. elim (cases_lt a u) [
      | inl before ↦ know.classes r a l before
      | inr after ↦ (right r a l after high).class
    ];
    port_classes = know.port_classes;
  }

  -- what is heard in half bit b by lines that are right below it
  hears_to : (b : ℕ) → u ≤ b → b < front → AreRight b → (r : ℕ) → r < n → heard plan (number r) b ≡ heard_by_lines L b ls r
  hears_to b h l right r i = station_by_lines plan (station_facts plan) L s b front (leads plan.layout) ls (know_to b h right) l r i

  -- and it is a signal where it is one by the lines as they go on
  classes_to : (b : ℕ) → u ≤ b → b < front → AreRight b → (r : ℕ) → r < n → class_by_lines L b ls r ≡ is_signal (heard_by_lines L b ls r)
  classes_to b h l right r i = class_known plan s b front ls (know_to b h right) l r i

  -- the same of the half bit that the lines are right below
  pub hears_so_far : u < front → (r : ℕ) → r < n → heard plan (number r) u ≡ heard_by_lines L u ls r
  hears_so_far l r i = hears_to u (omega arith) l (λ r' a h low high. absurd (omega (arith, low, high))) r i

  fewer : (a b : ℕ) → a ≤ b → AreRight b → AreRight a
  fewer a b h right r i l low high = right r i l low (omega (arith, high, h))

  -- one station, which stands behind, as far as it goes on
  module _ (t r : ℕ) (h : r < n) (w0 : Watch) (x : Sender) (k0 : KeptReception) (is : StandsBehind plan (number r) r L t ls w0 x k0) (early : w0.since ≤ u)
      (right : HearsByLines plan (number r) r L t u ls) where
    pub hears_one : (b : ℕ) → t ≤ b → b < front → AreRight b → heard plan (number r) b ≡ heard_by_lines L b ls r
    hears_one b low high so = elim (cases_lt b u) [
      | inl before ↦ right.hears b low before
      | inr after ↦ hears_to b after high so r h
    ]

    pub classes_one : (b : ℕ) → t ≤ b → b < front → AreRight b → class_by_lines L b ls r ≡ is_signal (heard_by_lines L b ls r)
    classes_one b low high so = elim (cases_lt b u) [
      | inl before ↦ right.classes b low before
      | inr after ↦ classes_to b after high so r h
    ]

    pub emits_one : (a : ℕ) → u ≤ a → a < w0.until → a < front → AreRight a → SaysOf plan (number r) a (get_or ls r no_line)
    emits_one a after late upto so =
        let k = number r in
        let m = a - w0.since in
        let begun = is.from_start in
        let told = is.within in
        let there : w0.since + m ≡ a = omega (arith, early, after) in
        let hs = span (heard plan k) w0.since m in
        let size : length hs ≡ m = length-span (heard plan k) w0.since m in
        let heard_as : (i : ℕ) → i ≤ m → is_signal (heard plan k (w0.since + i)) ≡ w0.carrier = λ i c.
        let b : w0.since + i ≤ a = omega (arith, c, there) in
        let few = fewer (w0.since + i) a b so in
        ap is_signal (hears_one (w0.since + i) (omega (arith, begun)) (omega (arith, b, upto)) few)
        ∙ sym (classes_one (w0.since + i) (omega (arith, begun)) (omega (arith, b, upto)) few)
        ∙ is.steady (w0.since + i) (omega arith) (omega (arith, b, late)) in
        let all : AllHeardAs w0.carrier hs = λ i d c.
        let in_it : i < m = omega (arith, c, size) in
        ap is_signal (get_or-span (heard plan k) w0.since m i d in_it) ∙ heard_as i (omega (arith, in_it)) in
        let over : AreOverBefore (suc (length hs)) (change_in x w0.carrier) = fewer_over (suc (length hs)) (w0.until - w0.since) (change_in x w0.carrier) (omega (arith, size, late, there)) is.calm.number in
        let now : is_signal (heard plan k a) ≡ w0.carrier = subst (λ b. is_signal (heard plan k b) ≡ w0.carrier) there (heard_as m (omega arith)) in
        let later : sender_at plan k a ≡ after_all x hs = ap (sender_at plan k) (sym there) ∙ sender_runs plan k (station plan s r h) m w0.since ∙ ap (λ y. after_all y hs) (sym is.sender) in
        let in_told : w0.since + m < w0.told = omega (arith, there, late, told) in
        let line : symbol_on (get_or ls r no_line) a ≡ emission_by x m x.phase = ap (symbol_on (get_or ls r no_line)) (sym there) ∙ is.line m in_told in
        record {
          emits = sym (line
              ∙ ap (λ i. emission_by x i x.phase) (sym size)
              ∙ sym (emits_so hs x w0.carrier (heard plan k a) all now over)
              ∙ ap (λ y. (sender_step y (heard plan k a)).emitted) (sym later)
              ∙ sym ((station_facts plan).emits k a (station plan s r h)));
          class = is.goes a (omega (arith, early, after)) ∙ sym (ap is_signal line ∙ is.signal m in_told);
        }

  module _ (t v : ℕ) (from : t ≤ u) (upto : v ≤ front) (ws : ℕ → Watch) (ss : ℕ → Sender) (ks : ℕ → KeptReception)
      (behind : (r : ℕ) → r < n → StandsBehind plan (number r) r L t ls (ws r) (ss r) (ks r))
      (since : (r : ℕ) → r < n → (ws r).since ≤ u) (until : (r : ℕ) → r < n → v ≤ (ws r).until)
      (right : (r : ℕ) → r < n → HearsByLines plan (number r) r L t u ls) where
    right_now : (a : ℕ) → u ≤ a → a < v → AreRight a → (r : ℕ) → r < n → SaysOf plan (number r) a (get_or ls r no_line)
    right_now a after below so r h =
        let late = until r h in
        emits_one t r h (ws r) (ss r) (ks r) (behind r h) (since r h) (right r h) a after (omega (arith, below, late)) (omega (arith, below, upto)) so

    right_to : (j : ℕ) → u + j ≤ v → AreRight (u + j)
    right_to zero h r a l low high = absurd (omega (arith, low, high))
    right_to (suc j) h r a l low high = elim (cases_lt a (u + j)) [
      | inl before ↦ right_to j (omega (arith, h)) r a l low before
      | inr now ↦ let e : u + j ≡ a = omega (arith, now, high) in subst (λ b. SaysOf plan (number r) b (get_or ls r no_line)) e (right_now (u + j) (omega arith) (omega (arith, h)) (right_to j (omega (arith, h))) r l)
    ]

    right_below : u ≤ v → AreRight v
    right_below h = let e : u + (v - u) ≡ v = omega (arith, h) in subst AreRight e (right_to (v - u) (omega (arith, e)))

    -- the lines are right below v, where no station is due before
    pub know_below : u ≤ v → KnowLines plan w L v front ls
    know_below h = know_to v h (right_below h)

    pub hears_below : u ≤ v → (r : ℕ) → r < n → HearsByLines plan (number r) r L t v ls
    hears_below h r l =
        let so = right_below h in
        record {
          hears = λ a low high. hears_one t r l (ws r) (ss r) (ks r) (behind r l) (since r l) (right r l) a low (omega (arith, high, upto)) (fewer a v (omega (arith, high)) so);
          classes = λ a low high. classes_one t r l (ws r) (ss r) (ks r) (behind r l) (since r l) (right r l) a low (omega (arith, high, upto)) (fewer a v (omega (arith, high)) so);
          emits = λ a low high. elim (cases_lt a u) [
            | inl before ↦ (right r l).emits a low before
            | inr after ↦ (so r a l after high).emits
          ];
        }

  -- The ports hear by the lines in all half bits from t on, where these keep what was so before t.
  pub ports_from : (t : ℕ) → t ≤ u → ((r : ℕ) → r < length ls → (get_or ls r no_line).base ≤ t - (get_or ls r no_line).backlog) →
      (p a : ℕ) → p < length w.edges → t ≤ a → a < u → a < front → port_hears plan (get_or w.edges p 0) a ≡ heard_by_lines L a ls (n + p)
  ports_from t h begins p a l low high ahead = port_by_lines plan (station_facts plan) L s a front (leads plan.layout) ls known_there ahead p l
    where
      known_there : KnowLines plan w L a front ls
      known_there = record {
        many = know.many;
        places = know.places;
        no_delays = know.no_delays;
        delays = know.delays;
        begins = λ r i. let x = begins r i in omega (arith, x, low);
        near = know.near;
        emissions = λ r b i from below. know.emissions r b i from (omega (arith, below, high));
        arrivals = know.arrivals;
        classes = λ r b i below. know.classes r b i (omega (arith, below, high));
        port_classes = know.port_classes;
      }
