-- Where nothing happens on a segment, all taps hear Idle, and all stations stand in the network several half bits later.
use Rattle.std.proofs.Common.{◌≡◌, ℕ, ◌+◌, ◌-◌, ◌<◌, ◌≤◌, false, inl, inr, List, [], map, length, replicate, get_or, refl, sym, subst, ap, ◌∙◌, arith}
use Rattle.std.proofs.lemmas.Bool.{cases_lt, false≢true}
use Rattle.manchester_line.specs.declared.Sym.TheVariants.{Idle}
use Rattle.manchester_line.specs.Line.{is_signal}
use Rattle.load_plan.specs.declared.plan.Plan.{Plan}
use Rattle.mac_receive.specs.KeptReceiver.{KeptReception}
use Rattle.mac_receive.specs.Receiver.{Receiving, receiver_after}
use Rattle.mac_transmit.specs.Sender.{Sender, is_sending}
use Rattle.mac_transmit.specs.Calm.{AllHeardAs, after_all}
use Rattle.network.specs.Attempts.{sender_at}
use Rattle.network.specs.Times.{heard, emitted}
use Rattle.net_parts.specs.Machines.{span}
use Rattle.net_parts.specs.SegmentParts.{Wiring, wiring}
use Rattle.net_parts.specs.Standing.{arrives, captures_at, receiver_at, rows_of_devices}
use Rattle.net_parts.specs.Windows.{lookahead}
use Rattle.net_parts.proofs.RepeaterSteps.{length-span, get_or-span}
use Rattle.tap_lines.specs.TapLines.{TapLine, no_line, symbol_on, heard_by_lines, class_by_lines, AreIdleFrom}
use Rattle.tap_lines.proofs.HeardClasses.{own_class}
use Rattle.tap_lines.proofs.HeardLines.{own_heard}
use Rattle.tap_lines.proofs.LineClasses.{idle_on}
use Rattle.segment_engine.specs.declared.apart.Watch.{Watch}
use Rattle.segment_engine.specs.declared.running.Running.{Running}
use Rattle.segment_engine.specs.declared.segment.Segment.{Segment}
use Rattle.segment_engine.specs.KnownLines.{KnowLines}
use Rattle.segment_engine.specs.QuietHalfBits.{ComeInIdle, GoOutIdle, IsCalmFor, IsQuietFor}
use Rattle.segment_engine.specs.RunningStates.{GoesOnAt}
use Rattle.segment_engine.specs.SteadyPieces.{IsCalmAs}
use Rattle.segment_engine.specs.StationsApart.{StandsBehind, HearAllByLines, number_on}
use Rattle.segment_engine.proofs.BehindStations.{halves_after}
use Rattle.segment_engine.proofs.Beginnings.{is_station_of}
use Rattle.segment_engine.proofs.CalmLater.{calm_fewer, calm_on}
use Rattle.segment_engine.proofs.LinesApart.{ports_from}
use Rattle.segment_engine.proofs.RowsApart.{GoOnTo, a_watch, captures_same, captures_stay, rows_same}
use Rattle.segment_engine.proofs.RunsApart.{all_hear, all_known}
use Rattle.segment_engine.proofs.StationsLater.{no_halves, receiver_runs, sender_runs}
use Rattle.segment_engine.proofs.SteadyCalm.{emits_idle}
use Rattle.segment_engine.proofs.SteadyReceivers.{idle_piece, span_same}

-- quiet for fewer half bits
pub calm_for_fewer : (m n : ℕ) (s : Sender) → n ≤ m → IsCalmFor m s → IsCalmFor n s
calm_for_fewer m n s h c = record {
  not_sending = c.not_sending;
  calm = calm_fewer n m false s h c.calm;
}

pub quiet_for_fewer : (m n : ℕ) (a : Running) → n ≤ m → IsQuietFor m a → IsQuietFor n a
quiet_for_fewer m n a h q = record {
  lines = q.lines;
  idle = q.idle;
  senders = λ i w s l. calm_for_fewer (a.t + m - (get_or a.watches.items i w).since) (a.t + n - (get_or a.watches.items i w).since) (get_or a.senders.items i s) (omega (arith, h)) (q.senders i w s l);
  receivers = q.receivers;
}

-- a segment on whose lines nothing is that still reaches a tap
module _ (of : Segment) (a : Running) (front : ℕ) (at : GoesOnAt of front a) (silent : AreIdleFrom (a.t - a.far) a.lines.items) where
  pub no_class : (u p : ℕ) → a.t ≤ u → p < length a.lines.items → class_by_lines of.lookahead u a.lines.items p ≡ false
  no_class u p later h =
      own_class of.lookahead a.t a.far u p p a.lines.items at.reach h (record { within = h; others = λ r v l other late. silent r v l late }) later refl

  silence : (u p : ℕ) → a.t ≤ u → p < length a.lines.items → heard_by_lines of.lookahead u a.lines.items p ≡ Idle
  silence u p later h =
      own_heard of.lookahead a.t a.far u p p a.lines.items at.reach h (record { within = h; others = λ r v l other late. silent r v l late }) later refl

-- a segment on which nothing happens for m half bits
module _ (of : Segment) (a : Running) (m front : ℕ) (at : GoesOnAt of front a) (quiet : IsQuietFor m a) where
  abbrev plan : Plan
  plan = of.plan.value

  abbrev w : Wiring
  w = wiring plan.layout of.number

  abbrev L : ℕ
  L = of.lookahead

  abbrev n : ℕ
  n = length of.stations.items

  abbrev t : ℕ
  t = a.t

  abbrev ls : List TapLine
  ls = a.lines.items

  abbrev ws : List Watch
  ws = a.watches.items

  abbrev ss : List Sender
  ss = a.senders.items

  abbrev ks : List KeptReception
  ks = a.receivers.items

  taps_are : length ls ≡ n + length w.edges
  taps_are = let many = at.lines.many in let numbers = ap length of.station_numbers in omega (arith, many, numbers)

  calm_at : (i : ℕ) (x : Watch) (s : Sender) → i < n → IsCalmFor (t + m - (get_or ws i x).since) (get_or ss i s)
  calm_at i x s h = let many = at.stations.senders in quiet.senders i x s (omega (arith, h, many))

  carrier_off : (i : ℕ) (x : Watch) → i < n → (get_or ws i x).since < t → (get_or ws i x).carrier ≡ false
  carrier_off i x h early = let many = at.stations.senders in quiet.idle i x (omega (arith, h, many)) early

  -- no station is due before their end, by watches that go so far
  abbrev calm_watch : Watch → Watch
  calm_watch x = record x { until = t + m; carrier = false; told = t + m }

  calm_behind : (i : ℕ) (x : Watch) (s : Sender) (k : KeptReception) → i < n →
      StandsBehind plan (number_on of i) i L a.from ls (calm_watch (get_or ws i x)) (get_or ss i s) (get_or ks i k)
  calm_behind i x s k h =
      let one = at.stations.each i x s k h in
      let b = one.behind in
      let c = calm_at i x s h in
      let taps = at.stations.taps in
      let early = one.since in
      let late = one.until in
      let since = (get_or ws i x).since in
      let y = get_or ss i s in
      record {
        from_start = b.from_start;
        ordered = omega (arith, early);
        within = omega arith;
        sender = b.sender;
        receiver = b.receiver;
        time = b.time;
        steps = b.steps;
        calm = c.calm;
        steady = λ u low high. elim (cases_lt u t) [
          | inl before ↦ b.steady u low (omega (arith, before, late)) ∙ carrier_off i x h (omega (arith, low, before))
          | inr after ↦ no_class of a front at quiet.lines u i after (omega (arith, h, taps))
        ];
        line = λ j l. idle_on since (since + j) (get_or ls i no_line) (λ v q. b.goes v q ∙ c.not_sending) (omega arith) ∙ sym (emits_idle y j y.phase c.not_sending);
        signal = λ j l. ap is_signal (emits_idle y j y.phase c.not_sending) ∙ sym c.not_sending;
        goes = b.goes;
        lasts = λ yes. absurd (false≢true (sym c.not_sending ∙ yes));
      }

  calm_on_to : (ds : Sender) (dk : KeptReception) → GoOnTo of a.from t (t + m) ls (λ i. calm_watch (get_or ws i a_watch)) (λ i. get_or ss i ds) (λ i. get_or ks i dk)
  calm_on_to ds dk = record {
    behind = λ i h. calm_behind i a_watch ds dk h;
    since = λ i h. (at.stations.each i a_watch ds dk h).since;
    until = λ i h. omega arith;
    still = λ i h below idle silent. let heard = at.stations.receivers in quiet.receivers i dk (omega (arith, h, heard));
  }

  -- each station now
  module _ (ds : Sender) (dk : KeptReception) (i : ℕ) (h : i < n) where
    abbrev since : ℕ
    since = (get_or ws i a_watch).since

    abbrev k : ℕ
    k = t - since

    abbrev was : StandsBehind plan (number_on of i) i L a.from ls (calm_watch (get_or ws i a_watch)) (get_or ss i ds) (get_or ks i dk)
    was = calm_behind i a_watch ds dk h

    so_far : since + k ≡ t
    so_far = let early = (at.stations.each i a_watch ds dk h).since in omega (arith, early)

    heard_idle : (j : ℕ) → j < k → is_signal (heard plan (number_on of i) (since + j)) ≡ false
    heard_idle j l =
        let right = at.hears i h in
        let from = was.from_start in
        let e = so_far in
        ap is_signal (right.hears (since + j) (omega (arith, from)) (omega (arith, l, e)))
        ∙ sym (right.classes (since + j) (omega (arith, from)) (omega (arith, l, e)))
        ∙ was.steady (since + j) (omega arith) (omega (arith, l, e))

    emits_nothing : (j : ℕ) → j < k → is_signal (emitted plan (number_on of i) (since + j)) ≡ false
    emits_nothing j l =
        let right = at.hears i h in
        let from = was.from_start in
        let e = so_far in
        ap is_signal (right.emits (since + j) (omega (arith, from)) (omega (arith, l, e)) ∙ was.line j (omega (arith, l, e)))
        ∙ was.signal j (omega (arith, l, e))
        ∙ (calm_at i a_watch ds h).not_sending

    -- its sender is calm for m half bits
    pub calm_now : IsCalmFor m (sender_at plan (number_on of i) t)
    calm_now =
        let x = number_on of i in
        let s = get_or ss i ds in
        let hs = span (heard plan x) since k in
        let size = length-span (heard plan x) since k in
        let e = so_far in
        let all : AllHeardAs false hs = λ j d l.
        let in_it : j < k = omega (arith, l, size) in
        ap is_signal (get_or-span (heard plan x) since k j d in_it) ∙ heard_idle j in_it in
        let later : sender_at plan x t ≡ after_all s hs = ap (sender_at plan x) (sym e) ∙ sender_runs plan x (is_station_of of i h) k since ∙ ap (λ y. after_all y hs) (sym was.sender) in
        let on = calm_on hs s false (t + m - since) all (omega (arith, size, e)) was.calm in
        let left : t + m - since - length hs ≡ m = omega (arith, size, e) in
        let calm : IsCalmAs m false (after_all s hs) = subst (λ j. IsCalmAs j false (after_all s hs)) left on.1 in
        subst (IsCalmFor m) (sym later) (record {
          not_sending = ap is_sending on.0.phase ∙ (calm_at i a_watch ds h).not_sending;
          calm = calm;
        })

    -- and its receiver at rest
    pub rest_now : (receiver_at plan (number_on of i) t).halves ≡ []
    rest_now =
        let x = number_on of i in
        let r = receiver_at plan x since in
        let heard_many = at.stations.receivers in
        let none = no_halves r (get_or ks i dk) (quiet.receivers i dk (omega (arith, h, heard_many))) was.receiver in
        let later : receiver_at plan x t ≡ receiver_after r (replicate k Idle) false =
        ap (receiver_at plan x) (sym so_far) ∙ receiver_runs plan x (is_station_of of i h) false k since emits_nothing ∙ ap (λ hs. receiver_after r hs false) (idle_piece (heard plan x) since k heard_idle) in
        ap (λ (y : Receiving). y.halves) later ∙ halves_after k r none

  -- where Idle comes in, too
  module _ (come : ComeInIdle plan w.edges t m) where
    abbrev u : ℕ
    u = t + m

    comes : (p j : ℕ) → p < length w.edges → j < m → arrives plan L (get_or w.edges p 0) (t + j) ≡ Idle
    comes p j h l = ap (λ x. arrives plan x (get_or w.edges p 0) (t + j)) of.window_length ∙ come p j h l

    port_idle : (p v : ℕ) → p < length w.edges → t ≤ v → symbol_on (get_or ls (length w.stations + p) no_line) v ≡ Idle
    port_idle p v h late =
        let many = at.lines.many in
        let q = length w.stations + p in
        idle_on (t - a.far) v (get_or ls q no_line) (λ x c. quiet.lines q x (omega (arith, h, many)) c) (omega (arith, late))

    know_ahead : KnowLines plan w L t u ls
    know_ahead =
        let know = at.lines in
        let many = know.many in
        let upto = at.upto in
        record {
          many = know.many;
          places = know.places;
          no_delays = know.no_delays;
          delays = know.delays;
          begins = know.begins;
          near = know.near;
          emissions = know.emissions;
          arrivals = λ p v h low high. elim (cases_lt v t) [
            | inl before ↦ know.arrivals p v h low (omega (arith, before, upto))
            | inr after ↦
                let e : t + (v - t) ≡ v = omega (arith, after) in
                port_idle p v h after ∙ sym (ap (arrives plan L (get_or w.edges p 0)) (sym e) ∙ comes p (v - t) h (omega (arith, e, high)))
          ];
          classes = know.classes;
          port_classes = λ p v h high. elim (cases_lt v t) [
            | inl before ↦ know.port_classes p v h (omega (arith, before, upto))
            | inr after ↦ quiet.lines (length w.stations + p) v (omega (arith, h, many)) (omega (arith, after)) ∙ sym (ap is_signal (port_idle p v h after))
          ];
        }

    module _ (ds : Sender) (dk : KeptReception) where
      abbrev w' : ℕ → Watch
      w' i = calm_watch (get_or ws i a_watch)

      abbrev s' : ℕ → Sender
      s' i = get_or ss i ds

      abbrev k' : ℕ → KeptReception
      k' i = get_or ks i dk

      -- the lines are right below their end
      pub quiet_known : KnowLines plan w L u u ls
      quiet_known = all_known of a.from t u (omega arith) ls w' s' k' (calm_on_to ds dk) u know_ahead at.begun (omega arith) at.hears

      quiet_heard : HearAllByLines of a.from u ls
      quiet_heard = all_hear of a.from t u (omega arith) ls w' s' k' (calm_on_to ds dk) u know_ahead at.begun (omega arith) at.hears

      hear_idle : (i j : ℕ) → i < n → j < m → heard plan (number_on of i) (t + j) ≡ Idle
      hear_idle i j h l =
          let begun = at.begun in
          let taps = at.stations.taps in
          (quiet_heard i h).hears (t + j) (omega (arith, begun)) (omega (arith, l)) ∙ silence of a front at quiet.lines (t + j) i (omega arith) (omega (arith, h, taps))

      emit_idle : (i j : ℕ) → i < n → j < m → emitted plan (number_on of i) (t + j) ≡ Idle
      emit_idle i j h l =
          let begun = at.begun in
          let one = at.stations.each i a_watch ds dk h in
          let early = one.since in
          let since = (get_or ws i a_watch).since in
          (quiet_heard i h).emits (t + j) (omega (arith, begun)) (omega (arith, l))
          ∙ idle_on since (t + j) (get_or ls i no_line) (λ v q. one.behind.goes v q ∙ (calm_at i a_watch ds h).not_sending) (omega (arith, early))

      -- the sender and the receiver of each station then
      pub sender_then : (i : ℕ) → i < n → sender_at plan (number_on of i) u ≡ after_all (sender_at plan (number_on of i) t) (replicate m Idle)
      sender_then i h =
          let x = number_on of i in
          sender_runs plan x (is_station_of of i h) m t ∙ ap (after_all (sender_at plan x t)) (span_same (heard plan x) t m Idle (λ j l. hear_idle i j h l))

      pub receiver_then : (i : ℕ) → i < n → receiver_at plan (number_on of i) u ≡ receiver_after (receiver_at plan (number_on of i) t) (replicate m Idle) false
      receiver_then i h =
          let x = number_on of i in
          receiver_runs plan x (is_station_of of i h) false m t (λ j l. ap is_signal (emit_idle i j h l))
          ∙ ap (λ hs. receiver_after (receiver_at plan x t) hs false) (span_same (heard plan x) t m Idle (λ j l. hear_idle i j h l))

      -- nothing is logged and captured
      pub quiet_rows : rows_of_devices plan of.stations.items u ≡ rows_of_devices plan of.stations.items t
      quiet_rows = rows_same of a.from ls t u (omega arith) w' s' k' (calm_on_to ds dk) quiet_heard

      pub quiet_captures : map (λ x. captures_at plan x u) of.stations.items ≡ map (λ x. captures_at plan x t) of.stations.items
      quiet_captures = captures_stay of a.from ls u t (λ i h. captures_same of a.from ls t u (omega arith) w' s' k' (calm_on_to ds dk) quiet_heard i h)

      -- the ports hear Idle, which goes out
      pub ports_hear_nothing : GoOutIdle plan w.edges t m
      ports_hear_nothing p j h l =
          let numbers = ap length of.station_numbers in
          let taps = taps_are in
          let known : KnowLines plan w (lookahead plan.layout) u u ls = subst (λ x. KnowLines plan w x u u ls) of.window_length quiet_known in
          ports_from plan of.number u u ls known t (omega arith) at.lines.begins p (t + j) h (omega arith) (omega (arith, l)) (omega (arith, l))
          ∙ ap (λ x. heard_by_lines x (t + j) ls (length w.stations + p)) (sym of.window_length)
          ∙ silence of a front at quiet.lines (t + j) (length w.stations + p) (omega arith) (omega (arith, h, taps, numbers))
