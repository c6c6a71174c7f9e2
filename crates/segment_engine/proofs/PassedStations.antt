-- Stations of a segment on which nothing happens, when they have come to the present half bit, and then several half bits
-- later.
use Rattle.std.proofs.Common.{◌≡◌, ℕ, ◌+◌, ◌-◌, ◌<◌, ◌≤◌, false, List, length, replicate, get_or, sym, subst, ap, ◌∙◌, arith}
use Rattle.std.proofs.lemmas.Bool.{false≢true}
use Rattle.manchester_line.specs.declared.Sym.TheVariants.{Idle}
use Rattle.manchester_line.specs.Line.{is_signal}
use Rattle.mac_receive.specs.KeptReceiver.{KeptReception, Hears}
use Rattle.mac_transmit.specs.Sender.{Sender, is_sending}
use Rattle.mac_transmit.specs.Calm.{after_all}
use Rattle.network.specs.Attempts.{sender_at}
use Rattle.net_parts.specs.Standing.{receiver_at}
use Rattle.net_parts.specs.SegmentParts.{wiring}
use Rattle.tap_lines.specs.TapLines.{TapLine, no_line, class_on}
use Rattle.tap_lines.proofs.LineClasses.{idle_on}
use Rattle.segment_engine.specs.declared.apart.Watch.{Watch}
use Rattle.segment_engine.specs.declared.running.Running.{Running}
use Rattle.segment_engine.specs.declared.segment.Segment.{Segment}
use Rattle.segment_engine.specs.QuietHalfBits.{AreAtRest, ComeInIdle, HasLeapt, IsCalmFor, IsQuietFor}
use Rattle.segment_engine.specs.RunningStates.{GoesOnAt}
use Rattle.segment_engine.specs.SteadyPieces.{IsCalmAs}
use Rattle.segment_engine.specs.StationsApart.{StandsBehind, StandAllApart, number_on}
use Rattle.segment_engine.proofs.QuietStations.{calm_now, rest_now, sender_then, receiver_then}
use Rattle.segment_engine.proofs.SettledLines.{HaveForgotten, class_was}
use Rattle.segment_engine.proofs.SteadyCalm.{emits_idle, no_calm}

module _ (of : Segment) (a : Running) (m front : ℕ) (at : GoesOnAt of front a) (quiet : IsQuietFor m a) (ds : Sender) (dk : KeptReception) where
  abbrev n : ℕ
  n = length of.stations.items

  abbrev t : ℕ
  t = a.t

  -- all stand before the present half bit
  module _ (from : ℕ) (ls : List TapLine) (ws : List Watch) (ss : List Sender) (ks : List KeptReception) (all : StandAllApart of from t ls ws ss ks)
      (since : (i : ℕ) (w : Watch) → i < n → (get_or ws i w).since ≡ t) where
    pub calm_settled : (i : ℕ) (w : Watch) (s : Sender) → i < length ss → IsCalmFor (t + m - (get_or ws i w).since) (get_or ss i s)
    calm_settled i w s h =
        let many = all.senders in
        let in_it : i < n = omega (arith, h, many) in
        let x = number_on of i in
        let now = since i w in_it in
        let left : m ≡ t + m - (get_or ws i w).since = omega (arith, now) in
        let same : get_or ss i s ≡ sender_at of.plan.value x t = (all.each i w s dk in_it).behind.sender ∙ ap (sender_at of.plan.value x) now in
        subst (λ j. IsCalmFor j (get_or ss i s)) left (subst (IsCalmFor m) (sym same) (calm_now of a m front at quiet ds dk i in_it))

    pub rest_settled : AreAtRest ks
    rest_settled = λ i k h.
        let many = all.receivers in
        let in_it : i < n = omega (arith, h, many) in
        let x = number_on of i in
        let none : Watch = record { since = 0; until = 0; carrier = false; told = 0 } in
        let hears : Hears (receiver_at of.plan.value x t) (get_or ks i k) =
        subst (λ u. Hears (receiver_at of.plan.value x u) (get_or ks i k)) (since i none in_it) (all.each i none ds k in_it).behind.receiver in
        hears.count ∙ ap length (rest_now of a m front at quiet ds dk i in_it)

  -- several half bits later, where all stood before the present one
  module _ (come : ComeInIdle of.plan.value (wiring of.plan.value.layout of.number).edges t m) (settled : a.from ≡ t)
      (ls : List TapLine) (forgot : HaveForgotten (t + m) a.lines.items ls)
      (ws : List Watch) (ss : List Sender) (ks : List KeptReception) (ws_len : length ws ≡ length a.watches.items) (ss_len : length ss ≡ length a.senders.items) (ks_len : length ks ≡ length a.receivers.items)
      (leapt : (i : ℕ) (w : Watch) (s s' : Sender) (k k' : KeptReception) → i < length ss → HasLeapt t m (get_or ws i w) (get_or a.senders.items i s) (get_or ss i s') (get_or a.receivers.items i k) (get_or ks i k')) where
    abbrev u : ℕ
    u = t + m

    was_since : (i : ℕ) (w : Watch) → i < n → (get_or a.watches.items i w).since ≡ t
    was_since i w h =
        let one = at.stations.each i w ds dk h in
        let early = one.since in
        let from = one.behind.from_start in
        let e = settled in
        omega (arith, early, from, e)

    behind : (i : ℕ) (w : Watch) (s : Sender) (k : KeptReception) → i < n → StandsBehind of.plan.value (number_on of i) i of.lookahead u ls (get_or ws i w) (get_or ss i s) (get_or ks i k)
    behind i w s k h =
        let x = number_on of i in
        let plan = of.plan.value in
        let st = at.stations in
        let many = st.senders in
        let taps = st.taps in
        let in_it : i < length a.lines.items = omega (arith, h, taps) in
        let b = (st.each i w s k h).behind in
        let one = leapt i w s s k k (omega (arith, h, ss_len, many)) in
        let y = get_or ss i s in
        let at_u = one.since in
        let to_u = one.until in
        let told_u = one.told in
        let then = was_since i w h in
        let off : is_sending (get_or a.senders.items i s).phase ≡ false = (quiet.senders i w s (omega (arith, h, many))).not_sending in
        let silent : is_sending y.phase ≡ false = ap is_sending one.phase ∙ off in
        let goes : (v : ℕ) → u ≤ v → class_on (get_or ls i no_line) v ≡ false = λ v late.
        class_was u a.lines.items ls forgot i v in_it (omega (arith, late)) ∙ b.goes v (omega (arith, late, then)) ∙ off in
        let state : y ≡ sender_at plan x u =
        one.state ∙ ap (λ z. after_all z (replicate m Idle)) (b.sender ∙ ap (sender_at plan x) then) ∙ sym (sender_then of a m front at quiet come ds dk i h) in
        let receiver : Hears (receiver_at plan x u) (get_or ks i k) =
        subst (λ r. Hears r (get_or ks i k)) (sym (receiver_then of a m front at quiet come ds dk i h))
        (one.receiver (receiver_at plan x t) (subst (λ v. Hears (receiver_at plan x v) (get_or a.receivers.items i k)) then b.receiver)) in
        record {
          from_start = omega (arith, at_u);
          ordered = omega (arith, at_u, to_u);
          within = omega (arith, to_u, told_u);
          sender = state ∙ ap (sender_at plan x) (sym at_u);
          receiver = subst (λ v. Hears (receiver_at plan x v) (get_or ks i k)) (sym at_u) receiver;
          time = one.time ∙ sym at_u;
          steps = one.steps ∙ sym at_u;
          calm = let none : 0 ≡ (get_or ws i w).until - (get_or ws i w).since = omega (arith, at_u, to_u) in subst (λ j. IsCalmAs j (get_or ws i w).carrier y) none (no_calm (get_or ws i w).carrier y);
          steady = λ v low high. absurd (omega (arith, low, high, at_u, to_u));
          line = λ j l. idle_on u ((get_or ws i w).since + j) (get_or ls i no_line) goes (omega (arith, at_u)) ∙ sym (emits_idle y j y.phase silent);
          signal = λ j l. ap is_signal (emits_idle y j y.phase silent) ∙ sym silent;
          goes = λ v low. goes v (omega (arith, low, at_u)) ∙ sym silent;
          lasts = λ yes. absurd (false≢true (sym silent ∙ yes));
        }

    pub stand_passed : StandAllApart of u u ls ws ss ks
    stand_passed =
        let st = at.stations in
        let watched = st.watches in
        let taps = st.taps in
        let lines = forgot.many in
        record {
          senders = ss_len ∙ st.senders;
          receivers = ks_len ∙ st.receivers;
          watches = watched ∙ sym ws_len;
          taps = omega (arith, taps, lines);
          each = λ i w s k h.
              let many = st.senders in
              let one = leapt i w s s k k (omega (arith, h, ss_len, many)) in
              let at_u = one.since in
              let to_u = one.until in
              record {
                behind = behind i w s k h;
                since = omega (arith, at_u);
                until = omega (arith, to_u);
                within = omega (arith, at_u, to_u);
                still = λ b. absurd (omega (arith, b, at_u));
              };
        }
