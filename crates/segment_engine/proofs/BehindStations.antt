-- A station that stands behind, brought up to a later half bit.
use Rattle.std.proofs.Common.{◌≡◌, ◌≢◌, ℕ, zero, suc, All, ◌+◌, ◌-◌, ◌<◌, ◌≤◌, Bool, true, false, List, [], ◌∷◌, ◌++◌, None, get_or, replicate, length, refl, sym, subst, ap, ap₂, ◌∙◌, arith}
use Rattle.manchester_line.specs.declared.Sym.{Sym}
use Rattle.std.specs.Prelude.{if◌then◌else◌}
use Rattle.manchester_line.specs.declared.Sym.TheVariants.{Idle, Hi, Lo, Clash}
use Rattle.manchester_line.specs.Line.{is_signal}
use Rattle.load_plan.specs.declared.plan.Plan.{Plan}
use Rattle.mac_receive.specs.KeptReceiver.{KeptReception, Hears}
use Rattle.mac_receive.specs.Receiver.{Receiving, quiet, extended, reception_ended, with_event, receiver_step, receiver_after, receiver_bodies}
use Rattle.mac_transmit.specs.Sender.{Sender, sender_step, is_sending}
use Rattle.mac_transmit.specs.Calm.{AllHeardAs, AreCalm, after_all}
use Rattle.mac_transmit.specs.Emissions.{emission_by}
use Rattle.network.specs.Attempts.{sender_at}
use Rattle.network.specs.Times.{heard, emitted}
use Rattle.net_parts.specs.Machines.{span}
use Rattle.net_parts.specs.Standing.{receiver_at}
use Rattle.net_parts.proofs.RepeaterSteps.{length-span, get_or-span}
use Rattle.tap_lines.specs.TapLines.{TapLine, no_line, symbol_on, heard_by_lines, heard_for}
use Rattle.tap_lines.proofs.LinesAhead.{span_alike}
use Rattle.segment_engine.specs.declared.apart.Watch.{Watch}
use Rattle.segment_engine.specs.declared.segment.Segment.{Segment}
use Rattle.segment_engine.specs.SteadyPieces.{IsCalmAs}
use Rattle.segment_engine.specs.StationsApart.{StandsBehind, EndsAt, IsStillBy, HearsByLines}
use Rattle.segment_engine.proofs.StationsLater.{sender_runs, receiver_runs, last_calm, last_still, no_bodies, no_halves}
use Rattle.segment_engine.proofs.SteadyReceivers.{idle_piece, signal_piece}
use Rattle.segment_engine.proofs.QuietRoom.{GoesOn, both_within, sender_needs, kept_needs}
use Rattle.window_room.specs.NeededRoom.{IsDemandWithin, receiver_demand, sender_demand}
use Rattle.segment_engine.specs.StationsApart.{behind_demand, number_on}
use Rattle.tap_lines.proofs.Spans.{span_more}
use Rattle.segment_engine.proofs.Beginnings.{is_station_of}
use Rattle.segment_engine.proofs.CalmLater.{calm_on}
use Rattle.segment_engine.proofs.SendersStep.{sending_left}

-- in half bits in which it hears Idle without sending a receiver has no reception under way
idle_after : (r : Receiving) (d : Bool) (hs : List Sym) → r.halves ≡ hs → (if d then quiet (record r { deaf = false; halves = [] }) else reception_ended r hs).state.halves ≡ []
idle_after r true hs e = refl
idle_after r false [] e = e
idle_after r false (x ∷ xs) e = refl

pub idle_halves : (r : Receiving) → (receiver_step r Idle false).state.halves ≡ []
idle_halves r = idle_after r r.deaf r.halves refl

pub halves_after : (n : ℕ) (r : Receiving) → r.halves ≡ [] → (receiver_after r (replicate n Idle) false).halves ≡ []
halves_after zero r h = h
halves_after (suc n) r h = halves_after n (receiver_step r Idle false).state (idle_halves r)

module _ (plan : Plan) (x : ℕ) (station : x < length plan.layout.stations) (p L t u : ℕ) (ls : List TapLine) (w : Watch) (s : Sender) (k : KeptReception)
    (behind : StandsBehind plan x p L t ls w s k) (since : w.since ≤ u) (until : u ≤ w.until) (right : HearsByLines plan x p L t u ls) where
  abbrev n : ℕ
  n = u - w.since

  abbrev hs : List Sym
  hs = heard_for L w.since n ls p

  there : w.since + n ≡ u
  there = omega (arith, since)

  size : length hs ≡ n
  size = length-span (λ a. heard_by_lines L a ls p) w.since n

  heard_so : AllHeardAs w.carrier hs
  heard_so = λ i d l.
      let many = size in
      let in_it : i < n = omega (arith, l, many) in
      let from = behind.from_start in
      ap is_signal (get_or-span (λ a. heard_by_lines L a ls p) w.since n i d in_it)
      ∙ sym (right.classes (w.since + i) (omega (arith, from)) (omega (arith, in_it)))
      ∙ behind.steady (w.since + i) (omega arith) (omega (arith, in_it, until))

  hears : span (heard plan x) w.since n ≡ hs
  hears = let from = behind.from_start in span_alike (heard plan x) (λ a. heard_by_lines L a ls p) w.since w.since n (λ i l. right.hears (w.since + i) (omega (arith, from)) (omega (arith, l)))

  -- what the station emitted since then is a signal where it sends, and else Idle
  pub sends_so : (i : ℕ) → i < n → is_signal (emitted plan x (w.since + i)) ≡ is_sending s.phase
  sends_so i l =
      let from = behind.from_start in
      let told = behind.within in
      let in_it : w.since + i < w.told = omega (arith, l, until, told) in
      ap is_signal (right.emits (w.since + i) (omega (arith, from)) (omega (arith, l)) ∙ behind.line i in_it) ∙ behind.signal i in_it

  -- its sender goes on with what it did
  phase_was : (s' : Sender) → s' ≡ after_all s hs → s'.phase ≡ s.phase
  phase_was s' sent =
      let many = size in
      ap (λ (y : Sender). y.phase) sent ∙ (calm_on hs s w.carrier (w.until - w.since) heard_so (omega (arith, many, until)) behind.calm).0.phase

  -- a receiver at which no reception is under way while Idle is heard goes on so
  still_brought : (s' : Sender) (k' : KeptReception) → s' ≡ after_all s hs →
      ((r : Receiving) → Hears r k → Hears (receiver_after r hs (is_sending s.phase)) k') → IsStillBy w s k → IsStillBy w s' k'
  still_brought s' k' sent receives still = λ idle silent.
      let from = behind.from_start in
      let off : is_sending s.phase ≡ false = sym (ap is_sending (phase_was s' sent)) ∙ silent in
      let r = receiver_at plan x w.since in
      let is : hs ≡ replicate n Idle =
      idle_piece (λ a. heard_by_lines L a ls p) w.since n (λ j l.
      sym (right.classes (w.since + j) (omega (arith, from)) (omega (arith, l)))
      ∙ behind.steady (w.since + j) (omega arith) (omega (arith, l, until))
      ∙ idle) in
      (receives r behind.receiver).count
      ∙ ap length (ap₂ (λ xs b. (receiver_after r xs b).halves) is off ∙ halves_after n r (no_halves r k (still idle off) behind.receiver))

  brought : (s' : Sender) (k' : KeptReception) (w' : Watch) → w'.since ≡ u → w'.until ≡ w.until → w'.carrier ≡ w.carrier → w'.told ≡ w.told →
      s' ≡ after_all s hs → s'.t ≡ w.since + n → k'.steps ≡ w.since + n →
      ((r : Receiving) → Hears r k → Hears (receiver_after r hs (is_sending s.phase)) k') →
      StandsBehind plan x p L t ls w' s' k'
  brought s' k' w' is_since is_until is_carrier is_told sent time steps receives =
      let from = behind.from_start in
      let many = size in
      let left : w.until - w.since - length hs ≡ w.until - u = omega (arith, many, since) in
      let before = calm_on hs s w.carrier (w.until - w.since) heard_so (omega (arith, many, until)) behind.calm in
      let on = before.0 in
      let phase = phase_was s' sent in
      let calm : IsCalmAs (w.until - u) w.carrier s' = subst (λ m. IsCalmAs m w.carrier s') left (subst (λ y. IsCalmAs (w.until - w.since - length hs) w.carrier y) (sym sent) before.1) in
      let later_on : (j : ℕ) → w.since + (length hs + j) ≡ u + j = λ j. omega (arith, many, since) in
      let same_emission : (j : ℕ) → emission_by s' j s'.phase ≡ emission_by s (length hs + j) s.phase = λ j. ap (λ (y : Sender). emission_by y j y.phase) sent ∙ on.emits j in
      let sender : s' ≡ sender_at plan x u =
      sent ∙ ap (λ y. after_all y hs) behind.sender ∙ ap (after_all (sender_at plan x w.since)) (sym hears) ∙ sym (sender_runs plan x station n w.since) ∙ ap (sender_at plan x) there in
      let later : receiver_at plan x u ≡ receiver_after (receiver_at plan x w.since) hs (is_sending s.phase) =
      ap (receiver_at plan x) (sym there) ∙ receiver_runs plan x station (is_sending s.phase) n w.since sends_so ∙ ap (λ xs. receiver_after (receiver_at plan x w.since) xs (is_sending s.phase)) hears in
      let same : w' ≡ record w { since = u } = watch_is w' is_since is_until is_carrier is_told in
      subst (λ v. StandsBehind plan x p L t ls v s' k') (sym same) (record {
        from_start = omega (arith, from, since);
        ordered = until;
        within = behind.within;
        sender = sender;
        receiver = subst (λ r. Hears r k') (sym later) (receives (receiver_at plan x w.since) behind.receiver);
        time = time ∙ there;
        steps = steps ∙ there;
        calm = calm;
        steady = λ a low high. behind.steady a (omega (arith, low, since)) high;
        line = λ j l.
            let e = later_on j in
            ap (symbol_on (get_or ls p no_line)) (sym e) ∙ behind.line (length hs + j) (omega (arith, e, l)) ∙ sym (same_emission j);
        signal = λ j l.
            let e = later_on j in
            ap is_signal (same_emission j) ∙ behind.signal (length hs + j) (omega (arith, e, l)) ∙ ap is_sending (sym phase);
        lasts = λ sending. sending_left s s' w.carrier hs (w.told - w.since) (w.told - u) (w.until - w.since) heard_so (omega (arith, many, until)) behind.calm sent (omega (arith, many, since)) (behind.lasts (ap is_sending (sym phase) ∙ sending));
        goes = λ a low. behind.goes a (omega (arith, low, since)) ∙ ap is_sending (sym phase);
      })
    where
      watch_is : (w' : Watch) → w'.since ≡ u → w'.until ≡ w.until → w'.carrier ≡ w.carrier → w'.told ≡ w.told → w' ≡ record w { since = u }
      watch_is w' a b c d = rw (sym a, sym b, sym c, sym d) refl

-- no row while there is carrier, nor while the station sends
signal_event : (r : Receiving) (x : Sym) (d : Bool) → (if d then quiet r else extended r x).event ≡ None
signal_event r x true = refl
signal_event r x false = refl

step_event : (r : Receiving) (x : Sym) → x ≢ Idle → (receiver_step r x false).event ≡ None
step_event r Idle h = absurd (h refl)
step_event r Hi h = signal_event r Hi r.deaf
step_event r Lo h = signal_event r Lo r.deaf
step_event r Clash h = signal_event r Clash r.deaf

bodies_take : (xs : List Sym) (r : Receiving) → All (λ x. x ≢ Idle) xs → receiver_bodies r xs false ≡ []
bodies_take [] r h = refl
bodies_take (x ∷ xs) r h = ap₂ with_event (step_event r x (h 0 Idle (omega arith))) (bodies_take xs (receiver_step r x false).state (λ i e l. h (suc i) e (omega (arith, l))))

bodies_sending : (xs : List Sym) (r : Receiving) → receiver_bodies r xs true ≡ []
bodies_sending [] r = refl
bodies_sending (x ∷ xs) r = bodies_sending xs (record r { deaf = true; halves = [] })

-- no row where no reception is under way, or none ends
bodies_of : (sending carrier : Bool) (f : ℕ → Sym) (t n : ℕ) (r : Receiving) (k : KeptReception) → ((j : ℕ) → j < n → is_signal (f (t + j)) ≡ carrier) →
    (carrier ≡ false → sending ≡ false → k.halves ≡ 0) → Hears r k → receiver_bodies r (span f t n) sending ≡ []
bodies_of true carrier f t n r k steady rest hears = bodies_sending (span f t n) r
bodies_of false true f t n r k steady rest hears = bodies_take (span f t n) r (signal_piece f t n steady)
bodies_of false false f t n r k steady rest hears = ap (λ xs. receiver_bodies r xs false) (idle_piece f t n steady) ∙ no_bodies n r (no_halves r k (rest refl refl) hears)

module _ (plan : Plan) (x : ℕ) (station : x < length plan.layout.stations) (p L t u : ℕ) (ls : List TapLine) (w : Watch) (s : Sender) (k : KeptReception)
    (behind : StandsBehind plan x p L t ls w s k) (since : w.since ≤ u) (until : u < w.until) (right : HearsByLines plan x p L t (u + 1) ls) where
  abbrev m : ℕ
  m = u - w.since

  abbrev f : ℕ → Sym
  f = λ a. heard_by_lines L a ls p

  abbrev before : List Sym
  before = span f w.since m

  at : w.since + m ≡ u
  at = omega (arith, since)

  heard_before : (n : ℕ) → n ≤ m + 1 → span (heard plan x) w.since n ≡ span f w.since n
  heard_before n h = let from = behind.from_start in span_alike (heard plan x) f w.since w.since n (λ i l. right.hears (w.since + i) (omega (arith, from)) (omega (arith, l, h, at)))

  heard_now : heard plan x u ≡ f u
  heard_now = let from = behind.from_start in right.hears u (omega (arith, from, since)) (omega arith)

  all_of : span f w.since (m + 1) ≡ before ++ f u ∷ []
  all_of = span_more f w.since m ∙ ap (λ a. before ++ f a ∷ []) at

  sender_now : sender_at plan x u ≡ after_all s before
  sender_now = ap (sender_at plan x) (sym at) ∙ sender_runs plan x station m w.since ∙ ap₂ after_all (sym behind.sender) (heard_before m (omega arith))

  pub no_sending : (sender_step (sender_at plan x u) (heard plan x u)).event ≡ None
  no_sending =
      let size = length-span f w.since (m + 1) in
      let from = behind.from_start in
      let all : AllHeardAs w.carrier (span f w.since (m + 1)) = λ i d l.
      let in_it : i < m + 1 = omega (arith, l, size) in
      ap is_signal (get_or-span f w.since (m + 1) i d in_it)
      ∙ sym (right.classes (w.since + i) (omega (arith, from)) (omega (arith, in_it, at)))
      ∙ behind.steady (w.since + i) (omega arith) (omega (arith, in_it, until, at)) in
      let calm : AreCalm s (before ++ f u ∷ []) = subst (AreCalm s) all_of (behind.calm.calm (span f w.since (m + 1)) all (omega (arith, size, until, at))) in
      ap₂ (λ a b. (sender_step a b).event) sender_now heard_now ∙ last_calm s before (f u) calm

  pub no_reception : IsStillBy w s k → (receiver_step (receiver_at plan x u) (heard plan x u) (is_signal (emitted plan x u))).event ≡ None
  no_reception still =
      let from = behind.from_start in
      let sending = is_sending s.phase in
      let r0 = receiver_at plan x w.since in
      let told = behind.within in
      let sends : (i : ℕ) → i < m + 1 → is_signal (emitted plan x (w.since + i)) ≡ sending = λ i l.
      let in_it : w.since + i < w.told = omega (arith, l, at, until, told) in
      ap is_signal (right.emits (w.since + i) (omega (arith, from)) (omega (arith, l, at)) ∙ behind.line i in_it) ∙ behind.signal i in_it in
      let now : is_signal (emitted plan x u) ≡ sending = subst (λ a. is_signal (emitted plan x a) ≡ sending) at (sends m (omega arith)) in
      let later : receiver_at plan x u ≡ receiver_after r0 before sending =
      ap (receiver_at plan x) (sym at) ∙ receiver_runs plan x station sending m w.since (λ i l. sends i (omega (arith, l))) ∙ ap (λ xs. receiver_after r0 xs sending) (heard_before m (omega arith)) in
      let none : receiver_bodies r0 (before ++ f u ∷ []) sending ≡ [] =
      ap (λ xs. receiver_bodies r0 xs sending) (sym all_of)
      ∙ bodies_of sending w.carrier f w.since (m + 1) r0 k
      (λ j l. sym (right.classes (w.since + j) (omega (arith, from)) (omega (arith, l, at))) ∙ behind.steady (w.since + j) (omega arith) (omega (arith, l, until, at)))
      still behind.receiver in
      ap₂ (λ a b. (receiver_step a b (is_signal (emitted plan x u))).event) later heard_now
      ∙ ap (λ b. (receiver_step (receiver_after r0 before sending) (f u) b).event) now
      ∙ last_still r0 before (f u) sending none

-- what it can need has not become more
needs_less : (e : ℕ) (w' w : Watch) (s s' : Sender) (k k' : KeptReception) (hs : List Sym) (sending : Bool) → e - w.since ≡ e - w'.since + length hs → s' ≡ after_all s hs → GoesOn hs sending k k' →
    IsDemandWithin (behind_demand e w' s' k') (behind_demand e w s k)
needs_less e w' w s s' k k' hs sending size sent goes =
    let n = e - w'.since in
    let m = e - w.since in
    let sender : IsDemandWithin (sender_demand n s') (sender_demand m s) =
    subst (λ y. IsDemandWithin (sender_demand n y) (sender_demand m s)) (sym sent) (subst (λ a. IsDemandWithin (sender_demand n (after_all s hs)) (sender_demand a s)) (sym size) (sender_needs hs s n)) in
    let receiver : IsDemandWithin (receiver_demand n k') (receiver_demand m k) = subst (λ a. IsDemandWithin (receiver_demand n k') (receiver_demand a k)) (sym size) (kept_needs hs sending k k' n goes) in
    both_within (sender_demand n s') (receiver_demand n k') (sender_demand m s) (receiver_demand m k) sender receiver

-- a station of a segment that stood behind, when it has gone on up to half bit u
pub record IsBrought (of : Segment) (p t u : ℕ) (ls : List TapLine) (w : Watch) (s s' : Sender) (k k' : KeptReception) : Type 0 where
  pub behind : StandsBehind of.plan.value (number_on of p) p of.lookahead t ls (record w { since = u }) s' k'
  pub still : IsStillBy w s k → IsStillBy w s' k'
  pub left : (e : ℕ) → u ≤ e → IsDemandWithin (behind_demand e (record w { since = u }) s' k') (behind_demand e w s k)

pub is_brought : (of : Segment) (p t u : ℕ) (ls : List TapLine) (w : Watch) (s s' : Sender) (k k' : KeptReception) → p < length of.stations.items →
    StandsBehind of.plan.value (number_on of p) p of.lookahead t ls w s k → w.since ≤ u → u ≤ w.until → HearsByLines of.plan.value (number_on of p) p of.lookahead t u ls →
    ((hs : List Sym) → AllHeardAs w.carrier hs → length hs ≡ u - w.since → s' ≡ after_all s hs) → s'.t ≡ s.t + (u - w.since) → k'.steps ≡ w.since + (u - w.since) →
    ((r : Receiving) → Hears r k → Hears (receiver_after r (heard_for of.lookahead w.since (u - w.since) ls p) (is_sending s.phase)) k') → IsBrought of p t u ls w s s' k k'
is_brought of p t u ls w s s' k k' h stands since until right passed time steps receives =
    let plan = of.plan.value in
    let x = number_on of p in
    let L = of.lookahead in
    let n = u - w.since in
    let hs = heard_for L w.since n ls p in
    let there = is_station_of of p h in
    let many = size plan x there p L t u ls w s k stands since until right in
    let sent : s' ≡ after_all s hs = passed hs (heard_so plan x there p L t u ls w s k stands since until right) many in
    record {
      behind = brought plan x there p L t u ls w s k stands since until right s' k' (record w { since = u }) refl refl refl refl sent (time ∙ ap (λ a. a + n) stands.time) steps receives;
      still = still_brought plan x there p L t u ls w s k stands since until right s' k' sent receives;
      left = λ e later.
          let r = receiver_at plan x w.since in
          needs_less e (record w { since = u }) w s s' k k' hs (is_sending s.phase) (omega (arith, many, later, since)) sent
          (record { receiver = r; before = stands.receiver; after = receives r stands.receiver });
    }

-- the half bit in which a reception ends
pub idle_now : (plan : Plan) (x p L t u : ℕ) (ls : List TapLine) (w : Watch) (s : Sender) (k : KeptReception) → StandsBehind plan x p L t ls w s k → u < w.until → EndsAt u w s →
    HearsByLines plan x p L t (u + 1) ls → heard_for L w.since (u + 1 - w.since) ls p ≡ Idle ∷ []
idle_now plan x p L t u ls w s k behind until ends right =
    let at = ends.now in
    let from = behind.from_start in
    let n : u + 1 - w.since ≡ 1 = omega (arith, at) in
    idle_piece (λ a. heard_by_lines L a ls p) w.since (u + 1 - w.since)
    (λ j l. sym (right.classes (w.since + j) (omega (arith, from)) (omega (arith, l, n, at)))
    ∙ behind.steady (w.since + j) (omega arith) (omega (arith, l, n, at, until)) ∙ ends.idle)
    ∙ ap (λ m. replicate m Idle) n
