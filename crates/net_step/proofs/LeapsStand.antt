-- What is kept of a network in which nothing happens stands for the network many half bits later.
use Rattle.std.proofs.Common.{◌≡◌, ℕ, zero, suc, ◌+◌, ◌-◌, ◌<◌, ◌≤◌, All, false, List, [], ◌∷◌, ◌++◌, map, take, drop, set, replicate, length, get_or, refl, sym, subst, ap, ap₂, ◌∙◌, arith, append_assoc}
use Rattle.std.specs.Prelude.{◌↔◌}
use Rattle.std.specs.List.{AllByRecursion, flat_map}
use Rattle.std.specs.Fn.{iterate}
use Rattle.std.proofs.lemmas.List.{length-map, length-replicate, get_or-replicate, take_more_set, drop-set-lt, at_drop_more, nil_from_length}
use Rattle.std.proofs.lemmas.List.Elements.{recursion_from_All}
use Rattle.manchester_line.specs.declared.Sym.{Sym}
use Rattle.manchester_line.specs.declared.Sym.TheVariants.{Idle}
use Rattle.manchester_line.specs.Line.{is_signal}
use Rattle.mac_parameters.specs.Parameters.{greatest_place}
use Rattle.cable_segment.specs.Cable.{told_at}
use Rattle.layout.specs.declared.lines.PortLine.{PortLine}
use Rattle.mac_transmit.specs.Sender.{Sender, is_sending}
use Rattle.mac_transmit.specs.Calm.{after_all, AllHeardAs, AreCalm, calm_of}
use Rattle.mac_receive.specs.Receiver.{Receiving, receiver_after}
use Rattle.mac_receive.specs.KeptReceiver.{KeptReception, Hears}
use Rattle.repeater_core.specs.Calm.{silent_step, IsCalm}
use Rattle.repeater_core.specs.Step.{RepeaterDevice}
use Rattle.network.specs.Net.{Net, emitted_before, ports_of}
use Rattle.network.specs.TapsOnSegments.{count_on}
use Rattle.kept_devices.specs.KeptReceivers.{AllHear}
use Rattle.kept_devices.proofs.Receivers.{length-AllHear}
use Rattle.quiet_state.specs.LastSignals.{reach_over, line_delays, IsOverBy, last_signal}
use Rattle.quiet_state.specs.Resumed.{later_net}
use Rattle.net_step.specs.CalmNets.{WaitsFor, IsCalmNet, IsSilentHalfBit}
use Rattle.net_step.specs.KeptNet.{KeptNet, AreOver, IsWhole, IsWire, Stands}
use Rattle.net_step.specs.Wires.{wire_at, places_from, IsPlaced}
use Rattle.net_step.proofs.CalmHalfBit as half_bit
use Rattle.net_step.proofs.CalmHalfBits.{IsCalmLater, calm_later, silent_at}
use Rattle.net_step.proofs.IdleHistory.{none_since}
use Rattle.net_step.proofs.SignalsSettle.{AllOver}
use Rattle.net_step.proofs.WholeNet.{length-places, many_alike, ports_alike}

-- one more element that a pass over a list changed
pub map_step : {X : Type 0} (f : X → X) (xs : List X) (k : ℕ) (y d : X) → k < length xs → y ≡ f (get_or xs k d) → take (k + 1) (set xs k y) ++ map f (drop (k + 1) (set xs k y)) ≡ take k xs ++ map f (drop k xs)
map_step f xs k y d h e =
    ap₂ (λ a b. a ++ map f b) (take_more_set xs k y h) (drop-set-lt (k + 1) xs k y (omega arith))
    ∙ append_assoc (take k xs) (y ∷ []) (map f (drop (k + 1) xs))
    ∙ ap (λ z. take k xs ++ z ∷ map f (drop (k + 1) xs)) e
    ∙ sym (ap (λ z. take k xs ++ z) (at_drop_more (map f) xs k d h))

-- senders that wait for so long, and for fewer half bits
pub all_idle : (n : ℕ) → AllHeardAs false (replicate n Idle)
all_idle n = λ i d c. let size = length-replicate n Idle in ap is_signal (get_or-replicate n i Idle d (omega (arith, c, size)))

calm_fewer : (n m : ℕ) (s : Sender) → n ≤ m → AreCalm s (replicate m Idle) → AreCalm s (replicate n Idle)
calm_fewer zero m s l c = tt
calm_fewer (suc n) zero s l c = absurd (omega (arith, l))
calm_fewer (suc n) (suc m) s l c = (c.0, calm_fewer n m _ (omega (arith, l)) c.1)

pub waits_fewer : (m n : ℕ) (s : Sender) → n ≤ m → WaitsFor m s → WaitsFor n s
waits_fewer m n s l w = record { not_sending = w.not_sending; number = (let x = w.number in omega (arith, x, l)); calm = calm_fewer n m s l w.calm }

pub waits_for : (n most : ℕ) (s : Sender) → n ≤ most → is_sending s.phase ≡ false → most ≡ calm_of s false → most ≤ 4096 →
    ((hs : List Sym) → AllHeardAs false hs → length hs ≤ 4096 → AreCalm s hs ↔ (length hs ≤ most)) → WaitsFor n s
waits_for n most s l rests is within exact =
    let size = length-replicate n Idle in
    record {
      not_sending = rests;
      number = omega (arith, l, is);
      calm = (exact (replicate n Idle) (all_idle n) (omega (arith, l, within, size))).1 (omega (arith, l, size));
    }

pub calm_for_fewer : (m n : ℕ) (r : RepeaterDevice) → n ≤ m → IsCalm r m → IsCalm r n
calm_for_fewer m n r l c = record { at_most = (let most = c.at_most in omega (arith, most, l)); uneventful = λ k h. c.uneventful k (omega (arith, h, l)) }

-- the devices of a net that stands for a network
wait : (m : ℕ) (ss : List Sender) → AllByRecursion (WaitsFor m) ss → AllByRecursion (half_bit.Waits m) ss
wait m [] h = tt
wait m (s ∷ ss) h = (record { not_sending = h.0.not_sending; calm = h.0.calm }, wait m ss h.1)

rest : (rs : List Receiving) (ks : List KeptReception) → AllHear rs ks → AllByRecursion (λ k. k.halves ≡ 0) ks → AllByRecursion (λ r. r.halves ≡ []) rs
rest [] [] a h = tt
rest [] (k ∷ ks) a h = absurd a
rest (r ∷ rs) [] a h = absurd a
rest (r ∷ rs) (k ∷ ks) a h = (nil_from_length r.halves (sym a.0.count ∙ h.0), rest rs ks a.1 h.1)

silent : (m : ℕ) (rs : List RepeaterDevice) → AllByRecursion (λ r. IsCalm r m) rs → map (λ r. length r.guards) (map (iterate silent_step m) rs) ≡ map (λ r. length r.guards) rs → AllByRecursion (half_bit.IsSilent m) rs
silent m [] h e = tt
silent m (r ∷ rs) h e = (record { uneventful = h.0.uneventful; ports = ap (λ (ns : List ℕ). get_or ns 0 0) e }, silent m rs h.1 (ap (λ (ns : List ℕ). drop 1 ns) e))

pub hear_on : (f : Receiving → Receiving) (rs : List Receiving) (ks ks' : List KeptReception) → AllHear rs ks → length ks' ≡ length ks
    → ((i : ℕ) (d : KeptReception) (r : Receiving) → i < length ks' → Hears r (get_or ks i d) → Hears (f r) (get_or ks' i d)) → AllHear (map f rs) ks'
hear_on f [] [] [] a e h = tt
hear_on f [] [] (y ∷ ks') a e h = absurd (omega (arith, e))
hear_on f [] (k ∷ ks) ks' a e h = absurd a
hear_on f (r ∷ rs) [] ks' a e h = absurd a
hear_on f (r ∷ rs) (k ∷ ks) [] a e h = absurd (omega (arith, e))
hear_on f (r ∷ rs) (k ∷ ks) (y ∷ ks') a e h = (h 0 k r (omega arith) a.0, hear_on f rs ks ks' a.1 (omega (arith, e)) (λ i d x l. h (suc i) d x (omega (arith, l))))

-- a silent half bit leaves the delay of a repeater
same_delay : (m : ℕ) (r : RepeaterDevice) → (iterate silent_step m r).line.delay ≡ r.line.delay
unfolding silent_step
same_delay zero r = refl
same_delay (suc m) r = same_delay m (silent_step r)

pub delays_stay : (m : ℕ) (rs : List RepeaterDevice) → map (λ r. length r.guards) (map (iterate silent_step m) rs) ≡ map (λ r. length r.guards) rs → line_delays (map (iterate silent_step m) rs) ≡ line_delays rs
delays_stay m [] e = refl
delays_stay m (r ∷ rs) e =
    ap₂ (λ (xs ys : List ℕ). xs ++ ys) (ap₂ (λ n (d : ℕ). replicate n d) (ap (λ (ns : List ℕ). get_or ns 0 0) e) (same_delay m r)) (delays_stay m rs (ap (λ (ns : List ℕ). drop 1 ns) e))

-- what is kept, m half bits later, with these devices
abbrev pub leapt_kept : KeptNet → ℕ → List Sender → List KeptReception → List RepeaterDevice → KeptNet
leapt_kept k m ss ks rs = record { t = k.t + m; senders = ss; receivers = ks; repeaters = rs; wires = k.wires; places = k.places; rows = k.rows; captures = k.captures; reaches = k.reaches; delays = k.delays; settled = k.settled }

-- it is whole
pub whole_leapt : (k : KeptNet) (m : ℕ) (ss : List Sender) (ks : List KeptReception) (rs : List RepeaterDevice) (h e p c r s v n : ℕ) → IsWhole k h e p c r s v n → length ss ≡ length k.senders → length ks ≡ length k.receivers →
    map (λ x. length x.guards) rs ≡ map (λ x. length x.guards) k.repeaters → All (λ x. x.t ≡ k.t + m) ss → All (λ x. x.steps ≡ k.t + m) ks → IsWhole (leapt_kept k m ss ks rs) h e p c r s v n
whole_leapt k m ss ks rs h e p c r s v n w senders receivers guards times steps =
    let many = many_alike rs k.repeaters guards in
    let ports = ports_alike rs k.repeaters guards in
    record {
      few = w.few;
      few_devices = omega (arith, senders, many, w.few_devices);
      taps = omega (arith, senders, ports, w.taps);
      receiving = omega (arith, receivers, senders, w.receiving);
      capturing = omega (arith, senders, w.capturing);
      hearing = w.hearing;
      emitting = omega (arith, senders, w.emitting);
      port_emitting = omega (arith, ports, w.port_emitting);
      deciding = omega (arith, ports, w.deciding);
      carrying = w.carrying;
      sending = omega (arith, senders, w.sending);
      hearing_out = omega (arith, senders, w.hearing_out);
      happening = omega (arith, many, w.happening);
      placed = w.placed;
      known = w.known;
      times = times;
      steps = steps;
    }

-- what a net keeps of its taps
abbrev HasTaps : KeptNet → List PortLine → Type 0
HasTaps k ts =
    All (λ x. x.at ≤ greatest_place) ts × (All (λ x. x.segment < length k.wires) ts × ((k.places ≡ places_from 0 ts ts)
    × (((s : ℕ) → s < length k.wires → IsWire ts s (wire_at k.wires s)) × (k.reaches ≡ map (λ x. reach_over x ts) ts))))

abbrev IsSilentFor : KeptNet → List PortLine → Type 0
IsSilentFor k ts = (back q : ℕ) (d : PortLine) → back ≤ greatest_place → q < length ts → told_at (wire_at k.wires (get_or ts q d).segment).cable back (count_on (get_or ts q d).segment (take q ts)) ≡ Idle

module _ (m : ℕ) (n : Net) (k : KeptNet) (h e p c r s v l : ℕ) (w : IsWhole k h e p c r s v l) (calm : IsCalmNet m k) (st : Stands n k)
    (ports : map (λ r. length r.guards) (map (iterate silent_step m) k.repeaters) ≡ map (λ r. length r.guards) k.repeaters) where
  many_taps : length k.places ≡ length n.taps
  many_taps = ap length st.places ∙ length-places 0 n.taps n.taps

  -- no tap emitted a signal that is still heard
  no_signal : (back q : ℕ) → back ≤ greatest_place → q < length n.taps → emitted_before n.emitted back q ≡ Idle
  no_signal zero q near inside = refl
  no_signal (suc b) q near inside =
      let by = k.t - greatest_place in
      let over = ((st.settled by).0 calm.settled).0 in
      let many : length k.reaches ≡ length n.taps = ap length st.reaches ∙ length-map n.taps (λ x. reach_over x n.taps) in
      let now = st.time in
      none_since n.emitted n.t q b (get_or k.reaches q 0) by (omega (arith, now, near)) (over q (omega (arith, many, inside)))

  is_calm : half_bit.IsCalm m n
  is_calm =
      let senders : length k.senders ≡ length n.senders = ap length st.senders in
      let all = w.taps in
      record {
        near = recursion_from_All (λ (x : PortLine). x.at ≤ greatest_place) n.taps st.near;
        silent = no_signal;
        taps = sym many_taps ∙ all ∙ ap₂ (λ a b. a + b) senders (ap ports_of st.repeaters);
        receiving = length-AllHear n.receivers k.receivers st.receivers ∙ w.receiving ∙ senders;
        capturing = sym (ap length st.captures) ∙ w.capturing ∙ senders;
        senders = wait m n.senders (recursion_from_All (WaitsFor m) n.senders (subst (All (WaitsFor m)) st.senders calm.senders));
        receivers = rest n.receivers k.receivers st.receivers (recursion_from_All (λ (x : KeptReception). x.halves ≡ 0) k.receivers calm.receivers);
        repeaters = silent m n.repeaters (recursion_from_All (λ (x : RepeaterDevice). IsCalm x m) n.repeaters (subst (All (λ (x : RepeaterDevice). IsCalm x m)) st.repeaters calm.repeaters))
            (subst (λ (rs : List RepeaterDevice). map (λ (x : RepeaterDevice). length x.guards) (map (iterate silent_step m) rs) ≡ map (λ (x : RepeaterDevice). length x.guards) rs) st.repeaters ports);
      }

  pub silent_half_bit : (i : ℕ) → i < m → IsSilentHalfBit (later_net n i)
  silent_half_bit i l = silent_at i m n l is_calm

  later : IsCalmLater m n (later_net n m)
  later = calm_later m n is_calm

  pub stands_leapt : (ss : List Sender) (ks : List KeptReception) (rs : List RepeaterDevice) → ss ≡ map (λ x. after_all x (replicate m Idle)) k.senders → length ks ≡ length k.receivers
      → ((i : ℕ) (d : KeptReception) (r : Receiving) → i < length ks → Hears r (get_or k.receivers i d) → Hears (receiver_after r (replicate m Idle) false) (get_or ks i d))
      → rs ≡ map (iterate silent_step m) k.repeaters → Stands (later_net n m) (leapt_kept k m ss ks rs)
  stands_leapt ss ks rs senders many hear repeaters =
      let y = later_net n m in
      let taps : HasTaps k y.taps = subst (HasTaps k) (sym later.taps) (st.near, (st.placed, (st.places, (st.wired, st.reaches)))) in
      let told : IsSilentFor k n.taps = λ back q d near inside. st.told back q d near inside ∙ no_signal back q near inside in
      let silent : IsSilentFor k y.taps = subst (IsSilentFor k) (sym later.taps) told in
      let size : length y.taps ≡ length n.taps = ap length later.taps in
      record {
        time = ap (λ t. t + m) st.time ∙ sym later.time;
        senders = senders ∙ ap (map (λ (x : Sender). after_all x (replicate m Idle))) st.senders ∙ sym later.senders;
        receivers = subst (λ (xs : List Receiving). AllHear xs ks) (sym later.receivers) (hear_on (λ x. receiver_after x (replicate m Idle) false) n.receivers k.receivers ks st.receivers many hear);
        repeaters = repeaters ∙ ap (map (iterate silent_step m)) st.repeaters ∙ sym later.repeaters;
        rows = st.rows ∙ sym later.rows;
        captures = st.captures ∙ sym later.captures;
        near = taps.0;
        placed = taps.1.0;
        places = taps.1.1.0;
        wired = taps.1.1.1.0;
        told = λ back q d near inside. silent back q d near inside ∙ sym (later.silent back q near (omega (arith, inside, size)));
        reaches = taps.1.1.1.1;
        delays = st.delays ∙ ap line_delays (sym st.repeaters) ∙ sym (delays_stay m k.repeaters ports) ∙ ap line_delays (ap (map (iterate silent_step m)) st.repeaters ∙ sym later.repeaters);
        settled = λ t. later.over k.settled k.reaches k.delays st.settled t;
      }
