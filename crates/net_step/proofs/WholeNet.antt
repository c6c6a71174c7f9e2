-- What is kept of a network is whole, and stays so.
use Rattle.std.proofs.Common.{◌≡◌, ℕ, zero, suc, ◌+◌, ◌-◌, ◌<◌, ◌≤◌, inl, inr, All, List, [], ◌∷◌, map, take, length, length-append, get_or, sum_by, refl, sym, subst, ap, ap₂, ◌∙◌, arith}
use Rattle.std.specs.List.{flat_map, range_with_len}
use Rattle.std.proofs.lemmas.List.{length-map, get_or-map, get_or_default}
use Rattle.std.proofs.lemmas.List.Elements.{All-map}
use Rattle.std.proofs.lemmas.List.Sums.{sum_by-cons, sum_by_more, sum_by-take-le}
use Rattle.std.proofs.lemmas.List.FromFn.{get_or-map-range_with_len, length-map-range_with_len}
use Rattle.std.proofs.lemmas.Bool.{cases_eq, cases_lt}
use Rattle.std.proofs.lemmas.Bool.Decides.{nat_tests}
use Rattle.manchester_line.specs.declared.Sym.{Sym}
use Rattle.manchester_line.specs.declared.Sym.TheVariants.{Idle}
use Rattle.cable_segment.specs.Bus.{heard_at}
use Rattle.cable_segment.specs.Cable.{told_at}
use Rattle.layout.specs.declared.lines.Layout.{Layout}
use Rattle.layout.specs.declared.lines.PortLine.{PortLine}
use Rattle.layout.specs.declared.lines.RepeaterLine.{RepeaterLine}
use Rattle.load_plan.specs.declared.plan.Plan.{Plan}
use Rattle.repeater_core.specs.Step.{RepeaterDevice, new_state}
use Rattle.net_step.specs.declared.places.TapOnSegment.{TapOnSegment}
use Rattle.network.specs.Runnable.{IsRunnable}
use Rattle.layout.specs.Taps.{taps_of, tap_of, positions_on}
use Rattle.network.specs.Net.{ports_of}
use Rattle.net_step.specs.Wires.{Wire, no_wire, wire_at, symbols_of, carried, heard_at_place, IsPlaced, new_wire, places_from}
use Rattle.network.specs.TapsOnSegments.{numbers_on, count_on}
use Rattle.net_step.specs.KeptNet.{KeptNet, heard_kept, IsKeptTap, IsSilentNet, kept_tap_number, IsWhole}
use Rattle.network.proofs.TapsOnSegments.{numbers-here, numbers-there, count_below}
use Rattle.net_step.proofs.CablePlaces.{places_some}
use Rattle.net_step.proofs.StandsForNet.{wire_at-carried, place_of, taps_on, few_taps}
use Rattle.net_step.proofs.CableHistory.{positions-told_from}

ports_are : (rs : List RepeaterDevice) (ns : List ℕ) → map (λ r. length r.guards) rs ≡ ns → ports_of rs ≡ sum_by (λ n. n) ns
ports_are [] ns e = ap (sum_by (λ n. n)) e
ports_are (r ∷ rs) ns e =
    sum_by-cons (λ (x : RepeaterDevice). length x.guards) r rs
    ∙ ap (λ n. length r.guards + n) (ports_are rs (map (λ (x : RepeaterDevice). length x.guards) rs) refl)
    ∙ sym (sum_by-cons (λ n. n) (length r.guards) (map (λ (x : RepeaterDevice). length x.guards) rs))
    ∙ ap (sum_by (λ n. n)) e

-- repeaters with the same ports
pub ports_alike : (rs qs : List RepeaterDevice) → map (λ r. length r.guards) rs ≡ map (λ r. length r.guards) qs → ports_of rs ≡ ports_of qs
ports_alike rs qs e = ports_are rs _ e ∙ sym (ports_are qs _ refl)

pub many_alike : (rs qs : List RepeaterDevice) → map (λ r. length r.guards) rs ≡ map (λ r. length r.guards) qs → length rs ≡ length qs
many_alike rs qs e = sym (length-map rs (λ (r : RepeaterDevice). length r.guards)) ∙ ap length e ∙ length-map qs (λ (r : RepeaterDevice). length r.guards)

placed_after : (row : List Sym) (wires : List Wire) (places : List TapOnSegment) → All (IsPlaced wires) places → All (IsPlaced (map (carried row) wires)) places
placed_after row wires places h = λ i d l.
    let p = get_or places i d in
    let old = h i d l in
    let same : (wire_at (map (carried row) wires) p.segment).cable.positions ≡ (wire_at wires p.segment).cable.positions =
    ap (λ (w : Wire). w.cable.positions) (wire_at-carried row wires p.segment old.0) ∙ positions-told_from (symbols_of row (wire_at wires p.segment).taps) (wire_at wires p.segment).cable 0 in
    (omega (arith, old.0, length-map wires (carried row)), omega (arith, old.1, ap length same))

known_after : (row : List Sym) (wires : List Wire) (n : ℕ) → All (λ w. All (λ q. q < n) w.taps) wires → All (λ w. All (λ q. q < n) w.taps) (map (carried row) wires)
known_after row wires n h = λ i d l.
    let m : i < length wires = omega (arith, length-map wires (carried row)) in
    subst (λ (w : Wire). All (λ q. q < n) w.taps) (sym (get_or-map (carried row) wires i d d m)) (h i d m)

-- what stays of a list that is written to, from what the pass over it keeps
pub kept_of : {X Y : Type 0} (f : List X → Y) {whole new old items : List X} → whole ≡ new → f new ≡ f old → old ≡ items → f whole ≡ f items
kept_of f whole kept items = ap f whole ∙ kept ∙ ap f items

-- a half bit later
pub whole_next : (k kn : KeptNet) (row : List Sym) (h e p c r s v n h' e' p' c' r' s' v' n' : ℕ) → IsWhole k h e p c r s v n →
    kn.places ≡ k.places → kn.wires ≡ map (carried row) k.wires → length kn.senders ≡ length k.senders → length kn.receivers ≡ length k.receivers → length kn.captures ≡ length k.captures →
    map (λ x. length x.guards) kn.repeaters ≡ map (λ x. length x.guards) k.repeaters → h' ≡ h → e' ≡ e → p' ≡ p → c' ≡ c → r' ≡ r → s' ≡ s → v' ≡ v → n' ≡ n →
    All (λ x. x.t ≡ kn.t) kn.senders → All (λ x. x.steps ≡ kn.t) kn.receivers → IsWhole kn h' e' p' c' r' s' v' n'
whole_next k kn row h e p c r s v n h' e' p' c' r' s' v' n' w places wires senders receivers captures guards eh ee ep ec er es ev en times steps =
    let many = many_alike kn.repeaters k.repeaters guards in
    let ports = ports_alike kn.repeaters k.repeaters guards in
    let all = ap length places in
    record {
      few = omega (arith, all, w.few);
      few_devices = omega (arith, senders, many, w.few_devices);
      taps = omega (arith, all, senders, ports, w.taps);
      receiving = omega (arith, receivers, senders, w.receiving);
      capturing = omega (arith, captures, senders, w.capturing);
      hearing = omega (arith, eh, all, w.hearing);
      emitting = omega (arith, ee, senders, w.emitting);
      port_emitting = omega (arith, ep, ports, w.port_emitting);
      deciding = omega (arith, ec, ports, w.deciding);
      carrying = omega (arith, er, all, w.carrying);
      sending = omega (arith, es, senders, w.sending);
      hearing_out = omega (arith, ev, senders, w.hearing_out);
      happening = omega (arith, en, many, w.happening);
      placed = subst (λ ws. All (IsPlaced ws) kn.places) (sym wires) (subst (All (IsPlaced (map (carried row) k.wires))) (sym places) (placed_after row k.wires k.places w.placed));
      known = subst (λ (ws : List Wire). All (λ x. All (λ q. q < length kn.places) x.taps) ws) (sym wires) (subst (λ m. All (λ (x : Wire). All (λ q. q < m) x.taps) (map (carried row) k.wires)) (sym all) (known_after row k.wires (length k.places) w.known));
      times = times;
      steps = steps;
    }

-- the places of taps, one by one
pub length-places : (p : ℕ) (all xs : List PortLine) → length (places_from p all xs) ≡ length xs
length-places p all [] = refl
length-places p all (x ∷ xs) = ap suc (length-places (p + 1) all xs)

get_or-places : (p : ℕ) (all xs : List PortLine) (i m : ℕ) (d : TapOnSegment) (e : PortLine) → i < length xs → m ≡ p + i → get_or (places_from p all xs) i d ≡ place_of all m (get_or xs i e)
get_or-places p all [] i m d e h is = absurd (omega arith)
get_or-places p all (x ∷ xs) zero m d e h is = let same : p ≡ m = omega arith in ap (λ q. place_of all q x) same
get_or-places p all (x ∷ xs) (suc i) m d e h is = get_or-places (p + 1) all xs i m d e (omega arith) (omega arith)

numbers_below : (s k n : ℕ) (all : List PortLine) → k + length all ≤ n → All (λ q. q < n) (numbers_on s k all)
numbers_below s k n [] h = λ i d l. absurd (omega arith)
numbers_below s k n (x ∷ xs) h = elim (cases_eq x.segment s) [
  | inl on ↦ subst (All (λ q. q < n)) (sym (numbers-here s k x xs on)) (below_cons (numbers_below s (k + 1) n xs (omega arith)))
  | inr off ↦ subst (All (λ q. q < n)) (sym (numbers-there s k x xs off)) (numbers_below s (k + 1) n xs (omega arith))
]
  where
    below_cons : All (λ q. q < n) (numbers_on s (k + 1) xs) → All (λ q. q < n) (k ∷ numbers_on s (k + 1) xs)
    below_cons rest zero d l = omega arith
    below_cons rest (suc i) d l = rest i d (omega arith)

ports_new : (rs : List RepeaterLine) → length (flat_map (λ r. r.ports) rs) ≡ sum_by (λ r. length r.ports) rs
ports_new [] = refl
ports_new (r ∷ rs) =
    length-append r.ports (flat_map (λ (x : RepeaterLine). x.ports) rs)
    ∙ ap (λ n. length r.ports + n) (ports_new rs)
    ∙ sym (sum_by-cons (λ (x : RepeaterLine). length x.ports) r rs)

-- repeaters with the ports of these lines
ports_of_lines : (rs : List RepeaterDevice) (ls : List RepeaterLine) → map (λ r. length r.guards) rs ≡ map (λ l. length l.ports) ls → ports_of rs ≡ sum_by (λ l. length l.ports) ls
ports_of_lines rs ls e = ports_are rs _ e ∙ sym (sums ls)
  where
    sums : (ls : List RepeaterLine) → sum_by (λ l. length l.ports) ls ≡ sum_by (λ n. n) (map (λ (l : RepeaterLine). length l.ports) ls)
    sums [] = refl
    sums (l ∷ ls) =
        sum_by-cons (λ (x : RepeaterLine). length x.ports) l ls
        ∙ ap (λ n. length l.ports + n) (sums ls)
        ∙ sym (sum_by-cons (λ n. n) (length l.ports) (map (λ (x : RepeaterLine). length x.ports) ls))

placed_new : (l : Layout) → IsRunnable l → All (IsPlaced (map (new_wire (taps_of l)) (range_with_len 0 (length l.segments)))) (places_from 0 (taps_of l) (taps_of l))
placed_new l run = λ i d h.
    let all = taps_of l in
    let n = length l.segments in
    let wires = map (new_wire all) (range_with_len 0 n) in
    let m : i < length all = omega (arith, h, length-places 0 all all) in
    let x = get_or all i no_tap in
    let s = x.segment in
    let in_layout : s < n = taps_on l run i no_tap m in
    let below : count_on s (take i all) < length (positions_on s all) = count_below s all i no_tap m refl in
    let wire : wire_at wires s ≡ new_wire all s = get_or-map-range_with_len (new_wire all) 0 n s s no_wire in_layout (omega arith) in
    let positions : length (wire_at wires s).cable.positions ≡ length (positions_on s all) = ap (λ (w : Wire). length w.cable.positions) wire ∙ ap length (places_some (positions_on s all) (omega (arith, below))) in
    let size : length wires ≡ n = length-map-range_with_len (new_wire all) 0 n in
    let at_place : IsPlaced wires (place_of all i x) = (omega (arith, in_layout, size), omega (arith, below, positions)) in
    subst (IsPlaced wires) (sym (get_or-places 0 all all i i d no_tap m (omega arith))) at_place
  where
    no_tap : PortLine
    no_tap = record { segment = 0; at = 0 }

-- where nothing was emitted or decided
pub whole_silent : (plan : Plan) (k : KeptNet) (h e p c r s v n : ℕ) → IsRunnable plan.layout → IsSilentNet plan k → length k.senders ≡ length plan.layout.stations → length k.receivers ≡ length plan.layout.stations → length k.captures ≡ length plan.layout.stations →
    map (λ r. length r.guards) k.repeaters ≡ map (λ r. length r.ports) plan.layout.repeaters →
    h ≡ length (taps_of plan.layout) → e ≡ length plan.layout.stations → p ≡ length (taps_of plan.layout) - length plan.layout.stations → c ≡ length (taps_of plan.layout) - length plan.layout.stations →
    r ≡ length (taps_of plan.layout) → s ≡ length plan.layout.stations → v ≡ length plan.layout.stations → n ≡ length k.repeaters →
    All (λ x. x.t ≡ k.t) k.senders → All (λ x. x.steps ≡ k.t) k.receivers → IsWhole k h e p c r s v n
whole_silent plan k h e p c r s v n run silent senders receivers captures guards eh ee ep ec er es ev en times steps =
    let l = plan.layout in
    let all = taps_of l in
    let few = few_taps l run in
    let many : length k.places ≡ length all = ap length silent.places ∙ length-places 0 all all in
    let ports : ports_of k.repeaters ≡ length (flat_map (λ (x : RepeaterLine). x.ports) l.repeaters) = ports_of_lines k.repeaters l.repeaters guards ∙ sym (ports_new l.repeaters) in
    let joined : length all ≡ length l.stations + length (flat_map (λ (x : RepeaterLine). x.ports) l.repeaters) =
    length-append (map tap_of l.stations) (flat_map (λ (x : RepeaterLine). x.ports) l.repeaters) ∙ ap (λ m. m + length (flat_map (λ (x : RepeaterLine). x.ports) l.repeaters)) (length-map l.stations tap_of) in
    let relays : length k.repeaters ≡ length l.repeaters = sym (length-map k.repeaters (λ (x : RepeaterDevice). length x.guards)) ∙ ap length guards ∙ length-map l.repeaters (λ (x : RepeaterLine). length x.ports) in
    record {
      few = omega (arith, many, few);
      few_devices = omega (arith, senders, relays, run.few_stations, run.few_repeaters);
      taps = omega (arith, many, joined, ports, senders);
      receiving = omega (arith, receivers, senders);
      capturing = omega (arith, captures, senders);
      hearing = omega (arith, eh, many);
      emitting = omega (arith, ee, senders);
      port_emitting = omega (arith, ep, joined, ports);
      deciding = omega (arith, ec, joined, ports);
      carrying = omega (arith, er, many);
      sending = omega (arith, es, senders);
      hearing_out = omega (arith, ev, senders);
      happening = en;
      placed = subst (λ ws. All (IsPlaced ws) k.places) (sym silent.wires) (subst (All (IsPlaced (map (new_wire all) (range_with_len 0 (length l.segments))))) (sym silent.places) (placed_new l run));
      known = subst (λ (ws : List Wire). All (λ x. All (λ q. q < length k.places) x.taps) ws) (sym silent.wires)
          (All-map (λ (x : Wire). All (λ q. q < length k.places) x.taps) (new_wire all) (range_with_len 0 (length l.segments)) (λ i d m. numbers_below (get_or (range_with_len 0 (length l.segments)) i d) 0 (length k.places) all (omega (arith, many))));
      times = times;
      steps = steps;
    }

-- the number of a tap is one of all taps
pub tap_within : (k : KeptNet) (device port : ℕ) → IsKeptTap k device port → kept_tap_number (length k.senders) k.repeaters device port < length k.senders + ports_of k.repeaters
tap_within k device port h = elim (cases_lt device (length k.senders)) [
  | inl station ↦ let is : kept_tap_number (length k.senders) k.repeaters device port ≡ device = grind (arith, nat_tests) in omega (arith, is, station)
  | inr repeater ↦ elim h [
    | inl t ↦ let first = t.0 in absurd (omega (arith, first, repeater))
    | inr t ↦
        let i = device - length k.senders in
        let is : kept_tap_number (length k.senders) k.repeaters device port ≡ length k.senders + ports_of (take i k.repeaters) + port = grind (arith, nat_tests) in
        let some = t.1 in
        let port_in = t.2 in
        omega (arith, is, port_in, sum_by_more (λ (x : RepeaterDevice). length x.guards) k.repeaters i (new_state 0 0) some, sum_by-take-le (λ (x : RepeaterDevice). length x.guards) k.repeaters (i + 1))
  ]
]

-- tap `tap` of all is that of a device's port
pub record IsTapNumber (k : KeptNet) (device port tap : ℕ) : Type 0 where
  pub is_tap : IsKeptTap k device port
  pub number : tap ≡ kept_tap_number (length k.senders) k.repeaters device port

-- told of the same net s as the contract names it
pub tap_is_numbered : (k s : KeptNet) (device port tap stations : ℕ) (rs : List RepeaterDevice) → k ≡ s → IsKeptTap s device port → stations ≡ length k.senders → rs ≡ k.repeaters
    → tap ≡ kept_tap_number stations rs device port → IsTapNumber k device port tap
tap_is_numbered k s device port tap stations rs same asked many them told = record {
  is_tap = subst (λ x. IsKeptTap x device port) (sym same) asked;
  number = told ∙ ap₂ (λ m (rs : List RepeaterDevice). kept_tap_number m rs device port) many them;
}

-- and so it stands at a place
module _ (k : KeptNet) (h e p c r s v n : ℕ) (w : IsWhole k h e p c r s v n) (device port tap : ℕ) (named : IsTapNumber k device port tap) where
  pub tap_in_places : tap < length k.places
  tap_in_places = let inside = tap_within k device port named.is_tap in omega (arith, named.number, inside, w.taps)

  pub place_in_wires : (at : TapOnSegment) → at ≡ get_or k.places tap at → at.segment < length k.wires
  place_in_wires at is = let here = w.placed tap at tap_in_places in subst (λ (x : TapOnSegment). x.segment < length k.wires) (sym is) here.0

  pub local_in_wire : (at : TapOnSegment) (wire : Wire) → at ≡ get_or k.places tap at → wire ≡ get_or k.wires at.segment wire → at.local < length wire.cable.positions
  local_in_wire at wire is found =
      let here : IsPlaced k.wires at = subst (IsPlaced k.wires) (sym is) (w.placed tap at tap_in_places) in
      subst (λ (x : Wire). at.local < length x.cable.positions) (get_or_default k.wires at.segment no_wire wire here.0 ∙ sym found) here.1

  pub hears_at : (at : TapOnSegment) (wire : Wire) → at ≡ get_or k.places tap at → wire ≡ get_or k.wires at.segment wire →
      heard_at (told_at wire.cable) wire.cable.positions at.local ≡ get_or (heard_kept k) tap Idle
  hears_at at wire is found =
      let inside = place_in_wires at is in
      ap (λ (x : Wire). heard_at (told_at x.cable) x.cable.positions at.local) (found ∙ get_or_default k.wires at.segment wire no_wire inside)
      ∙ ap (heard_at_place k.wires) is
      ∙ sym (get_or-map (heard_at_place k.wires) k.places tap at Idle tap_in_places)

-- the stations' taps are some of all
pub stations_within : (l : Layout) → length l.stations ≤ length (taps_of l)
stations_within l = omega (arith, length-append (map tap_of l.stations) (flat_map (λ (x : RepeaterLine). x.ports) l.repeaters), length-map l.stations tap_of)
