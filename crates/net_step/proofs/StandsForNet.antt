-- What is kept goes on standing for the network.
use Rattle.std.proofs.Common.{◌≡◌, ℕ, zero, suc, ◌+◌, ◌-◌, ◌*◌, ◌<◌, ◌≤◌, max, All, List, [], ◌∷◌, ◌++◌, map, take, drop, eqb, length, get_or, replicate, Option, refl, sym, subst, ap, ap₂, ◌∙◌, arith, mul-le-mul_right, mul-suc, append_assoc, length-append}
use Rattle.std.specs.Prelude.{◌↔◌}
use Rattle.std.specs.List.{flat_map, range_with_len}
use Rattle.std.proofs.lemmas.List.{length-map, length-replicate, get_or-map}
use Rattle.std.proofs.lemmas.List.FromFn.{get_or-map-range_with_len, length-map-range_with_len}
use Rattle.std.proofs.lemmas.List.Elements.{All-append, All-map}
use Rattle.manchester_line.specs.declared.Sym.{Sym}
use Rattle.manchester_line.specs.declared.Sym.TheVariants.{Idle}
use Rattle.cable_segment.specs.Bus.{heard_among, heard_at}
use Rattle.mac_parameters.specs.Distances.{distance}
use Rattle.cable_segment.specs.Cable.{CableHistory, told_at, advanced}
use Rattle.layout.specs.declared.lines.Layout.{Layout}
use Rattle.layout.specs.declared.lines.PortLine.{PortLine}
use Rattle.layout.specs.declared.lines.RepeaterLine.{RepeaterLine}
use Rattle.load_plan.specs.declared.plan.Plan.{Plan}
use Rattle.collision_log.specs.declared.row.Body.{Body}
use Rattle.collision_log.specs.declared.row.Row.{Row}
use Rattle.mac_transmit.specs.Sender.{Sender, SendOutcome}
use Rattle.mac_receive.specs.Receiver.{Receiving, Reception}
use Rattle.mac_receive.specs.KeptReceiver.{kept_octets}
use Rattle.repeater_core.specs.Step.{RepeaterDevice, after, decided_by, emitted_by}
use Rattle.network.specs.declared.outputs.Taken.{Taken}
use Rattle.net_step.specs.declared.places.TapOnSegment.{TapOnSegment}
use Rattle.network.specs.Hearing.{heard_of, heard_by}
use Rattle.layout.specs.Taps.{delays_of, taps_of, tap_of, positions_on}
use Rattle.network.specs.Net.{Net, next, emitted_before, heard_in, stations_hear, ports_hear, sendings, sendings_in, emitted_in, decided_in, receptions, each_repeater}
use Rattle.mac_parameters.specs.Parameters.{greatest_place, most_ports}
use Rattle.network.specs.Captures.{captured}
use Rattle.network.specs.Rows.{repeater_rows, repeater_bodies, rows_of}
use Rattle.network.specs.Runnable.{IsRunnable}
use Rattle.net_step.specs.Wires.{Wire, no_wire, wire_at, symbols_of, told_from, carried, heard_at_place, cable_places, new_wire, places_from}
use Rattle.network.specs.TapsOnSegments.{count_on}
use Rattle.kept_devices.specs.KeptReceivers.{AllHear}
use Rattle.net_step.specs.KeptNet.{KeptNet, heard_kept, stations_hear_kept, ports_hear_kept, sendings_kept, stations_emit_kept, emitted_kept, decided_kept, over_from, receptions_kept, AllGive, IsNextKept, IsSilentNet, IsWire, Stands}
use Rattle.quiet_state.specs.LastSignals.{reach_over, line_delays}
use Rattle.net_step.proofs.KeptReceivers.{AllHear-given, events-given, captured-given}
use Rattle.network.proofs.HearingOnSegments.{hears_alike}
use Rattle.network.proofs.TapsOnSegments.{position_at, number_at, count_below, length-numbers, same_number}
use Rattle.net_step.proofs.CablePlaces.{places_some}
use Rattle.net_step.proofs.SignalsSettle.{AllOver, delays_after, settled_first, settled_on}
use Rattle.net_step.proofs.CableHistory.{told_at-told_from, told_at-told_from_earlier, told_at-advanced, told_at-advanced_now, positions-told_from, ahead-told_from, length-rows-told_from, length-rows-advanced}

-- the place of a tap
abbrev pub place_of : List PortLine → ℕ → PortLine → TapOnSegment
place_of all q x = record { segment = x.segment; local = count_on x.segment (take q all) }

-- a tap hears at its place what it hears in the network
hears_there : (n : Net) (k : KeptNet) → Stands n k → (q : ℕ) (d : PortLine) → q < length n.taps →
    heard_at_place k.wires (place_of n.taps q (get_or n.taps q d)) ≡ heard_of (emitted_before n.emitted) q (get_or n.taps q d) 0 n.taps
hears_there n k st q d h =
    let x = get_or n.taps q d in
    let s = x.segment in
    let c = (wire_at k.wires s).cable in
    let local = count_on s (take q n.taps) in
    let ps = positions_on s n.taps in
    let below : local < length ps = count_below s n.taps q d h refl in
    let places : c.positions ≡ ps = (st.wired s (st.placed q d h)).positions ∙ places_some ps (omega (arith, below)) in
    let x_near : x.at ≤ greatest_place = st.near q d h in
    ap (λ at. heard_at (told_at c) at local) places
    ∙ ap (λ at. heard_among (told_at c) local at 0 ps) (position_at s n.taps q d h refl)
    ∙ hears_alike (told_at c) (emitted_before n.emitted) s q x d local refl n.taps 0 0
    (λ i a m l ea em es.
    let number : a ≡ count_on s (take i n.taps) = omega (arith, ea) in
    let same : i ≡ m = omega (arith, em) in
    ap (λ z. eqb z local) number ∙ same_number s n.taps i q d l h es refl ∙ ap (λ z. eqb z q) same)
    (λ i a m l ea em es away.
    let other = get_or n.taps i d in
    let other_near : other.at ≤ greatest_place = st.near i d l in
    let back = distance x.at other.at in
    let number : a ≡ count_on s (take i n.taps) = omega (arith, ea) in
    let same : i ≡ m = omega (arith, em) in
    ap (told_at c back) number
    ∙ ap (λ z. told_at (wire_at k.wires z).cable back (count_on z (take i n.taps))) (sym es)
    ∙ st.told back i d (omega arith) l
    ∙ ap (emitted_before n.emitted back) same)

-- all taps from p on
all_hear_there : (wires : List Wire) (told : ℕ → ℕ → Sym) (all xs : List PortLine) (p : ℕ) →
    ((i m : ℕ) (d : PortLine) → i < length xs → m ≡ p + i → heard_at_place wires (place_of all m (get_or xs i d)) ≡ heard_of told m (get_or xs i d) 0 all) →
    map (heard_at_place wires) (places_from p all xs) ≡ heard_by told all p xs
all_hear_there wires told all [] p each = refl
all_hear_there wires told all (x ∷ xs) p each =
    ap₂ ◌∷◌ (each 0 p x (omega arith) (omega arith)) (all_hear_there wires told all xs (p + 1) (λ i m d l e. each (suc i) m d (omega arith) (omega arith)))

pub heard_alike : (n : Net) (k : KeptNet) → Stands n k → heard_kept k ≡ heard_in n
heard_alike n k st =
    ap (map (heard_at_place k.wires)) st.places
    ∙ all_hear_there k.wires (emitted_before n.emitted) n.taps n.taps 0 (λ i m d l e.
    let at : m ≡ i = omega arith in
    subst (λ j. heard_at_place k.wires (place_of n.taps m (get_or n.taps j d)) ≡ heard_of (emitted_before n.emitted) m (get_or n.taps j d) 0 n.taps) at (hears_there n k st m d (omega arith)))

stations_alike : (n : Net) (k : KeptNet) → Stands n k → stations_hear_kept k ≡ stations_hear n
stations_alike n k st = ap₂ (λ (ss : List Sender) (hs : List Sym). take (length ss) hs) st.senders (heard_alike n k st)

ports_alike : (n : Net) (k : KeptNet) → Stands n k → ports_hear_kept k ≡ ports_hear n
ports_alike n k st = ap₂ (λ (ss : List Sender) (hs : List Sym). drop (length ss) hs) st.senders (heard_alike n k st)

sendings_alike : (n : Net) (k : KeptNet) → Stands n k → sendings_kept k ≡ sendings_in n
sendings_alike n k st = ap₂ sendings (stations_alike n k st) st.senders

emitted_alike : (n : Net) (k : KeptNet) → Stands n k → emitted_kept k ≡ emitted_in n
emitted_alike n k st = ap₂ (λ (os : List SendOutcome) (rs : List RepeaterDevice). map (λ o. o.emitted) os ++ flat_map emitted_by rs) (sendings_alike n k st) st.repeaters

within_rows : (a n r taps b q : ℕ) → a ≡ 0 → n ≡ taps → r ≡ (greatest_place + 1) * taps → b + 1 ≤ greatest_place → q < taps → (a + (b + 1)) * n + q < r
within_rows a n r taps b q ea en er h l =
    let most : (b + 2) * taps ≤ (greatest_place + 1) * taps = mul-le-mul_right taps (omega arith) in
    rw (ea, en, er) (omega arith)

-- a row before what was told
abbrev told_row : List Sym → (ℕ → ℕ → Sym) → ℕ → ℕ → Sym
told_row row u zero r = Idle
told_row row u (suc zero) r = get_or row r Idle
told_row row u (suc (suc b)) r = u (suc b) r

-- what the taps of a cable were told, a half bit on
module _ (c : CableHistory) (row : List Sym) (ahead : c.ahead ≡ 0) (window : length c.rows ≡ (greatest_place + 1) * length c.positions) (fits : length row ≤ length c.positions) where
  within : (b q : ℕ) → b + 1 ≤ greatest_place → q < length c.positions → ((told_from c 0 row).ahead + (b + 1)) * length (told_from c 0 row).positions + q < length (told_from c 0 row).rows
  within b q h l = within_rows _ _ _ (length c.positions) b q (ahead-told_from row c 0 ∙ ahead) (ap length (positions-told_from row c 0)) (length-rows-told_from row c 0 ∙ window) h l

  pub told_after : (back r : ℕ) → back ≤ greatest_place → r < length row → told_at (advanced (told_from c 0 row)) back r ≡ told_row row (told_at c) back r
  told_after zero r h l =
      told_at-advanced_now (told_from c 0 row) r (ahead-told_from row c 0 ∙ ahead) (omega (arith, ap length (positions-told_from row c 0))) (omega (arith, length-rows-told_from row c 0))
  told_after (suc zero) r h l =
      told_at-advanced (told_from c 0 row) 0 r (within 0 r (omega arith) (omega arith))
      ∙ told_at-told_from row c 0 r (omega arith) (omega arith) (rw ahead (omega arith))
      ∙ (let z : r - 0 ≡ r = omega arith in ap (λ i. get_or row i Idle) z)
  told_after (suc (suc b)) r h l =
      let one : b + 1 ≡ suc b = omega arith in
      let two : suc (suc b) ≡ b + 1 + 1 = omega arith in
      ap (λ i. told_at (advanced (told_from c 0 row)) i r) two
      ∙ told_at-advanced (told_from c 0 row) (b + 1) r (within (b + 1) r (omega arith) (omega arith))
      ∙ told_at-told_from_earlier row c 0 b r (omega arith)
      ∙ ap (λ i. told_at c i r) one

pub wire_at-carried : (row : List Sym) (wires : List Wire) (s : ℕ) → s < length wires → wire_at (map (carried row) wires) s ≡ carried row (wire_at wires s)
wire_at-carried row wires s h = get_or-map (carried row) wires s no_wire no_wire h

carried_wire : (row : List Sym) (all : List PortLine) (s : ℕ) (w : Wire) → IsWire all s w → IsWire all s (carried row w)
carried_wire row all s w is =
    let rows = symbols_of row w.taps in
    record {
      positions = positions-told_from rows w.cable 0 ∙ is.positions;
      taps = is.taps;
      ahead = ahead-told_from rows w.cable 0 ∙ is.ahead;
      window = length-rows-advanced (told_from w.cable 0 rows) ∙ length-rows-told_from rows w.cable 0 ∙ is.window ∙ ap (λ ps. (greatest_place + 1) * length ps) (sym (positions-told_from rows w.cable 0));
    }

-- a row before what was told is a row before the history
told_row_is : (row symbols : List Sym) (h : List (List Sym)) (u : ℕ → ℕ → Sym) (local q : ℕ) → get_or symbols local Idle ≡ get_or row q Idle → ((back : ℕ) → back ≤ greatest_place → u back local ≡ emitted_before h back q) → (back : ℕ) → back ≤ greatest_place → told_row symbols u back local ≡ emitted_before (row ∷ h) back q
told_row_is row symbols h u local q now e zero b = refl
told_row_is row symbols h u local q now e (suc zero) b = now
told_row_is row symbols h u local q now e (suc (suc back)) b = e (suc back) (omega arith)

told_next : (n : Net) (k : KeptNet) (row : List Sym) → Stands n k → (back q : ℕ) (d : PortLine) → back ≤ greatest_place → q < length n.taps →
    told_at (wire_at (map (carried row) k.wires) (get_or n.taps q d).segment).cable back (count_on (get_or n.taps q d).segment (take q n.taps)) ≡ emitted_before (row ∷ n.emitted) back q
told_next n k row st back q d b h =
    let s = (get_or n.taps q d).segment in
    let in_wires : s < length k.wires = st.placed q d h in
    let w = wire_at k.wires s in
    let is = st.wired s in_wires in
    let local = count_on s (take q n.taps) in
    let ps = positions_on s n.taps in
    let below : local < length ps = count_below s n.taps q d h refl in
    let places : length w.cable.positions ≡ length ps = ap length (is.positions ∙ places_some ps (omega (arith, below))) in
    let taps : length w.taps ≡ length ps = ap length is.taps ∙ length-numbers s 0 n.taps in
    let symbols = symbols_of row w.taps in
    let count : length symbols ≡ length w.taps = length-map w.taps (λ g. get_or row g Idle) in
    let number : get_or w.taps local 0 ≡ q = ap (λ ts. get_or ts local 0) is.taps ∙ number_at s 0 n.taps q d h refl ∙ omega arith in
    ap (λ x. told_at x.cable back local) (wire_at-carried row k.wires s in_wires)
    ∙ told_after w.cable symbols is.ahead is.window (omega arith) back local b (omega arith)
    ∙ told_row_is row symbols n.emitted (told_at w.cable) local q (get_or-map (λ g. get_or row g Idle) w.taps local 0 Idle (omega arith) ∙ ap (λ g. get_or row g Idle) number) (λ x y. st.told x q d y h) back b

-- the rows and captures of the next state
rows_alike : (xs ys : List Row) (m t : ℕ) (hs hs' ps ps' : List Sym) (os os' : List SendOutcome) (ss ss' : List Sender) (qs qs' : List RepeaterDevice) (rs : List Receiving) →
    xs ≡ ys → m ≡ t → hs ≡ hs' → ps ≡ ps' → os ≡ os' → ss ≡ ss' → qs ≡ qs' →
    xs ++ (rows_of m 0 (map (λ s. s.event) os) (map (λ r. r.event) (receptions hs (map (λ s. s.emitted) os) rs)) ++ repeater_rows m (length ss) (each_repeater repeater_bodies ps qs))
    ≡ ys ++ (rows_of t 0 (map (λ s. s.event) os') (map (λ r. r.event) (receptions hs' (map (λ s. s.emitted) os') rs)) ++ repeater_rows t (length ss') (each_repeater repeater_bodies ps' qs'))
rows_alike xs ys m t hs hs' ps ps' os os' ss ss' qs qs' rs ex et eh ep eo es eq = cc

captures_alike : (xs ys : List (List Taken)) (m t : ℕ) (hs hs' : List Sym) (os os' : List SendOutcome) (rs : List Receiving) → xs ≡ ys → m ≡ t → hs ≡ hs' → os ≡ os' →
    captured m (map (λ r. r.event) (receptions hs (map (λ s. s.emitted) os) rs)) (map (λ r. r.octets) (receptions hs (map (λ s. s.emitted) os) rs)) xs
    ≡ captured t (map (λ r. r.event) (receptions hs' (map (λ s. s.emitted) os') rs)) (map (λ r. r.octets) (receptions hs' (map (λ s. s.emitted) os') rs)) ys
captures_alike xs ys m t hs hs' os os' rs ex et eh eo = cc

decided_alike : (n : Net) (k : KeptNet) → Stands n k → decided_kept k ≡ decided_in n
decided_alike n k st = ap₂ (λ (hs : List Sym) (rs : List RepeaterDevice). flat_map (λ (symbols : List Sym). symbols) (each_repeater decided_by hs rs)) (ports_alike n k st) st.repeaters

-- the ports of the repeaters stay
same_ports : (n : Net) (k kn : KeptNet) → Stands n k → IsNextKept k kn → map (λ (r : RepeaterDevice). length r.guards) (each_repeater after (ports_hear n) n.repeaters) ≡ map (λ (r : RepeaterDevice). length r.guards) n.repeaters
same_ports n k kn st g =
    ap (map (λ (r : RepeaterDevice). length r.guards)) (sym (g.repeaters ∙ ap₂ (each_repeater after) (ports_alike n k st) st.repeaters)) ∙ g.ports ∙ ap (map (λ (r : RepeaterDevice). length r.guards)) st.repeaters

-- from which half bit on all signals are over, with those of this half bit
settled_by : (n : Net) (k kn : KeptNet) → Stands n k → IsNextKept k kn → kn.settled ≡ max (max k.settled (over_from n.t kn.reaches (emitted_in n))) (over_from n.t kn.delays (decided_in n))
settled_by n k kn st g =
    g.settled
    ∙ ap₂ (λ e d. max (max k.settled e) d)
    (over_alike k.t n.t k.reaches kn.reaches (emitted_kept k) (emitted_in n) st.time (sym g.reaches) (emitted_alike n k st))
    (over_alike k.t n.t k.delays kn.delays (decided_kept k) (decided_in n) st.time (sym g.delays) (decided_alike n k st))
  where
    over_alike : (t u : ℕ) (xs ys : List ℕ) (es fs : List Sym) → t ≡ u → xs ≡ ys → es ≡ fs → over_from t xs es ≡ over_from u ys fs
    over_alike t u xs ys es fs et ex ee = cc

settled_before : (n : Net) (k kn : KeptNet) → Stands n k → IsNextKept k kn → (t : ℕ)
    → (max (max k.settled (over_from n.t kn.reaches (emitted_in n))) (over_from n.t kn.delays (decided_in n)) ≤ t) ↔ AllOver t (n.t + 1) kn.reaches kn.delays (emitted_in n ∷ n.emitted) (decided_in n ∷ n.decided)
settled_before n k kn st g t =
    settled_on k.settled n.t kn.reaches kn.delays (emitted_in n) (decided_in n) n.emitted n.decided
    (λ u. subst (λ (xs : List ℕ). (k.settled ≤ u) ↔ AllOver u n.t kn.reaches xs n.emitted n.decided) (sym g.delays) (subst (λ (xs : List ℕ). (k.settled ≤ u) ↔ AllOver u n.t xs k.delays n.emitted n.decided) (sym g.reaches) (st.settled u))) t

pub stands_next : (n : Net) (k kn : KeptNet) → Stands n k → IsNextKept k kn → Stands (next n) kn
stands_next n k kn st g =
    let heard = stations_alike n k st in
    let ports = ports_alike n k st in
    let os = sendings_alike n k st in
    let row = emitted_in n in
    let wires : kn.wires ≡ map (carried row) k.wires = g.wires ∙ ap (λ es. map (carried es) k.wires) (emitted_alike n k st) in
    let size : length kn.wires ≡ length k.wires = ap length wires ∙ length-map k.wires (carried row) in
    let on = g.hearing n.receivers st.receivers in
    record {
      time = g.time ∙ ap (λ t. t + 1) st.time;
      senders = g.senders ∙ ap (λ (xs : List SendOutcome). map (λ o. o.state) xs) os;
      receivers = subst (λ (hs : List Sym). AllHear (map (λ r. r.state) (receptions hs (map (λ o. o.emitted) (sendings_in n)) n.receivers)) kn.receivers) heard (subst (λ (xs : List SendOutcome). AllHear (map (λ r. r.state) (receptions (stations_hear_kept k) (map (λ o. o.emitted) xs) n.receivers)) kn.receivers) os on.receivers);
      repeaters = g.repeaters ∙ ap₂ (each_repeater after) ports st.repeaters;
      rows = on.rows ∙ rows_alike k.rows n.rows k.t n.t _ _ _ _ _ _ k.senders n.senders k.repeaters n.repeaters n.receivers st.rows st.time heard ports os st.senders st.repeaters;
      captures = on.captures ∙ captures_alike k.captures n.captures k.t n.t _ _ _ _ n.receivers st.captures st.time heard os;
      near = st.near;
      placed = λ q d h. let old = st.placed q d h in omega (arith, old, size);
      places = g.places ∙ st.places;
      wired = λ s h. subst (λ ws. IsWire n.taps s (wire_at ws s)) (sym wires) (let lt : s < length k.wires = omega (arith, size) in subst (IsWire n.taps s) (sym (wire_at-carried row k.wires s lt)) (carried_wire row n.taps s (wire_at k.wires s) (st.wired s lt)));
      told = λ back q d b h. ap (λ ws. told_at (wire_at ws (get_or n.taps q d).segment).cable back (count_on (get_or n.taps q d).segment (take q n.taps))) wires ∙ told_next n k row st back q d b h;
      reaches = g.reaches ∙ st.reaches;
      delays = g.delays ∙ st.delays ∙ sym (delays_after (ports_hear n) n.repeaters (same_ports n k kn st g));
      settled = λ t. subst (λ s. (s ≤ t) ↔ AllOver t (n.t + 1) kn.reaches kn.delays (row ∷ n.emitted) (decided_in n ∷ n.decided)) (sym (settled_by n k kn st g)) (settled_before n k kn st g t);
    }

-- what the passes of a half bit make, put together
pub goes_on : (k kn : KeptNet) (heard ports es pes : List Sym) (sent received : List (Option Body)) (bodies : List (List Body)) →
    heard ≡ stations_hear_kept k → ports ≡ ports_hear_kept k → kn.t ≡ k.t + 1 → kn.senders ≡ map (λ s. s.state) (sendings heard k.senders) → es ≡ map (λ s. s.emitted) (sendings heard k.senders) → sent ≡ map (λ s. s.event) (sendings heard k.senders) →
    ((rs : List Receiving) → AllHear rs k.receivers → AllGive (receptions heard es rs) kn.receivers received) → kn.repeaters ≡ each_repeater after ports k.repeaters → pes ≡ flat_map emitted_by k.repeaters →
    kn.wires ≡ map (carried (es ++ pes)) k.wires → kn.places ≡ k.places → map (λ r. length r.guards) kn.repeaters ≡ map (λ r. length r.guards) k.repeaters → kn.reaches ≡ k.reaches → kn.delays ≡ k.delays →
    (ds : List Sym) → ds ≡ flat_map (λ symbols. symbols) (each_repeater decided_by ports k.repeaters) → kn.settled ≡ max (max k.settled (over_from k.t k.reaches (es ++ pes))) (over_from k.t k.delays ds) → bodies ≡ each_repeater repeater_bodies ports k.repeaters →
    kn.rows ≡ (k.rows ++ rows_of k.t 0 sent received) ++ repeater_rows k.t (length k.senders) bodies → kn.captures ≡ captured k.t received (map kept_octets kn.receivers) k.captures → IsNextKept k kn
goes_on k kn heard ports es pes sent received bodies eh ep time senders ee en given repeaters epe wires places counts reaches delays ds eds settled eb rows captures =
    let outcomes : sendings heard k.senders ≡ sendings_kept k = ap (λ hs. sendings hs k.senders) eh in
    let emits : es ≡ stations_emit_kept k = ee ∙ ap (λ (os : List SendOutcome). map (λ o. o.emitted) os) outcomes in
    let events : sent ≡ map (λ (o : SendOutcome). o.event) (sendings_kept k) = en ∙ ap (λ (os : List SendOutcome). map (λ o. o.event) os) outcomes in
    let happens : bodies ≡ each_repeater repeater_bodies (ports_hear_kept k) k.repeaters = eb ∙ ap (λ hs. each_repeater repeater_bodies hs k.repeaters) ep in
    record {
      time = time;
      senders = senders ∙ ap (λ (os : List SendOutcome). map (λ o. o.state) os) outcomes;
      repeaters = repeaters ∙ ap (λ hs. each_repeater after hs k.repeaters) ep;
      wires = wires ∙ ap₂ (λ (xs ys : List Sym). map (carried (xs ++ ys)) k.wires) emits epe;
      places = places;
      ports = counts;
      reaches = reaches;
      delays = delays;
      settled =
          settled
          ∙ ap₂ (λ m n. max (max k.settled m) n) (ap₂ (λ (xs ys : List Sym). over_from k.t k.reaches (xs ++ ys)) emits epe)
          (ap (over_from k.t k.delays) (eds ∙ ap (λ hs. flat_map (λ (symbols : List Sym). symbols) (each_repeater decided_by hs k.repeaters)) ep));
      hearing = λ rs h.
          let heard_so : AllGive (receptions (stations_hear_kept k) es rs) kn.receivers received = subst (λ hs. AllGive (receptions hs es rs) kn.receivers received) eh (given rs h) in
          let g : AllGive (receptions_kept k rs) kn.receivers received = subst (λ row. AllGive (receptions (stations_hear_kept k) row rs) kn.receivers received) emits heard_so in
          record {
            receivers = AllHear-given _ _ _ g;
            rows = rows ∙ append_assoc k.rows (rows_of k.t 0 sent received) (repeater_rows k.t (length k.senders) bodies)
                ∙ ap₂ (λ (s r : List (Option Body)). k.rows ++ (rows_of k.t 0 s r ++ repeater_rows k.t (length k.senders) bodies)) events (events-given _ _ _ g)
                ∙ ap (λ (bs : List (List Body)). k.rows ++ (rows_of k.t 0 (map (λ (o : SendOutcome). o.event) (sendings_kept k)) (map (λ (r : Reception). r.event) (receptions_kept k rs)) ++ repeater_rows k.t (length k.senders) bs)) happens;
            captures = captures ∙ captured-given k.t _ _ _ k.captures g;
          };
    }

silent_rows : (n i : ℕ) → get_or (replicate n Idle) i Idle ≡ Idle
silent_rows zero i = refl
silent_rows (suc n) zero = refl
silent_rows (suc n) (suc i) = silent_rows n i

nothing_before : (back q : ℕ) → Idle ≡ emitted_before [] back q
nothing_before zero q = refl
nothing_before (suc b) q = refl

-- a segment before half bit 0
new_wire_at : (all : List PortLine) (n s : ℕ) → s < n → wire_at (map (new_wire all) (range_with_len 0 n)) s ≡ new_wire all s
new_wire_at all n s h = get_or-map-range_with_len (new_wire all) 0 n s s no_wire h (omega arith)

is_new_wire : (all : List PortLine) (s : ℕ) → IsWire all s (new_wire all s)
is_new_wire all s = record { positions = refl; taps = refl; ahead = refl; window = length-replicate ((0 + (greatest_place + 1)) * length (cable_places (positions_on s all))) Idle }

-- what is kept of a network in which nothing was emitted or decided
pub stands_silent : (plan : Plan) (n : Net) (k : KeptNet) → n.taps ≡ taps_of plan.layout → n.emitted ≡ [] → n.decided ≡ [] →
    All (λ x. x.at ≤ greatest_place) (taps_of plan.layout) → All (λ x. x.segment < length plan.layout.segments) (taps_of plan.layout) → line_delays n.repeaters ≡ delays_of plan.layout.repeaters → IsSilentNet plan k →
    k.t ≡ n.t → k.senders ≡ n.senders → AllHear n.receivers k.receivers → k.repeaters ≡ n.repeaters → k.rows ≡ n.rows → k.captures ≡ n.captures → Stands n k
stands_silent plan n k taps emitted decided near on lines silent time senders receivers repeaters rows captures =
    let all = taps_of plan.layout in
    let m = length plan.layout.segments in
    let size : length k.wires ≡ m = ap length silent.wires ∙ length-map-range_with_len (new_wire all) 0 m in
    record {
      time = time;
      senders = senders;
      receivers = receivers;
      repeaters = repeaters;
      rows = rows;
      captures = captures;
      near = subst (All (λ (x : PortLine). x.at ≤ greatest_place)) (sym taps) near;
      placed = subst (All (λ (x : PortLine). x.segment < length k.wires)) (sym taps) (λ q d h. let in_all = on q d h in omega (arith, in_all, size));
      places = silent.places ∙ ap (λ ts. places_from 0 ts ts) (sym taps);
      wired = λ s h. subst (λ (ts : List PortLine). IsWire ts s (wire_at k.wires s)) (sym taps) (subst (λ ws. IsWire all s (wire_at ws s)) (sym silent.wires) (subst (IsWire all s) (sym (new_wire_at all m s (omega (arith, h, size)))) (is_new_wire all s)));
      told = subst (λ (ts : List PortLine). (back q : ℕ) (d : PortLine) → back ≤ greatest_place → q < length ts → told_at (wire_at k.wires (get_or ts q d).segment).cable back (count_on (get_or ts q d).segment (take q ts)) ≡ emitted_before n.emitted back q) (sym taps)
          (subst (λ (h : List (List Sym)). (back q : ℕ) (d : PortLine) → back ≤ greatest_place → q < length all → told_at (wire_at k.wires (get_or all q d).segment).cable back (count_on (get_or all q d).segment (take q all)) ≡ emitted_before h back q) (sym emitted) (silent_told plan k on silent));
      reaches = silent.reaches ∙ ap (λ (ts : List PortLine). map (λ (x : PortLine). reach_over x ts) ts) (sym taps);
      delays = silent.delays ∙ sym lines;
      settled = λ t. subst (λ (ds : List (List Sym)). (k.settled ≤ t) ↔ AllOver t n.t k.reaches k.delays n.emitted ds) (sym decided) (subst (λ (es : List (List Sym)). (k.settled ≤ t) ↔ AllOver t n.t k.reaches k.delays es []) (sym emitted) (settled_first k.settled n.t k.reaches k.delays silent.settled t));
    }
  where
    silent_told : (plan : Plan) (k : KeptNet) → All (λ x. x.segment < length plan.layout.segments) (taps_of plan.layout) → IsSilentNet plan k → (back q : ℕ) (d : PortLine) → back ≤ greatest_place → q < length (taps_of plan.layout) →
        told_at (wire_at k.wires (get_or (taps_of plan.layout) q d).segment).cable back (count_on (get_or (taps_of plan.layout) q d).segment (take q (taps_of plan.layout))) ≡ emitted_before [] back q
    silent_told plan k on silent back q d b h =
        let all = taps_of plan.layout in
        let s = (get_or all q d).segment in
        ap (λ ws. told_at (wire_at ws s).cable back (count_on s (take q all))) silent.wires
        ∙ ap (λ (w : Wire). told_at w.cable back (count_on s (take q all))) (new_wire_at all (length plan.layout.segments) s (on q d h))
        ∙ silent_rows ((0 + (greatest_place + 1)) * length (cable_places (positions_on s all))) ((0 + back) * length (cable_places (positions_on s all)) + count_on s (take q all))
        ∙ nothing_before back q

-- what a layout says of all its taps
flat_All : {X : Type 0} (P : PortLine → Type 0) (ports : X → List PortLine) (rs : List X) → All (λ r. All P (ports r)) rs → All P (flat_map ports rs)
flat_All P ports [] h = λ k d l. absurd (omega arith)
flat_All P ports (r ∷ rs) h = All-append P (ports r) (flat_map ports rs) (h 0 r (omega arith)) (flat_All P ports rs (λ k d l. h (suc k) d (omega arith)))

pub taps_near : (l : Layout) → IsRunnable l → All (λ x. x.at ≤ greatest_place) (taps_of l)
taps_near l r = All-append (λ (x : PortLine). x.at ≤ greatest_place) _ _ (All-map (λ (x : PortLine). x.at ≤ greatest_place) tap_of l.stations r.stations_near) (flat_All (λ (x : PortLine). x.at ≤ greatest_place) (λ (x : RepeaterLine). x.ports) l.repeaters r.ports_near)

pub taps_on : (l : Layout) → IsRunnable l → All (λ x. x.segment < length l.segments) (taps_of l)
taps_on l r = All-append (λ (x : PortLine). x.segment < length l.segments) _ _ (All-map (λ (x : PortLine). x.segment < length l.segments) tap_of l.stations r.stations_on) (flat_All (λ (x : PortLine). x.segment < length l.segments) (λ (x : RepeaterLine). x.ports) l.repeaters r.ports_on)

-- how many taps it has
few_flat : {X : Type 0} (f : X → List PortLine) (n : ℕ) (rs : List X) → All (λ r. length (f r) ≤ n) rs → length (flat_map f rs) ≤ n * length rs
few_flat f n [] h = omega arith
few_flat f n (r ∷ rs) h =
    let one : length (f r) ≤ n = h 0 r (omega arith) in
    let rest : length (flat_map f rs) ≤ n * length rs = few_flat f n rs (λ k d l. h (suc k) d (omega arith)) in
    let more : n * suc (length rs) ≡ n + n * length rs = mul-suc n (length rs) ∙ omega arith in
    omega (arith, one, rest, more, length-append (f r) (flat_map f rs))

pub few_taps : (l : Layout) → IsRunnable l → length (taps_of l) ≤ 5120
few_taps l r =
    let ports = few_flat (λ (x : RepeaterLine). x.ports) most_ports l.repeaters r.few_ports in
    omega (arith, ports, r.few_stations, r.few_repeaters, length-append (map tap_of l.stations) (flat_map (λ (x : RepeaterLine). x.ports) l.repeaters), length-map l.stations tap_of)
