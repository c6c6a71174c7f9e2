-- Networks that differ in nothing that is still to come stay so.
use Rattle.std.proofs.Common.{◌≡◌, ◌≢◌, ℕ, zero, suc, ◌+◌, ◌<◌, ◌≤◌, List, [], ◌∷◌, ◌++◌, map, take, drop, length, get_or, refl, sym, ap, ap₂, ◌∙◌, arith}
use Rattle.std.specs.List.{flat_map}
use Rattle.std.proofs.lemmas.List.{length-map}
use Rattle.std.proofs.lemmas.Simd.{map-map}
use Rattle.manchester_line.specs.declared.Sym.{Sym}
use Rattle.manchester_line.specs.declared.Sym.TheVariants.{Idle}
use Rattle.mac_parameters.specs.Distances.{distance}
use Rattle.collision_log.specs.declared.row.Row.{Row}
use Rattle.layout.specs.declared.lines.PortLine.{PortLine}
use Rattle.mac_transmit.specs.Sender.{Sender, SendOutcome, sender_step}
use Rattle.mac_receive.specs.Receiver.{Reception}
use Rattle.repeater_core.specs.Step.{RepeaterDevice, after, emitted_by}
use Rattle.network.specs.declared.outputs.Taken.{Taken}
use Rattle.network.specs.Captures.{captured}
use Rattle.network.specs.Hearing.{heard_of, heard_by}
use Rattle.network.specs.Net.{Net, next, emitted_before, heard_in, stations_hear, ports_hear, sendings, sendings_in, stations_emit, receptions, receptions_in, emitted_in, rows_in, each_repeater}
use Rattle.network.specs.Rows.{rows_of, repeater_bodies, repeater_rows}
use Rattle.network.proofs.AbsoluteTimes.{heard_of_alike}
use Rattle.quiet_state.proofs.BareSenders.{bare_sender, sendings_bare, step_state, step_symbol, step_event}
use Rattle.quiet_state.proofs.BareRepeaters.{bare_state, after_bare, bodies_bare, each_bare, map-each, emit_bare}

-- of what tap q emitted, this is still to be heard by tap p, or is heard now
pub record IsAudible (taps : List PortLine) (p q back : ℕ) (d : PortLine) : Type 0 where
  pub hearer : p < length taps
  pub emitter : q < length taps
  pub other : q ≢ p
  pub segment : (get_or taps q d).segment ≡ (get_or taps p d).segment
  pub near : back ≤ distance (get_or taps p d).at (get_or taps q d).at

-- two networks that differ only in what bears on nothing to come
pub record Alike (n m : Net) : Type 0 where
  pub taps : n.taps ≡ m.taps
  pub time : n.t ≡ m.t
  pub senders : map bare_sender n.senders ≡ map bare_sender m.senders
  pub receivers : n.receivers ≡ m.receivers
  pub repeaters : map bare_state n.repeaters ≡ map bare_state m.repeaters
  pub told : (p q back : ℕ) (d : PortLine) → IsAudible n.taps p q back d → emitted_before n.emitted back q ≡ emitted_before m.emitted back q
  pub rows : n.rows ≡ m.rows
  pub captures : n.captures ≡ m.captures

heard_by_alike : (told told' : ℕ → ℕ → Sym) (all : List PortLine) (d : PortLine) (k : ℕ) (xs : List PortLine) →
    ((i m : ℕ) → i < length xs → m ≡ k + i → heard_of told m (get_or xs i d) 0 all ≡ heard_of told' m (get_or xs i d) 0 all) →
    heard_by told all k xs ≡ heard_by told' all k xs
heard_by_alike told told' all d k [] same = refl
heard_by_alike told told' all d k (x ∷ xs) same =
    ap₂ (λ (s : Sym) ss. s ∷ ss) (same 0 k (omega arith) (omega arith)) (heard_by_alike told told' all d (k + 1) xs (λ i m l e. same (suc i) m (omega arith) (omega arith)))

no_tap : PortLine
no_tap = record { segment = 0; at = 0 }

all_alike : (told told' : ℕ → ℕ → Sym) (all : List PortLine) →
    ((p q back : ℕ) (d : PortLine) → IsAudible all p q back d → told back q ≡ told' back q) → heard_by told all 0 all ≡ heard_by told' all 0 all
all_alike told told' all same =
    heard_by_alike told told' all no_tap 0 all (λ i p l e.
    let at : p ≡ i = omega arith in
    heard_of_alike told told' p (get_or all i no_tap) no_tap 0 all (λ j q m f ne on.
    let here : q ≡ j = omega arith in
    same_at told told' all same i j p q at here l m ne on))
  where
    same_at : (told told' : ℕ → ℕ → Sym) (all : List PortLine) → ((p q back : ℕ) (d : PortLine) → IsAudible all p q back d → told back q ≡ told' back q) → (i j p q : ℕ) → p ≡ i → q ≡ j → i < length all → j < length all → q ≢ p → (get_or all j no_tap).segment ≡ (get_or all i no_tap).segment → told (distance (get_or all i no_tap).at (get_or all j no_tap).at) q ≡ told' (distance (get_or all i no_tap).at (get_or all j no_tap).at) q
    same_at told told' all same i j p q ep eq l m ne on =
        same i q (distance (get_or all i no_tap).at (get_or all j no_tap).at) no_tap (record {
          hearer = l;
          emitter = omega arith;
          other = λ e. ne (e ∙ sym ep);
          segment = ap (λ k. (get_or all k no_tap).segment) eq ∙ on;
          near = (let far : distance (get_or all i no_tap).at (get_or all j no_tap).at ≡ distance (get_or all i no_tap).at (get_or all q no_tap).at = ap (λ k. distance (get_or all i no_tap).at (get_or all k no_tap).at) (sym eq) in omega (arith, far));
        })

heard_alike : (n m : Net) → Alike n m → heard_in n ≡ heard_in m
heard_alike n m a =
    all_alike (emitted_before n.emitted) (emitted_before m.emitted) n.taps a.told ∙ ap (λ ts. heard_by (emitted_before m.emitted) ts 0 ts) a.taps

many_alike : (n m : Net) → Alike n m → length n.senders ≡ length m.senders
many_alike n m a = sym (length-map n.senders bare_sender) ∙ ap length a.senders ∙ length-map m.senders bare_sender

stations_alike : (n m : Net) → Alike n m → stations_hear n ≡ stations_hear m
stations_alike n m a = ap₂ take (many_alike n m a) (heard_alike n m a)

ports_alike : (n m : Net) → Alike n m → ports_hear n ≡ ports_hear m
ports_alike n m a = ap₂ drop (many_alike n m a) (heard_alike n m a)

sendings_alike : {X : Type 0} (f : SendOutcome → X) → ((s : Sender) (h : Sym) → f (sender_step s h) ≡ f (sender_step (bare_sender s) h)) → (n m : Net) → Alike n m → map f (sendings_in n) ≡ map f (sendings_in m)
sendings_alike f same n m a =
    sendings_bare f same (stations_hear n) n.senders
    ∙ ap₂ (λ hs ss. map f (sendings hs ss)) (stations_alike n m a) a.senders
    ∙ sym (sendings_bare f same (stations_hear m) m.senders)

stations_emit_alike : (n m : Net) → Alike n m → stations_emit n ≡ stations_emit m
stations_emit_alike n m a = sendings_alike (λ o. o.emitted) step_symbol n m a

receptions_alike : (n m : Net) → Alike n m → receptions_in n ≡ receptions_in m
receptions_alike n m a =
    ap₂ (λ hs es. receptions hs es n.receivers) (stations_alike n m a) (stations_emit_alike n m a) ∙ ap (receptions (stations_hear m) (stations_emit m)) a.receivers

pub each_alike : {X : Type 0} (f : List Sym → RepeaterDevice → X) → ((hs : List Sym) (r : RepeaterDevice) → f hs r ≡ f hs (bare_state r)) → (n m : Net) → Alike n m → each_repeater f (ports_hear n) n.repeaters ≡ each_repeater f (ports_hear m) m.repeaters
each_alike f same n m a =
    each_bare f same (ports_hear n) n.repeaters
    ∙ ap₂ (each_repeater f) (ports_alike n m a) a.repeaters
    ∙ sym (each_bare f same (ports_hear m) m.repeaters)

emitted_alike : (n m : Net) → Alike n m → emitted_in n ≡ emitted_in m
emitted_alike n m a =
    ap₂ (λ (xs ys : List Sym). xs ++ ys) (stations_emit_alike n m a)
    (emit_bare n.repeaters ∙ ap (flat_map emitted_by) a.repeaters ∙ sym (emit_bare m.repeaters))

rows_alike : (n m : Net) → Alike n m → rows_in n ≡ rows_in m
rows_alike n m a =
    let events = ap₂ (λ xs (ys : List Reception). rows_of n.t 0 xs (map (λ r. r.event) ys)) (sendings_alike (λ o. o.event) step_event n m a) (receptions_alike n m a) ∙ ap (λ t. rows_of t 0 (map (λ s. s.event) (sendings_in m)) (map (λ r. r.event) (receptions_in m))) a.time in
    let bodies = ap₂ (repeater_rows n.t) (many_alike n m a) (each_alike repeater_bodies bodies_bare n m a) ∙ ap (λ t. repeater_rows t (length m.senders) (each_repeater repeater_bodies (ports_hear m) m.repeaters)) a.time in
    ap₂ (λ (xs ys : List Row). xs ++ ys) events bodies

captured_alike : (n m : Net) → Alike n m → (next n).captures ≡ (next m).captures
captured_alike n m a =
    ap₂ (λ (ys : List Reception) (cs : List (List Taken)). captured n.t (map (λ r. r.event) ys) (map (λ r. r.octets) ys) cs) (receptions_alike n m a) a.captures
    ∙ ap (λ t. captured t (map (λ r. r.event) (receptions_in m)) (map (λ r. r.octets) (receptions_in m)) m.captures) a.time

told_alike : (n m : Net) → Alike n m → (p q back : ℕ) (d : PortLine) → IsAudible n.taps p q back d → emitted_before (next n).emitted back q ≡ emitted_before (next m).emitted back q
told_alike n m a p q zero d h = refl
told_alike n m a p q (suc zero) d h = ap (λ row. get_or row q Idle) (emitted_alike n m a)
told_alike n m a p q (suc (suc b)) d h =
    let near = h.near in
    a.told p q (suc b) d (record { hearer = h.hearer; emitter = h.emitter; other = h.other; segment = h.segment; near = omega (arith, near) })

-- half bit by half bit
pub next_alike : (n m : Net) → Alike n m → Alike (next n) (next m)
next_alike n m a = record {
  taps = a.taps;
  time = ap (λ t. t + 1) a.time;
  senders =
      map-map bare_sender (λ (o : SendOutcome). o.state) (sendings_in n)
      ∙ sendings_alike (λ o. bare_sender o.state) step_state n m a
      ∙ sym (map-map bare_sender (λ (o : SendOutcome). o.state) (sendings_in m));
  receivers = ap (map (λ (r : Reception). r.state)) (receptions_alike n m a);
  repeaters =
      map-each bare_state after (ports_hear n) n.repeaters
      ∙ each_alike (λ hs r. bare_state (after hs r)) after_bare n m a
      ∙ sym (map-each bare_state after (ports_hear m) m.repeaters);
  told = told_alike n m a;
  rows = ap₂ (λ (xs ys : List Row). xs ++ ys) a.rows (rows_alike n m a);
  captures = captured_alike n m a;
}
