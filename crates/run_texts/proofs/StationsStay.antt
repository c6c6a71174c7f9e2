-- A network keeps its stations.
use Rattle.std.proofs.Common.{◌≡◌, ℕ, zero, suc, ◌+◌, ◌≤◌, Option, List, [], ◌∷◌, map, flat_map, length, refl, ap, ◌∙◌, arith, length-append}
use Rattle.std.proofs.lemmas.List.{length-map, length-take}
use Rattle.manchester_line.specs.declared.Sym.{Sym}
use Rattle.frame_layout.specs.declared.queue.Ready.{Ready}
use Rattle.collision_log.specs.declared.row.Body.{Body}
use Rattle.layout.specs.declared.lines.Layout.{Layout}
use Rattle.layout.specs.declared.lines.PortLine.{PortLine}
use Rattle.load_plan.specs.declared.plan.Plan.{Plan}
use Rattle.mac_transmit.specs.Sender.{Sender}
use Rattle.mac_receive.specs.Receiver.{Receiving, Reception}
use Rattle.network.specs.Net.{Net, emitted_before, heard_in, net, new_senders, next, receptions, receptions_in, sendings, sendings_in, stations_emit, stations_hear}
use Rattle.network.specs.Captures.{captured}
use Rattle.network.specs.Outputs.{captures, half_bits}
use Rattle.network.specs.Hearing.{heard_by}
use Rattle.layout.specs.Taps.{taps_of, tap_of}
use Rattle.network.specs.declared.outputs.Taken.{Taken}

length-heard_by : (told : ℕ → ℕ → Sym) (all : List PortLine) (p : ℕ) (xs : List PortLine) → length (heard_by told all p xs) ≡ length xs
length-heard_by told all p [] = refl
length-heard_by told all p (x ∷ xs) = ap suc (length-heard_by told all (p + 1) xs)

length-sendings : (hs : List Sym) (ss : List Sender) → length hs ≡ length ss → length (sendings hs ss) ≡ length ss
length-sendings [] [] e = refl
length-sendings [] (s ∷ ss) e = absurd (omega arith)
length-sendings (h ∷ hs) [] e = absurd (omega arith)
length-sendings (h ∷ hs) (s ∷ ss) e = ap suc (length-sendings hs ss (omega arith))

length-receptions : (hs es : List Sym) (rs : List Receiving) → length hs ≡ length rs → length es ≡ length rs → length (receptions hs es rs) ≡ length rs
length-receptions [] es [] e f = refl
length-receptions (h ∷ hs) es [] e f = absurd (omega arith)
length-receptions [] es (r ∷ rs) e f = absurd (omega arith)
length-receptions (h ∷ hs) [] (r ∷ rs) e f = absurd (omega arith)
length-receptions (h ∷ hs) (x ∷ es) (r ∷ rs) e f = ap suc (length-receptions hs es rs (omega arith) (omega arith))

length-captured : (t : ℕ) (es : List (Option Body)) (os : List (List ℕ)) (cs : List (List Taken)) → length es ≡ length cs → length os ≡ length cs → length (captured t es os cs) ≡ length cs
length-captured t [] os [] e f = refl
length-captured t (x ∷ es) os [] e f = absurd (omega arith)
length-captured t [] os (c ∷ cs) e f = absurd (omega arith)
length-captured t (x ∷ es) [] (c ∷ cs) e f = absurd (omega arith)
length-captured t (x ∷ es) (o ∷ os) (c ∷ cs) e f = ap suc (length-captured t es os cs (omega arith) (omega arith))

length-new_senders : (seed k : ℕ) (qs : List (List Ready)) → length (new_senders seed k qs) ≡ length qs
length-new_senders seed k [] = refl
length-new_senders seed k (q ∷ qs) = ap suc (length-new_senders seed (k + 1) qs)

-- a network of so many stations
record HasStations (many : ℕ) (n : Net) : Type 0 where
  taps : many ≤ length n.taps
  senders : length n.senders ≡ many
  receivers : length n.receivers ≡ many
  captures : length n.captures ≡ many

hear : (many : ℕ) (n : Net) → HasStations many n → length (stations_hear n) ≡ many
hear many n h =
    let heard : length (heard_in n) ≡ length n.taps = length-heard_by (emitted_before n.emitted) n.taps 0 n.taps in
    length-take (length n.senders) (heard_in n) ∙ omega (arith, heard, h.taps, h.senders)

stations_next : (many : ℕ) (n : Net) → HasStations many n → HasStations many (next n)
stations_next many n h =
    let hs = stations_hear n in
    let es = stations_emit n in
    let hears : length hs ≡ many = hear many n h in
    let sends : length (sendings_in n) ≡ many = length-sendings hs n.senders (omega (arith, hears, h.senders)) ∙ h.senders in
    let emits : length es ≡ many = length-map (sendings_in n) (λ s. s.emitted) ∙ sends in
    let receives : length (receptions_in n) ≡ many = length-receptions hs es n.receivers (omega (arith, hears, h.receivers)) (omega (arith, emits, h.receivers)) ∙ h.receivers in
    let events = map (λ (r : Reception). r.event) (receptions_in n) in
    let octets = map (λ (r : Reception). r.octets) (receptions_in n) in
    let first : length events ≡ many = length-map (receptions_in n) (λ r. r.event) ∙ receives in
    let second : length octets ≡ many = length-map (receptions_in n) (λ r. r.octets) ∙ receives in
    record {
      taps = h.taps;
      senders = length-map (sendings_in n) (λ s. s.state) ∙ sends;
      receivers = length-map (receptions_in n) (λ r. r.state) ∙ receives;
      captures = length-captured n.t events octets n.captures (omega (arith, first, h.captures)) (omega (arith, second, h.captures)) ∙ h.captures;
    }

enough_taps : (layout : Layout) → length layout.stations ≤ length (taps_of layout)
enough_taps layout =
    let ports = flat_map (λ r. r.ports) layout.repeaters in
    omega (arith, length-append (map tap_of layout.stations) ports, length-map layout.stations tap_of)

have_stations : (plan : Plan) (t : ℕ) → HasStations (length plan.layout.stations) (net plan t)
have_stations plan zero = record {
  taps = enough_taps plan.layout;
  senders = length-new_senders plan.layout.seed 0 plan.queues ∙ plan.queued;
  receivers = length-map plan.layout.stations _;
  captures = length-map plan.layout.stations _;
}
have_stations plan (suc t) = stations_next (length plan.layout.stations) (net plan t) (have_stations plan t)

pub length-captures : (plan : Plan) → length (captures plan) ≡ length plan.layout.stations
unfolding captures
length-captures plan = (have_stations plan (half_bits plan)).captures
