-- What the network has for the proofs on parts: each station is a sender that hears what its tap hears, and each
-- repeater has its ports.
use Rattle.std.proofs.Common.{◌≡◌, ℕ, zero, suc, ◌+◌, ◌-◌, ◌<◌, ◌≤◌, All, List, [], ◌∷◌, ◌++◌, map, drop, replicate, length, length-append, length-take-le, get_or, inl, inr, refl, sym, subst, ap, ◌∙◌, arith}
use Rattle.std.specs.List.{flat_map}
use Rattle.std.proofs.lemmas.List.{length-replicate, get_or_append_left, get_or-append_right, get_or-replicate}
use Rattle.std.proofs.lemmas.Bool.{cases_lt}
use Rattle.manchester_line.specs.declared.Sym.{Sym}
use Rattle.layout.specs.declared.lines.RepeaterLine.{RepeaterLine}
use Rattle.load_plan.specs.declared.plan.Plan.{Plan}
use Rattle.mac_transmit.specs.Sender.{SendOutcome, sender_step}
use Rattle.repeater_core.specs.Step.{RepeaterDevice}
use Rattle.network.specs.Net.{net, heard_in, stations_hear, ports_hear, sendings_in}
use Rattle.network.specs.Hearing.{heard_of}
use Rattle.network.specs.Apart.{AreApart}
use Rattle.network.specs.Attempts.{sender_at}
use Rattle.layout.specs.Taps.{taps_of}
use Rattle.layout.specs.declared.lines.PortLine.{PortLine}
use Rattle.net_parts.specs.Windows.{edge_ports}
use Rattle.net_parts.specs.Standing.{repeater_state}
use Rattle.network.specs.Times.{heard, emitted, decided, earlier, port_delays}
use Rattle.network.proofs.RunnablePlans.{runnable_plan, apart_plan}
use Rattle.network.proofs.DelayLines.{LinesUp}
use Rattle.network.proofs.AbsoluteTimes.{heard_is, port_emits, heard_sizes}
use Rattle.network.proofs.StationAttempts.{shape_of, sends_at, many_sendings, station_runs, station_emits}
use Rattle.net_parts.specs.RepeaterParts.{edges_in}

many_delays : (rs : List RepeaterLine) → length (flat_map (λ (r : RepeaterLine). replicate (length r.ports) r.delay) rs) ≡ length (flat_map (λ (r : RepeaterLine). r.ports) rs)
many_delays [] = refl
many_delays (r ∷ rs) =
    let rest = many_delays rs in
    let one = length-append (replicate (length r.ports) r.delay) (flat_map (λ (x : RepeaterLine). replicate (length x.ports) x.delay) rs) in
    let two = length-append r.ports (flat_map (λ (x : RepeaterLine). x.ports) rs) in
    let size = length-replicate (length r.ports) r.delay in
    omega (arith, rest, one, two, size)

-- what holds of the delay of each repeater holds of that of each port
pub delays_hold : (P : ℕ → Type 0) (rs : List RepeaterLine) → All (λ r. P r.delay) rs → (e : ℕ) → e < length (flat_map (λ (r : RepeaterLine). replicate (length r.ports) r.delay) rs)
    → P (get_or (flat_map (λ (r : RepeaterLine). replicate (length r.ports) r.delay) rs) e 0)
delays_hold P [] all e h = absurd (omega arith)
delays_hold P (r ∷ rs) all e h =
    let n = length r.ports in
    let here = replicate n r.delay in
    let rest = flat_map (λ (x : RepeaterLine). replicate (length x.ports) x.delay) rs in
    let size : length here ≡ n = length-replicate n r.delay in
    let both = length-append here rest in
    elim (cases_lt e n) [
      | inl own ↦
          let is : get_or (here ++ rest) e 0 ≡ r.delay = get_or_append_left here rest 0 e (omega (arith, own, size)) ∙ get_or-replicate n e r.delay 0 own in
          subst P (sym is) (all 0 r (omega arith))
      | inr other ↦
          let is : get_or (here ++ rest) e 0 ≡ get_or rest (e - n) 0 = get_or-append_right here rest n e 0 size other in
          subst P (sym is) (delays_hold P rs (λ i d l. all (suc i) d (omega arith)) (e - n) (omega (arith, h, both, size, other)))
    ]

lines_many : (ls : List RepeaterLine) (rs : List RepeaterDevice) (h : List (List Sym)) → LinesUp ls rs h → length rs ≡ length ls
lines_many [] [] h up = refl
lines_many [] (r ∷ rs) h up = absurd up
lines_many (l ∷ ls) [] h up = absurd up
lines_many (l ∷ ls) (r ∷ rs) h up = ap suc (lines_many ls rs (map (drop (length l.ports)) h) up.1)

lines_at : (ls : List RepeaterLine) (rs : List RepeaterDevice) (h : List (List Sym)) (i : ℕ) (d : RepeaterDevice) → LinesUp ls rs h → i < length ls → (length (get_or rs i d).guards ≡ edges_in ls i) × (length (get_or rs i d).counts ≡ edges_in ls i)
lines_at [] rs h i d up l = absurd (omega arith)
lines_at (x ∷ ls) [] h i d up l = absurd up
lines_at (x ∷ ls) (r ∷ rs) h zero d up l = (up.0.guards, up.0.counts)
lines_at (x ∷ ls) (r ∷ rs) h (suc i) d up l = lines_at ls rs (map (drop (length x.ports)) h) i d up.1 (omega arith)

-- what is known of the stations, taps and ports of a plan
pub record StationFacts (plan : Plan) : Type 0 where
  pub hears : (t p : ℕ) (d : PortLine) → p < length (taps_of plan.layout) →
      heard plan p t ≡ heard_of (λ back q. earlier (emitted plan q) t back) p (get_or (taps_of plan.layout) p d) 0 (taps_of plan.layout)
  pub late : (t e : ℕ) → e < length (edge_ports plan.layout) →
      emitted plan (length plan.layout.stations + e) t ≡ earlier (decided plan e) t (get_or (port_delays plan.layout) e 0)
  pub apart : AreApart (taps_of plan.layout)
  pub sends : (k t : ℕ) (o : SendOutcome) → k < length plan.layout.stations → get_or (sendings_in (net plan t)) k o ≡ sender_step (sender_at plan k t) (heard plan k t)
  pub steps : (k t : ℕ) → k < length plan.layout.stations → sender_at plan k (suc t) ≡ (sender_step (sender_at plan k t) (heard plan k t)).state
  pub emits : (k t : ℕ) → k < length plan.layout.stations → emitted plan k t ≡ (sender_step (sender_at plan k t) (heard plan k t)).emitted
  pub senders : (t : ℕ) → length (net plan t).senders ≡ length plan.layout.stations
  pub hear_all : (t : ℕ) → length (stations_hear (net plan t)) ≡ length plan.layout.stations
  pub send_all : (t : ℕ) → length (sendings_in (net plan t)) ≡ length plan.layout.stations
  pub delays : length (port_delays plan.layout) ≡ length (edge_ports plan.layout)

-- what is known of its repeaters
pub record RepeaterFacts (plan : Plan) : Type 0 where
  pub many : (t : ℕ) → length (net plan t).repeaters ≡ length plan.layout.repeaters
  pub guards : (i t : ℕ) → i < length plan.layout.repeaters → length (repeater_state plan i t).guards ≡ edges_in plan.layout.repeaters i
  pub counts : (i t : ℕ) → i < length plan.layout.repeaters → length (repeater_state plan i t).counts ≡ edges_in plan.layout.repeaters i
  pub hear_all : (t : ℕ) → length (ports_hear (net plan t)) ≡ length (edge_ports plan.layout)
  pub late : (e : ℕ) → e < length (port_delays plan.layout) → 1 ≤ get_or (port_delays plan.layout) e 0

pub station_facts : (plan : Plan) → StationFacts plan
station_facts plan = record {
  hears = heard_is plan;
  late = port_emits plan;
  apart = apart_plan plan;
  sends = sends_at plan;
  steps = λ k t h. station_runs plan k (suc t) h ∙ ap (λ s. (sender_step s (heard plan k t)).state) (sym (station_runs plan k t h));
  emits = λ k t h. station_emits plan k t h ∙ ap (λ s. (sender_step s (heard plan k t)).emitted) (sym (station_runs plan k t h));
  senders = λ t. (shape_of plan t).senders;
  hear_all = λ t. let sizes = heard_sizes plan t (shape_of plan t) in length-take-le (length (net plan t).senders) (heard_in (net plan t)) sizes.0 ∙ (shape_of plan t).senders;
  send_all = many_sendings plan;
  delays = many_delays plan.layout.repeaters;
}

pub repeater_facts : (plan : Plan) → RepeaterFacts plan
repeater_facts plan = record {
  many = λ t. lines_many plan.layout.repeaters (net plan t).repeaters (net plan t).decided (shape_of plan t).lines;
  guards = λ i t h. (lines_at plan.layout.repeaters (net plan t).repeaters (net plan t).decided i _ (shape_of plan t).lines h).0;
  counts = λ i t h. (lines_at plan.layout.repeaters (net plan t).repeaters (net plan t).decided i _ (shape_of plan t).lines h).1;
  hear_all = λ t. (heard_sizes plan t (shape_of plan t)).1;
  late = delays_hold (λ d. 1 ≤ d) plan.layout.repeaters (runnable_plan plan).some_delay;
}
