-- One half bit of a network in which nothing happens.
use Rattle.std.proofs.Common.{◌≡◌, ℕ, zero, suc, ◌+◌, ◌-◌, ◌^◌, ◌<◌, ◌≤◌, All, Bool, true, false, not, cond, ◌&&◌, eqb, List, [], ◌∷◌, ◌++◌, map, take, drop, length, replicate, min, get_or, Option, None, refl, sym, subst, ap, ap₂, ◌∙◌, arith}
use Rattle.std.specs.List.{flat_map, AllByRecursion}
use Rattle.std.specs.Fn.{iterate}
use Rattle.std.proofs.lemmas.List.{take-replicate, drop-replicate, length-replicate, length-map, append-nil}
use Rattle.std.proofs.lemmas.List.Sums.{sum_by-cons}
use Rattle.std.proofs.lemmas.Nat.{pow_pos}
use Rattle.manchester_line.specs.declared.Sym.{Sym}
use Rattle.manchester_line.specs.declared.Sym.TheVariants.{Idle}
use Rattle.manchester_line.specs.Line.{is_signal, mix_of}
use Rattle.mac_parameters.specs.Distances.{distance}
use Rattle.mac_parameters.specs.Parameters.{greatest_place}
use Rattle.collision_log.specs.declared.row.Body.{Body}
use Rattle.collision_log.specs.declared.row.Body.TheVariants.{Clash, Halted}
use Rattle.collision_log.specs.declared.row.Row.{Row}
use Rattle.layout.specs.declared.lines.PortLine.{PortLine}
use Rattle.mac_transmit.specs.declared.phase.Phase.{Phase}
use Rattle.mac_transmit.specs.declared.phase.Phase.TheVariants.{Rest, Waiting, Sending, Backoff}
use Rattle.mac_transmit.specs.Sender.{Sender, SendOutcome, sender_step, is_sending, emitting, before_emission, phase_after, symbol_emitted, frame_at}
use Rattle.mac_transmit.specs.Calm.{AreCalm}
use Rattle.mac_receive.specs.Receiver.{Receiving, Reception, quiet, reception_ended, receiver_step}
use Rattle.port_partition.specs.Guard.{Guard}
use Rattle.port_partition.specs.declared.guard.GuardEvent.{GuardEvent}
use Rattle.port_partition.specs.declared.guard.GuardEvent.TheVariants as event
use Rattle.repeater_core.specs.Counts.{Choice}
use Rattle.repeater_core.specs.Calm.{silent_symbols, silent_step, IsUneventful}
use Rattle.repeater_core.specs.Step.{RepeaterDevice, after, chosen, decided_by, emitted_by, guards_after, guard_events, is_closing, is_opening, mask_from, clash_begins}
use Rattle.network.specs.declared.outputs.Taken.{Taken}
use Rattle.network.specs.Captures.{captured, taken_by}
use Rattle.network.specs.Hearing.{heard_of, heard_by}
use Rattle.network.specs.Net.{Net, next, emitted_before, heard_in, stations_hear, ports_hear, sendings, sendings_in, stations_emit, receptions, receptions_in, emitted_in, decided_in, rows_in, each_repeater, ports_of}
use Rattle.network.specs.Rows.{row_of, rows_of, happened, guard_bodies, port_bodies, repeater_bodies, rows_of_bodies, repeater_rows}
use Rattle.net_step.proofs.IdleHistory.{IsIdleRow, idle_row, idle_replicate, idle_append, idle_before}

-- a tap hears Idle of taps that were silent for so long
same_either : (b : Bool) → cond b Idle Idle ≡ Idle
same_either true = refl
same_either false = refl

distance_near : (a b n : ℕ) → a ≤ n → b ≤ n → distance a b ≤ n
distance_near a b n ha hb = omega arith

hears_idle : (told : ℕ → ℕ → Sym) (p q : ℕ) (here : PortLine) (xs : List PortLine) → here.at ≤ greatest_place
    → ((back i m : ℕ) → back ≤ greatest_place → i < length xs → m ≡ q + i → told back m ≡ Idle) → AllByRecursion (λ x. x.at ≤ greatest_place) xs → heard_of told p here q xs ≡ Idle
hears_idle told p q here [] near silent all = refl
hears_idle told p q here (x ∷ xs) near silent all =
    ap₂ mix_of
    (ap (λ s. cond (eqb x.segment here.segment && not (eqb q p)) s Idle) (silent (distance here.at x.at) 0 q (distance_near here.at x.at greatest_place near all.0) (omega arith) (omega arith)) ∙ same_either (eqb x.segment here.segment && not (eqb q p)))
    (hears_idle told p (q + 1) here xs near (λ back i m b l e. silent back (suc i) m b (omega arith) (omega arith)) all.1)

all_hear_idle : (told : ℕ → ℕ → Sym) (all : List PortLine) (p : ℕ) (xs : List PortLine) → ((back m : ℕ) → back ≤ greatest_place → m < length all → told back m ≡ Idle)
    → AllByRecursion (λ x. x.at ≤ greatest_place) all → AllByRecursion (λ x. x.at ≤ greatest_place) xs → heard_by told all p xs ≡ replicate (length xs) Idle
all_hear_idle told all p [] silent near nears = refl
all_hear_idle told all p (x ∷ xs) silent near nears =
    ap₂ ◌∷◌ (hears_idle told p 0 x all nears.0 (λ back i m b l e. silent back m b (omega arith)) near) (all_hear_idle told all (p + 1) xs silent near nears.1)

-- a sender to which nothing happens in n half bits in which it hears Idle
pub record Waits (n : ℕ) (s : Sender) : Type 0 where
  pub not_sending : is_sending s.phase ≡ false
  pub calm : AreCalm s (replicate n Idle)

sends_later : (t : ℕ) (p : Phase) (c : Bool) → is_sending (phase_after t p c) ≡ is_sending p
sends_later t Rest c = refl
sends_later t Waiting c = refl
sends_later t (Sending start hit) c = refl
sends_later t (Backoff until) c = refl

no_symbol : (octets : List ℕ) (t : ℕ) (p : Phase) (c : Bool) → is_sending p ≡ false → symbol_emitted octets t p c ≡ Idle
unfolding symbol_emitted
no_symbol octets t Rest c h = refl
no_symbol octets t Waiting c h = refl
no_symbol octets t (Sending start hit) c h = absurd (let both : true ≡ false = h in cc)
no_symbol octets t (Backoff until) c h = refl

pub emits_idle : (n : ℕ) (s : Sender) → Waits (suc n) s → (sender_step s Idle).emitted ≡ Idle
unfolding sender_step emitting
emits_idle n s w =
    let b = before_emission s false in
    let same : phase_after b.t b.phase false ≡ s.phase = w.calm.0.same_phase in
    no_symbol (frame_at b.queue b.place) b.t b.phase false (sym (sends_later b.t b.phase false) ∙ ap is_sending same ∙ w.not_sending)

pub waits_on : (n : ℕ) (s : Sender) → Waits (suc n) s → Waits n (sender_step s Idle).state
waits_on n s w = record { not_sending = ap is_sending w.calm.0.same_phase ∙ w.not_sending; calm = w.calm.1 }

-- all senders
all_wait_on : (n : ℕ) (ss : List Sender) → AllByRecursion (Waits (suc n)) ss → AllByRecursion (Waits n) (map (λ s. (sender_step s Idle).state) ss)
all_wait_on n [] h = tt
all_wait_on n (s ∷ ss) h = (waits_on n s h.0, all_wait_on n ss h.1)

sendings_idle : (ss : List Sender) → sendings (replicate (length ss) Idle) ss ≡ map (λ s. sender_step s Idle) ss
sendings_idle [] = refl
sendings_idle (s ∷ ss) = ap (λ xs. sender_step s Idle ∷ xs) (sendings_idle ss)

emissions_idle : (n : ℕ) (ss : List Sender) → AllByRecursion (Waits (suc n)) ss → map (λ o. o.emitted) (map (λ s. sender_step s Idle) ss) ≡ replicate (length ss) Idle
emissions_idle n [] h = refl
emissions_idle n (s ∷ ss) h = ap₂ ◌∷◌ (emits_idle n s h.0) (emissions_idle n ss h.1)

abbrev NoEvents : List (Option Body) → Type 0
NoEvents es = AllByRecursion (λ e. e ≡ None) es

no_sent : (n : ℕ) (ss : List Sender) → AllByRecursion (Waits (suc n)) ss → NoEvents (map (λ o. o.event) (map (λ s. sender_step s Idle) ss))
no_sent n [] h = tt
no_sent n (s ∷ ss) h = (h.0.calm.0.no_event, no_sent n ss h.1)

states_of : (ss : List Sender) → map (λ o. o.state) (map (λ s. sender_step s Idle) ss) ≡ map (λ s. (sender_step s Idle).state) ss
states_of [] = refl
states_of (s ∷ ss) = ap (λ xs. (sender_step s Idle).state ∷ xs) (states_of ss)

-- a receiver at rest that hears Idle
rests_step : (r : Receiving) (deaf : Bool) (hs : List Sym) → r.halves ≡ [] → hs ≡ [] →
    let one = cond deaf (quiet (record r { deaf = false; halves = [] })) (reception_ended r hs) in
    (one.event ≡ None) × (one.state.halves ≡ [])
rests_step r true hs h e = (refl, refl)
rests_step r false [] h e = (refl, h)
rests_step r false (x ∷ hs) h e = absurd (let n = ap length e in omega (arith, n))

rests : (r : Receiving) → r.halves ≡ [] → ((receiver_step r Idle false).event ≡ None) × ((receiver_step r Idle false).state.halves ≡ [])
rests r h = rests_step r r.deaf r.halves h h

all_rest_on : (rs : List Receiving) → AllByRecursion (λ r. r.halves ≡ []) rs → AllByRecursion (λ r. r.halves ≡ []) (map (λ r. (receiver_step r Idle false).state) rs)
all_rest_on [] h = tt
all_rest_on (r ∷ rs) h = ((rests r h.0).1, all_rest_on rs h.1)

receptions_idle : (rs : List Receiving) → receptions (replicate (length rs) Idle) (replicate (length rs) Idle) rs ≡ map (λ r. receiver_step r Idle false) rs
receptions_idle [] = refl
receptions_idle (r ∷ rs) = ap (λ xs. receiver_step r Idle false ∷ xs) (receptions_idle rs)

no_received : (rs : List Receiving) → AllByRecursion (λ r. r.halves ≡ []) rs → NoEvents (map (λ o. o.event) (map (λ r. receiver_step r Idle false) rs))
no_received [] h = tt
no_received (r ∷ rs) h = ((rests r h.0).0, no_received rs h.1)

states_after : (rs : List Receiving) → map (λ o. o.state) (map (λ r. receiver_step r Idle false) rs) ≡ map (λ r. (receiver_step r Idle false).state) rs
states_after [] = refl
states_after (r ∷ rs) = ap (λ xs. (receiver_step r Idle false).state ∷ xs) (states_after rs)

-- no rows and no captures without events
no_rows : (t k : ℕ) (es rs : List (Option Body)) → NoEvents es → NoEvents rs → rows_of t k es rs ≡ []
no_rows t k [] rs a b = refl
no_rows t k (e ∷ es) [] a b = refl
no_rows t k (e ∷ es) (r ∷ rs) a b =
    ap₂ (λ x y. row_of t k x ++ row_of t k y ++ rows_of t (k + 1) es rs) a.0 b.0 ∙ no_rows t (k + 1) es rs a.1 b.1

no_captures : (t : ℕ) (es : List (Option Body)) (os : List (List ℕ)) (cs : List (List Taken)) → NoEvents es → length es ≡ length cs → length os ≡ length cs → captured t es os cs ≡ cs
no_captures t [] os [] a le lo = refl
no_captures t [] os (c ∷ cs) a le lo = absurd (omega (arith, le))
no_captures t (e ∷ es) os [] a le lo = absurd (omega (arith, le))
no_captures t (e ∷ es) [] (c ∷ cs) a le lo = absurd (omega (arith, lo))
no_captures t (e ∷ es) (o ∷ os) (c ∷ cs) a le lo =
    ap₂ ◌∷◌ (ap (λ x. c ++ taken_by t x o) a.0 ∙ append-nil c) (no_captures t es os cs a.1 (omega (arith, le)) (omega (arith, lo)))

-- a repeater to which nothing happens in n silent half bits, and which keeps its ports
pub record IsSilent (n : ℕ) (r : RepeaterDevice) : Type 0 where
  pub uneventful : (k : ℕ) → k < n → IsUneventful (iterate silent_step k r)
  pub ports : length (iterate silent_step n r).guards ≡ length r.guards

fewer_guards : (gs : List Guard) (hs es : List Sym) → length (guards_after gs hs es) ≤ length gs
fewer_guards [] hs es = omega arith
fewer_guards (g ∷ gs) [] es = omega arith
fewer_guards (g ∷ gs) (h ∷ hs) [] = omega arith
fewer_guards (g ∷ gs) (h ∷ hs) (e ∷ es) = let rest = fewer_guards gs hs es in omega (arith, rest)

silent_fewer : (r : RepeaterDevice) → length (silent_step r).guards ≤ length r.guards
unfolding silent_step
silent_fewer r = fewer_guards r.guards (silent_symbols r) (emitted_by r)

later_fewer : (n : ℕ) (r : RepeaterDevice) → length (iterate silent_step n r).guards ≤ length r.guards
later_fewer zero r = omega arith
later_fewer (suc n) r = let one = silent_fewer r in let rest = later_fewer n (silent_step r) in omega (arith, one, rest)

same_ports : (n : ℕ) (r : RepeaterDevice) → IsSilent (suc n) r → length (silent_step r).guards ≡ length r.guards
same_ports n r s = let one = silent_fewer r in let rest = later_fewer n (silent_step r) in let ends = s.ports in omega (arith, one, rest, ends)

silent_on : (n : ℕ) (r : RepeaterDevice) → IsSilent (suc n) r → IsSilent n (silent_step r)
silent_on n r s = record { uneventful = λ k l. s.uneventful (suc k) (omega (arith, l)); ports = s.ports ∙ sym (same_ports n r s) }

-- all repeaters
all_silent_on : (n : ℕ) (rs : List RepeaterDevice) → AllByRecursion (IsSilent (suc n)) rs → AllByRecursion (IsSilent n) (map silent_step rs)
all_silent_on n [] h = tt
all_silent_on n (r ∷ rs) h = (silent_on n r h.0, all_silent_on n rs h.1)

pub ports_stay : (n : ℕ) (rs : List RepeaterDevice) → AllByRecursion (IsSilent (suc n)) rs → ports_of (map silent_step rs) ≡ ports_of rs
ports_stay n [] h = refl
ports_stay n (r ∷ rs) h =
    sum_by-cons (λ (x : RepeaterDevice). length x.guards) (silent_step r) (map silent_step rs)
    ∙ ap₂ (λ a b. a + b) (same_ports n r h.0) (ports_stay n rs h.1)
    ∙ sym (sum_by-cons (λ (x : RepeaterDevice). length x.guards) r rs)

each_silent : {X : Type 0} (f : List Sym → RepeaterDevice → X) (k : ℕ) (rs : List RepeaterDevice) → ports_of rs ≤ k → each_repeater f (replicate k Idle) rs ≡ map (λ r. f (silent_symbols r) r) rs
each_silent f k [] l = refl
each_silent f k (r ∷ rs) l =
    let sum = sum_by-cons (λ (x : RepeaterDevice). length x.guards) r rs in
    ap₂ ◌∷◌ (ap (λ hs. f hs r) (take-replicate (length r.guards) k Idle (omega (arith, sum, l))))
    (ap (λ hs. each_repeater f hs rs) (drop-replicate (length r.guards) k Idle) ∙ each_silent f (k - length r.guards) rs (omega (arith, sum, l)))

afters_silent : (rs : List RepeaterDevice) → map (λ r. after (silent_symbols r) r) rs ≡ map silent_step rs
unfolding silent_step
afters_silent rs = refl

-- what they emit and decide
emitted_idle : (n : ℕ) (rs : List RepeaterDevice) → AllByRecursion (IsSilent (suc n)) rs → IsIdleRow (flat_map emitted_by rs)
emitted_idle n [] h = λ i. refl
emitted_idle n (r ∷ rs) h = idle_append (emitted_by r) (flat_map emitted_by rs) (idle_row (emitted_by r) (h.0.uneventful 0 (omega arith)).emits) (emitted_idle n rs h.1)

decided_idle : (n : ℕ) (rs : List RepeaterDevice) → AllByRecursion (IsSilent (suc n)) rs → IsIdleRow (flat_map (λ symbols. symbols) (map (λ r. decided_by (silent_symbols r) r) rs))
decided_idle n [] h = λ i. refl
decided_idle n (r ∷ rs) h =
    idle_append (decided_by (silent_symbols r) r) (flat_map (λ (symbols : List Sym). symbols) (map (λ x. decided_by (silent_symbols x) x) rs))
    (idle_row (decided_by (silent_symbols r) r) (h.0.uneventful 0 (omega arith)).decides) (decided_idle n rs h.1)

-- nothing happens where no flag is set
flag_off : (p : ℕ) (b : Bool) (bs : List Bool) → mask_from p (b ∷ bs) ≡ 0 → b ≡ false
flag_off p true bs h = absurd (let some = pow_pos p in omega (arith, some, h))
flag_off p false bs h = refl

flags_off : (p : ℕ) (b : Bool) (bs : List Bool) → mask_from p (b ∷ bs) ≡ 0 → mask_from (p + 1) bs ≡ 0
flags_off p true bs h = omega (arith, h)
flags_off p false bs h = omega (arith, h)

no_guard_body : (port : ℕ) (e : GuardEvent) → is_closing e ≡ false → is_opening e ≡ false → guard_bodies port e ≡ []
no_guard_body port event.None c o = refl
no_guard_body port event.Closed c o = absurd (let both : true ≡ false = c in cc)
no_guard_body port event.Opened c o = absurd (let both : true ≡ false = o in cc)

no_port_bodies : (p port : ℕ) (hs : List Bool) (es : List GuardEvent) → mask_from p hs ≡ 0 → mask_from p (map is_closing es) ≡ 0 → mask_from p (map is_opening es) ≡ 0 → port_bodies port hs es ≡ []
no_port_bodies p port [] es h c o = refl
no_port_bodies p port (x ∷ hs) [] h c o = refl
no_port_bodies p port (x ∷ hs) (e ∷ es) h c o =
    ap₂ (λ (b : Bool) xs. happened b (Halted port) ++ (xs ++ port_bodies (port + 1) hs es)) (flag_off p x hs h)
    (no_guard_body port e (flag_off p (is_closing e) (map is_closing es) c) (flag_off p (is_opening e) (map is_opening es) o))
    ∙ no_port_bodies (p + 1) (port + 1) hs es (flags_off p x hs h) (flags_off p (is_closing e) (map is_closing es) c) (flags_off p (is_opening e) (map is_opening es) o)

no_bodies : (r : RepeaterDevice) → IsUneventful r → repeater_bodies (silent_symbols r) r ≡ []
no_bodies r u =
    ap₂ (λ (b : Bool) xs. happened b Clash ++ xs) u.no_clash
    (no_port_bodies 0 1 (map (λ (c : Choice). c.halted) (chosen (silent_symbols r) r)) (guard_events r.guards (silent_symbols r) (emitted_by r)) u.none_halted u.none_closes u.none_opens)

no_repeater_rows : (t k n : ℕ) (rs : List RepeaterDevice) → AllByRecursion (IsSilent (suc n)) rs → repeater_rows t k (map (λ r. repeater_bodies (silent_symbols r) r) rs) ≡ []
no_repeater_rows t k n [] h = refl
no_repeater_rows t k n (r ∷ rs) h =
    ap₂ (λ bodies rows. rows_of_bodies t k bodies ++ rows) (no_bodies r (h.0.uneventful 0 (omega arith))) (no_repeater_rows t (k + 1) n rs h.1)

-- a network in which nothing happens for n half bits
pub record IsCalm (n : ℕ) (x : Net) : Type 0 where
  pub near : AllByRecursion (λ p. p.at ≤ greatest_place) x.taps
  pub silent : (back q : ℕ) → back ≤ greatest_place → q < length x.taps → emitted_before x.emitted back q ≡ Idle
  pub taps : length x.taps ≡ length x.senders + ports_of x.repeaters
  pub receiving : length x.receivers ≡ length x.senders
  pub capturing : length x.captures ≡ length x.senders
  pub senders : AllByRecursion (Waits n) x.senders
  pub receivers : AllByRecursion (λ r. r.halves ≡ []) x.receivers
  pub repeaters : AllByRecursion (IsSilent n) x.repeaters

-- the network one half bit later
pub record IsCalmNext (x y : Net) : Type 0 where
  pub senders : y.senders ≡ map (λ s. (sender_step s Idle).state) x.senders
  pub receivers : y.receivers ≡ map (λ r. (receiver_step r Idle false).state) x.receivers
  pub repeaters : y.repeaters ≡ map silent_step x.repeaters
  pub emitted : IsIdleRow (emitted_in x)
  pub decided : IsIdleRow (decided_in x)
  pub rows : y.rows ≡ x.rows
  pub captures : y.captures ≡ x.captures

module _ (n : ℕ) (x : Net) (c : IsCalm (suc n) x) where
  hears : heard_in x ≡ replicate (length x.taps) Idle
  hears = all_hear_idle (emitted_before x.emitted) x.taps 0 x.taps (λ back m b l. c.silent back m b l) c.near c.near

  stations : stations_hear x ≡ replicate (length x.senders) Idle
  stations = ap (take (length x.senders)) hears ∙ take-replicate (length x.senders) (length x.taps) Idle (let all = c.taps in omega (arith, all))

  ports : ports_hear x ≡ replicate (ports_of x.repeaters) Idle
  ports =
      ap (drop (length x.senders)) hears ∙ drop-replicate (length x.senders) (length x.taps) Idle
      ∙ (let all = c.taps in let left : length x.taps - length x.senders ≡ ports_of x.repeaters = omega (arith, all) in ap (λ k. replicate k Idle) left)

  sends : sendings_in x ≡ map (λ s. sender_step s Idle) x.senders
  sends = ap (λ hs. sendings hs x.senders) stations ∙ sendings_idle x.senders

  emits : stations_emit x ≡ replicate (length x.senders) Idle
  emits = ap (map (λ (o : SendOutcome). o.emitted)) sends ∙ emissions_idle n x.senders c.senders

  receives : receptions_in x ≡ map (λ r. receiver_step r Idle false) x.receivers
  receives =
      ap₂ (λ hs es. receptions hs es x.receivers) (stations ∙ ap (λ k. replicate k Idle) (sym c.receiving)) (emits ∙ ap (λ k. replicate k Idle) (sym c.receiving))
      ∙ receptions_idle x.receivers

  repeats : {X : Type 0} (f : List Sym → RepeaterDevice → X) → each_repeater f (ports_hear x) x.repeaters ≡ map (λ r. f (silent_symbols r) r) x.repeaters
  repeats f = ap (λ hs. each_repeater f hs x.repeaters) ports ∙ each_silent f (ports_of x.repeaters) x.repeaters (omega arith)

  rows_none : rows_in x ≡ []
  rows_none =
      ap₂ (λ (a b : List Row). a ++ b)
      (ap₂ (λ (os : List SendOutcome) (rs : List Reception). rows_of x.t 0 (map (λ o. o.event) os) (map (λ r. r.event) rs)) sends receives
      ∙ no_rows x.t 0 (map (λ o. o.event) (map (λ s. sender_step s Idle) x.senders)) (map (λ o. o.event) (map (λ r. receiver_step r Idle false) x.receivers)) (no_sent n x.senders c.senders) (no_received x.receivers c.receivers))
      (ap (repeater_rows x.t (length x.senders)) (repeats repeater_bodies) ∙ no_repeater_rows x.t (length x.senders) n x.repeaters c.repeaters)

  many_receptions : {X : Type 0} (f : Reception → X) → length (map f (map (λ r. receiver_step r Idle false) x.receivers)) ≡ length x.captures
  many_receptions f = length-map (map (λ r. receiver_step r Idle false) x.receivers) f ∙ length-map x.receivers (λ r. receiver_step r Idle false) ∙ c.receiving ∙ sym c.capturing

  pub calm_next : IsCalmNext x (next x)
  calm_next = record {
    senders = ap (map (λ (o : SendOutcome). o.state)) sends ∙ states_of x.senders;
    receivers = ap (map (λ (r : Reception). r.state)) receives ∙ states_after x.receivers;
    repeaters = repeats after ∙ afters_silent x.repeaters;
    emitted = idle_append (stations_emit x) (flat_map emitted_by x.repeaters) (subst IsIdleRow (sym emits) (idle_replicate (length x.senders))) (emitted_idle n x.repeaters c.repeaters);
    decided = subst (λ (ds : List (List Sym)). IsIdleRow (flat_map (λ symbols. symbols) ds)) (sym (repeats decided_by)) (decided_idle n x.repeaters c.repeaters);
    rows = ap (λ (rs : List Row). x.rows ++ rs) rows_none ∙ append-nil x.rows;
    captures =
        ap (λ (rs : List Reception). captured x.t (map (λ r. r.event) rs) (map (λ r. r.octets) rs) x.captures) receives
        ∙ no_captures x.t _ _ x.captures (no_received x.receivers c.receivers) (many_receptions (λ r. r.event)) (many_receptions (λ r. r.octets));
  }

  pub calm_on : IsCalm n (next x)
  calm_on =
      let k = calm_next in
      let many : length (next x).senders ≡ length x.senders = ap length k.senders ∙ length-map x.senders (λ s. (sender_step s Idle).state) in
      record {
        near = c.near;
        silent = λ back q b l. idle_before (emitted_in x) x.emitted back greatest_place q k.emitted (λ z m. c.silent z q m l) b;
        taps = c.taps ∙ ap₂ (λ a b. a + b) (sym many) (sym (ap ports_of k.repeaters ∙ ports_stay n x.repeaters c.repeaters));
        receiving = ap length k.receivers ∙ length-map x.receivers (λ r. (receiver_step r Idle false).state) ∙ c.receiving ∙ sym many;
        capturing = ap length k.captures ∙ c.capturing ∙ sym many;
        senders = subst (AllByRecursion (Waits n)) (sym k.senders) (all_wait_on n x.senders c.senders);
        receivers = subst (AllByRecursion (λ (r : Receiving). r.halves ≡ [])) (sym k.receivers) (all_rest_on x.receivers c.receivers);
        repeaters = subst (AllByRecursion (IsSilent n)) (sym k.repeaters) (all_silent_on n x.repeaters c.repeaters);
      }
