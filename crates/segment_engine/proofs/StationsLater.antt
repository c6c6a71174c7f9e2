-- Stations several half bits later, where none of them writes a row.
use Rattle.std.proofs.Common.{◌≡◌, ℕ, zero, suc, ◌+◌, ◌<◌, ◌≤◌, Bool, true, false, List, [], ◌∷◌, ◌++◌, length, replicate, get_or, Option, Some, None, refl, sym, ap, ap₂, ◌∙◌, arith}
use Rattle.std.specs.Prelude.{if◌then◌else◌}
use Rattle.std.proofs.lemmas.List.{append-nil}
use Rattle.manchester_line.specs.declared.Sym.{Sym}
use Rattle.manchester_line.specs.declared.Sym.TheVariants.{Idle}
use Rattle.manchester_line.specs.Line.{is_signal}
use Rattle.collision_log.specs.declared.row.Body.{Body}
use Rattle.collision_log.specs.declared.row.Row.{Row}
use Rattle.load_plan.specs.declared.plan.Plan.{Plan}
use Rattle.mac_transmit.specs.Sender.{Sender, sender_step}
use Rattle.mac_transmit.specs.Calm.{after_all, AreCalm}
use Rattle.mac_receive.specs.KeptReceiver.{KeptReception, Hears}
use Rattle.mac_receive.specs.Receiver.{Receiving, quiet, reception_ended, receiver_step, receiver_after, receiver_bodies, with_event}
use Rattle.network.specs.declared.outputs.Taken.{Taken}
use Rattle.network.specs.Attempts.{sender_at}
use Rattle.network.specs.Captures.{taken_by}
use Rattle.network.specs.Rows.{row_of}
use Rattle.network.specs.Times.{heard, emitted}
use Rattle.net_parts.specs.Windows.{lookahead}
use Rattle.net_parts.specs.Machines.{span}
use Rattle.net_parts.specs.SegmentParts.{Wiring, wiring}
use Rattle.net_parts.specs.Standing.{receiver_at, captures_at, rows_of_devices}
use Rattle.net_parts.proofs.NetworkFacts.{station_facts}
use Rattle.net_parts.proofs.LookaheadLeads.{leads}
use Rattle.net_parts.proofs.DeviceSteps.{receiver_next, capture_next}
use Rattle.net_parts.proofs.SegmentSteps.{below}
use Rattle.window_room.specs.Rooms.{captures_with}
use Rattle.segment_engine.specs.StationsApart.{heard_reception, sent_event}
use Rattle.segment_engine.proofs.RowsOfBoth.{rows_by, rows_of_nothing}

-- a sender calm over half bits gives no event in the last of them
pub last_calm : (s : Sender) (hs : List Sym) (h : Sym) → AreCalm s (hs ++ h ∷ []) → (sender_step (after_all s hs) h).event ≡ None
last_calm s [] h c = c.0.no_event
last_calm s (x ∷ hs) h c = last_calm (sender_step s x).state hs h c.1

pub with_none : (e : Option Body) (bodies : List Body) → with_event e bodies ≡ [] → (e ≡ None) × (bodies ≡ [])
with_none None bodies h = (refl, h)
with_none (Some body) bodies h = absurd (let n = ap length h in omega (arith, n))

-- nor does a receiver without rows over half bits
pub last_still : (r : Receiving) (hs : List Sym) (h : Sym) (sending : Bool) → receiver_bodies r (hs ++ h ∷ []) sending ≡ [] → (receiver_step (receiver_after r hs sending) h sending).event ≡ None
last_still r [] h sending none = (with_none (receiver_step r h sending).event [] none).0
last_still r (x ∷ hs) h sending none =
    last_still (receiver_step r x sending).state hs h sending (with_none (receiver_step r x sending).event (receiver_bodies (receiver_step r x sending).state (hs ++ h ∷ []) sending) none).1

-- nor one at rest that hears Idle
idle_step : (r : Receiving) (deaf : Bool) (hs : List Sym) → r.halves ≡ [] → hs ≡ [] →
    let one = (if deaf then quiet (record r { deaf = false; halves = [] }) else reception_ended r hs) in
    (one.event ≡ None) × (one.state.halves ≡ [])
idle_step r true hs h e = (refl, refl)
idle_step r false [] h e = (refl, h)
idle_step r false (x ∷ hs) h e = absurd (let n = ap length e in omega (arith, n))

pub no_bodies : (n : ℕ) (r : Receiving) → r.halves ≡ [] → receiver_bodies r (replicate n Idle) false ≡ []
no_bodies zero r h = refl
no_bodies (suc n) r h =
    let one = idle_step r r.deaf r.halves h h in
    ap₂ with_event one.0 (no_bodies n (receiver_step r Idle false).state one.1)

nothing : (xs : List Sym) → length xs ≡ 0 → xs ≡ []
nothing [] h = refl
nothing (x ∷ xs) h = absurd (omega (arith, h))

pub no_halves : (r : Receiving) (k : KeptReception) → k.halves ≡ 0 → Hears r k → r.halves ≡ []
no_halves r k rest h = nothing r.halves (sym h.count ∙ rest)

-- no capture
no_capture : (t : ℕ) (e : Option Body) (os : List ℕ) → e ≡ None → taken_by t e os ≡ []
no_capture t e os is = ap (λ x. taken_by t x os) is

-- nothing is logged or captured where there is no event
pub same_rows : (t device : ℕ) (e : Option Body) (rows : List Row) → e ≡ None → rows ≡ rows ++ row_of t device e
same_rows t device e rows is = sym (ap (λ x. rows ++ row_of t device x) is ∙ append-nil rows)

with_nothing : (k : ℕ) (cs : List (List Taken)) → k < length cs → captures_with k [] cs ≡ cs
with_nothing k [] l = absurd (omega (arith, l))
with_nothing zero (c ∷ cs) l = ap (λ x. x ∷ cs) (append-nil c)
with_nothing (suc k) (c ∷ cs) l = ap (λ x. c ∷ x) (with_nothing k cs (omega (arith, l)))

pub same_captures : (t k : ℕ) (e : Option Body) (os : List ℕ) (cs : List (List Taken)) → k < length cs → e ≡ None → cs ≡ captures_with k (taken_by t e os) cs
same_captures t k e os cs l is = sym (ap (λ x. captures_with k (taken_by t x os) cs) is ∙ with_nothing k cs l)

module _ (plan : Plan) (k : ℕ) (station : k < length plan.layout.stations) where
  -- a sender after several half bits
  pub sender_runs : (j t : ℕ) → sender_at plan k (t + j) ≡ after_all (sender_at plan k t) (span (heard plan k) t j)
  sender_runs zero t = let e : t + 0 ≡ t = omega arith in ap (sender_at plan k) e
  sender_runs (suc j) t =
      let e : t + suc j ≡ suc t + j = omega arith in
      ap (sender_at plan k) e ∙ sender_runs j (suc t) ∙ ap (λ x. after_all x (span (heard plan k) (suc t) j)) ((station_facts plan).steps k t station)

  -- and a receiver, where its station sends in all of them or in none
  pub receiver_runs : (sending : Bool) (j t : ℕ) → ((i : ℕ) → i < j → is_signal (emitted plan k (t + i)) ≡ sending) → receiver_at plan k (t + j) ≡ receiver_after (receiver_at plan k t) (span (heard plan k) t j) sending
  receiver_runs sending zero t same = let e : t + 0 ≡ t = omega arith in ap (receiver_at plan k) e
  receiver_runs sending (suc j) t same =
      let e : t + suc j ≡ suc t + j = omega arith in
      let now : is_signal (emitted plan k t) ≡ sending = (let z : t ≡ t + 0 = omega arith in ap (λ u. is_signal (emitted plan k u)) z) ∙ same 0 (omega arith) in
      ap (receiver_at plan k) e
      ∙ receiver_runs sending j (suc t) (λ i h. (let z : suc t + i ≡ t + suc i = omega arith in ap (λ u. is_signal (emitted plan k u)) z) ∙ same (suc i) (omega arith))
      ∙ ap (λ x. receiver_after x (span (heard plan k) (suc t) j) sending) (receiver_next plan (station_facts plan) k t station ∙ ap (λ b. (receiver_step (receiver_at plan k t) (heard plan k t) b).state) now)

module _ (plan : Plan) (s : ℕ) where
  abbrev w : Wiring
  w = wiring plan.layout s

  abbrev ks : List ℕ
  ks = w.stations

  pub station : (r : ℕ) → r < length ks → get_or ks r 0 < length plan.layout.stations
  station r h = below plan (station_facts plan) (lookahead plan.layout) s 0 (leads plan.layout) r h

  -- a half bit in which nothing happens
  quiet_row : (u : ℕ) → ((r : ℕ) → r < length ks → (sent_event plan (get_or ks r 0) u ≡ None) × ((heard_reception plan (get_or ks r 0) u).event ≡ None)) →
      rows_of_devices plan ks (suc u) ≡ rows_of_devices plan ks u
  quiet_row u none =
      rows_by plan s u
      ∙ ap (λ xs. rows_of_devices plan ks u ++ xs)
      (rows_of_nothing u ks (λ i. sent_event plan (get_or ks i 0) u) (λ i. (heard_reception plan (get_or ks i 0) u).event) (length ks) none)
      ∙ append-nil (rows_of_devices plan ks u)

  module _ (t m : ℕ)
      (none : (r j : ℕ) → r < length ks → j < m → ((sender_step (sender_at plan (get_or ks r 0) (t + j)) (heard plan (get_or ks r 0) (t + j))).event ≡ None)
      × ((receiver_step (receiver_at plan (get_or ks r 0) (t + j)) (heard plan (get_or ks r 0) (t + j)) (is_signal (emitted plan (get_or ks r 0) (t + j)))).event ≡ None)) where
    rows_to : (j : ℕ) → j ≤ m → rows_of_devices plan ks (t + j) ≡ rows_of_devices plan ks t
    rows_to zero h = let e : t + 0 ≡ t = omega arith in ap (rows_of_devices plan ks) e
    rows_to (suc j) h =
        let e : t + suc j ≡ suc (t + j) = omega arith in
        ap (rows_of_devices plan ks) e ∙ quiet_row (t + j) (λ r l. none r j l (omega arith)) ∙ rows_to j (omega arith)

    pub rows_stay : rows_of_devices plan ks (t + m) ≡ rows_of_devices plan ks t
    rows_stay = rows_to m (omega arith)

    pub captures_to : (r j : ℕ) → r < length ks → j ≤ m → captures_at plan (get_or ks r 0) (t + j) ≡ captures_at plan (get_or ks r 0) t
    captures_to r zero l h = let e : t + 0 ≡ t = omega arith in ap (captures_at plan (get_or ks r 0)) e
    captures_to r (suc j) l h =
        let k = get_or ks r 0 in
        let u = t + j in
        let e : t + suc j ≡ suc u = omega arith in
        let one = receiver_step (receiver_at plan k u) (heard plan k u) (is_signal (emitted plan k u)) in
        ap (captures_at plan k) e
        ∙ capture_next plan (station_facts plan) k u (station r l)
        ∙ ap (λ xs. captures_at plan k u ++ xs) (no_capture u one.event one.octets (none r j l (omega arith)).1)
        ∙ append-nil (captures_at plan k u)
        ∙ captures_to r j l (omega arith)
