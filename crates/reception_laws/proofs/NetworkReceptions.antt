-- The receptions of the stations in the network of a plan.
use Rattle.std.proofs.Common.{◌≡◌, eqb, ℕ, zero, suc, ◌+◌, ◌-◌, ◌*◌, ◌<◌, ◌≤◌, ◌⊎◌, inl, inr, Bool, true, false, cond, None, List, [], ◌∷◌, length, drop, length-drop, get_or, refl, sym, subst, ap, ap₂, ◌∙◌, arith}
use Rattle.std.specs.List.{Contains}
use Rattle.std.proofs.lemmas.Bool.{cases_lt, false≢true}
use Rattle.std.proofs.lemmas.List.{get_or-map, get_or-drop}
use Rattle.manchester_line.specs.declared.Sym.{Sym}
use Rattle.manchester_line.specs.declared.Sym.TheVariants.{Idle, Hi, Lo, Clash}
use Rattle.manchester_line.specs.Line.{is_signal}
use Rattle.mac_parameters.specs.Parameters.{IsMost, most_octets}
use Rattle.frame_layout.specs.Frame.{verdict_of}
use Rattle.collision_log.specs.declared.row.Body.TheVariants.{Dropped}
use Rattle.collision_log.specs.declared.row.Why.TheVariants as why
use Rattle.layout.specs.declared.lines.StationLine.{StationLine}
use Rattle.load_plan.specs.declared.plan.Plan.{Plan}
use Rattle.mac_receive.specs.Receiver.{Receiving, Reception, new_receiving, quiet, reception_ended, extended, receiver_step, receiver_after, left_halves}
use Rattle.network.specs.Net.{new_receiver}
use Rattle.network.specs.Times.{heard, emitted}
use Rattle.net_parts.specs.Machines.{span}
use Rattle.net_parts.specs.Standing.{receiver_at}
use Rattle.net_parts.proofs.NetworkFacts.{station_facts}
use Rattle.net_parts.proofs.DeviceSteps.{receiver_next}
use Rattle.net_parts.proofs.RepeaterSteps.{length-span, get_or-span}
use Rattle.reception_laws.specs.WholeReceptions.{IsAllSignal, AwaitsReception, idle_after, TextVerdict, verdict_of_text, HasVerdict, row_alone, frame_received, spoiled_row}
use Rattle.reception_laws.specs.NetworkReceptions.{HearsCarrier, HearsIdle, EmitsSignal, EmitsIdle, reception_at, text_heard, WritesNoRow, lost_bits, octets_allowed, IsDeaf, HearsSince, IsReception, EndsAs, ReceiversFollow, LostBitsStay, AllowedOctetsStay, ReceiversAwaitFirst, ReceiversAwaitNext, AwaitingReceiversWriteNothing, SendersTurnDeaf, DeafReceiversWriteNothing, ReceptionsAreUnderWay, ReceptionsEndAsTold, OneTextOneVerdict, OneLineOneVerdict, ShortReceptionsAreFragments, ClashesSpoilReceptions, GoodFramesAreReceived}
use Rattle.reception_laws.proofs.ReceptionsHeard.{with_halves, halves_heard, text_under_way, no_event}
use Rattle.reception_laws.proofs.ReceivedFrames.{good_frame_is_received}
use Rattle.reception_laws.proofs.WholeReceptions.{whole_text_is_told, short_text_is_fragment, clash_spoils_text, idle_ends_reception}

-- a receiver after n half bits
runs : (plan : Plan) (k : ℕ) (sending : Bool) (n u : ℕ) → k < length plan.layout.stations →
    ((i : ℕ) → i < n → is_signal (emitted plan k (u + i)) ≡ sending) → receiver_at plan k (u + n) ≡ receiver_after (receiver_at plan k u) (span (heard plan k) u n) sending
runs plan k sending zero u station same = let e : u + 0 ≡ u = omega arith in ap (receiver_at plan k) e
runs plan k sending (suc n) u station same =
    let e : u + suc n ≡ suc u + n = omega arith in
    let here : u ≡ u + 0 = omega arith in
    let now : is_signal (emitted plan k u) ≡ sending = ap (λ v. is_signal (emitted plan k v)) here ∙ same 0 (omega arith) in
    ap (receiver_at plan k) e
    ∙ runs plan k sending n (suc u) station (λ i h. (let z : suc u + i ≡ u + suc i = omega arith in ap (λ v. is_signal (emitted plan k v)) z) ∙ same (suc i) (omega (arith, h)))
    ∙ ap (λ x. receiver_after x (span (heard plan k) (suc u) n) sending) (receiver_next plan (station_facts plan) k u station ∙ ap (λ b. (receiver_step (receiver_at plan k u) (heard plan k u) b).state) now)

pub receivers_follow : ReceiversFollow
receivers_follow plan k from to sending station order same =
    let e : to ≡ from + (to - from) = omega (arith, order) in
    ap (receiver_at plan k) e ∙ runs plan k sending (to - from) from station (λ i h. same (from + i) (omega arith) (omega (arith, h, order)))

-- a receiver's limits stay
kept_limits : (b : Bool) (x y : Reception) (lose most : ℕ) → (x.state.lose ≡ lose) × (x.state.most ≡ most) → (y.state.lose ≡ lose) × (y.state.most ≡ most) → ((cond b x y).state.lose ≡ lose) × ((cond b x y).state.most ≡ most)
kept_limits true x y lose most a c = a
kept_limits false x y lose most a c = c

limits_at_end : (r : Receiving) (hs : List Sym) → ((reception_ended r hs).state.lose ≡ r.lose) × ((reception_ended r hs).state.most ≡ r.most)
limits_at_end r [] = (refl, refl)
limits_at_end r (s ∷ ss) = (refl, refl)

limits_step : (r : Receiving) (h : Sym) (sending : Bool) → ((receiver_step r h sending).state.lose ≡ r.lose) × ((receiver_step r h sending).state.most ≡ r.most)
limits_step r h true = (refl, refl)
limits_step r Idle false = kept_limits r.deaf (quiet (record r { deaf = false; halves = [] })) (reception_ended r r.halves) r.lose r.most (refl, refl) (limits_at_end r r.halves)
limits_step r Hi false = kept_limits r.deaf (quiet r) (extended r Hi) r.lose r.most (refl, refl) (refl, refl)
limits_step r Lo false = kept_limits r.deaf (quiet r) (extended r Lo) r.lose r.most (refl, refl) (refl, refl)
limits_step r Clash false = kept_limits r.deaf (quiet r) (extended r Clash) r.lose r.most (refl, refl) (refl, refl)

-- a line of the layout, for lists that end
no_line : StationLine
no_line = record { name = []; segment = 0; at = 0; lose = 0; load = None }

-- a receiver before half bit 0
first_receiver : (plan : Plan) (k : ℕ) → k < length plan.layout.stations → receiver_at plan k 0 ≡ new_receiver (octets_allowed plan) (get_or plan.layout.stations k no_line)
first_receiver plan k h = get_or-map (new_receiver (octets_allowed plan)) plan.layout.stations k no_line (new_receiving 0 0) h

pub lost_bits_stay : LostBitsStay
lost_bits_stay plan k zero station =
    ap (λ (r : Receiving). r.lose) (first_receiver plan k station) ∙ sym (get_or-map (λ (s : StationLine). s.lose) plan.layout.stations k no_line 0 station)
lost_bits_stay plan k (suc t) station =
    ap (λ (r : Receiving). r.lose) (receiver_next plan (station_facts plan) k t station)
    ∙ (limits_step (receiver_at plan k t) (heard plan k t) (is_signal (emitted plan k t))).0
    ∙ lost_bits_stay plan k t station

pub allowed_octets_stay : AllowedOctetsStay
allowed_octets_stay plan k zero station = ap (λ (r : Receiving). r.most) (first_receiver plan k station)
allowed_octets_stay plan k (suc t) station =
    ap (λ (r : Receiving). r.most) (receiver_next plan (station_facts plan) k t station)
    ∙ (limits_step (receiver_at plan k t) (heard plan k t) (is_signal (emitted plan k t))).1
    ∙ allowed_octets_stay plan k t station

pub receivers_await_first : ReceiversAwaitFirst
receivers_await_first plan k station =
    let P : Receiving → Type 0 = AwaitsReception in
    subst P (sym (first_receiver plan k station)) (record { hearing = refl; none = refl })

idle_of : (s : Sym) → is_signal s ≡ false → s ≡ Idle
idle_of Idle h = refl
idle_of Hi h = absurd (false≢true (sym h))
idle_of Lo h = absurd (false≢true (sym h))
idle_of Clash h = absurd (false≢true (sym h))

not_idle : (s : Sym) → is_signal s ≡ true → s ≡ Idle → ⊥
not_idle s h e = false≢true (sym (ap is_signal e) ∙ h)

-- a half bit of Idle without sending
idle_half : (plan : Plan) (k t : ℕ) → HearsIdle plan k t → EmitsIdle plan k t → reception_at plan k t ≡ receiver_step (receiver_at plan k t) Idle false
idle_half plan k t idle silent = ap₂ (receiver_step (receiver_at plan k t)) (idle_of (heard plan k t) idle) silent

pub receivers_await_next : ReceiversAwaitNext
receivers_await_next plan k t station idle silent =
    let P : Receiving → Type 0 = AwaitsReception in
    subst P
    (sym (receiver_next plan (station_facts plan) k t station ∙ ap (λ (r : Reception). r.state) (idle_half plan k t idle silent)))
    (idle_ends_reception (receiver_at plan k t))

-- a receiver that awaits a reception makes nothing of Idle
awaiting_step : (r : Receiving) → AwaitsReception r → receiver_step r Idle false ≡ quiet r
awaiting_step r h = ap₂ (λ (b : Bool) (hs : List Sym). cond b (quiet (record r { deaf = false; halves = [] })) (reception_ended r hs)) h.hearing h.none

awaiting_for : (plan : Plan) (k n u : ℕ) → k < length plan.layout.stations → AwaitsReception (receiver_at plan k u) →
    ((i : ℕ) → i < n → HearsIdle plan k (u + i) × EmitsIdle plan k (u + i)) → receiver_at plan k (u + n) ≡ receiver_at plan k u
awaiting_for plan k zero u station awaits idle = let e : u + 0 ≡ u = omega arith in ap (receiver_at plan k) e
awaiting_for plan k (suc n) u station awaits idle =
    let e : u + suc n ≡ suc u + n = omega arith in
    let here : u + 0 ≡ u = omega arith in
    let Idles : ℕ → Type 0 = λ v. HearsIdle plan k v × EmitsIdle plan k v in
    let now : Idles u = subst Idles here (idle 0 (omega arith)) in
    let one : receiver_at plan k (suc u) ≡ receiver_at plan k u =
    receiver_next plan (station_facts plan) k u station ∙ ap (λ (r : Reception). r.state) (idle_half plan k u now.0 now.1 ∙ awaiting_step (receiver_at plan k u) awaits) in
    let P : Receiving → Type 0 = AwaitsReception in
    ap (receiver_at plan k) e
    ∙ awaiting_for plan k n (suc u) station (subst P (sym one) awaits) (λ i h. let z : u + suc i ≡ suc u + i = omega arith in subst Idles z (idle (suc i) (omega (arith, h))))
    ∙ one

pub awaiting_receivers_write_nothing : AwaitingReceiversWriteNothing
awaiting_receivers_write_nothing plan k from to station order awaits idle =
    let until : (v : ℕ) → from ≤ v → v ≤ to → receiver_at plan k v ≡ receiver_at plan k from =
    λ v after before.
    let e : v ≡ from + (v - from) = omega (arith, after) in
    ap (receiver_at plan k) e ∙ awaiting_for plan k (v - from) from station awaits (λ i h. idle (from + i) (omega arith) (omega (arith, h, before))) in
    let P : Receiving → Type 0 = AwaitsReception in
    let unwritten : WritesNoRow plan k from to =
    λ u after before.
    let now = idle u after before in
    ap (λ (r : Reception). r.event) (idle_half plan k u now.0 now.1 ∙ awaiting_step (receiver_at plan k u) (subst P (sym (until u after (omega (arith, before)))) awaits)) in
    (until to order (omega arith), unwritten)

-- a deaf receiver makes nothing of a signal
deaf_same : (r : Receiving) (h : Sym) → r.deaf ≡ true → is_signal h ≡ true → receiver_step r h false ≡ quiet r
deaf_same r Idle d c = absurd (false≢true c)
deaf_same r Hi d c = ap (λ (b : Bool). cond b (quiet r) (extended r Hi)) d
deaf_same r Lo d c = ap (λ (b : Bool). cond b (quiet r) (extended r Lo)) d
deaf_same r Clash d c = ap (λ (b : Bool). cond b (quiet r) (extended r Clash)) d

deaf_step : (r : Receiving) (h : Sym) (sending : Bool) → IsDeaf r → (sending ≡ true) ⊎ (is_signal h ≡ true) → IsDeaf (receiver_step r h sending).state
deaf_step r h true d s = record { deaf = refl; none = refl }
deaf_step r h false d (inl e) = absurd (false≢true e)
deaf_step r h false d (inr c) = let P : Reception → Type 0 = λ x. IsDeaf x.state in subst P (sym (deaf_same r h d.deaf c)) d

-- and it writes no row, whatever comes
deaf_unwritten : (r : Receiving) (h : Sym) (sending : Bool) → r.deaf ≡ true → (receiver_step r h sending).event ≡ None
deaf_unwritten r h true d = refl
deaf_unwritten r Idle false d = ap (λ (b : Bool). (cond b (quiet (record r { deaf = false; halves = [] })) (reception_ended r r.halves)).event) d
deaf_unwritten r Hi false d = ap (λ (b : Bool). (cond b (quiet r) (extended r Hi)).event) d
deaf_unwritten r Lo false d = ap (λ (b : Bool). (cond b (quiet r) (extended r Lo)).event) d
deaf_unwritten r Clash false d = ap (λ (b : Bool). (cond b (quiet r) (extended r Clash)).event) d

-- one half bit of sending
sent_half : (plan : Plan) (k t : ℕ) → EmitsSignal plan k t → reception_at plan k t ≡ receiver_step (receiver_at plan k t) (heard plan k t) true
sent_half plan k t sends = ap (receiver_step (receiver_at plan k t) (heard plan k t)) sends

pub senders_turn_deaf : SendersTurnDeaf
senders_turn_deaf plan k t station sends =
    let P : Receiving → Type 0 = IsDeaf in
    let unwritten : WritesNoRow plan k t (suc t) =
    λ u after before.
    let e : u ≡ t = omega (arith, after, before) in
    ap (λ v. (reception_at plan k v).event) e ∙ ap (λ (r : Reception). r.event) (sent_half plan k t sends) in (
      subst P
          (sym (receiver_next plan (station_facts plan) k t station ∙ ap (λ (r : Reception). r.state) (sent_half plan k t sends)))
          (record { deaf = refl; none = refl }),
      unwritten,
    )

deaf_for : (plan : Plan) (k n u : ℕ) → k < length plan.layout.stations → IsDeaf (receiver_at plan k u) →
    ((i : ℕ) → i < n → EmitsSignal plan k (u + i) ⊎ HearsCarrier plan k (u + i)) → IsDeaf (receiver_at plan k (u + n))
deaf_for plan k zero u station deaf busy = let e : u ≡ u + 0 = omega arith in let P : ℕ → Type 0 = λ v. IsDeaf (receiver_at plan k v) in subst P e deaf
deaf_for plan k (suc n) u station deaf busy =
    let e : suc u + n ≡ u + suc n = omega arith in
    let here : u + 0 ≡ u = omega arith in
    let Busy : ℕ → Type 0 = λ v. EmitsSignal plan k v ⊎ HearsCarrier plan k v in
    let P : Receiving → Type 0 = IsDeaf in
    let Q : ℕ → Type 0 = λ v. IsDeaf (receiver_at plan k v) in
    let one : IsDeaf (receiver_at plan k (suc u)) =
    subst P (sym (receiver_next plan (station_facts plan) k u station))
    (deaf_step (receiver_at plan k u) (heard plan k u) (is_signal (emitted plan k u)) deaf (subst Busy here (busy 0 (omega arith)))) in
    subst Q e (deaf_for plan k n (suc u) station one (λ i h. let z : u + suc i ≡ suc u + i = omega arith in subst Busy z (busy (suc i) (omega (arith, h)))))

pub deaf_receivers_write_nothing : DeafReceiversWriteNothing
deaf_receivers_write_nothing plan k from to station order deaf busy =
    let Q : ℕ → Type 0 = λ v. IsDeaf (receiver_at plan k v) in
    let until : (v : ℕ) → from ≤ v → v ≤ to → IsDeaf (receiver_at plan k v) =
    λ v after before.
    let e : from + (v - from) ≡ v = omega (arith, after) in
    subst Q e (deaf_for plan k (v - from) from station deaf (λ i h. busy (from + i) (omega arith) (omega (arith, h, before)))) in
    let unwritten : WritesNoRow plan k from (suc to) =
    λ u after before.
    deaf_unwritten (receiver_at plan k u) (heard plan k u) (is_signal (emitted plan k u)) (until u after (omega (arith, before))).deaf in
    (until to order (omega arith), unwritten)

-- what was heard so far, and what is heard from now on
pub hears_from : (plan : Plan) (k t : ℕ) → k < length plan.layout.stations → AwaitsReception (receiver_at plan k t) → HearsSince plan k t t
hears_from plan k t station awaits =
    record {
      station = station;
      begins = omega arith;
      awaits = awaits;
      carrier = λ u after before. absurd (omega (arith, after, before));
      silent = λ u after before. absurd (omega (arith, after, before));
    }

pub hears_on : (plan : Plan) (k begun t u : ℕ) → HearsSince plan k begun t → t ≤ u →
    ((v : ℕ) → t ≤ v → v < u → HearsCarrier plan k v) → ((v : ℕ) → t ≤ v → v < u → EmitsIdle plan k v) → HearsSince plan k begun u
hears_on plan k begun t u h later carrier silent =
    let begins = h.begins in
    record {
      station = h.station;
      begins = omega (arith, begins, later);
      awaits = h.awaits;
      carrier = λ v after before. elim (cases_lt v t) [
        | inl old ↦ h.carrier v after old
        | inr new ↦ carrier v new before
      ];
      silent = λ v after before. elim (cases_lt v t) [
        | inl old ↦ h.silent v after old
        | inr new ↦ silent v new before
      ];
    }

pub hears_until : (plan : Plan) (k begun u t : ℕ) → begun ≤ u → u ≤ t → HearsSince plan k begun t → HearsSince plan k begun u
hears_until plan k begun u t after before h =
    record {
      station = h.station;
      begins = after;
      awaits = h.awaits;
      carrier = λ v a b. h.carrier v a (omega (arith, b, before));
      silent = λ v a b. h.silent v a (omega (arith, b, before));
    }

signals_heard : (plan : Plan) (k begun t : ℕ) → HearsSince plan k begun t → IsAllSignal (text_heard plan k begun t)
signals_heard plan k begun t h = λ i d l.
    let size = length-span (heard plan k) begun (t - begun) in
    let inside : i < t - begun = omega (arith, l, size) in
    λ is. not_idle (heard plan k (begun + i)) (h.carrier (begun + i) (omega arith) (omega (arith, inside))) (sym (get_or-span (heard plan k) begun (t - begun) i d inside) ∙ is)

heard_since : (plan : Plan) (k begun t : ℕ) → HearsSince plan k begun t → receiver_at plan k t ≡ receiver_after (receiver_at plan k begun) (text_heard plan k begun t) false
heard_since plan k begun t h = receivers_follow plan k begun t false h.station h.begins h.silent

no_row : (plan : Plan) (k begun t u : ℕ) → HearsSince plan k begun t → begun ≤ u → u < t → (reception_at plan k u).event ≡ None
no_row plan k begun t u h after before =
    let until : HearsSince plan k begun u = hears_until plan k begun u t after (omega (arith, before)) h in
    let r : Receiving = receiver_at plan k begun in
    let text : List Sym = text_heard plan k begun u in
    let state : receiver_at plan k u ≡ with_halves r.lose r.most text = heard_since plan k begun u until ∙ halves_heard r text h.awaits (signals_heard plan k begun u until) in
    ap₂ (λ x b. (receiver_step x (heard plan k u) b).event) state (h.silent u after before)
    ∙ no_event r.lose r.most text (heard plan k u) (not_idle (heard plan k u) (h.carrier u after before))

pub receptions_are_under_way : ReceptionsAreUnderWay
receptions_are_under_way plan k begun t h =
    record {
      signal = signals_heard plan k begun t h;
      many = length-span (heard plan k) begun (t - begun);
      state = heard_since plan k begun t h ∙ text_under_way (receiver_at plan k begun) (text_heard plan k begun t) h.awaits (signals_heard plan k begun t h);
      unwritten = λ u after before. no_row plan k begun t u h after before;
    }

-- what is made of the Idle after a reception
at_end : (plan : Plan) (k begun t : ℕ) → IsReception plan k begun t → reception_at plan k t ≡ idle_after (receiver_at plan k begun) (text_heard plan k begun t)
at_end plan k begun t whole =
    idle_half plan k t whole.over whole.unsent ∙ ap (λ x. receiver_step x Idle false) (heard_since plan k begun t whole.hears)

-- what holds of the text holds in the network
pub ends_so : (plan : Plan) (k begun t : ℕ) (v : TextVerdict) → IsReception plan k begun t → HasVerdict (receiver_at plan k begun) (text_heard plan k begun t) v → EndsAs plan k begun t v
ends_so plan k begun t v whole has =
    let end = at_end plan k begun t whole in
    record {
      event = ap (λ (r : Reception). r.event) end ∙ has.event;
      octets = ap (λ (r : Reception). r.octets) end ∙ has.octets;
      after = receiver_next plan (station_facts plan) k t whole.hears.station ∙ ap (λ (r : Reception). r.state) end ∙ has.after;
    }

pub receptions_end_as_told : ReceptionsEndAsTold
receptions_end_as_told plan k begun t whole =
    let h = whole.hears in
    let r : Receiving = receiver_at plan k begun in
    let text : List Sym = text_heard plan k begun t in
    let same : verdict_of_text r.lose r.most text ≡ verdict_of_text (lost_bits plan k) (octets_allowed plan) text =
    ap₂ (λ l m. verdict_of_text l m text) (lost_bits_stay plan k begun h.station) (allowed_octets_stay plan k begun h.station) in
    let P : TextVerdict → Type 0 = HasVerdict r text in
    ends_so plan k begun t (verdict_of_text (lost_bits plan k) (octets_allowed plan) text) whole
    (subst P same (whole_text_is_told r text h.awaits (signals_heard plan k begun t h)))

pub one_text_one_verdict : OneTextOneVerdict
one_text_one_verdict plan j a t k b u first second lost text =
    let x = receptions_end_as_told plan j a t first in
    let y = receptions_end_as_told plan k b u second in
    let same : verdict_of_text (lost_bits plan j) (octets_allowed plan) (text_heard plan j a t) ≡ verdict_of_text (lost_bits plan k) (octets_allowed plan) (text_heard plan k b u) =
    ap₂ (λ l xs. verdict_of_text l (octets_allowed plan) xs) lost text in
    record {
      event = x.event ∙ ap (λ (v : TextVerdict). v.event) same ∙ sym y.event;
      octets = x.octets ∙ ap (λ (v : TextVerdict). v.octets) same ∙ sym y.octets;
    }

span_alike : (f g : ℕ → Sym) (a b n : ℕ) → ((i : ℕ) → i < n → f (a + i) ≡ g (b + i)) → span f a n ≡ span g b n
span_alike f g a b zero same = refl
span_alike f g a b (suc n) same =
    let here : a ≡ a + 0 = omega arith in
    let there : b + 0 ≡ b = omega arith in
    ap₂ ◌∷◌ (ap f here ∙ same 0 (omega arith) ∙ ap g there)
    (span_alike f g (suc a) (suc b) n (λ i h.
    let x : suc a + i ≡ a + suc i = omega arith in
    let y : b + suc i ≡ suc b + i = omega arith in
    ap f x ∙ same (suc i) (omega (arith, h)) ∙ ap g y))

pub one_line_one_verdict : OneLineOneVerdict
one_line_one_verdict plan line k back from to whole same =
    let n : to + back - (from + back) ≡ to - from = omega arith in
    let text : text_heard plan k (from + back) (to + back) ≡ span line from (to - from) =
    ap (span (heard plan k) (from + back)) n
    ∙ span_alike (heard plan k) line (from + back) from (to - from) (λ i h.
    let e : from + back + i ≡ from + i + back = omega arith in
    ap (heard plan k) e ∙ same (from + i) (omega arith) (omega (arith, h))) in
    let P : List Sym → Type 0 = λ xs. EndsAs plan k (from + back) (to + back) (verdict_of_text (lost_bits plan k) (octets_allowed plan) xs) in
    subst P text (receptions_end_as_told plan k (from + back) (to + back) whole)

pub short_receptions_are_fragments : ShortReceptionsAreFragments
short_receptions_are_fragments plan k begun t whole some short =
    let h = whole.hears in
    let r : Receiving = receiver_at plan k begun in
    let text : List Sym = text_heard plan k begun t in
    let many : length text ≡ t - begun = length-span (heard plan k) begun (t - begun) in
    let P : ℕ → Type 0 = λ n. HasVerdict r text (row_alone (Dropped why.Fragment n)) in
    ends_so plan k begun t (row_alone (Dropped why.Fragment (t - begun))) whole
    (subst P many (short_text_is_fragment r text h.awaits (signals_heard plan k begun t h) (omega (arith, many, some)) (omega (arith, many, short))))

-- a Clash that is heard behind the lost bits is among the half bits that are left
clash_left : (plan : Plan) (k begun t u lose : ℕ) → begun + 2 * lose ≤ u → u < t → heard plan k u ≡ Clash → Contains (left_halves lose (text_heard plan k begun t)) Clash
clash_left plan k begun t u lose behind before clash =
    let n = t - begun in
    let i = u - begun - 2 * lose in
    let text : List Sym = text_heard plan k begun t in
    let many : length text ≡ n = length-span (heard plan k) begun n in
    let left : length (drop (2 * lose) text) ≡ length text - 2 * lose = length-drop (2 * lose) text in
    let at : begun + (2 * lose + i) ≡ u = omega (arith, behind) in (
      i,
      omega (arith, many, left, behind, before),
      get_or-drop (2 * lose) text i Clash
          ∙ get_or-span (heard plan k) begun n (2 * lose + i) Clash (omega (arith, behind, before))
          ∙ ap (heard plan k) at ∙ clash,
    )

pub clashes_spoil_receptions : ClashesSpoilReceptions
clashes_spoil_receptions plan k begun t u whole behind before clash =
    let h = whole.hears in
    let r : Receiving = receiver_at plan k begun in
    let text : List Sym = text_heard plan k begun t in
    let many : length text ≡ t - begun = length-span (heard plan k) begun (t - begun) in
    let left : Contains (left_halves (lost_bits plan k) text) Clash = clash_left plan k begun t u (lost_bits plan k) behind before clash in
    let P : ℕ → Type 0 = λ l. Contains (left_halves l text) Clash in
    let Q : ℕ → Type 0 = λ n. HasVerdict r text (row_alone (spoiled_row n)) in
    ends_so plan k begun t (row_alone (spoiled_row (t - begun))) whole
    (subst Q many (clash_spoils_text r text h.awaits (signals_heard plan k begun t h) (subst P (sym (lost_bits_stay plan k begun h.station)) left)))

is_most : (tagged : Bool) → IsMost (most_octets tagged)
is_most true = inr refl
is_most false = inl refl

pub good_frames_are_received : GoodFramesAreReceived
good_frames_are_received plan k begun t frame whole none all good is =
    let h = whole.hears in
    let r : Receiving = receiver_at plan k begun in
    let limit : r.most ≡ octets_allowed plan = allowed_octets_stay plan k begun h.station in
    let P : List Sym → Type 0 = λ xs. HasVerdict r xs (frame_received frame) in
    let M : ℕ → Type 0 = λ m. IsMost m in
    ends_so plan k begun t (frame_received frame) whole
    (subst P (sym is)
    (good_frame_is_received r frame h.awaits (lost_bits_stay plan k begun h.station ∙ none) (subst M (sym limit) (is_most (eqb plan.layout.format 2))) all (ap (λ m. verdict_of frame 0 m) limit ∙ good)))
