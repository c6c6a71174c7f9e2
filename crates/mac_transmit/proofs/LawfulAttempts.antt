-- What holds of a sender before each half bit of a run that has no end, given what it emitted and heard before.
use Rattle.std.proofs.Common.{◌≡◌, ◌≢◌, ℕ, zero, suc, ◌+◌, ◌-◌, ◌<◌, ◌≤◌, Bool, true, false, ltb, leb, eqb, ◌&&◌, not, Option, Some, None, List, length, refl, sym, ap, subst, ◌∙◌, inl, inr, arith}
use Rattle.std.specs.Prelude.{◌⊎◌, if◌then◌else◌}
use Rattle.std.proofs.lemmas.Bool.{cases_lt, ltb-true, leb-true, leb-false, and_parts, eqb-true}
use Rattle.mac_parameters.specs.Parameters.{interframe_gap, interframe_gap_part_1, least_frame, shortest_sending}
use Rattle.manchester_line.specs.declared.Sym.{Sym}
use Rattle.manchester_line.specs.declared.Sym.TheVariants.{Idle, Hi, Lo, Clash}
use Rattle.frame_layout.specs.declared.queue.Ready.{Ready}
use Rattle.backoff_draw.specs.Draws.{Drawing}
use Rattle.mac_transmit.specs.declared.deference.Defer.{Defer}
use Rattle.mac_transmit.specs.declared.deference.Defer.TheVariants.{Watch, Busy, Gap}
use Rattle.mac_transmit.specs.declared.phase.Phase.{Phase}
use Rattle.mac_transmit.specs.declared.phase.Phase.TheVariants.{Rest, Waiting, Sending, Backoff}
use Rattle.mac_transmit.specs.Deference.{deferred, free_of, watched}
use Rattle.mac_transmit.specs.Laws.{carrier_after}
use Rattle.mac_transmit.specs.Sender.{Sender, new_sender, no_frame, frame_at, ready_at, line_length, sending_length, symbol_of, sending_ended, finished, promoted, deferring, is_free, sending_started, hit_at, symbol_emitted, emitted_from, emitting, after_turn, sender_step}
use Rattle.manchester_line.specs.Line.{is_signal}
use Rattle.mac_transmit.specs.Attempts.{Attempt, AreFrames, IsHitBy, IsLawful, Finishes, run, emits, AttemptsAreLawful}
use Rattle.mac_transmit.proofs.SenderInvariant.{choose, busy_stays}
use Rattle.mac_transmit.proofs.StartGaps.{sender}
use Rattle.mac_transmit.proofs.EndedSendings.{ended_either}
use Rattle.mac_transmit.proofs.SignalSendings.{IsHitIn, jam_later, symbol_busy, length_least, length_enough}

-- A station that starts hears Idle then, or heard Idle 192 half bits before.
abbrev IsFree : (ℕ → Sym) → ℕ → Type 0
IsFree heard start = (heard start ≡ Idle) ⊎ ((interframe_gap ≤ start) × (heard (start - interframe_gap) ≡ Idle))

-- A sending of these octets that is under way before half bit t.
record IsUnderWay (told heard : ℕ → Sym) (t start : ℕ) (hit : Option ℕ) (octets : List ℕ) : Type 0 where
  text : least_frame ≤ length octets
  begun : start < t
  within : t ≤ start + sending_length octets hit
  in_text : IsHitIn hit (line_length octets)
  before : IsHitIn hit (t - start)
  busy : (u : ℕ) → start ≤ u → u < t → told u ≢ Idle
  heeds : (p : ℕ) → start + p < t → heard (start + p) ≢ Idle → IsHitBy hit p
  free : IsFree heard start

abbrev PhaseHolds : (ℕ → Sym) → (ℕ → Sym) → ℕ → List ℕ → Defer → Phase → Type 0
PhaseHolds told heard t octets defer Rest = Unit {0}
PhaseHolds told heard t octets defer Waiting = least_frame ≤ length octets
PhaseHolds told heard t octets defer (Sending start hit) = IsUnderWay told heard t start hit octets × (defer ≡ Busy true)
PhaseHolds told heard t octets defer (Backoff until) = least_frame ≤ length octets

-- In the first of the k half bits of a gap the station heard Idle.
abbrev DeferHolds : (ℕ → Sym) → ℕ → Defer → Type 0
DeferHolds heard t Watch = Unit {0}
DeferHolds heard t (Busy was) = Unit {0}
DeferHolds heard t (Gap k was) = (k ≤ t) × (heard (t - k) ≡ Idle)

-- What holds of a sender before half bit t.
record Holds (told heard : ℕ → Sym) (t : ℕ) (s : Sender) : Type 0 where
  time : s.t ≡ t
  frames : AreFrames s.queue
  phase : PhaseHolds told heard t (frame_at s.queue s.place) s.defer s.phase
  defer : DeferHolds heard t s.defer

no_carrier : (s : Sym) → false ≡ is_signal s → s ≡ Idle
no_carrier Idle e = refl
no_carrier Hi e = absurd (cc)
no_carrier Lo e = absurd (cc)
no_carrier Clash e = absurd (cc)

carrier : (s : Sym) → s ≢ Idle → is_signal s ≡ true
carrier Idle h = absurd (h refl)
carrier Hi h = refl
carrier Lo h = refl
carrier Clash h = refl

-- deference of a station that isn't sending
watched_holds : (heard : ℕ → Sym) (t : ℕ) (c : Bool) → DeferHolds heard t (watched c)
watched_holds heard t true = tt
watched_holds heard t false = tt

defer_holds : (heard : ℕ → Sym) (t : ℕ) (d : Defer) (c w : Bool) → c ≡ is_signal (heard t) → DeferHolds heard t d → DeferHolds heard (t + 1) (deferred d c false w)
defer_holds heard t Watch c w e h = watched_holds heard (t + 1) c
defer_holds heard t (Busy was) true w e h = tt
defer_holds heard t (Busy was) false w e h = (omega arith, subst (λ u. heard u ≡ Idle) {x = t} {y = t + 1 - 1} (omega arith) (no_carrier (heard t) e))
defer_holds heard t (Gap k was) c w e h =
    choose (DeferHolds heard (t + 1)) (eqb k interframe_gap) (if w then Watch else watched c) (if ltb k interframe_gap_part_1 && (not was && c) then Busy false else Gap (k + 1) was)
    (λ _. choose (DeferHolds heard (t + 1)) w Watch (watched c) (λ _. tt) (λ _. watched_holds heard (t + 1) c))
    (λ _. choose (DeferHolds heard (t + 1)) (ltb k interframe_gap_part_1 && (not was && c)) (Busy false) (Gap (k + 1) was) (λ _. tt) (λ _. (omega (arith, h.0), subst (λ u. heard u ≡ Idle) {x = t - k} {y = t + 1 - (k + 1)} (omega arith) h.1)))

-- a station that is free to start
freed : (heard : ℕ → Sym) (t : ℕ) (d : Defer) (c w : Bool) → c ≡ is_signal (heard t) → DeferHolds heard t d → free_of d c w ≡ true → IsFree heard t
freed heard t Watch true w e h f = absurd (cc)
freed heard t Watch false w e h f = inl (no_carrier (heard t) e)
freed heard t (Busy was) c w e h f = absurd (cc)
freed heard t (Gap k was) c w e h f =
    let full : k ≡ interframe_gap = eqb-true k interframe_gap (and_parts _ _ f).0 in
    inr (omega (arith, h.0), subst (λ u. heard u ≡ Idle) {x = t - k} {y = t - interframe_gap} (omega arith) h.1)

-- a sending begins
new_hit : (c : Bool) (n : ℕ) → 0 < n → IsHitIn (hit_at None c 0) n
new_hit true n l = l
new_hit false n l = tt

new_hit_heeds : (c : Bool) → c ≡ true → IsHitBy (hit_at None c 0) 0
new_hit_heeds true e = omega arith
new_hit_heeds false e = absurd (cc)

long_text : (octets : List ℕ) → least_frame ≤ length octets → 0 < line_length octets
long_text octets text = omega (arith, length_least octets None text)

begins : (told heard : ℕ → Sym) (t : ℕ) (octets : List ℕ) (c : Bool) → c ≡ is_signal (heard t) → least_frame ≤ length octets → IsFree heard t
    → told t ≡ symbol_of octets (hit_at None c (t - t)) (t - t) → IsUnderWay told heard (t + 1) t (hit_at None c (t - t)) octets
begins told heard t octets c ec text free e =
    let z : t - t ≡ 0 = omega arith in
    let hit = hit_at None c 0 in
    let e' : told t ≡ symbol_of octets hit 0 = subst (λ i. told t ≡ symbol_of octets (hit_at None c i) i) z e in
    let least : shortest_sending ≤ sending_length octets hit = length_least octets hit text in
    let in_text : IsHitIn hit (line_length octets) = new_hit c (line_length octets) (long_text octets text) in
    let busy : symbol_of octets hit 0 ≢ Idle = symbol_busy octets hit 0 in_text (omega arith) in
    subst (λ i. IsUnderWay told heard (t + 1) t (hit_at None c i) octets) {x = 0} {y = t - t} (sym z) (record {
      text = text;
      begun = omega arith;
      within = omega arith;
      in_text = in_text;
      before = new_hit c (t + 1 - t) (omega arith);
      busy = λ u l m. let same : u ≡ t = omega arith in λ i. busy (sym e' ∙ (ap told (sym same) ∙ i));
      heeds = λ p l h. let zero_p : p ≡ 0 = omega arith in subst (IsHitBy hit) {x = 0} {y = p} (sym zero_p) (new_hit_heeds c (ec ∙ carrier (heard t) (λ i. h ((let same : t + p ≡ t = omega arith in ap heard same) ∙ i))));
      free = free;
    })

-- a sending goes on
hit_more : (hit : Option ℕ) (c : Bool) (p : ℕ) → IsHitIn hit p → IsHitIn (hit_at hit c p) (p + 1)
hit_more None true p h = omega arith
hit_more None false p h = tt
hit_more (Some k) true p h = omega arith
hit_more (Some k) false p h = omega arith

heeds_still : (hit : Option ℕ) (c : Bool) (p q : ℕ) → IsHitBy hit q → IsHitBy (hit_at hit c p) q
heeds_still None c p q h = absurd h
heeds_still (Some k) true p q h = h
heeds_still (Some k) false p q h = h

heeds_now : (hit : Option ℕ) (c : Bool) (p : ℕ) → IsHitIn hit p → c ≡ true → IsHitBy (hit_at hit c p) p
heeds_now None true p h e = omega arith
heeds_now None false p h e = absurd (cc)
heeds_now (Some k) true p h e = omega arith
heeds_now (Some k) false p h e = omega arith

length_next : (octets : List ℕ) (hit : Option ℕ) (c : Bool) (p : ℕ) → p < sending_length octets hit → p + 1 ≤ sending_length octets (hit_at hit c p)
length_next octets None true p l = omega (arith, jam_later p)
length_next octets None false p l = omega arith
length_next octets (Some k) true p l = omega arith
length_next octets (Some k) false p l = omega arith

in_text_next : (octets : List ℕ) (hit : Option ℕ) (c : Bool) (p : ℕ) → IsHitIn hit (line_length octets) → p < sending_length octets hit → IsHitIn (hit_at hit c p) (line_length octets)
in_text_next octets None true p h l = l
in_text_next octets None false p h l = tt
in_text_next octets (Some k) true p h l = h
in_text_next octets (Some k) false p h l = h

goes_on : (told heard : ℕ → Sym) (t start : ℕ) (hit : Option ℕ) (octets : List ℕ) (c : Bool) → c ≡ is_signal (heard t) → IsUnderWay told heard t start hit octets
    → t < start + sending_length octets hit → told t ≡ symbol_of octets (hit_at hit c (t - start)) (t - start) → IsUnderWay told heard (t + 1) start (hit_at hit c (t - start)) octets
goes_on told heard t start hit octets c ec h before_end e =
    let begun : start < t = h.begun in
    let p = t - start in
    let at : start + p ≡ t = omega arith in
    let below : p < sending_length octets hit = omega arith in
    let more : p + 1 ≤ sending_length octets (hit_at hit c p) = length_next octets hit c p below in
    let in_text : IsHitIn (hit_at hit c p) (line_length octets) = in_text_next octets hit c p h.in_text below in
    let busy : symbol_of octets (hit_at hit c p) p ≢ Idle = symbol_busy octets (hit_at hit c p) p in_text (omega arith) in
    record {
      text = h.text;
      begun = omega arith;
      within = omega arith;
      in_text = in_text;
      before = subst (IsHitIn (hit_at hit c p)) {x = p + 1} {y = t + 1 - start} (omega arith) (hit_more hit c p h.before);
      busy = λ u l m. elim (cases_lt u t) [
        | inl old ↦ h.busy u l old
        | inr now ↦ λ i. busy (sym e ∙ ((let same : t ≡ u = omega arith in ap told same) ∙ i))
      ];
      heeds = λ r l k. elim (cases_lt (start + r) t) [
        | inl old ↦ heeds_still hit c p r (h.heeds r old k)
        | inr now ↦
            let same : p ≡ r = omega arith in
            subst (IsHitBy (hit_at hit c p)) same (heeds_now hit c p h.before (ec ∙ carrier (heard t) (λ i. k ((let back : start + r ≡ t = omega arith in ap heard back) ∙ i))))
      ];
      free = h.free;
    }

-- what follows where the rest of a half bit is done from b on
abbrev Emits : (ℕ → Sym) → (ℕ → Sym) → ℕ → Bool → Sender → Type 0
Emits told heard t c b = told t ≡ emitted_from b b.phase c → Holds told heard (t + 1) (emitting b c)

-- a station that waits starts, where it is free
waiting : (told heard : ℕ → Sym) (q : List Ready) (dr : Drawing) (t pl : ℕ) (d : Defer) (at : ℕ) (le : Option ℕ) (lf : ℕ) (c free : Bool) → c ≡ is_signal (heard t)
    → AreFrames q → least_frame ≤ length (frame_at q pl) → DeferHolds heard (t + 1) d → (free ≡ true → IsFree heard t)
    → Emits told heard t c (sending_started (sender q dr t pl Waiting d at le lf) free)
unfolding sending_started emitting symbol_emitted
waiting told heard q dr t pl d at le lf c true ec frames text dh f =
    λ told_is. record { time = refl; frames = frames; phase = (begins told heard t (frame_at q pl) c ec text (f refl) told_is, refl); defer = tt }
waiting told heard q dr t pl d at le lf c false ec frames text dh f = λ _. record { time = refl; frames = frames; phase = text; defer = dh }

-- a state that isn't sending, before deference
abbrev StandsBy : List ℕ → Phase → Type 0
StandsBy octets Rest = Unit {0}
StandsBy octets Waiting = least_frame ≤ length octets
StandsBy octets (Sending start hit) = ⊥
StandsBy octets (Backoff until) = least_frame ≤ length octets

record IsStandingBy (heard : ℕ → Sym) (t : ℕ) (s : Sender) : Type 0 where
  time : s.t ≡ t
  frames : AreFrames s.queue
  phase : StandsBy (frame_at s.queue s.place) s.phase
  defer : DeferHolds heard t s.defer

turn_of : (told heard : ℕ → Sym) (q : List Ready) (dr : Drawing) (t pl : ℕ) (p : Phase) (d : Defer) (at : ℕ) (le : Option ℕ) (lf : ℕ) (c : Bool) → c ≡ is_signal (heard t)
    → AreFrames q → StandsBy (frame_at q pl) p → DeferHolds heard t d → Emits told heard t c (after_turn (sender q dr t pl p d at le lf) c)
unfolding sending_started deferring is_free emitting
turn_of told heard q dr t pl Rest d at le lf c ec frames h dh = λ _. record { time = refl; frames = frames; phase = tt; defer = defer_holds heard t d c false ec dh }
turn_of told heard q dr t pl Waiting d at le lf c ec frames h dh =
    waiting told heard q dr t pl (deferred d c false true) at le (carrier_after lf t c) c (free_of d c true) ec frames h (defer_holds heard t d c true ec dh) (freed heard t d c true ec dh)
turn_of told heard q dr t pl (Sending start hit) d at le lf c ec frames h dh = absurd h
turn_of told heard q dr t pl (Backoff until) d at le lf c ec frames h dh = λ _. record { time = refl; frames = frames; phase = h; defer = defer_holds heard t d c false ec dh }

going_on : (told heard : ℕ → Sym) (q : List Ready) (dr : Drawing) (t pl start : ℕ) (hit : Option ℕ) (d : Defer) (at : ℕ) (le : Option ℕ) (lf : ℕ) (c : Bool) → c ≡ is_signal (heard t)
    → Holds told heard t (sender q dr t pl (Sending start hit) d at le lf) → t < start + sending_length (frame_at q pl) hit
    → Emits told heard t c (after_turn (sender q dr t pl (Sending start hit) d at le lf) c)
unfolding sending_started deferring is_free emitting symbol_emitted
going_on told heard q dr t pl start hit d at le lf c ec h before_end =
    let still : deferred d c true false ≡ Busy true = busy_stays d c false h.phase.1 in
    λ told_is. record {
      time = refl;
      frames = h.frames;
      phase = (goes_on told heard t start hit (frame_at q pl) c ec h.phase.0 before_end told_is, still);
      defer = subst (DeferHolds heard (t + 1)) (sym still) tt;
    }

frame_of_queue : (q : List Ready) (pl : ℕ) → AreFrames q → pl < length q → least_frame ≤ length (frame_at q pl)
unfolding frame_at
frame_of_queue q pl frames l = frames pl no_frame l

promotes_from : (heard : ℕ → Sym) (t : ℕ) (q : List Ready) (dr : Drawing) (now pl : ℕ) (p : Phase) (d : Defer) (at : ℕ) (le : Option ℕ) (lf : ℕ)
    → IsStandingBy heard t (sender q dr now pl p d at le lf) → IsStandingBy heard t (promoted (sender q dr now pl p d at le lf))
unfolding promoted
promotes_from heard t q dr now pl Rest d at le lf h =
    let s : Sender = sender q dr now pl Rest d at le lf in
    choose (IsStandingBy heard t) (ltb pl (length q) && leb (ready_at q pl) now) (record s { phase = Waiting; attempt = 1 }) s
    (λ e. record { time = h.time; frames = h.frames; phase = frame_of_queue q pl h.frames (ltb-true pl (length q) (and_parts _ _ e).0); defer = h.defer })
    (λ _. h)
promotes_from heard t q dr now pl Waiting d at le lf h = h
promotes_from heard t q dr now pl (Sending start hit) d at le lf h = absurd h.phase
promotes_from heard t q dr now pl (Backoff until) d at le lf h =
    let s : Sender = sender q dr now pl (Backoff until) d at le lf in
    choose (IsStandingBy heard t) (leb until now) (record s { phase = Waiting }) s
    (λ e. record { time = h.time; frames = h.frames; phase = h.phase; defer = h.defer })
    (λ _. h)

promotes : (heard : ℕ → Sym) (t : ℕ) (s : Sender) → IsStandingBy heard t s → IsStandingBy heard t (promoted s)
promotes heard t s h = promotes_from heard t s.queue s.draws s.t s.place s.phase s.defer s.attempt s.last_end s.carrier_from h

-- what follows the finish, for a state that isn't sending
stands : (told heard : ℕ → Sym) (t : ℕ) (s : Sender) → IsStandingBy heard t s → Emits told heard t (is_signal (heard t)) (after_turn s (is_signal (heard t)))
stands told heard t s h =
    subst (λ u. Emits told heard u (is_signal (heard u)) (after_turn s (is_signal (heard u)))) h.time
    (turn_of told heard s.queue s.draws s.t s.place s.phase s.defer s.attempt s.last_end s.carrier_from (is_signal (heard s.t)) refl h.frames h.phase (subst (λ u. DeferHolds heard u s.defer) (sym h.time) h.defer))

ended_stands : (heard : ℕ → Sym) (t : ℕ) (s : Sender) (hit : Option ℕ) → s.t ≡ t → AreFrames s.queue → least_frame ≤ length (frame_at s.queue s.place) → DeferHolds heard t s.defer → IsStandingBy heard t (sending_ended s hit)
ended_stands heard t s hit e frames text d =
    ended_either (IsStandingBy heard t) s hit (record { time = e; frames = frames; phase = tt; defer = d }) (record { time = e; frames = frames; phase = text; defer = d })

-- what follows the finish
abbrev Follows : (ℕ → Sym) → (ℕ → Sym) → ℕ → Sender → Type 0
Follows told heard t s = Emits told heard t (is_signal (heard t)) (after_turn (promoted s) (is_signal (heard t)))

step_from : (told heard : ℕ → Sym) (q : List Ready) (dr : Drawing) (t pl : ℕ) (p : Phase) (d : Defer) (at : ℕ) (le : Option ℕ) (lf : ℕ)
    → Holds told heard t (sender q dr t pl p d at le lf) → Follows told heard t (finished (sender q dr t pl p d at le lf))
unfolding finished promoted
step_from told heard q dr t pl Rest d at le lf h =
    let s : Sender = sender q dr t pl Rest d at le lf in
    stands told heard t (promoted s) (promotes heard t s (record { time = refl; frames = h.frames; phase = tt; defer = h.defer }))
step_from told heard q dr t pl Waiting d at le lf h =
    let s : Sender = sender q dr t pl Waiting d at le lf in
    stands told heard t (promoted s) (promotes heard t s (record { time = refl; frames = h.frames; phase = h.phase; defer = h.defer }))
step_from told heard q dr t pl (Backoff until) d at le lf h =
    let s : Sender = sender q dr t pl (Backoff until) d at le lf in
    stands told heard t (promoted s) (promotes heard t s (record { time = refl; frames = h.frames; phase = h.phase; defer = h.defer }))
step_from told heard q dr t pl (Sending start hit) d at le lf h =
    let s : Sender = sender q dr t pl (Sending start hit) d at le lf in
    choose (Follows told heard t) (leb (start + sending_length (frame_at q pl) hit) t) (sending_ended s hit) s
    (λ _. stands told heard t (promoted (sending_ended s hit)) (promotes heard t (sending_ended s hit) (ended_stands heard t s hit refl h.frames h.phase.0.text h.defer)))
    (λ e. going_on told heard q dr t pl start hit d at le lf (is_signal (heard t)) refl h (leb-false (start + sending_length (frame_at q pl) hit) t e))

-- one half bit
step_holds : (told heard : ℕ → Sym) (t : ℕ) (s : Sender) → Holds told heard t s → told t ≡ (sender_step s (heard t)).emitted → Holds told heard (t + 1) (sender_step s (heard t)).state
unfolding sender_step
step_holds told heard t s h =
    subst (λ u. told u ≡ (sender_step s (heard u)).emitted → Holds told heard (u + 1) (sender_step s (heard u)).state) h.time
    (step_from told heard s.queue s.draws s.t s.place s.phase s.defer s.attempt s.last_end s.carrier_from (subst (λ u. Holds told heard u s) (sym h.time) h))

-- a run
run_holds : (queue : List Ready) → AreFrames queue → (draws : Drawing) (heard : ℕ → Sym) (t : ℕ) → Holds (emits (new_sender queue draws) heard) heard t (run (new_sender queue draws) heard t)
run_holds queue frames draws heard zero = record { time = refl; frames = frames; phase = tt; defer = tt }
run_holds queue frames draws heard (suc t) =
    let s : Sender = new_sender queue draws in
    let e : t + 1 ≡ suc t = omega arith in
    subst (λ u. Holds (emits s heard) heard u (run s heard (suc t))) e (step_holds (emits s heard) heard t (run s heard t) (run_holds queue frames draws heard t) refl)

-- an attempt
deaf_gap : (heard : ℕ → Sym) (start : ℕ) → IsFree heard start → (u : ℕ) → u < start → ((t : ℕ) → u ≤ t → t ≤ start → heard t ≢ Idle) → start ≤ u + (interframe_gap - 1)
deaf_gap heard start (inl e) u l is_signal = absurd (is_signal start (omega arith) (omega arith) e)
deaf_gap heard start (inr e) u l is_signal = elim (cases_lt start (u + interframe_gap)) [
  | inl close ↦ omega arith
  | inr far ↦ absurd (is_signal (start - interframe_gap) (omega arith) (omega arith) e.1)
]

under_way : (told heard : ℕ → Sym) (s : Sender) (t start : ℕ) (hit : Option ℕ) → s.phase ≡ Sending start hit → Holds told heard t s → IsUnderWay told heard t start hit (frame_at s.queue s.place)
under_way told heard s t start hit e h = (let k : PhaseHolds told heard t (frame_at s.queue s.place) s.defer (Sending start hit) = subst (PhaseHolds told heard t (frame_at s.queue s.place) s.defer) e h.phase in k.0)

lawful : (told heard : ℕ → Sym) (a : Attempt) (octets : List ℕ) → IsUnderWay told heard a.end a.start a.hit octets → a.start + sending_length octets a.hit ≤ a.end → IsLawful told heard a
lawful told heard a octets h l =
    let within : a.end ≤ a.start + sending_length octets a.hit = h.within in
    record {
      long = omega (arith, length_least octets a.hit h.text);
      goes_on = length_enough octets a.hit a.start a.end h.text (omega arith);
      busy = λ t m. h.busy t m.0 m.1;
      heeds = h.heeds;
      deaf = deaf_gap heard a.start h.free;
    }

finishes_lawful : (told heard : ℕ → Sym) (a : Attempt) (s : Sender) → Holds told heard a.end s → Finishes s a → IsLawful told heard a
finishes_lawful told heard a s h is =
    let done : a.start + sending_length (frame_at s.queue s.place) a.hit ≤ s.t = leb-true (a.start + sending_length (frame_at s.queue s.place) a.hit) s.t is.over in
    let time : s.t ≡ a.end = h.time in
    lawful told heard a (frame_at s.queue s.place) (under_way told heard s a.end a.start a.hit is.sending h) (omega arith)

pub attempts_are_lawful : AttemptsAreLawful
attempts_are_lawful queue frames draws heard a is =
    let s : Sender = new_sender queue draws in
    finishes_lawful (emits s heard) heard a (run s heard a.end) (run_holds queue frames draws heard a.end) is
