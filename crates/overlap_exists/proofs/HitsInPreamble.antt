-- A sender that starts in half bit 0 and hears Idle before half bit d and a signal in it has its hit at position d.
-- Where that is in its preamble or start frame delimiter, the jam behind these ends the shortest sending there is.
use Rattle.std.proofs.Common.{◌≡◌, ◌≢◌, ℕ, zero, suc, ◌+◌, ◌-◌, ◌*◌, ◌/◌, ◌<◌, ◌≤◌, Bool, true, false, ltb, leb, ◌&&◌, Option, Some, None, List, ◌∷◌, length, refl, sym, ap, ap₂, subst, ◌∙◌, arith}
use Rattle.std.proofs.lemmas.Bool.{cond-true, cond-false}
use Rattle.std.proofs.lemmas.Bool.Decides.{nat_tests}
use Rattle.mac_parameters.specs.Parameters.{half_bits_a_bit, jam_size, least_frame, preamble_length, shortest_sending}
use Rattle.manchester_line.specs.declared.Sym.{Sym}
use Rattle.manchester_line.specs.declared.Sym.TheVariants.{Idle, Hi, Lo, Clash}
use Rattle.frame_layout.specs.declared.queue.Ready.{Ready}
use Rattle.backoff_draw.specs.Draws.{Drawing, draw_of}
use Rattle.mac_transmit.specs.declared.deference.Defer.{Defer}
use Rattle.mac_transmit.specs.declared.deference.Defer.TheVariants.{Busy}
use Rattle.mac_transmit.specs.declared.phase.Phase.TheVariants.{Waiting, Sending}
use Rattle.collision_log.specs.declared.row.Body.TheVariants.{Collided}
use Rattle.mac_transmit.specs.Attempts.{Finishes, run, emits}
use Rattle.mac_transmit.specs.Laws.{carrier_after}
use Rattle.manchester_line.specs.Line.{is_signal}
use Rattle.mac_transmit.specs.Sender.{Sender, new_sender, frame_at, ready_at, line_at, jam_start, sending_length, sending_ended, finished, promoted, deferring, is_free, sending_started, hit_at, symbol_emitted, emitted_from, emitting, after_turn, sender_step, has_ended, end_event}
use Rattle.mac_transmit.proofs.SenderInvariant.{busy_stays}
use Rattle.mac_transmit.proofs.SignalSendings.{length_least, symbol_busy}
use Rattle.overlap_exists.specs.NearPairs.{hit_in_preamble}

-- a sender in its first attempt at its first frame, which began in half bit 0
abbrev sending : List Ready → Drawing → ℕ → Option ℕ → Defer → ℕ → Sender
sending q dr t hit d carrier = record { queue = q; draws = dr; t = t; place = 0; phase = Sending 0 hit; defer = d; attempt = 1; last_end = None; carrier_from = carrier }

record Sends (q : List Ready) (dr : Drawing) (t : ℕ) (hit : Option ℕ) (s : Sender) : Type 0 where
  carrier : ℕ
  is : s ≡ sending q dr t hit (Busy true) carrier

-- the start
abbrev waits : List Ready → Drawing → Sender
waits q dr = record (new_sender q dr) { phase = Waiting; attempt = 1 }

ready : (n : ℕ) → n ≡ 0 → leb n 0 ≡ true
ready n h = grind (arith, nat_tests)

there_is : (n : ℕ) → ltb 0 (suc n) ≡ true
there_is n = grind (arith, nat_tests)

promotes : (f : Ready) (fs : List Ready) (dr : Drawing) → f.at ≡ 0 → promoted (new_sender (f ∷ fs) dr) ≡ waits (f ∷ fs) dr
unfolding promoted ready_at
promotes f fs dr e = cond-true (ltb 0 (suc (length fs)) && leb f.at 0) (waits (f ∷ fs) dr) (new_sender (f ∷ fs) dr) (ap₂ (λ a b. a && b) (there_is (length fs)) (ready f.at e))

starts : (f : Ready) (fs : List Ready) (dr : Drawing) → f.at ≡ 0 → (sender_step (new_sender (f ∷ fs) dr) Idle).state ≡ sending (f ∷ fs) dr 1 None (Busy true) 1
unfolding sender_step finished deferring is_free sending_started emitting
starts f fs dr e = ap (λ s. emitting (after_turn s false) false) (promotes f fs dr e)

start_emits : (f : Ready) (fs : List Ready) (dr : Drawing) → f.at ≡ 0 → (sender_step (new_sender (f ∷ fs) dr) Idle).emitted ≡ line_at f.frame 0
unfolding sender_step finished deferring is_free sending_started symbol_emitted frame_at
start_emits f fs dr e = ap (λ s. (let b = after_turn s false in emitted_from b b.phase false)) (promotes f fs dr e)

-- one half bit more
not_over : (n t : ℕ) → t < n → leb n t ≡ false
not_over n t h = grind (arith, nat_tests)

unfinished : (q : List Ready) (dr : Drawing) (t : ℕ) (hit : Option ℕ) (d : Defer) (carrier : ℕ) → t < sending_length (frame_at q 0) hit → finished (sending q dr t hit d carrier) ≡ sending q dr t hit d carrier
unfolding finished
unfinished q dr t hit d carrier l =
    let s : Sender = sending q dr t hit d carrier in
    cond-false (leb (0 + sending_length (frame_at q 0) hit) t) (sending_ended s hit) s (not_over _ t (omega arith))

stepped : (q : List Ready) (dr : Drawing) (t : ℕ) (hit : Option ℕ) (carrier : ℕ) (c : Bool)
    → emitting (after_turn (promoted (sending q dr t hit (Busy true) carrier)) c) c ≡ sending q dr (t + 1) (hit_at hit c t) (Busy true) (carrier_after carrier t c)
unfolding promoted deferring is_free sending_started emitting
stepped q dr t hit carrier c =
    let z : t - 0 ≡ t = omega arith in
    ap₂ (λ d p. sending q dr (t + 1) (hit_at hit c p) d (carrier_after carrier t c)) (busy_stays (Busy true) c false refl) z

goes : (q : List Ready) (dr : Drawing) (t : ℕ) (hit : Option ℕ) (s : Sender) (h : Sym) → Sends q dr t hit s → t < sending_length (frame_at q 0) hit
    → Sends q dr (suc t) (hit_at hit (is_signal h) t) (sender_step s h).state
unfolding sender_step
goes q dr t hit s h k l =
    let c = is_signal h in
    let n : t + 1 ≡ suc t = omega arith in
    record {
      carrier = carrier_after k.carrier t c;
      is =
          ap (λ x. (sender_step x h).state) k.is
          ∙ ap (λ x. emitting (after_turn (promoted x) c) c) (unfinished q dr t hit (Busy true) k.carrier l)
          ∙ stepped q dr t hit k.carrier c
          ∙ ap (λ u. sending q dr u (hit_at hit c t) (Busy true) (carrier_after k.carrier t c)) n;
    }

-- what such a sender has and hears
record IsHitAt (f : Ready) (heard : ℕ → Sym) (d : ℕ) : Type 0 where
  pub at : f.at ≡ 0
  pub text : least_frame ≤ length f.frame
  pub some : 1 ≤ d
  pub short : d < preamble_length
  pub quiet : (u : ℕ) → u < d → heard u ≡ Idle
  pub carrier : heard d ≢ Idle

long_text : (f : Ready) (fs : List Ready) → least_frame ≤ length f.frame → shortest_sending ≤ sending_length (frame_at (f ∷ fs) 0) None
unfolding frame_at
long_text f fs h = length_least f.frame None h

jam_is : (d : ℕ) → d < preamble_length → jam_start d ≡ preamble_length
jam_is d h = cond-true (ltb d preamble_length) preamble_length (half_bits_a_bit * (d / half_bits_a_bit + 1)) (low d h)
  where
    low : (d : ℕ) → d < preamble_length → ltb d preamble_length ≡ true
    low d h = grind (arith, nat_tests)

carries : (s : Sym) → s ≢ Idle → is_signal s ≡ true
carries Idle h = absurd (h refl)
carries Hi h = refl
carries Lo h = refl
carries Clash h = refl

before : (f : Ready) (fs : List Ready) (dr : Drawing) (heard : ℕ → Sym) (d : ℕ) → IsHitAt f heard d → (t : ℕ) → t < d
    → Sends (f ∷ fs) dr (suc t) None (run (new_sender (f ∷ fs) dr) heard (suc t))
before f fs dr heard d k zero l = record { carrier = 1; is = ap (λ h. (sender_step (new_sender (f ∷ fs) dr) h).state) (k.quiet 0 l) ∙ starts f fs dr k.at }
before f fs dr heard d k (suc t) l =
    let s : Sender = run (new_sender (f ∷ fs) dr) heard (suc t) in
    let short : d < preamble_length = k.short in
    subst (λ h. Sends (f ∷ fs) dr (suc (suc t)) (hit_at None h (suc t)) (sender_step s (heard (suc t))).state) (ap is_signal (k.quiet (suc t) l))
    (goes (f ∷ fs) dr (suc t) None s (heard (suc t)) (before f fs dr heard d k t (omega arith)) (omega (arith, long_text f fs k.text)))

at_hit : (f : Ready) (fs : List Ready) (dr : Drawing) (heard : ℕ → Sym) (d : ℕ) → IsHitAt f heard d → Sends (f ∷ fs) dr (suc d) (Some d) (run (new_sender (f ∷ fs) dr) heard (suc d))
at_hit f fs dr heard zero k = let some : 1 ≤ 0 = k.some in absurd (omega arith)
at_hit f fs dr heard (suc e) k =
    let s : Sender = run (new_sender (f ∷ fs) dr) heard (suc e) in
    let short : suc e < preamble_length = k.short in
    subst (λ h. Sends (f ∷ fs) dr (suc (suc e)) (hit_at None h (suc e)) (sender_step s (heard (suc e))).state) (carries (heard (suc e)) k.carrier)
    (goes (f ∷ fs) dr (suc e) None s (heard (suc e)) (before f fs dr heard (suc e) k e (omega arith)) (omega (arith, long_text f fs k.text)))

keeps_hit : (d : ℕ) (c : Bool) (t : ℕ) → hit_at (Some d) c t ≡ Some d
keeps_hit d true t = refl
keeps_hit d false t = refl

later : (f : Ready) (fs : List Ready) (dr : Drawing) (heard : ℕ → Sym) (d : ℕ) → IsHitAt f heard d → (n t : ℕ) → t ≡ suc d + n → t ≤ shortest_sending
    → Sends (f ∷ fs) dr t (Some d) (run (new_sender (f ∷ fs) dr) heard t)
later f fs dr heard d k zero t e l = let same : suc d ≡ t = omega arith in subst (λ u. Sends (f ∷ fs) dr u (Some d) (run (new_sender (f ∷ fs) dr) heard u)) same (at_hit f fs dr heard d k)
later f fs dr heard d k (suc n) zero e l = absurd (omega arith)
later f fs dr heard d k (suc n) (suc t) e l =
    let s : Sender = run (new_sender (f ∷ fs) dr) heard t in
    let jam : jam_start d ≡ preamble_length = jam_is d k.short in
    subst (λ hit. Sends (f ∷ fs) dr (suc t) hit (sender_step s (heard t)).state) (keeps_hit d (is_signal (heard t)) t)
    (goes (f ∷ fs) dr t (Some d) s (heard t) (later f fs dr heard d k n t (omega arith) (omega arith)) (omega (arith, jam)))

over_at : (n : ℕ) → n ≡ preamble_length → leb (0 + (n + jam_size)) shortest_sending ≡ true
over_at n h = grind (arith, nat_tests)

ends : (q : List Ready) (dr : Drawing) (d : ℕ) (s : Sender) → d < preamble_length → Sends q dr shortest_sending (Some d) s → Finishes s (hit_in_preamble d)
ends q dr d s l k = record {
  sending = ap (λ (x : Sender). x.phase) k.is;
  over = ap (λ (x : Sender). has_ended x 0 (Some d)) k.is ∙ over_at (jam_start d) (jam_is d l);
}

module _ (f : Ready) (fs : List Ready) (dr : Drawing) (heard : ℕ → Sym) (d : ℕ) (at : f.at ≡ 0) (text : least_frame ≤ length f.frame) (some : 1 ≤ d) (short : d < preamble_length)
    (quiet : (u : ℕ) → u < d → heard u ≡ Idle) (carrier : heard d ≢ Idle) where
  last : Sends (f ∷ fs) dr shortest_sending (Some d) (run (new_sender (f ∷ fs) dr) heard shortest_sending)
  last =
      later f fs dr heard d (record { at = at; text = text; some = some; short = short; quiet = quiet; carrier = carrier }) (shortest_sending - suc d) shortest_sending
      (omega arith) (omega arith)

  -- it finishes its attempt as the shortest sending, with its hit at d
  pub finishes : Finishes (run (new_sender (f ∷ fs) dr) heard shortest_sending) (hit_in_preamble d)
  finishes = ends (f ∷ fs) dr d (run (new_sender (f ∷ fs) dr) heard shortest_sending) short last

  -- and with this row
  pub collided : end_event (run (new_sender (f ∷ fs) dr) heard shortest_sending) 0 (Some d) ≡ Collided 1 0 1 d (draw_of dr.seed dr.station dr.made 1)
  collided = ap (λ (x : Sender). end_event x 0 (Some d)) last.is

-- in half bit 0 it emits a signal
pub emits_first : (f : Ready) (fs : List Ready) (dr : Drawing) (heard : ℕ → Sym) → f.at ≡ 0 → least_frame ≤ length f.frame → heard 0 ≡ Idle → emits (new_sender (f ∷ fs) dr) heard 0 ≢ Idle
emits_first f fs dr heard at text quiet idle =
    symbol_busy f.frame None 0 tt (omega (arith, length_least f.frame None text))
    (sym (start_emits f fs dr at) ∙ sym (ap (λ h. (sender_step (new_sender (f ∷ fs) dr) h).emitted) quiet) ∙ idle)
