-- What a sender emits in half bits in which nothing happens to it, whatever its state.
use Rattle.std.proofs.Common.{◌≡◌, ℕ, suc, ◌+◌, ◌-◌, ◌≤◌, Bool, true, false, cond, ltb, leb, ◌&&◌, Option, Some, List, [], ◌∷◌, length, refl, sym, ap, subst, ◌∙◌, arith}
use Rattle.std.proofs.lemmas.Bool.{cond-false}
use Rattle.manchester_line.specs.declared.Sym.{Sym}
use Rattle.manchester_line.specs.Line.{is_signal}
use Rattle.frame_layout.specs.declared.queue.Ready.{Ready}
use Rattle.backoff_draw.specs.Draws.{Drawing}
use Rattle.mac_transmit.specs.declared.deference.Defer.{Defer}
use Rattle.mac_transmit.specs.declared.phase.Phase.{Phase}
use Rattle.mac_transmit.specs.declared.phase.Phase.TheVariants.{Rest, Waiting, Sending, Backoff}
use Rattle.mac_transmit.specs.Deference.{deferred}
use Rattle.mac_transmit.specs.Laws.{carrier_after}
use Rattle.mac_transmit.specs.Sender.{Sender, sender_step, finished, sending_ended, promoted, deferring, is_free, sending_started, emitting, after_turn, before_emission, emitted_from, symbol_emitted, symbol_of, phase_started, defer_started, phase_after, hit_at, frame_at, ready_at, sending_length, is_sending}
use Rattle.mac_transmit.specs.Calm.{after_all, AllHeardAs, gets_hit, change_from, change_in, AreOverBefore, up_to_most}
use Rattle.mac_transmit.specs.Emissions.{emission_by, IsSendingFor, CalmSendersEmit, CalmSendingsLast}
use Rattle.mac_transmit.proofs.CalmHalfBits.{pred_of, awaits, gap_on, same_hit, sends_on, sender, not_now, over_sooner, uncapped, heard_first, heard_rest, state_is}

-- Nothing happens in a half bit: no sending ends, no frame or backoff is awaited to it, the phase stays, and what is
-- emitted is what the phase says.
record IsQuiet (s : Sender) (c : Bool) : Type 0 where
  settled : promoted (finished s) ≡ s
  same_phase : (emitting (after_turn s c) c).phase ≡ s.phase
  emitted : emitted_from (after_turn s c) (after_turn s c).phase c ≡ emission_by s 0 s.phase
  left : change_in (emitting (after_turn s c) c) c ≡ pred_of (change_in s c)

quiet_rest : (q : List Ready) (dr : Drawing) (t pl : ℕ) (d : Defer) (at : ℕ) (le : Option ℕ) (lf : ℕ) (c : Bool)
    → (change_in (sender q dr t pl Rest d at le lf) c ≡ Some 0 → ⊥) → IsQuiet (sender q dr t pl Rest d at le lf) c
unfolding promoted finished emitting sending_started deferring is_free symbol_emitted change_in
quiet_rest q dr t pl d at le lf c h =
    let s = sender q dr t pl Rest d at le lf in
    let a = awaits (ltb pl (length q)) (ready_at q pl) t h in
    record {
      settled = cond-false (ltb pl (length q) && leb (ready_at q pl) t) (record s { phase = Waiting; attempt = 1 }) s a.0;
      same_phase = refl;
      emitted = refl;
      left = a.1;
    }

quiet_backoff : (q : List Ready) (dr : Drawing) (t pl until : ℕ) (d : Defer) (at : ℕ) (le : Option ℕ) (lf : ℕ) (c : Bool)
    → (change_in (sender q dr t pl (Backoff until) d at le lf) c ≡ Some 0 → ⊥) → IsQuiet (sender q dr t pl (Backoff until) d at le lf) c
unfolding promoted finished emitting sending_started deferring is_free symbol_emitted change_in
quiet_backoff q dr t pl until d at le lf c h =
    let s = sender q dr t pl (Backoff until) d at le lf in
    let a = awaits true until t h in
    record {
      settled = cond-false (leb until t) (record s { phase = Waiting }) s a.0;
      same_phase = refl;
      emitted = refl;
      left = a.1;
    }

quiet_waiting : (q : List Ready) (dr : Drawing) (t pl : ℕ) (d : Defer) (at : ℕ) (le : Option ℕ) (lf : ℕ) (c : Bool)
    → (change_in (sender q dr t pl Waiting d at le lf) c ≡ Some 0 → ⊥) → IsQuiet (sender q dr t pl Waiting d at le lf) c
unfolding promoted finished emitting sending_started deferring is_free symbol_emitted change_in
quiet_waiting q dr t pl d at le lf c h =
    let a = gap_on c d h in
    record {
      settled = refl;
      same_phase = ap (λ f. phase_after t (phase_started t Waiting f) c) a.0;
      emitted = ap (λ f. symbol_emitted (frame_at q pl) t (phase_started t Waiting f) c) a.0;
      left =
          ap (λ (f : Bool). change_in (sender q dr (t + 1) pl (phase_after t (phase_started t Waiting f) c) (defer_started Waiting f (deferred d c false true)) at le (carrier_after lf t c)) c) a.0
          ∙ a.1;
    }

quiet_sending : (q : List Ready) (dr : Drawing) (t pl start : ℕ) (hit : Option ℕ) (d : Defer) (at : ℕ) (le : Option ℕ) (lf : ℕ) (c : Bool)
    → (change_in (sender q dr t pl (Sending start hit) d at le lf) c ≡ Some 0 → ⊥) → IsQuiet (sender q dr t pl (Sending start hit) d at le lf) c
unfolding promoted finished emitting sending_started deferring is_free symbol_emitted change_in
quiet_sending q dr t pl start hit d at le lf c h =
    let s = sender q dr t pl (Sending start hit) d at le lf in
    let a = sends_on (gets_hit hit c) (start + sending_length (frame_at q pl) hit) t h in
    let same : hit_at hit c (t - start) ≡ hit = same_hit hit c (t - start) a.0 in
    let now : t - start ≡ t + 0 - start = omega arith in
    record {
      settled = ap promoted (cond-false (leb (start + sending_length (frame_at q pl) hit) t) (sending_ended s hit) s a.1);
      same_phase = ap (Sending start) same;
      emitted = ap (λ x. symbol_of (frame_at q pl) x (t - start)) same ∙ ap (symbol_of (frame_at q pl) hit) now;
      left =
          ap (λ (x : Option ℕ). change_in (sender q dr (t + 1) pl (Sending start x) (deferred d c true false) at le (carrier_after lf t c)) c) same
          ∙ a.2;
    }

quiet : (s : Sender) (c : Bool) → (change_in s c ≡ Some 0 → ⊥) → IsQuiet s c
quiet s c = quiet_in s.phase
  where
    quiet_in : (p : Phase) → (change_in (record s { phase = p }) c ≡ Some 0 → ⊥) → IsQuiet (record s { phase = p }) c
    quiet_in Rest h = quiet_rest s.queue s.draws s.t s.place s.defer s.attempt s.last_end s.carrier_from c h
    quiet_in Waiting h = quiet_waiting s.queue s.draws s.t s.place s.defer s.attempt s.last_end s.carrier_from c h
    quiet_in (Sending start hit) h = quiet_sending s.queue s.draws s.t s.place start hit s.defer s.attempt s.last_end s.carrier_from c h
    quiet_in (Backoff until) h = quiet_backoff s.queue s.draws s.t s.place until s.defer s.attempt s.last_end s.carrier_from c h

-- one half bit later the same is emitted one half bit sooner
emission_later : (s : Sender) (j t : ℕ) (p : Phase) → t ≡ s.t + 1 → emission_by (record s { t = t }) j p ≡ emission_by s (suc j) p
emission_later s j t Rest e = refl
emission_later s j t Waiting e = refl
emission_later s j t (Sending start hit) e = let same : t + j - start ≡ s.t + suc j - start = omega (arith, e) in ap (symbol_of (frame_at s.queue s.place) hit) same
emission_later s j t (Backoff until) e = refl

emission_next : (s : Sender) (c : Bool) (j : ℕ) → (emitting (after_turn s c) c).phase ≡ s.phase
    → emission_by (emitting (after_turn s c) c) j (emitting (after_turn s c) c).phase ≡ emission_by s (suc j) s.phase
unfolding emitting sending_started deferring
emission_next s c j e = ap (emission_by (emitting (after_turn s c) c) j) e ∙ emission_later s j (s.t + 1) s.phase refl

emits_now : (s : Sender) (h : Sym) (c : Bool) → is_signal h ≡ c → IsQuiet s c → (sender_step s h).emitted ≡ emission_by s 0 s.phase
unfolding sender_step
emits_now s h c e k =
    ap (λ x. emitted_from (before_emission s x) (before_emission s x).phase x) e
    ∙ ap (λ x. emitted_from (after_turn x c) (after_turn x c).phase c) k.settled
    ∙ k.emitted

next_state : (s : Sender) (h : Sym) (c : Bool) → is_signal h ≡ c → IsQuiet s c → (sender_step s h).state ≡ emitting (after_turn s c) c
next_state s h c e k = state_is s h c e ∙ ap (λ x. emitting (after_turn x c) c) k.settled

pub emits_so : (hs : List Sym) (s : Sender) (c : Bool) (h : Sym) → AllHeardAs c hs → is_signal h ≡ c → AreOverBefore (suc (length hs)) (change_in s c)
    → (sender_step (after_all s hs) h).emitted ≡ emission_by s (length hs) s.phase
emits_so [] s c h a e f = emits_now s h c e (quiet s c (not_now 0 (change_in s c) f))
emits_so (g ∷ hs) s c h a e f =
    let k = quiet s c (not_now (suc (length hs)) (change_in s c) f) in
    let next = emitting (after_turn s c) c in
    ap (λ x. (sender_step (after_all x hs) h).emitted) (next_state s g c (heard_first c g hs a) k)
    ∙ emits_so hs next c h (heard_rest c g hs a) e (subst (AreOverBefore (suc (length hs))) (sym k.left) (over_sooner (suc (length hs)) (change_in s c) f))
    ∙ emission_next s c (length hs) k.same_phase

pub calm_senders_emit : CalmSendersEmit
calm_senders_emit s c hs h a e l = emits_so hs s c h a e (uncapped (suc (length hs)) (change_in s c) (omega arith))

sending_lasts : (b : Bool) (n left : ℕ) → n ≤ up_to_most (cond b (Some 0) (Some left)) → n ≤ left
sending_lasts true n left l = omega arith
sending_lasts false n left l = omega arith

pub calm_sendings_last : CalmSendingsLast
unfolding change_in
calm_sendings_last s c n = lasts_in s.phase
  where
    lasts_in : (p : Phase) → is_sending p ≡ true → n ≤ up_to_most (change_from s c p) → IsSendingFor s n p
    lasts_in Rest e l = absurd (cc)
    lasts_in Waiting e l = absurd (cc)
    lasts_in (Sending start hit) e l = sending_lasts (gets_hit hit c) n (start + sending_length (frame_at s.queue s.place) hit - s.t) l
    lasts_in (Backoff until) e l = absurd (cc)
