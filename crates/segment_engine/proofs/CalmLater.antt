-- A sender after half bits in which nothing happens to it: it is calm for those that are left, and emits in them what it
-- would have emitted.
use Rattle.std.proofs.Common.{◌≡◌, ℕ, zero, suc, ◌+◌, ◌-◌, ◌≤◌, Bool, true, false, ltb, leb, ◌&&◌, Option, Some, None, List, [], ◌∷◌, ◌++◌, length, length-append, refl, sym, ap, subst, ◌∙◌, arith}
use Rattle.std.proofs.lemmas.Bool.{cond-false}
use Rattle.manchester_line.specs.declared.Sym.{Sym}
use Rattle.manchester_line.specs.Line.{is_signal}
use Rattle.frame_layout.specs.declared.queue.Ready.{Ready}
use Rattle.backoff_draw.specs.Draws.{Drawing}
use Rattle.mac_transmit.specs.declared.deference.Defer.{Defer}
use Rattle.mac_transmit.specs.declared.phase.Phase.{Phase}
use Rattle.mac_transmit.specs.declared.phase.Phase.TheVariants.{Rest, Waiting, Sending, Backoff}
use Rattle.mac_transmit.specs.Deference.{deferred}
use Rattle.mac_transmit.specs.Laws.{carrier_after}
use Rattle.mac_transmit.specs.Sender.{Sender, sender_step, finished, sending_ended, promoted, deferring, is_free, sending_started, emitting, after_turn, emitted_from, symbol_emitted, symbol_of, phase_started, defer_started, phase_after, hit_at, frame_at, ready_at, sending_length}
use Rattle.mac_transmit.specs.Calm.{after_all, AllHeardAs, AreCalm, AreOverBefore, gets_hit, change_in}
use Rattle.mac_transmit.specs.Emissions.{emission_by}
use Rattle.mac_transmit.proofs.CalmHalfBits.{pred_of, awaits, gap_on, same_hit, sends_on, sender, not_now, over_sooner, heard_first, heard_rest, state_is}
use Rattle.segment_engine.specs.SteadyPieces.{IsCalmAs}

-- Nothing happens in a half bit: no sending ends, no frame or backoff is awaited to it, the phase stays, and what is
-- emitted is what the phase says.
record IsQuiet (s : Sender) (c : Bool) : Type 0 where
  settled : promoted (finished s) ≡ s
  same_phase : (emitting (after_turn s c) c).phase ≡ s.phase
  emitted : emitted_from (after_turn s c) (after_turn s c).phase c ≡ emission_by s 0 s.phase
  left : change_in (emitting (after_turn s c) c) c ≡ pred_of (change_in s c)

quiet_rest : (q : List Ready) (dr : Drawing) (t pl : ℕ) (d : Defer) (at : ℕ) (le : Option ℕ) (lf : ℕ) (c : Bool)
    → (change_in (sender q dr t pl Rest d at le lf) c ≡ Some 0 → ⊥) → IsQuiet (sender q dr t pl Rest d at le lf) c
unfolding promoted finished emitting sending_started deferring is_free symbol_emitted change_in
quiet_rest q dr t pl d at le lf c h =
    let s = sender q dr t pl Rest d at le lf in
    let a = awaits (ltb pl (length q)) (ready_at q pl) t h in
    record {
      settled = cond-false (ltb pl (length q) && leb (ready_at q pl) t) (record s { phase = Waiting; attempt = 1 }) s a.0;
      same_phase = refl;
      emitted = refl;
      left = a.1;
    }

quiet_backoff : (q : List Ready) (dr : Drawing) (t pl until : ℕ) (d : Defer) (at : ℕ) (le : Option ℕ) (lf : ℕ) (c : Bool)
    → (change_in (sender q dr t pl (Backoff until) d at le lf) c ≡ Some 0 → ⊥) → IsQuiet (sender q dr t pl (Backoff until) d at le lf) c
unfolding promoted finished emitting sending_started deferring is_free symbol_emitted change_in
quiet_backoff q dr t pl until d at le lf c h =
    let s = sender q dr t pl (Backoff until) d at le lf in
    let a = awaits true until t h in
    record {
      settled = cond-false (leb until t) (record s { phase = Waiting }) s a.0;
      same_phase = refl;
      emitted = refl;
      left = a.1;
    }

quiet_waiting : (q : List Ready) (dr : Drawing) (t pl : ℕ) (d : Defer) (at : ℕ) (le : Option ℕ) (lf : ℕ) (c : Bool)
    → (change_in (sender q dr t pl Waiting d at le lf) c ≡ Some 0 → ⊥) → IsQuiet (sender q dr t pl Waiting d at le lf) c
unfolding promoted finished emitting sending_started deferring is_free symbol_emitted change_in
quiet_waiting q dr t pl d at le lf c h =
    let a = gap_on c d h in
    record {
      settled = refl;
      same_phase = ap (λ f. phase_after t (phase_started t Waiting f) c) a.0;
      emitted = ap (λ f. symbol_emitted (frame_at q pl) t (phase_started t Waiting f) c) a.0;
      left =
          ap (λ (f : Bool). change_in (sender q dr (t + 1) pl (phase_after t (phase_started t Waiting f) c) (defer_started Waiting f (deferred d c false true)) at le (carrier_after lf t c)) c) a.0
          ∙ a.1;
    }

quiet_sending : (q : List Ready) (dr : Drawing) (t pl start : ℕ) (hit : Option ℕ) (d : Defer) (at : ℕ) (le : Option ℕ) (lf : ℕ) (c : Bool)
    → (change_in (sender q dr t pl (Sending start hit) d at le lf) c ≡ Some 0 → ⊥) → IsQuiet (sender q dr t pl (Sending start hit) d at le lf) c
unfolding promoted finished emitting sending_started deferring is_free symbol_emitted change_in
quiet_sending q dr t pl start hit d at le lf c h =
    let s = sender q dr t pl (Sending start hit) d at le lf in
    let a = sends_on (gets_hit hit c) (start + sending_length (frame_at q pl) hit) t h in
    let same : hit_at hit c (t - start) ≡ hit = same_hit hit c (t - start) a.0 in
    let now : t - start ≡ t + 0 - start = omega arith in
    record {
      settled = ap promoted (cond-false (leb (start + sending_length (frame_at q pl) hit) t) (sending_ended s hit) s a.1);
      same_phase = ap (Sending start) same;
      emitted = ap (λ x. symbol_of (frame_at q pl) x (t - start)) same ∙ ap (symbol_of (frame_at q pl) hit) now;
      left =
          ap (λ (x : Option ℕ). change_in (sender q dr (t + 1) pl (Sending start x) (deferred d c true false) at le (carrier_after lf t c)) c) same
          ∙ a.2;
    }

quiet : (s : Sender) (c : Bool) → (change_in s c ≡ Some 0 → ⊥) → IsQuiet s c
quiet s c = quiet_in s.phase
  where
    quiet_in : (p : Phase) → (change_in (record s { phase = p }) c ≡ Some 0 → ⊥) → IsQuiet (record s { phase = p }) c
    quiet_in Rest h = quiet_rest s.queue s.draws s.t s.place s.defer s.attempt s.last_end s.carrier_from c h
    quiet_in Waiting h = quiet_waiting s.queue s.draws s.t s.place s.defer s.attempt s.last_end s.carrier_from c h
    quiet_in (Sending start hit) h = quiet_sending s.queue s.draws s.t s.place start hit s.defer s.attempt s.last_end s.carrier_from c h
    quiet_in (Backoff until) h = quiet_backoff s.queue s.draws s.t s.place until s.defer s.attempt s.last_end s.carrier_from c h

-- one half bit later the same is emitted one half bit sooner
emission_later : (s : Sender) (j t : ℕ) (p : Phase) → t ≡ s.t + 1 → emission_by (record s { t = t }) j p ≡ emission_by s (suc j) p
emission_later s j t Rest e = refl
emission_later s j t Waiting e = refl
emission_later s j t (Sending start hit) e = let same : t + j - start ≡ s.t + suc j - start = omega (arith, e) in ap (symbol_of (frame_at s.queue s.place) hit) same
emission_later s j t (Backoff until) e = refl

emission_next : (s : Sender) (c : Bool) (j : ℕ) → (emitting (after_turn s c) c).phase ≡ s.phase
    → emission_by (emitting (after_turn s c) c) j (emitting (after_turn s c) c).phase ≡ emission_by s (suc j) s.phase
unfolding emitting sending_started deferring
emission_next s c j e = ap (emission_by (emitting (after_turn s c) c) j) e ∙ emission_later s j (s.t + 1) s.phase refl

next_state : (s : Sender) (h : Sym) (c : Bool) → is_signal h ≡ c → IsQuiet s c → (sender_step s h).state ≡ emitting (after_turn s c) c
next_state s h c e k = state_is s h c e ∙ ap (λ x. emitting (after_turn x c) c) k.settled

-- fewer half bits
pub fewer_over : (a b : ℕ) (o : Option ℕ) → a ≤ b → AreOverBefore b o → AreOverBefore a o
fewer_over a b None h f = tt
fewer_over a b (Some m) h f = omega (arith, h, f)

pub calm_fewer : (a b : ℕ) (c : Bool) (s : Sender) → a ≤ b → IsCalmAs b c s → IsCalmAs a c s
calm_fewer a b c s h is = record {
  number = fewer_over a b (change_in s c) h is.number;
  calm = λ hs heard few. is.calm hs heard (omega (arith, few, h));
}

-- what is left, and what is emitted then
pub record GoesOnCalm (s s' : Sender) (c : Bool) (n m : ℕ) : Type 0 where
  pub left : AreOverBefore m (change_in s' c)
  pub phase : s'.phase ≡ s.phase
  pub emits : (j : ℕ) → emission_by s' j s'.phase ≡ emission_by s (n + j) s.phase

pub goes_on_calm : (hs : List Sym) (s : Sender) (c : Bool) (m : ℕ) → AllHeardAs c hs → AreOverBefore (length hs + m) (change_in s c) → GoesOnCalm s (after_all s hs) c (length hs) m
goes_on_calm [] s c m a f = record {
  left = fewer_over m (0 + m) (change_in s c) (omega arith) f;
  phase = refl;
  emits = λ j. let e : j ≡ 0 + j = omega arith in ap (λ x. emission_by s x s.phase) e;
}
goes_on_calm (h ∷ hs) s c m a f =
    let f' : AreOverBefore (suc (length hs + m)) (change_in s c) = fewer_over (suc (length hs + m)) (length (h ∷ hs) + m) (change_in s c) (omega arith) f in
    let k = quiet s c (not_now (length hs + m) (change_in s c) f') in
    let next = emitting (after_turn s c) c in
    let later = goes_on_calm hs next c m (heard_rest c h hs a) (subst (AreOverBefore (length hs + m)) (sym k.left) (over_sooner (length hs + m) (change_in s c) f')) in
    let is = next_state s h c (heard_first c h hs a) k in
    subst (λ x. GoesOnCalm s (after_all x hs) c (length (h ∷ hs)) m) (sym is) (record {
      left = later.left;
      phase = later.phase ∙ k.same_phase;
      emits = λ j.
          let e : suc (length hs + j) ≡ length (h ∷ hs) + j = omega arith in
          later.emits j ∙ emission_next s c (length hs + j) k.same_phase ∙ ap (λ x. emission_by s x s.phase) e;
    })

calm_rest : (hs xs : List Sym) (s : Sender) → AreCalm s (hs ++ xs) → AreCalm (after_all s hs) xs
calm_rest [] xs s h = h
calm_rest (x ∷ hs) xs s h = calm_rest hs xs (sender_step s x).state h.1

all_heard : (c : Bool) (hs xs : List Sym) → AllHeardAs c hs → AllHeardAs c xs → AllHeardAs c (hs ++ xs)
all_heard c [] xs a b = b
all_heard c (h ∷ hs) xs a b = with_first (heard_first c h hs a) (all_heard c hs xs (heard_rest c h hs a) b)
  where
    with_first : is_signal h ≡ c → AllHeardAs c (hs ++ xs) → AllHeardAs c (h ∷ (hs ++ xs))
    with_first e r zero d l = e
    with_first e r (suc i) d l = r i d (omega (arith, l))

-- a sender that is calm for n half bits, after some of them
pub calm_on : (hs : List Sym) (s : Sender) (c : Bool) (n : ℕ) → AllHeardAs c hs → length hs ≤ n → IsCalmAs n c s → GoesOnCalm s (after_all s hs) c (length hs) (n - length hs) × IsCalmAs (n - length hs) c (after_all s hs)
calm_on hs s c n a few is =
    let on = goes_on_calm hs s c (n - length hs) a (fewer_over (length hs + (n - length hs)) n (change_in s c) (omega (arith, few)) is.number) in (
      on,
      record {
        number = on.left;
        calm = λ xs b l. let sum = length-append hs xs in calm_rest hs xs s (is.calm (hs ++ xs) (all_heard c hs xs a b) (omega (arith, sum, l, few)));
      },
    )
