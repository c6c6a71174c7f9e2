-- A sender's half bit keeps what is asked of its states, and what it keeps for the laws follows the half bits.
use Rattle.std.proofs.Common.{◌≡◌, ℕ, suc, ◌+◌, ◌*◌, ◌%◌, ◌^◌, ◌<◌, ◌≤◌, Bool, true, false, ltb, leb, eqb, ◌&&◌, Option, Some, None, List, [], ◌∷◌, length, refl, sym, ap, subst, ◌∙◌, arith}
use Rattle.std.specs.Prelude.{if◌then◌else◌}
use Rattle.std.proofs.Math.Nat.{mod-le}
use Rattle.std.proofs.lemmas.Bool.{cond_both, ltb-true, and_parts}
use Rattle.std.proofs.lemmas.Bool.Decides.{nat_tests}
use Rattle.mac_parameters.specs.Parameters.{attempt_limit, interframe_gap, slot_time, most_half_bits, most_draws}
use Rattle.manchester_line.specs.declared.Sym.{Sym}
use Rattle.frame_layout.specs.declared.queue.Ready.{Ready}
use Rattle.backoff_draw.specs.Draws.{Drawing, draw_of, drawn}
use Rattle.collision_log.specs.declared.row.Body.{Body}
use Rattle.mac_transmit.specs.declared.deference.Defer.{Defer}
use Rattle.mac_transmit.specs.declared.deference.Defer.TheVariants.{Busy}
use Rattle.mac_transmit.specs.declared.phase.Phase.{Phase}
use Rattle.mac_transmit.specs.declared.phase.Phase.TheVariants.{Rest, Waiting, Sending, Backoff}
use Rattle.mac_transmit.specs.Deference.{gap_of}
use Rattle.mac_transmit.specs.Laws.{carrier_after, end_after, StartsAt, IsAway}
use Rattle.mac_transmit.specs.Sender.{Sender, IsSender, DeferIsSound, sender_step, finished, finished_from, sending_ended, end_event, event_from, promoted, promoted_from, deferring, is_free, sending_started, emitting, after_turn, frame_at, ready_at, sending_length}
use Rattle.manchester_line.specs.Line.{is_signal}
use Rattle.mac_transmit.specs.Calm.{after_all, AllHeardAs}
use Rattle.mac_transmit.specs.Starts.{IsStart, GapsAreKept, DeafGapsAreKept}
use Rattle.mac_transmit.proofs.SenderInvariant.{turn, goes_on, draw_below}

-- what a part of a half bit keeps, from s to s', where e is the event
pub record Follows (s s' : Sender) (e : Option Body) : Type 0 where
  pub valid : IsSender s'
  pub time : s'.t ≡ s.t
  pub end : s'.last_end ≡ end_after s.last_end s.t e
  pub carrier : s'.carrier_from ≡ s.carrier_from

abbrev pub sender : List Ready → Drawing → ℕ → ℕ → Phase → Defer → ℕ → Option ℕ → ℕ → Sender
sender q dr t pl p d at le lf = record { queue = q; draws = dr; t = t; place = pl; phase = p; defer = d; attempt = at; last_end = le; carrier_from = lf }

busy_ends : (t from : ℕ) (d : Defer) → d ≡ Busy true → DeferIsSound t (Some t) from d
busy_ends t from d e = subst (DeferIsSound t (Some t) from) (sym e) (let l : t + 0 ≤ t = omega arith in l)

busy_gap : (d : Defer) → d ≡ Busy true → gap_of d ≤ interframe_gap
busy_gap d e = subst (λ x. gap_of x ≤ interframe_gap) (sym e) (let l : 0 ≤ interframe_gap = omega arith in l)

next_attempt : (n : ℕ) → n ≤ attempt_limit → eqb n attempt_limit ≡ false → n + 1 ≤ attempt_limit
next_attempt n h e = grind (arith, nat_tests)

-- a sending that ends
leaves : (q : List Ready) (dr : Drawing) (t pl start : ℕ) (hit : Option ℕ) (d : Defer) (at : ℕ) (le : Option ℕ) (lf : ℕ) (e : Body)
    → IsSender (sender q dr t pl (Sending start hit) d at le lf)
    → Follows (sender q dr t pl (Sending start hit) d at le lf) (sender q dr t (pl + 1) Rest d at (Some t) lf) (Some e)
leaves q dr t pl start hit d at le lf e h =
    let place : pl < length q = ltb-true pl (length q) h.phase_sound.0 in
    record {
      valid = record {
        few = h.few;
        time = h.time;
        drawn = h.drawn;
        first = h.first;
        last = h.last;
        gap = h.gap;
        place = omega arith;
        phase_sound = tt;
        defer_sound = busy_ends t lf d h.phase_sound.3;
        carrier = h.carrier;
      };
      time = refl;
      end = refl;
      carrier = refl;
    }

backs_off : (q : List Ready) (dr : Drawing) (t pl start : ℕ) (hit : Option ℕ) (d : Defer) (at : ℕ) (le : Option ℕ) (lf : ℕ) (e : Body)
    → IsSender (sender q dr t pl (Sending start hit) d at le lf) → eqb at attempt_limit ≡ false
    → Follows (sender q dr t pl (Sending start hit) d at le lf) (sender q (drawn dr) t pl (Backoff (t + slot_time * draw_of dr.seed dr.station dr.made at)) d (at + 1) (Some t) lf) (Some e)
backs_off q dr t pl start hit d at le lf e h l =
    let draw : draw_of dr.seed dr.station dr.made at < slot_time = draw_below dr.seed dr.station dr.made at in
    let began : start < t = h.phase_sound.1 in
    let made : dr.made ≤ start + most_draws = h.phase_sound.2 in
    let now : t ≤ most_half_bits = h.time in
    let one : (dr.made + 1) % 2 ^ 68 ≤ dr.made + 1 = mod-le (dr.made + 1) (2 ^ 68) in
    record {
      valid = record {
        few = h.few;
        time = h.time;
        drawn = omega (arith, one, began, made);
        first = omega arith;
        last = next_attempt at h.last l;
        gap = h.gap;
        place = h.place;
        phase_sound = (h.phase_sound.0, omega (arith, draw, now));
        defer_sound = busy_ends t lf d h.phase_sound.3;
        carrier = h.carrier;
      };
      time = refl;
      end = refl;
      carrier = refl;
    }

ends : (q : List Ready) (dr : Drawing) (t pl start : ℕ) (hit : Option ℕ) (d : Defer) (at : ℕ) (le : Option ℕ) (lf : ℕ) (e : Body)
    → IsSender (sender q dr t pl (Sending start hit) d at le lf)
    → Follows (sender q dr t pl (Sending start hit) d at le lf) (sending_ended (sender q dr t pl (Sending start hit) d at le lf) hit) (Some e)
ends q dr t pl start None d at le lf e h = leaves q dr t pl start None d at le lf e h
ends q dr t pl start (Some p) d at le lf e h =
    cond_both (eqb at attempt_limit) (sender q dr t (pl + 1) Rest d at (Some t) lf) (sender q (drawn dr) t pl (Backoff (t + slot_time * draw_of dr.seed dr.station dr.made at)) d (at + 1) (Some t) lf)
    (λ x. Follows (sender q dr t pl (Sending start (Some p)) d at le lf) x (Some e))
    (λ _. leaves q dr t pl start (Some p) d at le lf e h) (λ l. backs_off q dr t pl start (Some p) d at le lf e h l)

stays : (s : Sender) → IsSender s → Follows s s None
stays s h = record { valid = h; time = refl; end = refl; carrier = refl }

finishes_if : (b : Bool) (s s' : Sender) (e : Body) → Follows s s' (Some e) → IsSender s → Follows s (if b then s' else s) (if b then Some e else None)
finishes_if true s s' e f h = f
finishes_if false s s' e f h = stays s h

finishes : (s : Sender) → IsSender s → Follows s (finished s) (event_from s s.phase)
unfolding finished event_from
finishes s = at_phase s.phase
  where
    at_phase : (p : Phase) → IsSender (record s { phase = p }) → Follows (record s { phase = p }) (finished_from (record s { phase = p }) p) (event_from (record s { phase = p }) p)
    at_phase Rest h = stays (record s { phase = Rest }) h
    at_phase Waiting h = stays (record s { phase = Waiting }) h
    at_phase (Sending start hit) h =
        let x = record s { phase = Sending start hit } in
        finishes_if (leb (start + sending_length (frame_at s.queue s.place) hit) s.t) x (sending_ended x hit) (end_event x start hit)
        (ends s.queue s.draws s.t s.place start hit s.defer s.attempt s.last_end s.carrier_from (end_event x start hit) h) h
    at_phase (Backoff until) h = stays (record s { phase = Backoff until }) h

waits : (s : Sender) (n : ℕ) → IsSender s → 1 ≤ n → n ≤ attempt_limit → ltb s.place (length s.queue) ≡ true → Follows s (record s { phase = Waiting; attempt = n }) None
waits s n h l m more = record {
  valid = record { few = h.few; time = h.time; drawn = h.drawn; first = l; last = m; gap = h.gap; place = h.place; phase_sound = more; defer_sound = h.defer_sound; carrier = h.carrier };
  time = refl;
  end = refl;
  carrier = refl;
}

promotes : (s : Sender) → IsSender s → Follows s (promoted s) None
unfolding promoted
promotes s = at_phase s.phase
  where
    at_phase : (p : Phase) → IsSender (record s { phase = p }) → Follows (record s { phase = p }) (promoted_from (record s { phase = p }) p) None
    at_phase Rest h =
        cond_both (ltb s.place (length s.queue) && leb (ready_at s.queue s.place) s.t) (record s { phase = Waiting; attempt = 1 }) (record s { phase = Rest }) (λ x. Follows (record s { phase = Rest }) x None)
        (λ e. waits (record s { phase = Rest }) 1 h (omega arith) (omega arith) (and_parts (ltb s.place (length s.queue)) (leb (ready_at s.queue s.place) s.t) e).0) (λ _. stays (record s { phase = Rest }) h)
    at_phase Waiting h = stays (record s { phase = Waiting }) h
    at_phase (Sending start hit) h = stays (record s { phase = Sending start hit }) h
    at_phase (Backoff until) h =
        cond_both (leb until s.t) (record s { phase = Waiting }) (record s { phase = Backoff until }) (λ x. Follows (record s { phase = Backoff until }) x None)
        (λ e. waits (record s { phase = Backoff until }) s.attempt h h.first h.last h.phase_sound.0) (λ _. stays (record s { phase = Backoff until }) h)

-- a whole half bit
pub record Steps (s : Sender) (h : Sym) : Type 0 where
  pub valid : IsSender (sender_step s h).state
  pub time : (sender_step s h).state.t ≡ s.t + 1
  pub end : (sender_step s h).state.last_end ≡ end_after s.last_end s.t (sender_step s h).event
  pub carrier : (sender_step s h).state.carrier_from ≡ carrier_after s.carrier_from s.t (is_signal h)
  pub gap_kept : IsStart s h → IsAway (sender_step s h).state.last_end interframe_gap s.t
  pub deaf_kept : IsStart s h → is_signal h ≡ true → s.t < s.carrier_from + interframe_gap

pub steps : (s : Sender) (h : Sym) → IsSender s → s.t < most_half_bits → Steps s h
unfolding sender_step emitting sending_started deferring is_free
steps s h v l =
    let f = finishes s v in
    let p = promotes (finished s) f.valid in
    let m = promoted (finished s) in
    let c = is_signal h in
    let time : m.t ≡ s.t = p.time ∙ f.time in
    let from : m.carrier_from ≡ s.carrier_from = p.carrier ∙ f.carrier in
    let k = turn m c p.valid in
    record {
      valid = goes_on m c _ _ _ p.valid (subst (λ x. x < most_half_bits) (sym time) l) refl refl refl;
      time = ap (λ x. x + 1) time;
      end = p.end ∙ f.end;
      carrier = ap (λ x. carrier_after x m.t c) from ∙ ap (λ x. carrier_after s.carrier_from x c) time;
      gap_kept = λ b. subst (IsAway m.last_end interframe_gap) time (k.gap_kept (subst (λ x. StartsAt x (emitting (after_turn m c) c).phase) (sym time) b));
      deaf_kept = λ b e. subst (λ x. s.t < x + interframe_gap) from (subst (λ x. x < m.carrier_from + interframe_gap) time (k.deaf_kept (subst (λ x. StartsAt x (emitting (after_turn m c) c).phase) (sym time) b) e));
    }

-- many
pub record Ran (s : Sender) (hs : List Sym) : Type 0 where
  pub valid : IsSender (after_all s hs)
  pub time : (after_all s hs).t ≡ s.t + length hs

run : (hs : List Sym) (s : Sender) → IsSender s → s.t + length hs ≤ most_half_bits → Ran s hs
run [] s v l = record { valid = v; time = omega arith }
run (h ∷ hs) s v l =
    let k = steps s h v (omega arith) in
    let t : (sender_step s h).state.t ≡ s.t + 1 = k.time in
    let r = run hs (sender_step s h).state k.valid (omega (arith, t)) in
    record { valid = r.valid; time = r.time ∙ ap (λ x. x + length hs) t ∙ (let e : s.t + 1 + length hs ≡ s.t + suc (length hs) = omega arith in e) }

-- the last end is x or later
abbrev Since : ℕ → Option ℕ → Type 0
Since x None = ⊥
Since x (Some y) = x ≤ y

since_event : (x : ℕ) (last : Option ℕ) (t : ℕ) (e : Option Body) → Since x last → x ≤ t → Since x (end_after last t e)
since_event x last t None h l = h
since_event x last t (Some b) h l = l

since_run : (hs : List Sym) (s : Sender) (x : ℕ) → IsSender s → s.t + length hs ≤ most_half_bits → x ≤ s.t → Since x s.last_end → Since x (after_all s hs).last_end
since_run [] s x v l m h = h
since_run (h ∷ hs) s x v l m o =
    let k = steps s h v (omega arith) in
    let t : (sender_step s h).state.t ≡ s.t + 1 = k.time in
    since_run hs (sender_step s h).state x k.valid (omega (arith, t)) (omega (arith, t, m)) (subst (Since x) (sym k.end) (since_event x s.last_end s.t (sender_step s h).event o m))

since_end : (last : Option ℕ) (t : ℕ) (e : Option Body) → (e ≡ None → ⊥) → Since t (end_after last t e)
since_end last t None f = absurd (f refl)
since_end last t (Some b) f = omega arith

away_from : (x t : ℕ) (o : Option ℕ) → Since x o → IsAway o interframe_gap t → x + interframe_gap ≤ t
away_from x t None h a = absurd h
away_from x t (Some y) h a = omega arith

pub gaps : GapsAreKept
gaps s v h e hs g l b =
    let k = steps s h v (omega arith) in
    let t : (sender_step s h).state.t ≡ s.t + 1 = k.time in
    let sending_ended : Since s.t (sender_step s h).state.last_end = subst (Since s.t) (sym k.end) (since_end s.last_end s.t (sender_step s h).event e) in
    let r = run hs (sender_step s h).state k.valid (omega (arith, t)) in
    let now : (after_all (sender_step s h).state hs).t ≡ (sender_step s h).state.t + length hs = r.time in
    let last = since_run hs (sender_step s h).state s.t k.valid (omega (arith, t)) (omega (arith, t)) sending_ended in
    let m = steps (after_all (sender_step s h).state hs) g r.valid (omega (arith, now, t)) in
    away_from s.t (after_all (sender_step s h).state hs).t (sender_step (after_all (sender_step s h).state hs) g).state.last_end
    (subst (Since s.t) (sym m.end) (since_event s.t (after_all (sender_step s h).state hs).last_end (after_all (sender_step s h).state hs).t (sender_step (after_all (sender_step s h).state hs) g).event last (omega (arith, now, t))))
    (m.gap_kept b)

carrier_run : (hs : List Sym) (s : Sender) → IsSender s → s.t + length hs ≤ most_half_bits → AllHeardAs true hs → (after_all s hs).carrier_from ≡ s.carrier_from
carrier_run [] s v l a = refl
carrier_run (h ∷ hs) s v l a =
    let k = steps s h v (omega arith) in
    let t : (sender_step s h).state.t ≡ s.t + 1 = k.time in
    carrier_run hs (sender_step s h).state k.valid (omega (arith, t)) (λ i d m. a (suc i) d (omega arith))
    ∙ k.carrier ∙ ap (carrier_after s.carrier_from s.t) (a 0 h (omega arith))

pub deaf_gaps : DeafGapsAreKept
deaf_gaps s v hs g l a c b =
    let r = run hs s v (omega arith) in
    let now : (after_all s hs).t ≡ s.t + length hs = r.time in
    let from : (after_all s hs).carrier_from ≡ s.carrier_from = carrier_run hs s v (omega arith) a in
    let m = steps (after_all s hs) g r.valid (omega (arith, now)) in
    let early : (after_all s hs).t < (after_all s hs).carrier_from + interframe_gap = m.deaf_kept b c in
    let first : s.carrier_from ≤ s.t = v.carrier in
    omega (arith, now, from, early, first)
