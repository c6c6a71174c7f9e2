-- What a sender keeps in a half bit, and the laws of its starts.
use Rattle.std.proofs.Common.{◌≡◌, ℕ, ◌+◌, ◌%◌, ◌^◌, ◌<◌, ◌≤◌, min, Bool, true, false, ltb, eqb, ◌&&◌, not, Option, Some, None, length, refl, sym, ap, subst, ◌∙◌, arith}
use Rattle.std.specs.Prelude.{if◌then◌else◌}
use Rattle.std.proofs.lemmas.Bool.{cond_both, and_parts, eqb-true}
use Rattle.std.proofs.Math.Nat.{mod-lt, pow-le-pow_right, one-le-pow}
use Rattle.mac_parameters.specs.Parameters.{backoff_limit, interframe_gap, interframe_gap_part_1, slot_time, most_half_bits, most_draws}
use Rattle.backoff_draw.specs.Draws.{draw_of, word}
use Rattle.mac_transmit.specs.declared.deference.Defer.{Defer}
use Rattle.mac_transmit.specs.declared.deference.Defer.TheVariants.{Watch, Busy, Gap}
use Rattle.mac_transmit.specs.declared.phase.Phase.{Phase}
use Rattle.mac_transmit.specs.declared.phase.Phase.TheVariants.{Rest, Waiting, Sending, Backoff}
use Rattle.mac_transmit.specs.Deference.{deferred, free_of, gap_of, watched}
use Rattle.mac_transmit.specs.Laws.{carrier_after, StartsAt, IsAway}
use Rattle.mac_transmit.specs.Sender.{is_sending, is_waiting, phase_started, defer_started, phase_after, HasItsFrame, PhaseIsSound, DeferIsSound, Sender, IsSender}

-- the choice of an if has what both branches have
pub choose : {A : Type 0} (P : A → Type 0) (b : Bool) (x y : A) → (b ≡ true → P x) → (b ≡ false → P y) → P (if b then x else y)
choose P b x y f g = cond_both b x y P f g

away : (last : Option ℕ) (g t g' t' : ℕ) → IsAway last g t → g' + t ≤ g + t' → IsAway last g' t'
away None g t g' t' h l = tt
away (Some e) g t g' t' h l = omega arith

watched_gap : (c : Bool) → gap_of (watched c) ≤ interframe_gap
watched_gap true = omega arith
watched_gap false = omega arith

pub gap_next : (d : Defer) (c x w : Bool) → gap_of d ≤ interframe_gap → gap_of (deferred d c x w) ≤ interframe_gap
gap_next Watch c x w h = watched_gap c
gap_next (Busy was) true x w h = omega arith
gap_next (Busy was) false true w h = omega arith
gap_next (Busy was) false false w h = omega arith
gap_next (Gap k was) c x w h =
    choose (λ d. gap_of d ≤ interframe_gap) (eqb k interframe_gap) (if w then Watch else watched c) (if ltb k interframe_gap_part_1 && (not was && c) then Busy false else Gap (k + 1) was)
    (λ _. choose (λ d. gap_of d ≤ interframe_gap) w Watch (watched c) (λ _. omega arith) (λ _. watched_gap c))
    (λ e. choose (λ d. gap_of d ≤ interframe_gap) (ltb k interframe_gap_part_1 && (not was && c)) (Busy false) (Gap (k + 1) was) (λ _. omega arith) (λ _. less k h e))
  where
    less : (k : ℕ) → k ≤ interframe_gap → eqb k interframe_gap ≡ false → k + 1 ≤ interframe_gap
    less k h e = grind arith

watched_next : (t : ℕ) (last : Option ℕ) (from : ℕ) (c : Bool) → IsAway last interframe_gap t → DeferIsSound (t + 1) last (carrier_after from t c) (watched c)
watched_next t last from true h = away last interframe_gap t 0 (t + 1) h (omega arith)
watched_next t last from false h = away last interframe_gap t interframe_gap (t + 1) h (omega arith)

defer_next : (t : ℕ) (last : Option ℕ) (from : ℕ) (d : Defer) (c x w : Bool) → DeferIsSound t last from d → DeferIsSound (t + 1) last (carrier_after from t c) (deferred d c x w)
defer_next t last from Watch c x w h = watched_next t last from c h
defer_next t last from (Busy was) true x w h = away last 0 t 0 (t + 1) h (omega arith)
defer_next t last from (Busy was) false true w h = away last 0 t 0 (t + 1) h (omega arith)
defer_next t last from (Busy was) false false w h = (away last 0 t 1 (t + 1) h (omega arith), omega arith, omega arith)
defer_next t last from (Gap k was) c x w h =
    choose (DeferIsSound (t + 1) last (carrier_after from t c)) (eqb k interframe_gap) (if w then Watch else watched c) (if ltb k interframe_gap_part_1 && (not was && c) then Busy false else Gap (k + 1) was)
    (λ e. let full : k ≡ interframe_gap = eqb-true k interframe_gap e in
    choose (DeferIsSound (t + 1) last (carrier_after from t c)) w Watch (watched c)
    (λ _. away last k t interframe_gap (t + 1) h.0 (omega arith))
    (λ _. watched_next t last from c (away last k t interframe_gap t h.0 (omega arith))))
    (λ _. choose (DeferIsSound (t + 1) last (carrier_after from t c)) (ltb k interframe_gap_part_1 && (not was && c)) (Busy false) (Gap (k + 1) was)
    (λ _. away last k t 0 (t + 1) h.0 (omega arith))
    (λ _. (away last k t (k + 1) (t + 1) h.0 (omega arith), later t from k c h.1, omega arith)))
  where
    later : (t from k : ℕ) (c : Bool) → t < from + k → t + 1 < carrier_after from t c + (k + 1)
    later t from k true h = omega arith
    later t from k false h = omega arith

-- What a turn in half bit t keeps, where p and d are the phase and the state of deference before it and p' and d' those
-- after.
pub record Keeps (t made : ℕ) (more : Bool) (last : Option ℕ) (from : ℕ) (c : Bool) (p' : Phase) (d' : Defer) : Type 0 where
  pub gap : gap_of d' ≤ interframe_gap
  pub phase_sound : PhaseIsSound (t + 1) made more d' (phase_after t p' c)
  pub defer_sound : DeferIsSound (t + 1) last (carrier_after from t c) d'
  pub within : HasItsFrame more p'
  pub gap_kept : StartsAt t (phase_after t p' c) → IsAway last interframe_gap t
  pub deaf_kept : StartsAt t (phase_after t p' c) → c ≡ true → t < from + interframe_gap

-- a station that is free waited out the gap
free_waited : (t : ℕ) (last : Option ℕ) (from : ℕ) (d : Defer) (c w : Bool) → DeferIsSound t last from d → free_of d c w ≡ true → IsAway last interframe_gap t × (c ≡ true → t < from + interframe_gap)
free_waited t last from Watch true w h f = absurd (cc)
free_waited t last from Watch false w h f = (h, λ e. absurd (cc))
free_waited t last from (Busy was) c w h f = absurd (cc)
free_waited t last from (Gap k was) c w h f =
    let full : k ≡ interframe_gap = eqb-true k interframe_gap (and_parts _ _ f).0 in
    let heard : t < from + k = h.1 in
    (away last k t interframe_gap t h.0 (omega arith), λ _. omega arith)

waiting_keeps : (t made : ℕ) (last : Option ℕ) (from : ℕ) (c free : Bool) (d : Defer) → (more : Bool) → more ≡ true → made ≤ t + most_draws → gap_of d ≤ interframe_gap → DeferIsSound (t + 1) last (carrier_after from t c) d
    → (free ≡ true → IsAway last interframe_gap t × (c ≡ true → t < from + interframe_gap)) → Keeps t made more last from c (phase_started t Waiting free) (defer_started Waiting free d)
waiting_keeps t made last from c true d more m few g h f =
    record {
      gap = omega arith;
      phase_sound = (m, omega arith, few, refl);
      defer_sound = away last interframe_gap t 0 (t + 1) (f refl).0 (omega arith);
      within = m;
      gap_kept = λ _. (f refl).0;
      deaf_kept = λ _ e. (f refl).1 e;
    }
waiting_keeps t made last from c false d more m few g h f =
    record { gap = g; phase_sound = m; defer_sound = h; within = tt; gap_kept = λ e. absurd e; deaf_kept = λ e. absurd e }

pub busy_stays : (d : Defer) (c w : Bool) → d ≡ Busy true → deferred d c true w ≡ Busy true
busy_stays d c w e = ap (λ x. deferred x c true w) e ∙ stays c
  where
    stays : (c : Bool) → deferred (Busy true) c true w ≡ Busy true
    stays true = refl
    stays false = refl

pub turn_keeps : (t made : ℕ) (more : Bool) (last : Option ℕ) (from : ℕ) (p : Phase) (d : Defer) (c : Bool)
    → made ≤ t + most_draws → gap_of d ≤ interframe_gap → PhaseIsSound t made more d p → DeferIsSound t last from d
    → Keeps t made more last from c (phase_started t p (free_of d c (is_waiting p))) (defer_started p (free_of d c (is_waiting p)) (deferred d c (is_sending p) (is_waiting p)))
turn_keeps t made more last from Rest d c few g s h =
    record { gap = gap_next d c false false g; phase_sound = tt; defer_sound = defer_next t last from d c false false h; within = tt; gap_kept = λ e. absurd e; deaf_kept = λ e. absurd e }
turn_keeps t made more last from (Backoff until) d c few g s h =
    record { gap = gap_next d c false false g; phase_sound = s; defer_sound = defer_next t last from d c false false h; within = tt; gap_kept = λ e. absurd e; deaf_kept = λ e. absurd e }
turn_keeps t made more last from Waiting d c few g s h =
    waiting_keeps t made last from c (free_of d c true) (deferred d c false true) more s few (gap_next d c false true g) (defer_next t last from d c false true h) (free_waited t last from d c true h)
turn_keeps t made more last from (Sending start hit) d c few g s h =
    let began : start < t = s.1 in
    record {
      gap = gap_next d c true false g;
      phase_sound = (s.0, omega arith, s.2, busy_stays d c false s.3);
      defer_sound = defer_next t last from d c true false h;
      within = s.0;
      gap_kept = λ (e : start ≡ t). absurd (omega arith);
      deaf_kept = λ (e : start ≡ t). absurd (omega arith);
    }

-- the phase and the state of deference after a turn
abbrev pub turn_phase : Sender → Bool → Phase
turn_phase s c = phase_started s.t s.phase (free_of s.defer c (is_waiting s.phase))

abbrev pub turn_defer : Sender → Bool → Defer
turn_defer s c = defer_started s.phase (free_of s.defer c (is_waiting s.phase)) (deferred s.defer c (is_sending s.phase) (is_waiting s.phase))

pub turn : (s : Sender) (c : Bool) → IsSender s → Keeps s.t s.draws.made (ltb s.place (length s.queue)) s.last_end s.carrier_from c (turn_phase s c) (turn_defer s c)
turn s c h = turn_keeps s.t s.draws.made (ltb s.place (length s.queue)) s.last_end s.carrier_from s.phase s.defer c h.drawn h.gap h.phase_sound h.defer_sound

carrier_next : (from t : ℕ) (c : Bool) → from ≤ t → carrier_after from t c ≤ t + 1
carrier_next from t true h = omega arith
carrier_next from t false h = omega arith

pub goes_on : (s : Sender) (c : Bool) (p : Phase) (d : Defer) (from : ℕ) → IsSender s → s.t < most_half_bits
    → p ≡ phase_after s.t (turn_phase s c) c → d ≡ turn_defer s c → from ≡ carrier_after s.carrier_from s.t c
    → IsSender (record { queue = s.queue; draws = s.draws; t = s.t + 1; place = s.place; phase = p; defer = d; attempt = s.attempt; last_end = s.last_end; carrier_from = from })
goes_on s c p d from h l ep ed el =
    let k = turn s c h in
    let drawn : s.draws.made ≤ s.t + most_draws = h.drawn in
    record {
      few = h.few;
      time = omega arith;
      drawn = omega arith;
      first = h.first;
      last = h.last;
      gap = subst (λ x. gap_of x ≤ interframe_gap) (sym ed) k.gap;
      place = h.place;
      phase_sound = subst (λ x. PhaseIsSound (s.t + 1) s.draws.made (ltb s.place (length s.queue)) x p) (sym ed) (subst (λ x. PhaseIsSound (s.t + 1) s.draws.made (ltb s.place (length s.queue)) (turn_defer s c) x) (sym ep) k.phase_sound);
      defer_sound = subst (λ x. DeferIsSound (s.t + 1) s.last_end from x) (sym ed) (subst (λ x. DeferIsSound (s.t + 1) s.last_end x (turn_defer s c)) (sym el) k.defer_sound);
      carrier = subst (λ x. x ≤ s.t + 1) (sym el) (carrier_next s.carrier_from s.t c h.carrier);
    }

-- a draw is below 1,024
pub draw_below : (seed station j n : ℕ) → draw_of seed station j n < slot_time
draw_below seed station j n =
    let some : 0 < 2 ^ min n backoff_limit = one-le-pow (min n backoff_limit) 2 (omega arith) in
    let few : 2 ^ min n backoff_limit ≤ 2 ^ backoff_limit = pow-le-pow_right {n = 2} (omega arith) {i = min n backoff_limit} {j = backoff_limit} (omega arith) in
    let below : word seed station j % 2 ^ min n backoff_limit < 2 ^ min n backoff_limit = mod-lt (word seed station j) some in
    omega arith
