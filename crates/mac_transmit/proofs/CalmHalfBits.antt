-- Half bits in which nothing happens to a sender, one and many.
use Rattle.std.proofs.Common.{◌≡◌, ℕ, zero, suc, ◌+◌, ◌-◌, ◌<◌, ◌≤◌, Bool, true, false, cond, ltb, leb, eqb, ◌&&◌, ◌||◌, not, Option, Some, None, List, [], ◌∷◌, length, refl, sym, ap, ap₂, subst, ◌∙◌, inl, inr, arith}
use Rattle.std.specs.Prelude.{if◌then◌else◌, ◌↔◌, ◌⊎◌}
use Rattle.std.proofs.lemmas.Bool.{cond-true, cond-false, and_parts, eqb-true, cases_lt}
use Rattle.std.proofs.lemmas.Bool.Decides.{nat_tests}
use Rattle.mac_parameters.specs.Parameters.{interframe_gap, interframe_gap_part_1, most_half_bits}
use Rattle.manchester_line.specs.declared.Sym.{Sym}
use Rattle.frame_layout.specs.declared.queue.Ready.{Ready}
use Rattle.backoff_draw.specs.Draws.{Drawing}
use Rattle.mac_transmit.specs.declared.deference.Defer.{Defer}
use Rattle.mac_transmit.specs.declared.deference.Defer.TheVariants.{Watch, Busy, Gap}
use Rattle.mac_transmit.specs.declared.phase.Phase.{Phase}
use Rattle.mac_transmit.specs.declared.phase.Phase.TheVariants.{Rest, Waiting, Sending, Backoff}
use Rattle.mac_transmit.specs.Deference.{deferred, free_of, gap_of, watched}
use Rattle.mac_transmit.specs.Laws.{carrier_after}
use Rattle.mac_transmit.specs.Sender.{Sender, IsSender, PhaseIsSound, sender_step, finished, sending_ended, promoted, deferring, is_free, sending_started, emitting, after_turn, event_from, end_event, phase_started, defer_started, phase_after, hit_at, is_sending, frame_at, ready_at, sending_length}
use Rattle.manchester_line.specs.Line.{is_signal}
use Rattle.mac_transmit.specs.Calm.{after_all, AllHeardAs, IsCalmIn, AreCalm, gap_left, gets_hit, change_in, AreOverBefore, up_to_most, gap_at, waited, leapt}
use Rattle.mac_transmit.proofs.SenderInvariant.{goes_on, busy_stays, gap_next}

-- tests on numbers
past_true : (a b : ℕ) → a - b ≡ 0 → leb a b ≡ true
past_true a b h = grind (arith, nat_tests)

fewer : (a b : ℕ) → a - (b + 1) ≡ a - b - 1
fewer a b = omega arith

not_end : (k : ℕ) → (interframe_gap - k ≡ 0 → ⊥) → k < interframe_gap
not_end k h = grind arith

some_same : (a b : ℕ) → ◌≡◌ {A = Option ℕ} (Some a) (Some b) → a ≡ b
some_same a b e = cc

-- one half bit fewer
pub pred_of : Option ℕ → Option ℕ
pred_of None = None
pred_of (Some n) = Some (n - 1)

not_past : (a b : ℕ) → (a - b ≡ 0 → ⊥) → leb a b ≡ false
not_past a b h = grind (arith, nat_tests)

-- a time that is awaited, if it is: not yet, and now
pub awaits : (b : Bool) (r t : ℕ) → (cond b (Some (r - t)) None ≡ Some 0 → ⊥) → ((b && leb r t) ≡ false) × (cond b (Some (r - (t + 1))) None ≡ pred_of (cond b (Some (r - t)) None))
unfolding pred_of
awaits true r t h = (not_past r t (λ z. h (ap Some z)), ap Some (fewer r t))
awaits false r t h = (refl, refl)

awaited : (b : Bool) (r t : ℕ) → cond b (Some (r - t)) None ≡ Some 0 → (b && leb r t) ≡ true
awaited true r t e = past_true r t (some_same _ _ e)
awaited false r t e = absurd (cc)

-- the gap that is left, one half bit on
same_bool : (was : Bool) → (was || false) ≡ was
same_bool true = refl
same_bool false = refl

no_carrier : (was : Bool) → (not was && false) ≡ false
no_carrier true = refl
no_carrier false = refl

restart_later : (k : ℕ) (x : Bool) → (ltb k interframe_gap_part_1 && x) ≡ false → (ltb (k + 1) interframe_gap_part_1 && x) ≡ false
restart_later k true h = grind (arith, nat_tests)
restart_later k false h = grind (arith, nat_tests)

at_end : (k : ℕ) → k ≡ interframe_gap → eqb k interframe_gap ≡ true
at_end k h = grind (arith, nat_tests)

before_end : (k : ℕ) → k < interframe_gap → eqb k interframe_gap ≡ false
before_end k h = grind (arith, nat_tests)

restart_early : (k : ℕ) (x : Bool) → (ltb k interframe_gap_part_1 && x) ≡ true → (k < interframe_gap_part_1) × (x ≡ true)
restart_early k x h = let p = and_parts (ltb k interframe_gap_part_1) x h in (early k p.0, p.1)
  where
    early : (k : ℕ) → ltb k interframe_gap_part_1 ≡ true → k < interframe_gap_part_1
    early k h = grind (arith, nat_tests)

abbrev restarts : Bool → ℕ → Bool → Bool
restarts c k was = ltb k interframe_gap_part_1 && (not was && c)

deferred_on : (c : Bool) (k : ℕ) (was x w : Bool) → eqb k interframe_gap ≡ false → restarts c k was ≡ false → deferred (Gap k was) c x w ≡ Gap (k + 1) was
deferred_on c k was x w e r =
    cond-false (eqb k interframe_gap) (if w then Watch else watched c) (if restarts c k was then Busy false else Gap (k + 1) was) e
    ∙ cond-false (restarts c k was) (Busy false) (Gap (k + 1) was) r

deferred_back : (c : Bool) (k : ℕ) (was x w : Bool) → eqb k interframe_gap ≡ false → restarts c k was ≡ true → deferred (Gap k was) c x w ≡ Busy false
deferred_back c k was x w e r =
    cond-false (eqb k interframe_gap) (if w then Watch else watched c) (if restarts c k was then Busy false else Gap (k + 1) was) e
    ∙ cond-true (restarts c k was) (Busy false) (Gap (k + 1) was) r

deferred_end : (c : Bool) (k : ℕ) (was x : Bool) → eqb k interframe_gap ≡ true → deferred (Gap k was) c x false ≡ watched c
deferred_end c k was x e = cond-true (eqb k interframe_gap) (watched c) (if restarts c k was then Busy false else Gap (k + 1) was) e

held_gap : (c : Bool) (k : ℕ) (was : Bool) → eqb k interframe_gap ≡ false → free_of (Gap k was) c true ≡ false
held_gap c k was e = ap (λ x. x && (true || not c)) e

-- the gap that is left to a station that waits
gap_on_at : (c : Bool) (k : ℕ) (was b : Bool) → restarts c k was ≡ b → (gap_left c (Gap k was) ≡ Some 0 → ⊥) → (free_of (Gap k was) c true ≡ false) × (gap_left c (deferred (Gap k was) c false true) ≡ pred_of (gap_left c (Gap k was)))
unfolding pred_of
gap_on_at c k was true i h =
    let early = restart_early k (not was && c) i in
    let carrier : c ≡ true = (and_parts (not was) c early.1).1 in
    let l : eqb k interframe_gap ≡ false = before_end k (let f : k < interframe_gap_part_1 = early.0 in omega arith) in (
      held_gap c k was l,
      ap (gap_left c) (deferred_back c k was false true l i) ∙ ap (λ x. gap_left x (Busy false)) carrier
          ∙ ap pred_of (sym (cond-true (restarts c k was) None (Some (interframe_gap - k)) i)),
    )
gap_on_at c k was false i h =
    let some : gap_left c (Gap k was) ≡ Some (interframe_gap - k) = cond-false (restarts c k was) None (Some (interframe_gap - k)) i in
    let n : k < interframe_gap = not_end k (λ z. h (some ∙ ap Some z)) in
    let l : eqb k interframe_gap ≡ false = before_end k n in (
      held_gap c k was l,
      ap (gap_left c) (deferred_on c k was false true l i)
          ∙ cond-false (restarts c (k + 1) was) None (Some (interframe_gap - (k + 1))) (restart_later k (not was && c) i)
          ∙ ap Some (fewer interframe_gap k)
          ∙ ap pred_of (sym some),
    )

pub gap_on : (c : Bool) (d : Defer) → (gap_left c d ≡ Some 0 → ⊥) → (free_of d c true ≡ false) × (gap_left c (deferred d c false true) ≡ pred_of (gap_left c d))
unfolding pred_of
gap_on true Watch h = (refl, refl)
gap_on false Watch h = absurd (h refl)
gap_on true (Busy was) h = (refl, refl)
gap_on false (Busy was) h = (refl, cond-false (restarts false 1 was) None (Some (interframe_gap - 1)) (no_carrier was))
gap_on c (Gap k was) h = gap_on_at c k was (restarts c k was) refl h

gap_over_at : (c : Bool) (k : ℕ) (was b : Bool) → restarts c k was ≡ b → k ≤ interframe_gap → gap_left c (Gap k was) ≡ Some 0 → free_of (Gap k was) c true ≡ true
gap_over_at c k was true i g e = absurd (let f = sym (cond-true (restarts c k was) None (Some (interframe_gap - k)) i) ∙ e in cc)
gap_over_at c k was false i g e =
    let n : interframe_gap - k ≡ 0 = some_same _ _ (sym (cond-false (restarts c k was) None (Some (interframe_gap - k)) i) ∙ e) in
    ap (λ x. x && (true || not c)) (at_end k (omega arith))

pub gap_over : (c : Bool) (d : Defer) → gap_of d ≤ interframe_gap → gap_left c d ≡ Some 0 → free_of d c true ≡ true
gap_over true Watch g e = absurd (cc)
gap_over false Watch g e = refl
gap_over true (Busy was) g e = absurd (cc)
gap_over false (Busy was) g e = absurd (let n : interframe_gap ≡ 0 = some_same _ _ e in omega arith)
gap_over c (Gap k was) g e = gap_over_at c k was (restarts c k was) refl g e

-- deference of a station that doesn't send, by its closed form
waited_back : (c : Bool) (k n : ℕ) (was : Bool) → restarts c k was ≡ true → waited c (Gap k was) n ≡ Busy false
waited_back c k n was r = cond-true (restarts c k was) (Busy false) (gap_at c (k + n) was) r

waited_in : (c : Bool) (k n : ℕ) (was : Bool) → restarts c k was ≡ false → k + n ≤ interframe_gap → waited c (Gap k was) n ≡ Gap (k + n) was
waited_in c k n was r l = cond-false (restarts c k was) (Busy false) (gap_at c (k + n) was) r ∙ cond-true (leb (k + n) interframe_gap) (Gap (k + n) was) (watched c) (within (k + n) l)
  where
    within : (i : ℕ) → i ≤ interframe_gap → leb i interframe_gap ≡ true
    within i h = grind (arith, nat_tests)

waited_past : (c : Bool) (k n : ℕ) (was : Bool) → restarts c k was ≡ false → interframe_gap < k + n → waited c (Gap k was) n ≡ watched c
waited_past c k n was r l = cond-false (restarts c k was) (Busy false) (gap_at c (k + n) was) r ∙ cond-false (leb (k + n) interframe_gap) (Gap (k + n) was) (watched c) (past (k + n) l)
  where
    past : (i : ℕ) → interframe_gap < i → leb i interframe_gap ≡ false
    past i h = grind (arith, nat_tests)

no_restart : (c : Bool) (k : ℕ) (was : Bool) → interframe_gap_part_1 ≤ k → restarts c k was ≡ false
no_restart c k was h = ap (λ x. x && (not was && c)) (late k h)
  where
    late : (k : ℕ) → interframe_gap_part_1 ≤ k → ltb k interframe_gap_part_1 ≡ false
    late k h = grind (arith, nat_tests)

wait_end : (c : Bool) (k : ℕ) (was w : Bool) → eqb k interframe_gap ≡ true → (w ≡ true → free_of (Gap k was) c true ≡ false) → deferred (Gap k was) c false w ≡ waited c (Gap k was) 1
wait_end c k was true l f = absurd (let no : true ≡ false = sym (ap (λ x. x && (true || not c)) l) ∙ f refl in cc)
wait_end c k was false l f =
    let full : k ≡ interframe_gap = eqb-true k interframe_gap l in
    deferred_end c k was false l ∙ sym (waited_past c k 1 was (no_restart c k was (omega arith)) (omega arith))

wait_inside : (c : Bool) (k : ℕ) (was w b : Bool) → restarts c k was ≡ b → eqb k interframe_gap ≡ false → k ≤ interframe_gap → deferred (Gap k was) c false w ≡ waited c (Gap k was) 1
wait_inside c k was w true i l g = deferred_back c k was false w l i ∙ sym (waited_back c k 1 was i)
wait_inside c k was w false i l g = deferred_on c k was false w l i ∙ sym (waited_in c k 1 was i (below k g l))
  where
    below : (k : ℕ) → k ≤ interframe_gap → eqb k interframe_gap ≡ false → k + 1 ≤ interframe_gap
    below k g l = grind (arith, nat_tests)

wait_gap : (c : Bool) (k : ℕ) (was w b : Bool) → eqb k interframe_gap ≡ b → k ≤ interframe_gap → (w ≡ true → free_of (Gap k was) c true ≡ false) → deferred (Gap k was) c false w ≡ waited c (Gap k was) 1
wait_gap c k was w true l g f = wait_end c k was w l f
wait_gap c k was w false l g f = wait_inside c k was w (restarts c k was) refl l g

wait_one : (d : Defer) (c w : Bool) → gap_of d ≤ interframe_gap → (w ≡ true → free_of d c true ≡ false) → deferred d c false w ≡ waited c d 1
wait_one Watch c w g f = refl
wait_one (Busy was) true w g f = ap Busy (same_bool was)
wait_one (Busy was) false w g f = refl
wait_one (Gap k was) c w g f = wait_gap c k was w (eqb k interframe_gap) refl g f

wait_watched : (c : Bool) (n : ℕ) → waited c (watched c) n ≡ watched c
wait_watched true n = refl
wait_watched false n = refl

wait_gap_more : (c : Bool) (k n : ℕ) (was b : Bool) → restarts c k was ≡ b → k ≤ interframe_gap → waited c (waited c (Gap k was) 1) (suc n) ≡ waited c (Gap k was) (suc (suc n))
wait_gap_more c k n was true i g =
    let carrier : c ≡ true = (and_parts (not was) c (restart_early k (not was && c) i).1).1 in
    ap (λ d. waited c d (suc n)) (waited_back c k 1 was i) ∙ ap (λ x. waited x (Busy false) (suc n)) carrier ∙ sym (waited_back c k (suc (suc n)) was i)
wait_gap_more c k n was false i g =
    elim (cases_lt k interframe_gap) [
      | inl low ↦
          ap (λ d. waited c d (suc n)) (waited_in c k 1 was i (omega arith))
          ∙ cond-false (restarts c (k + 1) was) (Busy false) (gap_at c (k + 1 + suc n) was) (restart_later k (not was && c) i)
          ∙ (let e : k + 1 + suc n ≡ k + suc (suc n) = omega arith in ap (λ j. gap_at c j was) e)
          ∙ sym (cond-false (restarts c k was) (Busy false) (gap_at c (k + suc (suc n)) was) i)
      | inr high ↦
          ap (λ d. waited c d (suc n)) (waited_past c k 1 was i (omega arith)) ∙ wait_watched c (suc n) ∙ sym (waited_past c k (suc (suc n)) was i (omega arith))
    ]

pub wait_more : (d : Defer) (c : Bool) (n : ℕ) → gap_of d ≤ interframe_gap → waited c (waited c d 1) (suc n) ≡ waited c d (suc (suc n))
wait_more Watch c n g = wait_watched c (suc n)
wait_more (Busy was) true n g = refl
wait_more (Busy was) false n g =
    cond-false (restarts false 1 was) (Busy false) (gap_at false (1 + suc n) was) (no_carrier was)
    ∙ (let e : 1 + suc n ≡ suc (suc n) = omega arith in ap (λ j. gap_at false j was) e)
wait_more (Gap k was) c n g = wait_gap_more c k n was (restarts c k was) refl g

pub gap_waited : (d : Defer) (c w : Bool) → gap_of d ≤ interframe_gap → (w ≡ true → free_of d c true ≡ false) → gap_of (waited c d 1) ≤ interframe_gap
gap_waited d c w g f = subst (λ x. gap_of x ≤ interframe_gap) (wait_one d c w g f) (gap_next d c false w g)

-- a sending keeps its station busy
abbrev pub IsBusyIn : Phase → Defer → Type 0
IsBusyIn (Sending start hit) d = d ≡ Busy true
IsBusyIn p d = Unit {0}

-- A sender's phase and deference fit together.
pub record IsSteady (s : Sender) : Type 0 where
  pub gap : gap_of s.defer ≤ interframe_gap
  pub busy : IsBusyIn s.phase s.defer

busy_in : (t made : ℕ) (more : Bool) (d : Defer) (p : Phase) → PhaseIsSound t made more d p → IsBusyIn p d
busy_in t made more d Rest h = tt
busy_in t made more d Waiting h = tt
busy_in t made more d (Sending start hit) h = h.3
busy_in t made more d (Backoff until) h = tt

pub steady : (s : Sender) → IsSender s → IsSteady s
steady s h = record { gap = h.gap; busy = busy_in s.t s.draws.made (ltb s.place (length s.queue)) s.defer s.phase h.phase_sound }

-- Nothing happens in a half bit but that time goes on and the station waits.
pub record IsStill (s : Sender) (c : Bool) : Type 0 where
  pub settled : promoted (finished s) ≡ s
  pub no_event : event_from s s.phase ≡ None
  pub moved : emitting (after_turn s c) c ≡ leapt s c 1
  pub steady : IsSteady (leapt s c 1)
  pub left : change_in (leapt s c 1) c ≡ pred_of (change_in s c)

carrier_one : (from t : ℕ) (c : Bool) → carrier_after from t c ≡ (if c || eqb 1 0 then from else t + 1)
carrier_one from t true = refl
carrier_one from t false = refl

moved_by : (s : Sender) (c : Bool) (d : Defer) → d ≡ (if is_sending s.phase || eqb 1 0 then s.defer else waited c s.defer 1)
    → record s { t = s.t + 1; defer = d; carrier_from = carrier_after s.carrier_from s.t c } ≡ leapt s c 1
unfolding leapt
moved_by s c d e = ap₂ (λ (d : Defer) (l : ℕ). record s { t = s.t + 1; defer = d; carrier_from = l }) e (carrier_one s.carrier_from s.t c)

abbrev pub sender : List Ready → Drawing → ℕ → ℕ → Phase → Defer → ℕ → Option ℕ → ℕ → Sender
sender q dr t pl p d at le lf = record { queue = q; draws = dr; t = t; place = pl; phase = p; defer = d; attempt = at; last_end = le; carrier_from = lf }

still_rest : (q : List Ready) (dr : Drawing) (t pl : ℕ) (d : Defer) (at : ℕ) (le : Option ℕ) (lf : ℕ) (c : Bool) → gap_of d ≤ interframe_gap
    → (change_in (sender q dr t pl Rest d at le lf) c ≡ Some 0 → ⊥) → IsStill (sender q dr t pl Rest d at le lf) c
unfolding promoted finished event_from emitting sending_started deferring is_free leapt change_in
still_rest q dr t pl d at le lf c g h =
    let s = sender q dr t pl Rest d at le lf in
    let a = awaits (ltb pl (length q)) (ready_at q pl) t h in
    record {
      settled = cond-false (ltb pl (length q) && leb (ready_at q pl) t) (record s { phase = Waiting; attempt = 1 }) s a.0;
      no_event = refl;
      moved = moved_by s c (deferred d c false false) (wait_one d c false g (λ e. absurd (cc)));
      steady = record { gap = gap_waited d c false g (λ e. absurd (cc)); busy = tt };
      left = a.1;
    }

still_backoff : (q : List Ready) (dr : Drawing) (t pl until : ℕ) (d : Defer) (at : ℕ) (le : Option ℕ) (lf : ℕ) (c : Bool) → gap_of d ≤ interframe_gap
    → (change_in (sender q dr t pl (Backoff until) d at le lf) c ≡ Some 0 → ⊥) → IsStill (sender q dr t pl (Backoff until) d at le lf) c
unfolding promoted finished event_from emitting sending_started deferring is_free leapt change_in
still_backoff q dr t pl until d at le lf c g h =
    let s = sender q dr t pl (Backoff until) d at le lf in
    let a = awaits true until t h in
    record {
      settled = cond-false (leb until t) (record s { phase = Waiting }) s a.0;
      no_event = refl;
      moved = moved_by s c (deferred d c false false) (wait_one d c false g (λ e. absurd (cc)));
      steady = record { gap = gap_waited d c false g (λ e. absurd (cc)); busy = tt };
      left = a.1;
    }

still_waiting : (q : List Ready) (dr : Drawing) (t pl : ℕ) (d : Defer) (at : ℕ) (le : Option ℕ) (lf : ℕ) (c : Bool) → gap_of d ≤ interframe_gap
    → (change_in (sender q dr t pl Waiting d at le lf) c ≡ Some 0 → ⊥) → IsStill (sender q dr t pl Waiting d at le lf) c
unfolding promoted finished event_from emitting sending_started deferring is_free leapt change_in
still_waiting q dr t pl d at le lf c g h =
    let s = sender q dr t pl Waiting d at le lf in
    let a = gap_on c d h in
    let one : deferred d c false true ≡ waited c d 1 = wait_one d c true g (λ _. a.0) in
    record {
      settled = refl;
      no_event = refl;
      moved =
          ap (λ (f : Bool). sender q dr (t + 1) pl (phase_after t (phase_started t Waiting f) c) (defer_started Waiting f (deferred d c false true)) at le (carrier_after lf t c)) a.0
          ∙ moved_by s c (deferred d c false true) one;
      steady = record { gap = gap_waited d c true g (λ _. a.0); busy = tt };
      left = ap (gap_left c) (sym one) ∙ a.1;
    }

pub same_hit : (hit : Option ℕ) (c : Bool) (p : ℕ) → gets_hit hit c ≡ false → hit_at hit c p ≡ hit
same_hit None true p e = absurd (cc)
same_hit None false p e = refl
same_hit (Some h) c p e = refl

-- a sending that gets no hit and doesn't end
pub sends_on : (b : Bool) (end t : ℕ) → (cond b (Some 0) (Some (end - t)) ≡ Some 0 → ⊥) → (b ≡ false) × (leb end t ≡ false)
    × (cond b (Some 0) (Some (end - (t + 1))) ≡ pred_of (cond b (Some 0) (Some (end - t))))
unfolding pred_of
sends_on true end t h = absurd (h refl)
sends_on false end t h = (refl, not_past end t (λ z. h (ap Some z)), ap Some (fewer end t))

still_sending : (q : List Ready) (dr : Drawing) (t pl start : ℕ) (hit : Option ℕ) (d : Defer) (at : ℕ) (le : Option ℕ) (lf : ℕ) (c : Bool) → d ≡ Busy true
    → (change_in (sender q dr t pl (Sending start hit) d at le lf) c ≡ Some 0 → ⊥) → IsStill (sender q dr t pl (Sending start hit) d at le lf) c
unfolding promoted finished event_from emitting sending_started deferring is_free leapt change_in
still_sending q dr t pl start hit d at le lf c b h =
    let s = sender q dr t pl (Sending start hit) d at le lf in
    let a = sends_on (gets_hit hit c) (start + sending_length (frame_at q pl) hit) t h in
    let same : deferred d c true false ≡ d = busy_stays d c false b ∙ sym b in
    record {
      settled = ap promoted (cond-false (leb (start + sending_length (frame_at q pl) hit) t) (sending_ended s hit) s a.1);
      no_event = cond-false (leb (start + sending_length (frame_at q pl) hit) t) (Some (end_event s start hit)) None a.1;
      moved =
          ap (λ (x : Option ℕ). sender q dr (t + 1) pl (Sending start x) (deferred d c true false) at le (carrier_after lf t c)) (same_hit hit c (t - start) a.0)
          ∙ moved_by s c (deferred d c true false) same;
      steady = record { gap = subst (λ x. gap_of x ≤ interframe_gap) (sym b) (omega arith); busy = b };
      left = a.2;
    }

pub still : (s : Sender) (c : Bool) → IsSteady s → (change_in s c ≡ Some 0 → ⊥) → IsStill s c
still s c y = still_in s.phase y.busy
  where
    still_in : (p : Phase) → IsBusyIn p s.defer → (change_in (record s { phase = p }) c ≡ Some 0 → ⊥) → IsStill (record s { phase = p }) c
    still_in Rest b h = still_rest s.queue s.draws s.t s.place s.defer s.attempt s.last_end s.carrier_from c y.gap h
    still_in Waiting b h = still_waiting s.queue s.draws s.t s.place s.defer s.attempt s.last_end s.carrier_from c y.gap h
    still_in (Sending start hit) b h = still_sending s.queue s.draws s.t s.place start hit s.defer s.attempt s.last_end s.carrier_from c b h
    still_in (Backoff until) b h = still_backoff s.queue s.draws s.t s.place until s.defer s.attempt s.last_end s.carrier_from c y.gap h

-- a half bit in which something happens
begins : (t : ℕ) (f c : Bool) → (phase_after t (phase_started t Waiting f) c ≡ Rest → ⊥) × ((until : ℕ) → phase_after t (phase_started t Waiting f) c ≡ Backoff until → ⊥)
begins t true c = (λ e. absurd (cc), λ until e. absurd (cc))
begins t false c = (λ e. absurd (cc), λ until e. absurd (cc))

abbrev Changes : Sender → Bool → Type 0
Changes s c = event_from s s.phase ≡ None → (emitting (after_turn (promoted (finished s)) c) c).phase ≡ s.phase → ⊥

changes_rest : (q : List Ready) (dr : Drawing) (t pl : ℕ) (d : Defer) (at : ℕ) (le : Option ℕ) (lf : ℕ) (c : Bool)
    → change_in (sender q dr t pl Rest d at le lf) c ≡ Some 0 → Changes (sender q dr t pl Rest d at le lf) c
unfolding promoted finished event_from emitting sending_started deferring is_free change_in
changes_rest q dr t pl d at le lf c e = λ _ same.
    let s = sender q dr t pl Rest d at le lf in
    let p : promoted (finished s) ≡ record s { phase = Waiting; attempt = 1 } =
    cond-true (ltb pl (length q) && leb (ready_at q pl) t) (record s { phase = Waiting; attempt = 1 }) s (awaited (ltb pl (length q)) (ready_at q pl) t e) in
    (begins t (free_of d c true) c).0 (sym (ap (λ x. (emitting (after_turn x c) c).phase) p) ∙ same)

changes_backoff : (q : List Ready) (dr : Drawing) (t pl until : ℕ) (d : Defer) (at : ℕ) (le : Option ℕ) (lf : ℕ) (c : Bool)
    → change_in (sender q dr t pl (Backoff until) d at le lf) c ≡ Some 0 → Changes (sender q dr t pl (Backoff until) d at le lf) c
unfolding promoted finished event_from emitting sending_started deferring is_free change_in
changes_backoff q dr t pl until d at le lf c e = λ _ same.
    let s = sender q dr t pl (Backoff until) d at le lf in
    let p : promoted (finished s) ≡ record s { phase = Waiting } = cond-true (leb until t) (record s { phase = Waiting }) s (awaited true until t e) in
    (begins t (free_of d c true) c).1 until (sym (ap (λ x. (emitting (after_turn x c) c).phase) p) ∙ same)

changes_waiting : (q : List Ready) (dr : Drawing) (t pl : ℕ) (d : Defer) (at : ℕ) (le : Option ℕ) (lf : ℕ) (c : Bool) → gap_of d ≤ interframe_gap
    → change_in (sender q dr t pl Waiting d at le lf) c ≡ Some 0 → Changes (sender q dr t pl Waiting d at le lf) c
unfolding promoted finished event_from emitting sending_started deferring is_free change_in
changes_waiting q dr t pl d at le lf c g e = λ _ same.
    let starts : phase_after t (phase_started t Waiting (free_of d c true)) c ≡ Sending t (hit_at None c (t - t)) = ap (λ f. phase_after t (phase_started t Waiting f) c) (gap_over c d g e) in
    let no : Sending t (hit_at None c (t - t)) ≡ Waiting = sym starts ∙ same in
    absurd (cc)

sends_now : (b : Bool) (end t : ℕ) → cond b (Some 0) (Some (end - t)) ≡ Some 0 → leb end t ≡ false → b ≡ true
sends_now true end t e l = refl
sends_now false end t e l = absurd (let no : true ≡ false = sym (past_true end t (some_same _ _ e)) ∙ l in cc)

gets_new : (hit : Option ℕ) (c : Bool) (p : ℕ) → gets_hit hit c ≡ true → hit_at hit c p ≡ hit → ⊥
gets_new None true p g e = absurd (cc)
gets_new None false p g e = absurd (cc)
gets_new (Some h) c p g e = absurd (cc)

changes_sending : (q : List Ready) (dr : Drawing) (t pl start : ℕ) (hit : Option ℕ) (d : Defer) (at : ℕ) (le : Option ℕ) (lf : ℕ) (c x : Bool) → leb (start + sending_length (frame_at q pl) hit) t ≡ x
    → change_in (sender q dr t pl (Sending start hit) d at le lf) c ≡ Some 0 → Changes (sender q dr t pl (Sending start hit) d at le lf) c
unfolding promoted finished event_from emitting sending_started deferring is_free change_in
changes_sending q dr t pl start hit d at le lf c true l e = λ none _.
    let s = sender q dr t pl (Sending start hit) d at le lf in
    let no : Some (end_event s start hit) ≡ None = sym (cond-true (leb (start + sending_length (frame_at q pl) hit) t) (Some (end_event s start hit)) None l) ∙ none in
    absurd (cc)
changes_sending q dr t pl start hit d at le lf c false l e = λ _ same.
    let s = sender q dr t pl (Sending start hit) d at le lf in
    let p : promoted (finished s) ≡ s = ap promoted (cond-false (leb (start + sending_length (frame_at q pl) hit) t) (sending_ended s hit) s l) in
    let kept : Sending start (hit_at hit c (t - start)) ≡ Sending start hit = sym (ap (λ x. (emitting (after_turn x c) c).phase) p) ∙ same in
    gets_new hit c (t - start) (sends_now (gets_hit hit c) (start + sending_length (frame_at q pl) hit) t e l) (cc)

changes : (s : Sender) (c : Bool) → IsSteady s → change_in s c ≡ Some 0 → Changes s c
changes s c y = changes_in s.phase
  where
    changes_in : (p : Phase) → change_in (record s { phase = p }) c ≡ Some 0 → Changes (record s { phase = p }) c
    changes_in Rest e = changes_rest s.queue s.draws s.t s.place s.defer s.attempt s.last_end s.carrier_from c e
    changes_in Waiting e = changes_waiting s.queue s.draws s.t s.place s.defer s.attempt s.last_end s.carrier_from c y.gap e
    changes_in (Sending start hit) e = changes_sending s.queue s.draws s.t s.place start hit s.defer s.attempt s.last_end s.carrier_from c (leb (start + sending_length (frame_at s.queue s.place) hit) s.t) refl e
    changes_in (Backoff until) e = changes_backoff s.queue s.draws s.t s.place until s.defer s.attempt s.last_end s.carrier_from c e

-- the step itself
event_is : (s : Sender) (h : Sym) → (sender_step s h).event ≡ event_from s s.phase
unfolding sender_step
event_is s h = refl

pub state_is : (s : Sender) (h : Sym) (c : Bool) → is_signal h ≡ c → (sender_step s h).state ≡ emitting (after_turn (promoted (finished s)) c) c
unfolding sender_step
state_is s h c e = ap (λ x. emitting (after_turn (promoted (finished s)) x) x) e

still_state : (s : Sender) (h : Sym) (c : Bool) → is_signal h ≡ c → IsStill s c → (sender_step s h).state ≡ leapt s c 1
still_state s h c e k = state_is s h c e ∙ ap (λ x. emitting (after_turn x c) c) k.settled ∙ k.moved

leapt_phase : (s : Sender) (c : Bool) (n : ℕ) → (leapt s c n).phase ≡ s.phase
unfolding leapt
leapt_phase s c n = refl

still_calm : (s : Sender) (h : Sym) (c : Bool) → is_signal h ≡ c → IsStill s c → IsCalmIn s h
still_calm s h c e k = record {
  no_event = event_is s h ∙ k.no_event;
  same_phase = ap (λ (x : Sender). x.phase) (still_state s h c e k) ∙ leapt_phase s c 1;
}

no_calm : (s : Sender) (h : Sym) (c : Bool) → is_signal h ≡ c → IsSteady s → change_in s c ≡ Some 0 → IsCalmIn s h → ⊥
no_calm s h c e y now k = changes s c y now (sym (event_is s h) ∙ k.no_event) (sym (ap (λ (x : Sender). x.phase) (state_is s h c e)) ∙ k.same_phase)

-- many half bits
is_now : (o : Option ℕ) → (o ≡ Some 0) ⊎ (o ≡ Some 0 → ⊥)
is_now None = inr (λ e. absurd (cc))
is_now (Some zero) = inl refl
is_now (Some (suc m)) = inr (λ e. let n : suc m ≡ 0 = some_same _ _ e in absurd (omega arith))

none_are_over : (o : Option ℕ) → AreOverBefore 0 o
none_are_over None = tt
none_are_over (Some m) = omega arith

over_later : (n : ℕ) (o : Option ℕ) → (o ≡ Some 0 → ⊥) → AreOverBefore n (pred_of o) → AreOverBefore (suc n) o
unfolding pred_of
over_later n None h f = tt
over_later n (Some zero) h f = absurd (h refl)
over_later n (Some (suc m)) h f = omega arith

pub over_sooner : (n : ℕ) (o : Option ℕ) → AreOverBefore (suc n) o → AreOverBefore n (pred_of o)
unfolding pred_of
over_sooner n None f = tt
over_sooner n (Some m) f = omega arith

pub not_now : (n : ℕ) (o : Option ℕ) → AreOverBefore (suc n) o → o ≡ Some 0 → ⊥
not_now n o f e = let l : suc n ≤ 0 = subst (AreOverBefore (suc n)) e f in omega arith

abbrev IsExact : Bool → List Sym → Sender → Type 0
IsExact c hs s = (AreCalm s hs → AreOverBefore (length hs) (change_in s c)) × (AreOverBefore (length hs) (change_in s c) → AreCalm s hs)

exact_first : (h : Sym) (hs : List Sym) (s : Sender) (c : Bool) → IsSteady s → is_signal h ≡ c → ((x : Sender) → IsSteady x → IsExact c hs x) → IsExact c (h ∷ hs) s
exact_first h hs s c y e ih =
    elim (is_now (change_in s c)) [
      | inl now ↦ (λ k. absurd (no_calm s h c e y now k.0), λ f. absurd (not_now (length hs) (change_in s c) f now))
      | inr later ↦
          let k = still s c y later in
          let state = still_state s h c e k in
          let rest = ih (leapt s c 1) k.steady in (
            λ a. over_later (length hs) (change_in s c) later (subst (AreOverBefore (length hs)) k.left (rest.0 (subst (λ x. AreCalm x hs) state a.1))),
            λ f. (still_calm s h c e k, subst (λ x. AreCalm x hs) (sym state) (rest.1 (subst (AreOverBefore (length hs)) (sym k.left) (over_sooner (length hs) (change_in s c) f)))),
          )
    ]

pub heard_first : (c : Bool) (h : Sym) (hs : List Sym) → AllHeardAs c (h ∷ hs) → is_signal h ≡ c
heard_first c h hs a = a 0 h (omega arith)

pub heard_rest : (c : Bool) (h : Sym) (hs : List Sym) → AllHeardAs c (h ∷ hs) → AllHeardAs c hs
heard_rest c h hs a = λ k d l. a (suc k) d (omega arith)

exact : (hs : List Sym) (s : Sender) (c : Bool) → IsSteady s → AllHeardAs c hs → IsExact c hs s
exact [] s c y a = (λ _. none_are_over (change_in s c), λ _. tt)
exact (h ∷ hs) s c y a = exact_first h hs s c y (heard_first c h hs a) (λ x z. exact hs x c z (heard_rest c h hs a))

capped : (n : ℕ) (o : Option ℕ) → n ≤ 4096 → AreOverBefore n o → n ≤ up_to_most o
capped n None l f = l
capped n (Some m) l f = omega arith

pub uncapped : (n : ℕ) (o : Option ℕ) → n ≤ up_to_most o → AreOverBefore n o
uncapped n None l = tt
uncapped n (Some m) l = omega arith

pub calm_is : (s : Sender) (c : Bool) (n : ℕ) → IsSender s → n ≡ up_to_most (change_in s c)
    → (hs : List Sym) → AllHeardAs c hs → length hs ≤ 4096 → (AreCalm s hs ↔ (length hs ≤ n))
calm_is s c n h e hs a l =
    let x = exact hs s c (steady s h) a in
    (λ k. subst (λ m. length hs ≤ m) (sym e) (capped (length hs) (change_in s c) l (x.0 k)), λ m. x.1 (uncapped (length hs) (change_in s c) (subst (λ i. length hs ≤ i) e m)))

-- the same, of any number of half bits and what is said of the next change
pub over_is : (s : Sender) (c : Bool) (o : Option ℕ) → IsSender s → o ≡ change_in s c
    → (hs : List Sym) → AllHeardAs c hs → (AreCalm s hs ↔ AreOverBefore (length hs) o)
over_is s c o h e hs a =
    let x = exact hs s c (steady s h) a in
    (λ k. subst (AreOverBefore (length hs)) (sym e) (x.0 k), λ f. x.1 (subst (AreOverBefore (length hs)) e f))

-- a leap
or_true : (b : Bool) → (b || true) ≡ true
or_true true = refl
or_true false = refl

with_fields : (s : Sender) (t t' : ℕ) (d d' : Defer) (l l' : ℕ) → t ≡ t' → d ≡ d' → l ≡ l'
    → record s { t = t; defer = d; carrier_from = l } ≡ record s { t = t'; defer = d'; carrier_from = l' }
with_fields s t t' d d' l l' et ed el = rw (et, ed, el)

leapt_none : (s : Sender) (c : Bool) → leapt s c 0 ≡ s
unfolding leapt
leapt_none s c =
    with_fields s (s.t + 0) s.t _ s.defer _ s.carrier_from (omega arith)
    (cond-true (is_sending s.phase || eqb 0 0) s.defer (waited c s.defer 0) (or_true (is_sending s.phase)))
    (cond-true (c || eqb 0 0) s.carrier_from (s.t + 0) (or_true c))

some_half_bits : (n : ℕ) → eqb (suc n) 0 ≡ false
some_half_bits n = grind (arith, nat_tests)

defer_more : (b c : Bool) (d : Defer) (n : ℕ) → gap_of d ≤ interframe_gap
    → cond (b || eqb (suc n) 0) (cond (b || eqb 1 0) d (waited c d 1)) (waited c (cond (b || eqb 1 0) d (waited c d 1)) (suc n))
    ≡ cond (b || eqb (suc (suc n)) 0) d (waited c d (suc (suc n)))
defer_more true c d n g = refl
defer_more false c d n g =
    cond-false (eqb (suc n) 0) (waited c d 1) (waited c (waited c d 1) (suc n)) (some_half_bits n)
    ∙ wait_more d c n g
    ∙ sym (cond-false (eqb (suc (suc n)) 0) d (waited c d (suc (suc n))) (some_half_bits (suc n)))

carrier_more : (c : Bool) (l t n : ℕ) → cond (c || eqb (suc n) 0) (cond (c || eqb 1 0) l (t + 1)) (t + 1 + suc n) ≡ cond (c || eqb (suc (suc n)) 0) l (t + suc (suc n))
carrier_more true l t n = refl
carrier_more false l t n =
    cond-false (eqb (suc n) 0) (t + 1) (t + 1 + suc n) (some_half_bits n)
    ∙ (let e : t + 1 + suc n ≡ t + suc (suc n) = omega arith in e)
    ∙ sym (cond-false (eqb (suc (suc n)) 0) l (t + suc (suc n)) (some_half_bits (suc n)))

leapt_many : (s : Sender) (c : Bool) (n : ℕ) → gap_of s.defer ≤ interframe_gap → leapt (leapt s c 1) c (suc n) ≡ leapt s c (suc (suc n))
unfolding leapt
leapt_many s c n g = with_fields s (s.t + 1 + suc n) (s.t + suc (suc n)) _ _ _ _ (omega arith) (defer_more (is_sending s.phase) c s.defer n g) (carrier_more c s.carrier_from s.t n)

leapt_more : (s : Sender) (c : Bool) (n : ℕ) → gap_of s.defer ≤ interframe_gap → leapt (leapt s c 1) c n ≡ leapt s c (suc n)
leapt_more s c zero g = leapt_none (leapt s c 1) c
leapt_more s c (suc n) g = leapt_many s c n g

pub leaps : (hs : List Sym) (s : Sender) (c : Bool) → IsSteady s → AllHeardAs c hs → AreOverBefore (length hs) (change_in s c) → after_all s hs ≡ leapt s c (length hs)
leaps [] s c y a f = sym (leapt_none s c)
leaps (h ∷ hs) s c y a f =
    let k = still s c y (not_now (length hs) (change_in s c) f) in
    ap (λ x. after_all x hs) (still_state s h c (heard_first c h hs a) k)
    ∙ leaps hs (leapt s c 1) c k.steady (heard_rest c h hs a) (subst (AreOverBefore (length hs)) (sym k.left) (over_sooner (length hs) (change_in s c) f))
    ∙ leapt_more s c (length hs) y.gap

pub leap_is : (s t : Sender) (c : Bool) (n : ℕ) → IsSender s → AreOverBefore n (change_in s c) → t ≡ leapt s c n
    → (hs : List Sym) → AllHeardAs c hs → length hs ≡ n → t ≡ after_all s hs
leap_is s t c n h l e hs a m =
    e ∙ ap (leapt s c) (sym m) ∙ sym (leaps hs s c (steady s h) a (subst (λ i. AreOverBefore i (change_in s c)) (sym m) l))

-- what a leap keeps
one_kept : (s : Sender) (c : Bool) → IsSender s → s.t < most_half_bits → IsStill s c → IsSender (leapt s c 1)
unfolding emitting sending_started deferring is_free
one_kept s c h l k = subst IsSender k.moved (goes_on s c _ _ _ h l refl refl refl)

leapt_time : (s : Sender) (c : Bool) (n : ℕ) → (leapt s c n).t ≡ s.t + n
unfolding leapt
leapt_time s c n = refl

pub leap_kept : (n : ℕ) (s : Sender) (c : Bool) → IsSender s → AreOverBefore n (change_in s c) → s.t + n ≤ most_half_bits → IsSender (leapt s c n)
leap_kept zero s c h f l = subst IsSender (sym (leapt_none s c)) h
leap_kept (suc n) s c h f l =
    let k = still s c (steady s h) (not_now n (change_in s c) f) in
    let t : (leapt s c 1).t ≡ s.t + 1 = leapt_time s c 1 in
    subst IsSender (leapt_more s c n h.gap)
    (leap_kept n (leapt s c 1) c (one_kept s c h (omega arith) k) (subst (AreOverBefore n) (sym k.left) (over_sooner n (change_in s c) f)) (omega (arith, t)))

pub leap_keeps : (s : Sender) (c : Bool) (n t from : ℕ) (d : Defer) → IsSender s → AreOverBefore n (change_in s c) → t ≡ s.t + n → t ≤ most_half_bits
    → d ≡ (if is_sending s.phase || eqb n 0 then s.defer else waited c s.defer n) → from ≡ (if c || eqb n 0 then s.carrier_from else s.t + n)
    → IsSender (record s { t = t; defer = d; carrier_from = from })
unfolding leapt
leap_keeps s c n t from d h l et lt ed el =
    subst IsSender (with_fields s (s.t + n) t _ d _ from (sym et) (sym ed) (sym el)) (leap_kept n s c h l (omega arith))
