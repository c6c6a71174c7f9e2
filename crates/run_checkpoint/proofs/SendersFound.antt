-- A sender's line that was read, with its numbers in range, is the line of what was read.
use Rattle.std.proofs.Common.{◌≡◌, ℕ, ◌^◌, ◌<◌, ◌≤◌, Bool, true, ◌&&◌, List, ◌++◌, length, refl, sym, ap, subst, ◌∙◌, arith, Some, None, append_assoc}
use Rattle.std.specs.Fmt.{decimal}
use Rattle.std.specs.Prelude.{Option, codes, nat_le, nat_lt}
use Rattle.std.proofs.lemmas.Bool.{and_parts, leb-true, ltb-true, le-leb, lt-ltb}
use Rattle.std.proofs.lemmas.Option.{same_Some}
use Rattle.frame_layout.specs.declared.queue.Ready.{Ready}
use Rattle.layout.specs.NameOctets.{is_between}
use Rattle.text_fields.specs.Reading.{Read, after_word, else_read}
use Rattle.text_fields.proofs.FoundFields.{bind_some, word_text}
use Rattle.mac_parameters.specs.Parameters.{attempt_limit, interframe_gap, last_backoff, most_draws}
use Rattle.mac_transmit.specs.Resuming.{IsDeferIn, IsPhaseIn, IsStateOf}
use Rattle.mac_transmit.specs.declared.deference.Defer.{Defer}
use Rattle.mac_transmit.specs.declared.deference.Defer.TheVariants.{Watch, Busy, Gap}
use Rattle.mac_transmit.specs.declared.phase.Phase.{Phase}
use Rattle.mac_transmit.specs.declared.phase.Phase.TheVariants.{Rest, Waiting, Sending, Backoff}
use Rattle.mac_transmit.specs.declared.state.SenderState.{SenderState}
use Rattle.run_checkpoint.specs.Fields.{beyond_ranges, figure_at, truth_at}
use Rattle.run_checkpoint.specs.LineForms.{backoff_found, busy_found, defer_at, gap_defer_at, phase_at, phase_found, sender_form, watch_found}
use Rattle.run_checkpoint.specs.LineTexts.{defer_words, line_of_sender, phase_words, yes_or_no}
use Rattle.run_checkpoint.specs.Ranges.{is_defer_in, is_phase_in, is_sender_in}
use Rattle.run_checkpoint.proofs.Pieces.{five, sender_line_is, sender_pieces}
use Rattle.run_checkpoint.proofs.Figures.{figure_text, truth_text, whole_text}
use Rattle.run_checkpoint.proofs.SenderLines.{IsToldDefer, IsToldPhase, IsToldSender}

-- what the tests of a sender say
pub record SenderRanges (frames : ℕ) (s : SenderState) : Type 0 where
  pub fits : s.place < beyond_ranges
  pub place : s.place ≤ frames
  pub phase : is_phase_in frames s.place s.phase ≡ true
  pub defer : is_defer_in s.defer ≡ true
  pub first : 1 ≤ s.attempt
  pub last : s.attempt ≤ attempt_limit
  pub drawn : s.drawn ≤ most_draws

pub sender_ranges : (frames : ℕ) (s : SenderState) → is_sender_in frames s ≡ true → SenderRanges frames s
unfolding is_sender_in
sender_ranges frames s h =
    let fits = nat_lt s.place beyond_ranges in
    let place = nat_le s.place frames in
    let phase = is_phase_in frames s.place s.phase in
    let defer = is_defer_in s.defer in
    let attempt = is_between 1 attempt_limit s.attempt in
    let drawn = nat_le s.drawn most_draws in
    let p5 = and_parts ((((fits && place) && phase) && defer) && attempt) drawn h in
    let p4 = and_parts (((fits && place) && phase) && defer) attempt p5.0 in
    let p3 = and_parts ((fits && place) && phase) defer p4.0 in
    let p2 = and_parts (fits && place) phase p3.0 in
    let p1 = and_parts fits place p2.0 in
    let between = and_parts (nat_le 1 s.attempt) (nat_le s.attempt attempt_limit) p4.1 in
    record {
      fits = ltb-true s.place beyond_ranges p1.0;
      place = leb-true s.place frames p1.1;
      phase = p2.1;
      defer = p3.1;
      first = leb-true 1 s.attempt between.0;
      last = leb-true s.attempt attempt_limit between.1;
      drawn = leb-true s.drawn most_draws p5.1;
    }

-- a phase in range
pub phase_in : (queue : List Ready) (place : ℕ) (p : Phase) → is_phase_in (length queue) place p ≡ true → IsPhaseIn queue place p × IsToldPhase p
phase_in queue place Rest h = (tt, tt)
phase_in queue place Waiting h = (ltb-true place (length queue) h, tt)
phase_in queue place (Sending start hit) h = cc h
phase_in queue place (Backoff until) h =
    let p = and_parts (nat_lt place (length queue)) (nat_le until last_backoff) h in
    let end : until ≤ last_backoff = leb-true until last_backoff p.1 in
    ((ltb-true place (length queue) p.0, end), omega (arith, end))

pub defer_in : (d : Defer) → is_defer_in d ≡ true → IsDeferIn d × IsToldDefer d
defer_in Watch h = (tt, tt)
defer_in (Busy was) h = (tt, tt)
defer_in (Gap k was) h =
    let p = and_parts (nat_le 1 k) (nat_le k interframe_gap) h in
    let most : k ≤ interframe_gap = leb-true k interframe_gap p.1 in
    ((leb-true 1 k p.0, most), omega (arith, most))

-- a sender whose numbers are in range can go on, and a line tells it
pub sender_in_range : (queue : List Ready) (s : SenderState) → is_sender_in (length queue) s ≡ true → IsStateOf queue s × (s.place < 2 ^ 32) × IsToldSender s
sender_in_range queue s h =
    let r = sender_ranges (length queue) s h in
    let phase = phase_in queue s.place s.phase r.phase in
    let defer = defer_in s.defer r.defer in
    let fits : s.place < 2 ^ 32 = omega (arith, r.fits) in (
      record { place = r.place; phase = phase.0; defer = defer.0; first = r.first; last = r.last; drawn = r.drawn },
      fits,
      record { phase = phase.1; defer = defer.1; attempt = omega (arith, r.last); place = fits; drawn = omega (arith, r.drawn) },
    )

-- a phase that can go on is in range
phase_again_in : (queue : List Ready) (place : ℕ) (p : Phase) → IsPhaseIn queue place p → (is_phase_in (length queue) place p ≡ true) × IsToldPhase p
phase_again_in queue place Rest h = (refl, tt)
phase_again_in queue place Waiting h = (lt-ltb place (length queue) h, tt)
phase_again_in queue place (Sending start hit) h = absurd h
phase_again_in queue place (Backoff until) h =
    (rw (lt-ltb place (length queue) h.0, le-leb until last_backoff h.1) refl, omega (arith, h.1))

defer_again_in : (d : Defer) → IsDeferIn d → (is_defer_in d ≡ true) × IsToldDefer d
defer_again_in Watch h = (refl, tt)
defer_again_in (Busy was) h = (refl, tt)
defer_again_in (Gap k was) h = (rw (le-leb 1 k h.0, le-leb k interframe_gap h.1) refl, omega (arith, h.1))

pub sender_keeps : (queue : List Ready) (s : SenderState) → IsStateOf queue s → s.place < 2 ^ 32 → (is_sender_in (length queue) s ≡ true) × IsToldSender s
unfolding is_sender_in
sender_keeps queue s h fits =
    let phase = phase_again_in queue s.place s.phase h.phase in
    let defer = defer_again_in s.defer h.defer in (
      rw (
        lt-ltb s.place beyond_ranges (omega (arith, fits)),
        le-leb s.place (length queue) h.place,
        phase.0,
        defer.0,
        le-leb 1 s.attempt h.first,
        le-leb s.attempt attempt_limit h.last,
        le-leb s.drawn most_draws h.drawn,
      ) refl,
      record { phase = phase.1; defer = defer.1; attempt = omega (arith, h.last); place = fits; drawn = omega (arith, h.drawn) },
    )

-- two equal answers have equal parts
parts : {A : Type 0} (x : A) (xs : List ℕ) (y : A) (ys : List ℕ) → ◌≡◌ {A = Read A} (Some (x, xs)) (Some (y, ys)) → (x ≡ y) × (xs ≡ ys)
parts {A} x xs y ys h = let e = same_Some _ _ h in (ap (λ (p : A × List ℕ). p.0) e, ap (λ (p : A × List ℕ). p.1) e)

phase_found_text : (octets : List ℕ) (a b : Option (List ℕ)) (u : Read ℕ) (p : Phase) (rest : List ℕ) → after_word (codes " phase rest") octets ≡ a → after_word (codes " phase waiting") octets ≡ b
    → figure_at (codes " phase backoff ") octets ≡ u → else_read (phase_found Rest a) (else_read (phase_found Waiting b) (backoff_found u)) ≡ Some (p, rest) → IsToldPhase p
    → octets ≡ phase_words p ++ rest
phase_found_text octets (Some tail) b u p rest ea eb eu h told =
    let e = parts Rest tail p rest h in
    rw (← e.0, ← e.1) (word_text (codes " phase rest") octets tail ea)
phase_found_text octets None (Some tail) u p rest ea eb eu h told =
    let e = parts Waiting tail p rest h in
    rw (← e.0, ← e.1) (word_text (codes " phase waiting") octets tail eb)
phase_found_text octets None None (Some until) p rest ea eb eu h told =
    let e = parts (Backoff until.0) until.1 p rest h in
    let fits : until.0 < 2 ^ 32 = subst IsToldPhase (sym e.0) told in
    let f = figure_text (codes " phase backoff ") octets until.0 until.1 eu (omega (arith, fits)) in
    rw (← e.0, ← e.1) (f.0 ∙ sym (append_assoc (codes " phase backoff ") (decimal until.0) until.1))
phase_found_text octets None None None p rest ea eb eu h told = cc h

phase_text : (octets : List ℕ) (p : Phase) (rest : List ℕ) → phase_at octets ≡ Some (p, rest) → IsToldPhase p → octets ≡ phase_words p ++ rest
unfolding phase_at
phase_text octets p rest h told =
    phase_found_text octets (after_word (codes " phase rest") octets) (after_word (codes " phase waiting") octets) (figure_at (codes " phase backoff ") octets) p rest refl refl refl h told

gap_text : (octets : List ℕ) (d : Defer) (rest : List ℕ) → gap_defer_at octets ≡ Some (d, rest) → IsToldDefer d → octets ≡ defer_words d ++ rest
unfolding gap_defer_at
gap_text octets d rest h told =
    let k = bind_some (figure_at (codes " defer gap ") octets) _ (d, rest) h in
    let was = bind_some (truth_at (codes " ") k.0.1) _ (d, rest) k.2 in
    let e = parts (Gap k.0.0 was.0.0) was.0.1 d rest was.2 in
    let fits : k.0.0 < 2 ^ 32 = subst IsToldDefer (sym e.0) told in
    let f = figure_text (codes " defer gap ") octets k.0.0 k.0.1 k.1 (omega (arith, fits)) in
    let t = truth_text (codes " ") k.0.1 was.0.0 was.0.1 was.1 in
    let onto : defer_words (Gap k.0.0 was.0.0) ++ was.0.1 ≡ codes " defer gap " ++ (decimal k.0.0 ++ (codes " " ++ (yes_or_no was.0.0 ++ was.0.1))) =
    five (codes " defer gap ") (decimal k.0.0) (codes " ") (yes_or_no was.0.0) was.0.1 in
    subst (λ (p : Defer × List ℕ). octets ≡ defer_words p.0 ++ p.1) (same_Some _ _ was.2) (f.0 ∙ ap (λ (xs : List ℕ). codes " defer gap " ++ (decimal k.0.0 ++ xs)) t ∙ sym onto)

defer_found_text : (octets : List ℕ) (a : Option (List ℕ)) (b : Read Bool) (d : Defer) (rest : List ℕ) → after_word (codes " defer watch") octets ≡ a → truth_at (codes " defer busy ") octets ≡ b
    → else_read (watch_found a) (else_read (busy_found b) (gap_defer_at octets)) ≡ Some (d, rest) → IsToldDefer d → octets ≡ defer_words d ++ rest
defer_found_text octets (Some tail) b d rest ea eb h told =
    let e = parts Watch tail d rest h in
    rw (← e.0, ← e.1) (word_text (codes " defer watch") octets tail ea)
defer_found_text octets None (Some was) d rest ea eb h told =
    let e = parts (Busy was.0) was.1 d rest h in
    rw (← e.0, ← e.1) (truth_text (codes " defer busy ") octets was.0 was.1 eb ∙ sym (append_assoc (codes " defer busy ") (yes_or_no was.0) was.1))
defer_found_text octets None None d rest ea eb h told = gap_text octets d rest h told

defer_text : (octets : List ℕ) (d : Defer) (rest : List ℕ) → defer_at octets ≡ Some (d, rest) → IsToldDefer d → octets ≡ defer_words d ++ rest
unfolding defer_at
defer_text octets d rest h told = defer_found_text octets (after_word (codes " defer watch") octets) (truth_at (codes " defer busy ") octets) d rest refl refl h told

pub sender_text : (name line : List ℕ) (s : SenderState) → sender_form name line ≡ Some s → IsToldSender s → line ≡ line_of_sender name s
unfolding sender_form
sender_text name line s h told =
    let word = bind_some (after_word (codes "station ") line) _ s h in
    let named = bind_some (after_word name word.0) _ s word.2 in
    let phase = bind_some (phase_at named.0) _ s named.2 in
    let defer = bind_some (defer_at phase.0.1) _ s phase.2 in
    let attempt = bind_some (figure_at (codes " attempt ") defer.0.1) _ s defer.2 in
    let place = bind_some (figure_at (codes " place ") attempt.0.1) _ s attempt.2 in
    let drawn = bind_some (figure_at (codes " drawn ") place.0.1) _ s place.2 in
    let w = whole_text _ s drawn.0.1 drawn.2 in
    let t : IsToldSender (record { phase = phase.0.0; defer = defer.0.0; attempt = attempt.0.0; place = place.0.0; drawn = drawn.0.0 }) = subst IsToldSender (sym w.0) told in
    let st : SenderState = record { phase = phase.0.0; defer = defer.0.0; attempt = attempt.0.0; place = place.0.0; drawn = drawn.0.0 } in
    let a = word_text (codes "station ") line word.0 word.1 in
    let b = word_text name word.0 named.0 named.1 in
    let p = phase_text named.0 phase.0.0 phase.0.1 phase.1 t.phase in
    let d = defer_text phase.0.1 defer.0.0 defer.0.1 defer.1 t.defer in
    let n = figure_text (codes " attempt ") defer.0.1 attempt.0.0 attempt.0.1 attempt.1 (omega (arith, t.attempt)) in
    let q = figure_text (codes " place ") attempt.0.1 place.0.0 place.0.1 place.1 (omega (arith, t.place)) in
    let r = figure_text (codes " drawn ") place.0.1 drawn.0.0 drawn.0.1 drawn.1 (omega (arith, t.drawn)) in
    let whole : line ≡ sender_pieces name st =
    a ∙ ap (λ (x : List ℕ). codes "station " ++ x) (b ∙ ap (λ (x : List ℕ). name ++ x) (p ∙ ap (λ (x : List ℕ). phase_words phase.0.0 ++ x) (d ∙ ap (λ (x : List ℕ). defer_words defer.0.0 ++ x) (n.0
    ∙ ap (λ (x : List ℕ). codes " attempt " ++ (decimal attempt.0.0 ++ x)) (q.0 ∙ ap (λ (x : List ℕ). codes " place " ++ (decimal place.0.0 ++ x)) (r.0 ∙ ap (λ (x : List ℕ). codes " drawn " ++ (decimal drawn.0.0 ++ x)) w.1)))))) in
    subst (λ (x : SenderState). line ≡ line_of_sender name x) w.0 (whole ∙ sym (sender_line_is name st))
