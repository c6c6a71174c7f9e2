-- The line of a sender: what is written is read back, and what is read with its numbers in range is its line.
use Rattle.std.proofs.Common.{◌≡◌, ℕ, ◌^◌, ◌<◌, Bool, true, false, List, ◌++◌, refl, sym, ap, ◌∙◌, Some, None, append_assoc}
use Rattle.std.specs.Fmt.{decimal}
use Rattle.std.specs.Prelude.{Option, codes, ⊤}
use Rattle.text_fields.specs.Reading.{◌>>=◌, else_read}
use Rattle.text_fields.proofs.FoundFields.{bind_some, word_again}
use Rattle.text_fields.proofs.Numbers.{begins_with_digit}
use Rattle.mac_transmit.specs.declared.deference.Defer.{Defer}
use Rattle.mac_transmit.specs.declared.deference.Defer.TheVariants.{Watch, Busy, Gap}
use Rattle.mac_transmit.specs.declared.phase.Phase.{Phase}
use Rattle.mac_transmit.specs.declared.phase.Phase.TheVariants.{Rest, Waiting, Sending, Backoff}
use Rattle.mac_transmit.specs.declared.state.SenderState.{SenderState}
use Rattle.run_checkpoint.specs.Fields.{beyond_ranges, figure_at, truth_at, yes_or_no_at}
use Rattle.run_checkpoint.specs.LineForms.{backoff_found, defer_at, gap_defer_at, phase_at, sender_form, time_form}
use Rattle.run_checkpoint.specs.LineTexts.{defer_words, line_of_sender, line_of_time_kept, phase_words, yes_or_no}
use Rattle.run_checkpoint.proofs.Pieces.{five, sender_line_is, sender_pieces}
use Rattle.run_checkpoint.proofs.Figures.{figure_again, figure_text, whole_text}

pub time_again : (t : ℕ) → t < 2 ^ 32 → time_form (line_of_time_kept t) ≡ Some t
unfolding time_form
time_again t fits = ap time_form (append_assoc (codes "state ") (decimal t) (codes "\n")) ∙ rw (figure_again (codes "state ") t (codes "\n") fits refl) refl

pub time_text : (line : List ℕ) (t : ℕ) → time_form line ≡ Some t → t < beyond_ranges → line ≡ line_of_time_kept t
unfolding time_form
time_text line t h small =
    let b = bind_some (figure_at (codes "state ") line) _ t h in
    let w = whole_text b.0.0 t b.0.1 b.2 in
    let f = figure_text (codes "state ") line b.0.0 b.0.1 b.1 (rw w.0 small) in
    rw (← w.0) (f.0 ∙ ap (λ xs. codes "state " ++ (decimal b.0.0 ++ xs)) w.1 ∙ sym (append_assoc (codes "state ") (decimal b.0.0) (codes "\n")))

-- the first reading found nothing
skip : {A : Type 0} (a b : Option A) (y : Option A) → a ≡ None → b ≡ y → else_read a b ≡ y
skip a b y e h = rw e h

-- a phase that a line tells
abbrev pub IsToldPhase : Phase → Type 0
IsToldPhase Rest = ⊤
IsToldPhase Waiting = ⊤
IsToldPhase (Sending start hit) = ⊥
IsToldPhase (Backoff until) = until < 2 ^ 32

phase_again : (p : Phase) (rest : List ℕ) → IsToldPhase p → begins_with_digit rest ≡ false → phase_at (phase_words p ++ rest) ≡ Some (p, rest)
unfolding phase_at
phase_again Rest rest told stops = refl
phase_again Waiting rest told stops = refl
phase_again (Sending start hit) rest told stops = absurd told
phase_again (Backoff until) rest told stops =
    let e = append_assoc (codes " phase backoff ") (decimal until) rest in
    ap phase_at e ∙ ap backoff_found (figure_again (codes " phase backoff ") until rest told stops)

-- a way to wait that a line tells
abbrev pub IsToldDefer : Defer → Type 0
IsToldDefer (Gap k was) = k < 2 ^ 32
IsToldDefer _ = ⊤

gap_answer : (k : ℕ) (was : Bool) (rest : List ℕ) → ◌>>=◌ {B = Defer × List ℕ} (truth_at (codes " ") (codes " " ++ (yes_or_no was ++ rest))) (λ b. Some (Gap k b.0, b.1)) ≡ Some (Gap k was, rest)
unfolding truth_at yes_or_no_at
gap_answer k true rest = refl
gap_answer k false rest = refl

defer_again : (d : Defer) (rest : List ℕ) → IsToldDefer d → defer_at (defer_words d ++ rest) ≡ Some (d, rest)
unfolding defer_at gap_defer_at truth_at yes_or_no_at
defer_again Watch rest told = refl
defer_again (Busy true) rest told = refl
defer_again (Busy false) rest told = refl
defer_again (Gap k was) rest told =
    let answer = codes " " ++ (yes_or_no was ++ rest) in
    let e : defer_words (Gap k was) ++ rest ≡ codes " defer gap " ++ (decimal k ++ answer) =
    five (codes " defer gap ") (decimal k) (codes " ") (yes_or_no was) rest in
    ap defer_at e ∙ (rw (figure_again (codes " defer gap ") k answer told refl) (gap_answer k was rest))

-- how a sender waits begins with a blank
blank_before : (d : Defer) (rest : List ℕ) → begins_with_digit (defer_words d ++ rest) ≡ false
blank_before Watch rest = refl
blank_before (Busy was) rest = refl
blank_before (Gap k was) rest = refl

-- a state that a line tells
pub record IsToldSender (s : SenderState) : Type 0 where
  pub phase : IsToldPhase s.phase
  pub defer : IsToldDefer s.defer
  pub attempt : s.attempt < 2 ^ 32
  pub place : s.place < 2 ^ 32
  pub drawn : s.drawn < 2 ^ 32

pieces_again : (name : List ℕ) (s : SenderState) → IsToldSender s → sender_form name (sender_pieces name s) ≡ Some s
unfolding sender_form
pieces_again name s told =
    let rest4 = codes " drawn " ++ (decimal s.drawn ++ codes "\n") in
    let rest3 = codes " place " ++ (decimal s.place ++ rest4) in
    let rest2 = codes " attempt " ++ (decimal s.attempt ++ rest3) in
    let rest1 = defer_words s.defer ++ rest2 in
    let rest0 = phase_words s.phase ++ rest1 in
    rw (
      word_again name rest0,
      phase_again s.phase rest1 told.phase (blank_before s.defer rest2),
      defer_again s.defer rest2 told.defer,
      figure_again (codes " attempt ") s.attempt rest3 told.attempt refl,
      figure_again (codes " place ") s.place rest4 told.place refl,
      figure_again (codes " drawn ") s.drawn (codes "\n") told.drawn refl,
    ) refl

pub sender_again : (name : List ℕ) (s : SenderState) → IsToldSender s → sender_form name (line_of_sender name s) ≡ Some s
sender_again name s told = ap (sender_form name) (sender_line_is name s) ∙ pieces_again name s told
