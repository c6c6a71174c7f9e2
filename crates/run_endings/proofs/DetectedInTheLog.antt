-- Where a layout is within, of two attempts that overlap over an open path each that ends within the run has a line in
-- the log.
use Rattle.std.proofs.Common.{◌≡◌, ℕ, zero, suc, ◌+◌, ◌<◌, ◌==◌, Bool, true, false, if◌then◌else◌, Contains, Option, Some, None, List, [], ◌∷◌, ◌++◌, length, slice_index_or, refl, sym, ap, ◌∙◌, inl, inr, append_assoc, append-nil, arith}
use Rattle.std.specs.Prelude.{codes}
use Rattle.collision_log.specs.declared.row.Body.TheVariants.{Collided, GivenUp}
use Rattle.collision_log.specs.declared.row.Row.{Row}
use Rattle.layout.specs.Sound.{device_names}
use Rattle.layout.specs.declared.lines.Layout.{Layout}
use Rattle.load_plan.specs.Loads.{planned_queues}
use Rattle.load_plan.specs.declared.plan.Plan.{Plan}
use Rattle.mac_parameters.specs.Parameters.{attempt_limit, bit_512}
use Rattle.mac_transmit.specs.Attempts.{Attempt, IsHitBelow}
use Rattle.mac_transmit.specs.Sender.{Sender, end_event}
use Rattle.network.specs.Attempts.{IsAttempt, sender_at}
use Rattle.network.specs.Outputs.{rows, half_bits}
use Rattle.network.specs.Signals.{row_of_attempt}
use Rattle.outside.specs.Files.{Files}
use Rattle.path_checker.specs.Propagation.{HasNetworkOf}
use Rattle.path_checker.specs.declared.verdict.PathVerdict.TheVariants.{Within}
use Rattle.run_texts.specs.Texts.{line_of_row, lines_of_rows, log_of_rows}
use Rattle.run_endings.specs.LoggedCollisions.{AreDetected, AreLogged, EndsLine, HasLine, IsDetected, IsLogged, ShowsHit, log_line, AreRunCollisionsDetected}
use Rattle.run_endings.specs.Runs.{IsPlanOf, log}
use Rattle.run_endings.proofs.LinesOfRows.{line_among, one_line, text_among}
use Rattle.run_endings.proofs.DetectionFoundations.{kept, logged, queues_hold_frames}

-- the plan of a layout has its network, and queues of frames
has_network : (held : Option Files) (network : Layout) (plan : Plan) → IsPlanOf held network plan → HasNetworkOf network plan
has_network held network plan planned = record {
  segments = ap (λ (l : Layout). l.segments) planned.layout;
  stations = ap (λ (l : Layout). l.stations) planned.layout;
  repeaters = ap (λ (l : Layout). l.repeaters) planned.layout;
  frames = queues_hold_frames plan planned.loads (planned.queues ∙ ap (λ (l : Layout). planned_queues l planned.loads) (sym planned.layout));
}

-- a text with a line in it that begins it or follows a line feed
record HasText (text line : List ℕ) : Type 0 where
  pub before : List ℕ
  pub after : List ℕ
  pub is : text ≡ before ++ line ++ after
  pub begins : EndsLine before

-- what ends with a line feed still does behind a line
ends_later : (first inner before : List ℕ) → first ≡ inner ++ codes "\n" → EndsLine before → EndsLine (first ++ before)
ends_later first inner before is (inl nothing) = inr (inner, ap (λ xs. first ++ xs) nothing ∙ append-nil first ∙ is)
ends_later first inner before is (inr some) = inr (first ++ some.0, ap (λ xs. first ++ xs) some.1 ∙ sym (append_assoc first some.0 (codes "\n")))

text_later : (first inner text line : List ℕ) → first ≡ inner ++ codes "\n" → HasText text line → HasText (first ++ text) line
text_later first inner text line ends h = record {
  before = first ++ h.before;
  after = h.after;
  is = ap (λ xs. first ++ xs) h.is ∙ sym (append_assoc first (h.before ++ line) h.after) ∙ ap (λ xs. xs ++ h.after) (sym (append_assoc first h.before line));
  begins = ends_later first inner h.before ends h.begins;
}

lines_have : (names : List (List ℕ)) (stations : ℕ) (all : List Row) (row : Row) (k : ℕ) → k < length all → slice_index_or all k row ≡ row
    → HasText (lines_of_rows names stations all) (line_of_row names stations row)
lines_have names stations [] row k l e = absurd (omega arith)
lines_have names stations (x ∷ xs) row zero l e =
    record { before = []; after = lines_of_rows names stations xs; is = ap (λ (r : Row). line_of_row names stations r ++ lines_of_rows names stations xs) e; begins = inl refl }
lines_have names stations (x ∷ xs) row (suc k) l e =
    text_later (line_of_row names stations x) (text_among names stations x) (lines_of_rows names stations xs) (line_of_row names stations row) (line_among names stations x)
    (lines_have names stations xs row k (omega arith) e)

-- a row of the run has its line in the log
has_line : (plan : Plan) (row : Row) → Contains (rows plan) row → HasLine (log plan) (log_line plan row)
unfolding log_of_rows
has_line plan row c =
    let names = device_names plan.layout in
    let stations = length plan.layout.stations in
    let text : HasText (lines_of_rows names stations (rows plan)) (line_of_row names stations row) = lines_have names stations (rows plan) row c.0 c.1 c.2 in
    record { before = text.before; after = text.after; is = text.is; begins = text.begins; one = one_line plan row }

ended_shows : (given_up : Bool) (frame start attempt hit drawn : ℕ) → hit < bit_512
    → ShowsHit (if given_up then GivenUp frame start hit else Collided frame start attempt hit drawn) start bit_512
ended_shows true frame start attempt hit drawn below = (refl, below)
ended_shows false frame start attempt hit drawn below = (refl, below)

shows : (s : Sender) (start : ℕ) (hit : Option ℕ) → IsHitBelow hit bit_512 → ShowsHit (end_event s start hit) start bit_512
shows s start None below = absurd below
shows s start (Some hit) below = ended_shows (s.attempt == attempt_limit) (s.place + 1) start s.attempt hit _ below

-- an attempt with a hit that ends within the run is shown
is_detected : (plan : Plan) (k : ℕ) (a : Attempt) → IsAttempt plan k a → IsHitBelow a.hit bit_512 → a.end < half_bits plan → IsDetected plan k a
is_detected plan k a is below before =
    let row : Row = row_of_attempt plan k a in
    let among : Contains (rows plan) row = logged plan k a is before in
    record { row = row; among = among; t = refl; device = refl; shows = shows (sender_at plan k a.end) a.start a.hit below; line = has_line plan row among }

-- the collisions of a run are detected in it
pub are_detected : AreRunCollisionsDetected
are_detected held network within plan planned a b x y over =
    let hits : IsHitBelow x.hit bit_512 × IsHitBelow y.hit bit_512 =
    kept network (Within within.0 within.1 within.2) within.3 plan (has_network held network plan planned) a b x y over in
    (is_detected plan a x over.first hits.0, is_detected plan b y over.second hits.1)

is_logged : (plan : Plan) (k : ℕ) (a : Attempt) → IsDetected plan k a → IsLogged plan (log plan) k a
is_logged plan k a d = record { row = d.row; t = d.t; device = d.device; shows = d.shows; line = d.line }

-- they are told by its log
pub are_logged : (plan : Plan) → AreDetected plan → AreLogged plan (log plan)
are_logged plan all a b x y over = (λ ends. is_logged plan a x ((all a b x y over).0 ends), λ ends. is_logged plan b y ((all a b x y over).1 ends))
