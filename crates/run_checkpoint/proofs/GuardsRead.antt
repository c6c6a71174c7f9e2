-- The line of a port: what is written is read back, and what is read with its numbers in range is its line.
use Rattle.std.proofs.Common.{◌≡◌, ℕ, ◌^◌, ◌<◌, ◌≤◌, Bool, true, false, ◌&&◌, ◌||◌, not, List, ◌++◌, refl, sym, ap, subst, ◌∙◌, arith, Some}
use Rattle.std.specs.Fmt.{decimal}
use Rattle.std.specs.Prelude.{codes, nat_le, nat_lt}
use Rattle.std.proofs.lemmas.Bool.{and_parts, leb-true, ltb-true, le-leb, lt-ltb}
use Rattle.std.proofs.lemmas.Option.{same_Some}
use Rattle.text_fields.specs.Reading.{after_word}
use Rattle.text_fields.proofs.FoundFields.{bind_some, word_again, word_text}
use Rattle.mac_parameters.specs.Parameters.{jabber_rest, partition_collision, partition_in_a_row, reconnection}
use Rattle.port_partition.specs.Guard.{Guard, IsGuard}
use Rattle.run_checkpoint.specs.Fields.{figure_at, truth_at}
use Rattle.run_checkpoint.specs.LineForms.{after_port_name, answers_at, guard_form}
use Rattle.run_checkpoint.specs.LineTexts.{line_of_guard, yes_or_no}
use Rattle.run_checkpoint.specs.Ranges.{is_guard_in}
use Rattle.run_checkpoint.proofs.Pieces.{answer_pieces, count_pieces, guard_line_is, guard_pieces}
use Rattle.run_checkpoint.proofs.Figures.{figure_again, figure_text, truth_again, truth_text, whole_text}

-- numbers that a line tells
pub record IsToldGuard (g : Guard) (rest : ℕ) : Type 0 where
  pub in_row : g.in_row < 2 ^ 32
  pub clash_run : g.clash_run < 2 ^ 32
  pub clean_run : g.clean_run < 2 ^ 32
  pub rests : rest < 2 ^ 32

port_again : (name : List ℕ) (port : ℕ) (more : List ℕ) → after_port_name name port (codes "guard " ++ (name ++ (codes " port " ++ (decimal port ++ more)))) ≡ Some more
unfolding after_port_name
port_again name port more =
    rw (
      word_again name (codes " port " ++ (decimal port ++ more)),
      word_again (decimal port) more,
    ) refl

answers_again : (g : Guard) (more : List ℕ) → answers_at (answer_pieces g more) ≡ Some ((g.closed, g.mend, g.struck), more)
unfolding answers_at
answers_again g more =
    let rest2 = codes " struck " ++ (yes_or_no g.struck ++ more) in
    let rest1 = codes " mend " ++ (yes_or_no g.mend ++ rest2) in
    rw (truth_again (codes " closed ") g.closed rest1, truth_again (codes " mend ") g.mend rest2, truth_again (codes " struck ") g.struck more) refl

pub guard_again : (name : List ℕ) (port : ℕ) (g : Guard) (rest : ℕ) → IsToldGuard g rest → guard_form name port (line_of_guard name port g rest) ≡ Some (g, rest)
unfolding guard_form
guard_again name port g rest told =
    let rest3 = codes " rest " ++ (decimal rest ++ codes "\n") in
    let rest2 = codes " clean_run " ++ (decimal g.clean_run ++ rest3) in
    let rest1 = codes " clash_run " ++ (decimal g.clash_run ++ rest2) in
    ap (guard_form name port) (guard_line_is name port g rest)
    ∙ rw (
      port_again name port (answer_pieces g (count_pieces g rest)),
      answers_again g (count_pieces g rest),
      figure_again (codes " in_row ") g.in_row rest1 told.in_row refl,
      figure_again (codes " clash_run ") g.clash_run rest2 told.clash_run refl,
      figure_again (codes " clean_run ") g.clean_run rest3 told.clean_run refl,
      figure_again (codes " rest ") rest (codes "\n") told.rests refl,
    ) refl

port_text : (name : List ℕ) (port : ℕ) (line more : List ℕ) → after_port_name name port line ≡ Some more → line ≡ codes "guard " ++ (name ++ (codes " port " ++ (decimal port ++ more)))
unfolding after_port_name
port_text name port line more h =
    let word = bind_some (after_word (codes "guard ") line) _ more h in
    let named = bind_some (after_word name word.0) _ more word.2 in
    let numbered = bind_some (after_word (codes " port ") named.0) _ more named.2 in
    word_text (codes "guard ") line word.0 word.1
    ∙ ap (λ (x : List ℕ). codes "guard " ++ x) (word_text name word.0 named.0 named.1
    ∙ ap (λ (x : List ℕ). name ++ x) (word_text (codes " port ") named.0 numbered.0 numbered.1
    ∙ ap (λ (x : List ℕ). codes " port " ++ x) (word_text (decimal port) numbered.0 more numbered.2)))

-- the answers that stand in front
abbrev AnswersBefore : List ℕ → (Bool × Bool × Bool) × List ℕ → Type 0
AnswersBefore octets y = octets ≡ codes " closed " ++ (yes_or_no y.0.0 ++ (codes " mend " ++ (yes_or_no y.0.1 ++ (codes " struck " ++ (yes_or_no y.0.2 ++ y.1)))))

answers_text : (octets : List ℕ) (y : (Bool × Bool × Bool) × List ℕ) → answers_at octets ≡ Some y → AnswersBefore octets y
unfolding answers_at
answers_text octets y h =
    let closed = bind_some (truth_at (codes " closed ") octets) _ y h in
    let mend = bind_some (truth_at (codes " mend ") closed.0.1) _ y closed.2 in
    let struck = bind_some (truth_at (codes " struck ") mend.0.1) _ y mend.2 in
    subst (AnswersBefore octets) (same_Some _ _ struck.2)
    (truth_text (codes " closed ") octets closed.0.0 closed.0.1 closed.1
    ∙ ap (λ (x : List ℕ). codes " closed " ++ (yes_or_no closed.0.0 ++ x)) (truth_text (codes " mend ") closed.0.1 mend.0.0 mend.0.1 mend.1
    ∙ ap (λ (x : List ℕ). codes " mend " ++ (yes_or_no mend.0.0 ++ x)) (truth_text (codes " struck ") mend.0.1 struck.0.0 struck.0.1 struck.1)))

pub guard_text : (name : List ℕ) (port : ℕ) (line : List ℕ) (y : Guard × ℕ) → guard_form name port line ≡ Some y → IsToldGuard y.0 y.1 → line ≡ line_of_guard name port y.0 y.1
unfolding guard_form
guard_text name port line y h told =
    let head = bind_some (after_port_name name port line) _ y h in
    let answers = bind_some (answers_at head.0) _ y head.2 in
    let in_row = bind_some (figure_at (codes " in_row ") answers.0.1) _ y answers.2 in
    let clash = bind_some (figure_at (codes " clash_run ") in_row.0.1) _ y in_row.2 in
    let clean = bind_some (figure_at (codes " clean_run ") clash.0.1) _ y clash.2 in
    let rests = bind_some (figure_at (codes " rest ") clean.0.1) _ y clean.2 in
    let g : Guard = record { closed = answers.0.0.0; mend = answers.0.0.1; struck = answers.0.0.2; in_row = in_row.0.0; clash_run = clash.0.0; clean_run = clean.0.0 } in
    let w = whole_text (g, rests.0.0) y rests.0.1 rests.2 in
    let t : IsToldGuard g rests.0.0 = subst (λ (p : Guard × ℕ). IsToldGuard p.0 p.1) (sym w.0) told in
    let j = figure_text (codes " in_row ") answers.0.1 in_row.0.0 in_row.0.1 in_row.1 (omega (arith, t.in_row)) in
    let k = figure_text (codes " clash_run ") in_row.0.1 clash.0.0 clash.0.1 clash.1 (omega (arith, t.clash_run)) in
    let l = figure_text (codes " clean_run ") clash.0.1 clean.0.0 clean.0.1 clean.1 (omega (arith, t.clean_run)) in
    let m = figure_text (codes " rest ") clean.0.1 rests.0.0 rests.0.1 rests.1 (omega (arith, t.rests)) in
    let counts : answers.0.1 ≡ count_pieces g rests.0.0 =
    j.0 ∙ ap (λ (x : List ℕ). codes " in_row " ++ (decimal in_row.0.0 ++ x)) (k.0
    ∙ ap (λ (x : List ℕ). codes " clash_run " ++ (decimal clash.0.0 ++ x)) (l.0
    ∙ ap (λ (x : List ℕ). codes " clean_run " ++ (decimal clean.0.0 ++ x)) (m.0
    ∙ ap (λ (x : List ℕ). codes " rest " ++ (decimal rests.0.0 ++ x)) w.1))) in
    let whole : line ≡ guard_pieces name port g rests.0.0 =
    port_text name port line head.0 head.1
    ∙ ap (λ (x : List ℕ). codes "guard " ++ (name ++ (codes " port " ++ (decimal port ++ x)))) (answers_text head.0 answers.0 answers.1 ∙ ap (answer_pieces g) counts) in
    subst (λ (p : Guard × ℕ). line ≡ line_of_guard name port p.0 p.1) w.0 (whole ∙ sym (guard_line_is name port g rests.0.0))

or_of : (a b : Bool) → (not a || b) ≡ true → a ≡ true → b ≡ true
or_of true b h e = h
or_of false b h e = cc e

of_or : (a b : Bool) → (a ≡ true → b ≡ true) → (not a || b) ≡ true
of_or true b h = h refl
of_or false b h = refl

-- a guard in range, and its rest, which a line tells
pub guard_in_range : (g : Guard) (rest : ℕ) → is_guard_in g rest ≡ true → IsGuard g × (rest < jabber_rest) × IsToldGuard g rest
unfolding is_guard_in
guard_in_range g rest h =
    let row = nat_le g.in_row partition_in_a_row in
    let clash = nat_le g.clash_run partition_collision in
    let clean = nat_le g.clean_run reconnection in
    let mend = not g.mend || g.closed in
    let rests = nat_lt rest jabber_rest in
    let p4 = and_parts (((row && clash) && clean) && mend) rests h in
    let p3 = and_parts ((row && clash) && clean) mend p4.0 in
    let p2 = and_parts (row && clash) clean p3.0 in
    let p1 = and_parts row clash p2.0 in
    let a : g.in_row ≤ partition_in_a_row = leb-true g.in_row partition_in_a_row p1.0 in
    let b : g.clash_run ≤ partition_collision = leb-true g.clash_run partition_collision p1.1 in
    let c : g.clean_run ≤ reconnection = leb-true g.clean_run reconnection p2.1 in
    let d : rest < jabber_rest = ltb-true rest jabber_rest p4.1 in (
      record { row_at_most = a; clash_at_most = b; clean_at_most = c; mend_if_closed = or_of g.mend g.closed p3.1 },
      d,
      record { in_row = omega (arith, a); clash_run = omega (arith, b); clean_run = omega (arith, c); rests = omega (arith, d) },
    )

pub guard_keeps : (g : Guard) (rest : ℕ) → IsGuard g → rest < jabber_rest → (is_guard_in g rest ≡ true) × IsToldGuard g rest
unfolding is_guard_in
guard_keeps g rest h lt = (
  rw (
    le-leb g.in_row partition_in_a_row h.row_at_most,
    le-leb g.clash_run partition_collision h.clash_at_most,
    le-leb g.clean_run reconnection h.clean_at_most,
    of_or g.mend g.closed h.mend_if_closed,
    lt-ltb rest jabber_rest lt,
  ) refl,
  record { in_row = omega (arith, h.row_at_most); clash_run = omega (arith, h.clash_at_most); clean_run = omega (arith, h.clean_at_most); rests = omega (arith, lt) },
)
