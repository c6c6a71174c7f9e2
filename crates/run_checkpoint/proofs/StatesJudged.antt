-- The judgement of a text: the state whose text it is, where it is that of one.
use Rattle.std.proofs.Common.{◌≡◌, ℕ, ◌<◌, ◌≤◌, Bool, true, false, List, [], ◌∷◌, ◌++◌, flat_map, length, None, Ok, refl, sym, ap, subst, ◌∙◌, arith, inl, inr}
use Rattle.std.specs.Prelude.{nat_lt}
use Rattle.std.proofs.lemmas.Bool.{cases_Bool, leb-false, ltb-true, lt-ltb, le-ltb}
use Rattle.mac_parameters.specs.Parameters.{most_half_bits}
use Rattle.collision_log.specs.declared.row.Body.{Body}
use Rattle.collision_log.specs.declared.row.Body.TheVariants.{Sent, Collided, GivenUp, Cut, Received, Dropped, Clash, Closed, Opened, Halted}
use Rattle.collision_log.specs.declared.row.Row.{Row}
use Rattle.load_plan.specs.declared.plan.Plan.{Plan}
use Rattle.load_plan.proofs.PlansAreSound.{sound_of_plan}
use Rattle.log_meter.specs.Lines.{is_of_repeater}
use Rattle.mac_transmit.specs.declared.state.SenderState.{SenderState}
use Rattle.network.specs.Outputs.{half_bits}
use Rattle.network.specs.declared.outputs.Taken.{Taken}
use Rattle.port_partition.specs.Guard.{Guard}
use Rattle.quiet_state.specs.declared.state.NetState.{NetState}
use Rattle.run_checkpoint.specs.Entries.{StateRow, captures_of_entries, entries_of, is_reception, lines_of_entries, rows_of_entries}
use Rattle.run_checkpoint.specs.Judging.{IsTextOfState, first_guard_line, first_row_line, judged_after_time, judged_entries, judged_guards, judged_line, judged_lines, judged_senders, judged_state, most_state_octets, state_told}
use Rattle.run_checkpoint.specs.LineForms.{time_form}
use Rattle.run_checkpoint.specs.LineTexts.{end_line, line_of_time_kept}
use Rattle.run_checkpoint.specs.Places.{all_ports}
use Rattle.run_checkpoint.specs.Ranges.{do_all_end}
use Rattle.run_checkpoint.specs.States.{AreEntriesAfter, AreGuardsOf, AreSendersOf, IsStateOfPlan, entries_of_state, lines_of_guards, lines_of_senders, lines_of_state, text_of_state}
use Rattle.run_checkpoint.specs.TextLines.{text_lines}
use Rattle.run_checkpoint.proofs.EntriesJudged.{entries_again, entries_found, no_octets}
use Rattle.run_checkpoint.proofs.EntriesOfRows.{AreWholeEntries, entries_together}
use Rattle.run_checkpoint.proofs.Judgements.{line_again, line_ok, same_ok, then_ok}
use Rattle.run_checkpoint.proofs.LinesApart.{lines_whole}
use Rattle.run_checkpoint.proofs.SenderLines.{time_again, time_text}
use Rattle.run_checkpoint.proofs.SendersJudged.{guards_again, guards_found, senders_again, senders_found}
use Rattle.run_checkpoint.proofs.StateLines.{lines_of_text}

few_half_bits : (plan : Plan) → half_bits plan ≤ most_half_bits
few_half_bits plan = omega (arith, (sound_of_plan plan).bits_most)

-- a frame is received by no repeater
by_station : (body : Body) → is_reception body ≡ true → is_of_repeater body ≡ false
by_station (Received octets) came = refl
by_station (Sent frame start attempt) came = cc came
by_station (Collided frame start attempt hit drawn) came = cc came
by_station (GivenUp frame start hit) came = cc came
by_station (Cut frame start attempt hit) came = cc came
by_station (Dropped why halves) came = cc came
by_station Clash came = cc came
by_station (Closed port) came = cc came
by_station (Opened port) came = cc came
by_station (Halted port) came = cc came

whole_entries : (plan : Plan) (t : ℕ) (senders : List SenderState) (before : List Row) (es : List StateRow) → AreEntriesAfter plan t senders before es → AreWholeEntries (length plan.layout.stations) es
whole_entries plan t senders before [] h = tt
whole_entries plan t senders before (e ∷ es) h = (
  record {
    station = λ came. leb-false (length plan.layout.stations) e.row.device (h.0.row.kind ∙ by_station e.row.body came);
    octets = λ other. no_octets e.row.body e.octets other h.0.length;
  },
  whole_entries plan t senders (before ++ e.row ∷ []) es h.1,
)

-- the rows of rows with their octets
pub rows_back : (rows : List Row) (waiting : List (List Taken)) → rows_of_entries (entries_of rows waiting) ≡ rows
rows_back [] waiting = refl
rows_back (row ∷ rows) waiting =
    elim (cases_Bool (is_reception row.body)) [
      | inl came ↦ rw came (ap (λ (xs : List Row). row ∷ xs) (rows_back rows _))
      | inr other ↦ rw other (ap (λ (xs : List Row). row ∷ xs) (rows_back rows waiting))
    ]

-- a state, and lines that are its own
record AreLinesOf (plan : Plan) (lines : List (List ℕ)) (s : NetState) : Type 0 where
  pub state : IsStateOfPlan plan s
  pub text : lines ≡ lines_of_state plan s

-- what was told is a state, and its lines
told_lines : (plan : Plan) (t : ℕ) (ss : List SenderState) (gs : List Guard) (rs : List ℕ) (es : List StateRow) (line : List ℕ) (lines : List (List ℕ)) → t < half_bits plan → AreSendersOf plan.queues ss
    → AreGuardsOf (all_ports plan.layout) gs rs → AreEntriesAfter plan t ss [] es → do_all_end 0 ss (rows_of_entries es) ≡ true → line ≡ line_of_time_kept t
    → lines ≡ lines_of_senders plan.layout.stations ss ++ (lines_of_guards (all_ports plan.layout) gs rs ++ (lines_of_entries plan.layout es ++ end_line ∷ []))
    → AreLinesOf plan (line ∷ lines) (state_told plan t ss gs rs es)
told_lines plan t ss gs rs es line lines soon senders guards entries ended time whole =
    let stations = length plan.layout.stations in
    let together : entries_of (rows_of_entries es) (captures_of_entries stations es) ≡ es = entries_together stations es (whole_entries plan t ss [] es entries) in
    record {
      state =
          record {
            time = soon;
            senders = senders;
            guards = guards;
            entries = subst (AreEntriesAfter plan t ss []) (sym together) entries;
            ended = ended;
            captures = ap (captures_of_entries stations) (sym together);
          };
      text =
          ap (λ (x : List ℕ). x ∷ lines) time
          ∙ ap (λ (x : List (List ℕ)). line_of_time_kept t ∷ x) (whole
          ∙ ap (λ (x : List StateRow). lines_of_senders plan.layout.stations ss ++ (lines_of_guards (all_ports plan.layout) gs rs ++ (lines_of_entries plan.layout x ++ end_line ∷ []))) (sym together));
    }

lines_found : (plan : Plan) (lines : List (List ℕ)) (s : NetState) → judged_lines plan lines ≡ Ok s → AreLinesOf plan lines s
lines_found plan [] s h = cc h
lines_found plan (line ∷ lines) s h =
    let keeps : ℕ → Bool = λ t. nat_lt t (half_bits plan) in
    let a = then_ok (judged_line 1 (time_form line) keeps) (judged_after_time plan lines) s h in
    let t = a.0 in
    let l = line_ok 1 (time_form line) keeps t a.1 in
    let soon : t < half_bits plan = ltb-true t (half_bits plan) l.1 in
    let b = then_ok (judged_senders 2 [] plan.layout.stations plan.queues lines) _ s a.2 in
    let f = senders_found 2 [] plan.layout.stations plan.queues lines b.0 plan.queued b.1 in
    let c = then_ok (judged_guards (first_guard_line plan) [] [] (all_ports plan.layout) b.0.1) _ s b.2 in
    let g = guards_found (first_guard_line plan) [] [] (all_ports plan.layout) b.0.1 c.0 c.1 in
    let d = then_ok (judged_entries plan t b.0.0 (first_row_line plan) [] None c.0.2) _ s c.2 in
    let e = entries_found plan t b.0.0 (first_row_line plan) [] None c.0.2 d.0 d.1 in
    let same : state_told plan t b.0.0 c.0.0 c.0.1 d.0 ≡ s = same_ok _ s d.2 in
    let is : state_told plan t f.more g.gs g.rs e.es ≡ s =
    ap (λ (x : List SenderState). state_told plan t x g.gs g.rs e.es) (sym f.all)
    ∙ (ap (λ (x : List Guard). state_told plan t b.0.0 x g.rs e.es) (sym g.guards)
    ∙ (ap (λ (x : List ℕ). state_told plan t b.0.0 c.0.0 x e.es) (sym g.rests) ∙ (ap (λ (x : List StateRow). state_told plan t b.0.0 c.0.0 c.0.1 x) (sym e.whole) ∙ same))) in
    let keeps' : AreEntriesAfter plan t f.more [] e.es = subst (λ (x : List SenderState). AreEntriesAfter plan t x [] e.es) f.all e.keeps in
    let ended : do_all_end 0 f.more (rows_of_entries e.es) ≡ true =
    subst (λ (x : List SenderState). do_all_end 0 x (rows_of_entries e.es) ≡ true) f.all (subst (λ (x : List StateRow). do_all_end 0 b.0.0 (rows_of_entries x) ≡ true) e.whole e.ended) in
    let whole : lines ≡ lines_of_senders plan.layout.stations f.more ++ (lines_of_guards (all_ports plan.layout) g.gs g.rs ++ (lines_of_entries plan.layout e.es ++ end_line ∷ [])) =
    f.text ∙ ap (λ (x : List (List ℕ)). lines_of_senders plan.layout.stations f.more ++ x) (g.text ∙ ap (λ (x : List (List ℕ)). lines_of_guards (all_ports plan.layout) g.gs g.rs ++ x) e.text) in
    let time : line ≡ line_of_time_kept t = time_text line t l.0 (omega (arith, soon, few_half_bits plan)) in
    subst (AreLinesOf plan (line ∷ lines)) is (told_lines plan t f.more g.gs g.rs e.es line lines soon f.states g.states keeps' ended time whole)

-- what has no fault is the text of the state
pub state_found : (plan : Plan) (octets : List ℕ) (s : NetState) → judged_state plan octets ≡ Ok s → IsTextOfState plan s octets
unfolding judged_state text_of_state
state_found plan octets s h =
    elim (cases_Bool (nat_lt most_state_octets (length octets))) [
      | inl long ↦ cc (rw long at h)
      | inr short ↦
          let f = lines_found plan (text_lines octets) s (rw short at h) in
          record { state = f.state; text = sym (lines_whole octets) ∙ ap (λ (ls : List (List ℕ)). flat_map (λ line. line) ls) f.text }
    ]

lines_again : (plan : Plan) (s : NetState) → IsStateOfPlan plan s → judged_lines plan (lines_of_state plan s) ≡ Ok s
lines_again plan s h =
    let es = entries_of_state s in
    let rows = rows_back s.rows s.captures in
    rw (
      line_again 1 (time_form (line_of_time_kept s.t)) (λ t. nat_lt t (half_bits plan)) s.t (time_again s.t (omega (arith, h.time, few_half_bits plan))) (lt-ltb s.t (half_bits plan) h.time),
      senders_again 2 [] plan.layout.stations plan.queues s.senders (lines_of_guards (all_ports plan.layout) s.guards s.rests ++ (lines_of_entries plan.layout es ++ end_line ∷ [])) plan.queued h.senders,
      guards_again (first_guard_line plan) [] [] (all_ports plan.layout) s.guards s.rests (lines_of_entries plan.layout es ++ end_line ∷ []) h.guards,
      entries_again plan s.t s.senders (first_row_line plan) [] es h.entries (rw rows h.ended),
      rows,
      ← h.captures,
    ) refl

-- the text of a state has no fault
pub state_again : (plan : Plan) (s : NetState) (octets : List ℕ) → IsTextOfState plan s octets → length octets ≤ most_state_octets → judged_state plan octets ≡ Ok s
unfolding judged_state
state_again plan s octets h few =
    rw (le-ltb most_state_octets (length octets) few, h.text, lines_of_text plan s) (lines_again plan s h.state)
