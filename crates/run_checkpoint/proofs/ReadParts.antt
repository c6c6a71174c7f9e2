-- The parts of a judgement, one after another.
use Rattle.std.proofs.Common.{◌≡◌, ℕ, ◌+◌, ◌≤◌, List, [], ◌∷◌, length, map, None, Ok, Err, refl, sym, ap, subst, ◌∙◌, arith, inl, inr}
use Rattle.std.specs.Prelude.{Result, ◌⊎◌, nat_lt}
use Rattle.collision_log.specs.declared.row.Row.{Row}
use Rattle.std.proofs.lemmas.List.{length-map}
use Rattle.frame_layout.specs.declared.queue.Ready.{Ready}
use Rattle.layout.specs.Limits.{most_stations}
use Rattle.layout.specs.declared.lines.StationLine.{StationLine}
use Rattle.load_plan.proofs.PlansAreSound.{sound_of_plan}
use Rattle.load_plan.specs.declared.plan.Plan.{Plan}
use Rattle.mac_transmit.specs.declared.state.SenderState.{SenderState}
use Rattle.network.specs.Outputs.{half_bits}
use Rattle.network.specs.declared.outputs.Taken.{Taken}
use Rattle.port_partition.specs.Guard.{Guard}
use Rattle.quiet_state.specs.declared.state.NetState.{NetState}
use Rattle.run_checkpoint.specs.Entries.{StateRow, captures_of_entries, rows_of_entries}
use Rattle.run_checkpoint.specs.Judging.{IsJudgement, first_guard_line, first_row_line, judged_after_time, judged_entries, judged_guards, judged_line, judged_lines, judged_senders, state_told, then_judged}
use Rattle.run_checkpoint.specs.LineForms.{time_form}
use Rattle.run_checkpoint.specs.Places.{NamedPort, all_ports}
use Rattle.run_checkpoint.specs.PortNames.{named_port}
use Rattle.run_checkpoint.specs.TextLines.{text_lines}
use Rattle.run_checkpoint.specs.declared.places.PortName.{PortName}
use Rattle.run_checkpoint.specs.declared.fault.StateFault.{StateFault}
use Rattle.run_checkpoint.specs.declared.fault.StateFault.TheVariants as fault
use Rattle.run_checkpoint.proofs.Judgements.{same_ok}
use Rattle.run_checkpoint.proofs.ResumableTexts.{few_ports}

abbrev pub TimeLine : Plan → List ℕ → Result ℕ StateFault
TimeLine plan line = judged_line 1 (time_form line) (λ t. nat_lt t (half_bits plan))

pub time_fault : (plan : Plan) (line : List ℕ) (lines : List (List ℕ)) (f : StateFault) → judged_line 1 (time_form line) (λ t. nat_lt t (half_bits plan)) ≡ Err f → judged_lines plan (line ∷ lines) ≡ Err f
time_fault plan line lines f h = rw h refl

pub time_told : (plan : Plan) (line : List ℕ) (lines : List (List ℕ)) (t : ℕ) → judged_line 1 (time_form line) (λ t. nat_lt t (half_bits plan)) ≡ Ok t → judged_lines plan (line ∷ lines) ≡ judged_after_time plan lines t
time_told plan line lines t h = rw h refl

pub senders_fault : (plan : Plan) (lines : List (List ℕ)) (t : ℕ) (f : StateFault) → judged_senders 2 [] plan.layout.stations plan.queues lines ≡ Err f → judged_after_time plan lines t ≡ Err f
senders_fault plan lines t f h = rw h refl

pub guards_fault : (plan : Plan) (lines more : List (List ℕ)) (t : ℕ) (ss : List SenderState) (f : StateFault) → judged_senders 2 [] plan.layout.stations plan.queues lines ≡ Ok (ss, more)
    → judged_guards (first_guard_line plan) [] [] (all_ports plan.layout) more ≡ Err f → judged_after_time plan lines t ≡ Err f
guards_fault plan lines more t ss f h g = rw (h, g) refl

abbrev pub RowsTold : ℕ → Result (List StateRow) StateFault → Result (List Row × List (List Taken)) StateFault
RowsTold stations r = then_judged r (λ es. Ok (rows_of_entries es, captures_of_entries stations es))

told_fault : (stations : ℕ) (r : Result (List StateRow) StateFault) (f : StateFault) → RowsTold stations r ≡ Err f → r ≡ Err f
told_fault stations (Ok es) f h = cc h
told_fault stations (Err g) f h = cc h

pub entries_fault : (plan : Plan) (lines more rest : List (List ℕ)) (t : ℕ) (ss : List SenderState) (gs : List Guard) (rs : List ℕ) (f : StateFault) → judged_senders 2 [] plan.layout.stations plan.queues lines ≡ Ok (ss, more)
    → judged_guards (first_guard_line plan) [] [] (all_ports plan.layout) more ≡ Ok (gs, rs, rest)
    → RowsTold (length ss) (judged_entries plan t ss (first_row_line plan) [] None rest) ≡ Err f → judged_after_time plan lines t ≡ Err f
entries_fault plan lines more rest t ss gs rs f h g e = rw (h, g, told_fault (length ss) (judged_entries plan t ss (first_row_line plan) [] None rest) f e) refl

told_entries : (stations : ℕ) (r : Result (List StateRow) StateFault) (rc : List Row × List (List Taken)) → RowsTold stations r ≡ Ok rc → (es : List StateRow) × (r ≡ Ok es) × (rows_of_entries es ≡ rc.0) × (captures_of_entries stations es ≡ rc.1)
told_entries stations (Ok es) rc h =
    let e = same_ok (rows_of_entries es, captures_of_entries stations es) rc h in
    (es, refl, ap (λ (p : List Row × List (List Taken)). p.0) e, ap (λ (p : List Row × List (List Taken)). p.1) e)
told_entries stations (Err g) rc h = cc h

same_state : (plan : Plan) (t : ℕ) (ss : List SenderState) (gs : List Guard) (rs : List ℕ) (es : List StateRow) (rows : List Row) (captures : List (List Taken)) → rows_of_entries es ≡ rows
    → captures_of_entries (length plan.layout.stations) es ≡ captures
    → ◌≡◌ {A = Result NetState StateFault} (Ok (state_told plan t ss gs rs es)) (Ok (record { t = t; senders = ss; guards = gs; rests = rs; rows = rows; captures = captures }))
same_state plan t ss gs rs es rows captures a b = rw (← a, ← b) refl

pub all_told : (plan : Plan) (lines more rest : List (List ℕ)) (t : ℕ) (ss : List SenderState) (gs : List Guard) (rs : List ℕ) (rows : List Row) (captures : List (List Taken)) → length ss ≡ length plan.layout.stations
    → judged_senders 2 [] plan.layout.stations plan.queues lines ≡ Ok (ss, more) → judged_guards (first_guard_line plan) [] [] (all_ports plan.layout) more ≡ Ok (gs, rs, rest)
    → RowsTold (length ss) (judged_entries plan t ss (first_row_line plan) [] None rest) ≡ Ok (rows, captures)
    → judged_after_time plan lines t ≡ Ok (record { t = t; senders = ss; guards = gs; rests = rs; rows = rows; captures = captures })
all_told plan lines more rest t ss gs rs rows captures many h g e =
    let r = told_entries (length ss) (judged_entries plan t ss (first_row_line plan) [] None rest) (rows, captures) e in
    rw (h, g, r.1) (same_state plan t ss gs rs r.0 rows captures r.2 (subst (λ (n : ℕ). captures_of_entries n r.0 ≡ captures) many r.3))

-- what the parts of a text are
pub record AreParts (plan : Plan) (octets : List ℕ) (lines : List (List ℕ)) (t : ℕ) (ss : List SenderState) (more : List (List ℕ)) (gs : List Guard) (rs : List ℕ) (rest : List (List ℕ)) : Type 0 where
  pub time : judged_lines plan (text_lines octets) ≡ judged_after_time plan lines t
  pub senders : judged_senders 2 [] plan.layout.stations plan.queues lines ≡ Ok (ss, more)
  pub guards : judged_guards (first_guard_line plan) [] [] (all_ports plan.layout) more ≡ Ok (gs, rs, rest)

pub parts : (plan : Plan) (octets line : List ℕ) (lines : List (List ℕ)) (half t : ℕ) (stations : List StationLine) (queues : List (List Ready)) (ss : List SenderState) (more : List (List ℕ)) (ports : List NamedPort) (gs : List Guard)
    (rs : List ℕ) (rest : List (List ℕ)) → text_lines octets ≡ line ∷ lines → half ≡ half_bits plan → Ok t ≡ judged_line 1 (time_form line) (λ u. nat_lt u half) → stations ≡ plan.layout.stations → queues ≡ plan.queues
    → judged_senders 2 [] stations queues lines ≡ Ok (ss, more) → ports ≡ all_ports plan.layout → judged_guards (length stations + 2) [] [] ports more ≡ Ok (gs, rs, rest) → AreParts plan octets lines t ss more gs rs rest
parts plan octets line lines half t stations queues ss more ports gs rs rest first halves time st qs senders ps guards =
    record {
      time = ap (judged_lines plan) first ∙ time_told plan line lines t (ap (λ (h : ℕ). judged_line 1 (time_form line) (λ u. nat_lt u h)) (sym halves) ∙ sym time);
      senders =
          ap (λ (x : List StationLine). judged_senders 2 [] x plan.queues lines) (sym st) ∙ (ap (λ (x : List (List Ready)). judged_senders 2 [] stations x lines) (sym qs) ∙ senders);
      guards =
          ap (λ (x : List StationLine). judged_guards (length x + 2) [] [] (all_ports plan.layout) more) (sym st)
          ∙ (ap (λ (x : List NamedPort). judged_guards (length stations + 2) [] [] x more) (sym ps) ∙ guards);
    }

-- the rows, from what was told
rows_part : (plan : Plan) (t : ℕ) (ss ss' : List SenderState) (first : ℕ) (rest : List (List ℕ)) (R : Result (List Row × List (List Taken)) StateFault) → ss' ≡ ss → first ≡ first_row_line plan
    → RowsTold (length ss') (judged_entries plan t ss' first [] None rest) ≡ R → RowsTold (length ss) (judged_entries plan t ss (first_row_line plan) [] None rest) ≡ R
rows_part plan t ss ss' first rest R same number h =
    ap (λ (n : ℕ). RowsTold (length ss) (judged_entries plan t ss n [] None rest)) (sym number) ∙ (ap (λ (x : List SenderState). RowsTold (length x) (judged_entries plan t x first [] None rest)) (sym same) ∙ h)

pub rows_fault : (plan : Plan) (octets : List ℕ) (lines : List (List ℕ)) (t : ℕ) (ss ss' : List SenderState) (more : List (List ℕ)) (gs : List Guard) (rs : List ℕ) (rest : List (List ℕ)) (first : ℕ) (f : StateFault)
    → AreParts plan octets lines t ss more gs rs rest → ss' ≡ ss → first ≡ first_row_line plan → (RowsTold (length ss') (judged_entries plan t ss' first [] None rest) ≡ Err f) ⊎ (f ≡ fault.OutOfMemory)
    → IsJudgement (judged_lines plan (text_lines octets)) (Err f)
rows_fault plan octets lines t ss ss' more gs rs rest first f p same number (inl h) =
    inl (sym (p.time ∙ entries_fault plan lines more rest t ss gs rs f p.senders p.guards (rows_part plan t ss ss' first rest (Err f) same number h)))
rows_fault plan octets lines t ss ss' more gs rs rest first f p same number (inr e) = inr (ap Err e)

pub rows_told : (plan : Plan) (octets : List ℕ) (lines : List (List ℕ)) (t : ℕ) (ss ss' : List SenderState) (more : List (List ℕ)) (gs : List Guard) (rs : List ℕ) (rest : List (List ℕ)) (first : ℕ) (rows : List Row)
    (captures : List (List Taken)) → AreParts plan octets lines t ss more gs rs rest → ss' ≡ ss → first ≡ first_row_line plan → length ss ≡ length plan.layout.stations
    → RowsTold (length ss') (judged_entries plan t ss' first [] None rest) ≡ Ok (rows, captures)
    → IsJudgement (judged_lines plan (text_lines octets)) (Ok (record { t = t; senders = ss; guards = gs; rests = rs; rows = rows; captures = captures }))
rows_told plan octets lines t ss ss' more gs rs rest first rows captures p same number many h =
    inl (sym (p.time ∙ all_told plan lines more rest t ss gs rs rows captures many p.senders p.guards (rows_part plan t ss ss' first rest (Ok (rows, captures)) same number h)))

-- the ports are few
few_named : (plan : Plan) (items : List PortName) → map named_port items ≡ all_ports plan.layout → length items ≤ 4096
few_named plan items h = omega (arith, ap length h, length-map items named_port, few_ports plan)

pub few_stations : (plan : Plan) (stations : List StationLine) → stations ≡ plan.layout.stations → length stations ≤ most_stations
few_stations plan stations is = omega (arith, ap length is, (sound_of_plan plan).stations_most)

-- before the rows stand few lines
pub few_lines : (plan : Plan) (stations : List StationLine) (named items : List PortName) → stations ≡ plan.layout.stations → named ≡ items → map named_port items ≡ all_ports plan.layout → length stations + length named ≤ 5120
few_lines plan stations named items is same h = omega (arith, few_stations plan stations is, ap length same, few_named plan items h)

pub row_line_is : (plan : Plan) (stations : List StationLine) (items : List PortName) → stations ≡ plan.layout.stations → map named_port items ≡ all_ports plan.layout → length stations + 2 + length items ≡ first_row_line plan
row_line_is plan stations items st h = omega (arith, ap length st, ap length h, length-map items named_port)
