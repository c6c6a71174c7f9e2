-- What the answer says, where it is the judgement of the text or want of memory.
use Rattle.std.proofs.Common.{◌≡◌, ◌≢◌, ℕ, ◌+◌, ◌<◌, ◌≤◌, Bool, true, false, if◌then◌else◌, List, [], ◌∷◌, ◌++◌, length, Option, None, Some, Ok, Err, refl, sym, subst, ◌∙◌, inl, inr}
use Rattle.std.specs.Prelude.{Result, IfOk, ⊤, nat_lt}
use Rattle.std.proofs.lemmas.Bool.{cases_Bool, le-ltb, lt-ltb}
use Rattle.collision_log.specs.declared.row.Row.{Row}
use Rattle.frame_layout.specs.declared.queue.Ready.{Ready}
use Rattle.layout.specs.declared.lines.StationLine.{StationLine}
use Rattle.load_plan.specs.declared.plan.Plan.{Plan}
use Rattle.mac_transmit.specs.declared.state.SenderState.{SenderState}
use Rattle.port_partition.specs.Guard.{Guard}
use Rattle.quiet_state.specs.PlanStates.{IsResumable}
use Rattle.quiet_state.specs.Quiet.{IsQuiet}
use Rattle.quiet_state.specs.Resumed.{state_at}
use Rattle.quiet_state.specs.declared.state.NetState.{NetState}
use Rattle.network.specs.Outputs.{half_bits}
use Rattle.run_checkpoint.specs.Entries.{StateRow, is_length_of, is_reception, rows_of_entries}
use Rattle.run_checkpoint.specs.Judging.{IsJudgement, IsTextOfState, first_guard_line, first_row_line, judged_after_time, judged_end, judged_entries, judged_guards, judged_line, judged_lines, judged_rest, judged_senders, judged_state, most_state_octets, state_told, then_judged}
use Rattle.run_checkpoint.specs.LineForms.{guard_form, is_end_line, octets_form, row_form, sender_form, time_form}
use Rattle.run_checkpoint.specs.Places.{NamedPort, all_ports}
use Rattle.run_checkpoint.specs.Ranges.{do_all_end, is_guard_in, is_row_after, is_sender_in}
use Rattle.run_checkpoint.specs.States.{text_of_state}
use Rattle.run_checkpoint.specs.TextLines.{text_lines}
use Rattle.run_checkpoint.specs.declared.fault.StateFault.{StateFault}
use Rattle.run_checkpoint.specs.declared.fault.StateFault.TheVariants as fault
use Rattle.run_checkpoint.proofs.ResumableTexts.{quiet_states, resumable}
use Rattle.run_checkpoint.proofs.StatesJudged.{state_again, state_found}

-- the judgement of a line is none of the text as a whole
abbrev IsOfLine : StateFault → Type 0
IsOfLine fault.TooLarge = ⊥
IsOfLine (fault.BadLine n) = ⊤
IsOfLine (fault.BadValue n) = ⊤
IsOfLine fault.OutOfMemory = ⊥

abbrev OfLines : {A : Type 0} → Result A StateFault → Type 0
OfLines (Ok x) = ⊤
OfLines (Err f) = IsOfLine f

then_lines : {A B : Type 0} (r : Result A StateFault) (next : A → Result B StateFault) → OfLines r → ((x : A) → OfLines (next x)) → OfLines (then_judged r next)
then_lines (Ok x) next h more = more x
then_lines (Err f) next h more = h

one_line : {A : Type 0} (n : ℕ) (o : Option A) (keeps : A → Bool) → OfLines (judged_line n o keeps)
one_line n None keeps = tt
one_line n (Some x) keeps = elim (cases_Bool (keeps x)) [ inl fits ↦ rw fits tt | inr other ↦ rw other tt ]

of_either : {A : Type 0} (b : Bool) (x y : Result A StateFault) → OfLines x → OfLines y → OfLines (if b then x else y)
of_either true x y h k = h
of_either false x y h k = k

-- what comes after the ports, and after the senders
abbrev after_guards : Plan → ℕ → List SenderState → List Guard × List ℕ × List (List ℕ) → Result NetState StateFault
after_guards plan t senders guards =
    then_judged (judged_entries plan t senders (first_row_line plan) [] None guards.2) (λ es. Ok (state_told plan t senders guards.0 guards.1 es))

abbrev after_senders : Plan → ℕ → List SenderState × List (List ℕ) → Result NetState StateFault
after_senders plan t senders = then_judged (judged_guards (first_guard_line plan) [] [] (all_ports plan.layout) senders.1) (after_guards plan t senders.0)

senders_lines : (n : ℕ) (told : List SenderState) (stations : List StationLine) (queues : List (List Ready)) (lines : List (List ℕ)) → OfLines (judged_senders n told stations queues lines)
senders_lines n told [] [] lines = tt
senders_lines n told [] (q ∷ qs) lines = tt
senders_lines n told (s ∷ ss) [] lines = tt
senders_lines n told (s ∷ ss) (q ∷ qs) [] = tt
senders_lines n told (s ∷ ss) (q ∷ qs) (line ∷ lines) =
    then_lines (judged_line n (sender_form s.name line) (is_sender_in (length q))) (λ (x : SenderState). judged_senders (n + 1) (told ++ x ∷ []) ss qs lines)
    (one_line n (sender_form s.name line) (is_sender_in (length q))) (λ (x : SenderState). senders_lines (n + 1) (told ++ x ∷ []) ss qs lines)

guards_lines : (n : ℕ) (gs : List Guard) (rs : List ℕ) (ports : List NamedPort) (lines : List (List ℕ)) → OfLines (judged_guards n gs rs ports lines)
guards_lines n gs rs [] lines = tt
guards_lines n gs rs (p ∷ ps) [] = tt
guards_lines n gs rs (p ∷ ps) (line ∷ lines) =
    let keeps : Guard × ℕ → Bool = λ g. is_guard_in g.0 g.1 in
    then_lines (judged_line n (guard_form p.name p.port line) keeps) (λ (x : Guard × ℕ). judged_guards (n + 1) (gs ++ x.0 ∷ []) (rs ++ x.1 ∷ []) ps lines)
    (one_line n (guard_form p.name p.port line) keeps) (λ (x : Guard × ℕ). guards_lines (n + 1) (gs ++ x.0 ∷ []) (rs ++ x.1 ∷ []) ps lines)

rest_lines : (n : ℕ) (told : List StateRow) (lines : List (List ℕ)) → OfLines (judged_rest n told lines)
rest_lines n told [] = tt
rest_lines n told (line ∷ lines) = tt

end_lines : (n : ℕ) (senders : List SenderState) (told : List StateRow) (lines : List (List ℕ)) → OfLines (judged_end n senders told lines)
end_lines n senders told lines = elim (cases_Bool (do_all_end 0 senders (rows_of_entries told))) [ inl ended ↦ rw ended (rest_lines n told lines) | inr other ↦ rw other tt ]

entries_lines : (plan : Plan) (t : ℕ) (senders : List SenderState) (n : ℕ) (told : List StateRow) (due : Option Row) (lines : List (List ℕ)) → OfLines (judged_entries plan t senders n told due lines)
entries_lines plan t senders n told None [] = tt
entries_lines plan t senders n told (Some row) [] = tt
entries_lines plan t senders n told (Some row) (line ∷ lines) =
    let keeps : List ℕ → Bool = λ octets. is_length_of row.body (length octets) in
    then_lines (judged_line n (octets_form line) keeps) (λ (octets : List ℕ). judged_entries plan t senders (n + 1) (told ++ record { row = row; octets = octets } ∷ []) None lines)
    (one_line n (octets_form line) keeps) (λ (octets : List ℕ). entries_lines plan t senders (n + 1) (told ++ record { row = row; octets = octets } ∷ []) None lines)
entries_lines plan t senders n told None (line ∷ lines) =
    let keeps : Row → Bool = is_row_after plan t senders (rows_of_entries told) in
    let next : Row → Result (List StateRow) StateFault = λ row.
    if is_reception row.body then judged_entries plan t senders (n + 1) told (Some row) lines
    else judged_entries plan t senders (n + 1) (told ++ record { row = row; octets = [] } ∷ []) None lines in
    let nexts : (row : Row) → OfLines (next row) = λ row.
    of_either (is_reception row.body) (judged_entries plan t senders (n + 1) told (Some row) lines) (judged_entries plan t senders (n + 1) (told ++ record { row = row; octets = [] } ∷ []) None lines)
    (entries_lines plan t senders (n + 1) told (Some row) lines) (entries_lines plan t senders (n + 1) (told ++ record { row = row; octets = [] } ∷ []) None lines) in
    of_either (is_end_line line) (judged_end n senders told lines) (then_judged (judged_line n (row_form plan.layout line) keeps) next) (end_lines n senders told lines)
    (then_lines (judged_line n (row_form plan.layout line) keeps) next (one_line n (row_form plan.layout line) keeps) nexts)

after_lines : (plan : Plan) (lines : List (List ℕ)) (t : ℕ) → OfLines (judged_after_time plan lines t)
after_lines plan lines t =
    then_lines (judged_senders 2 [] plan.layout.stations plan.queues lines) (after_senders plan t) (senders_lines 2 [] plan.layout.stations plan.queues lines) (λ (senders : List SenderState × List (List ℕ)).
    then_lines (judged_guards (first_guard_line plan) [] [] (all_ports plan.layout) senders.1) (after_guards plan t senders.0) (guards_lines (first_guard_line plan) [] [] (all_ports plan.layout) senders.1)
    (λ (guards : List Guard × List ℕ × List (List ℕ)).
    then_lines (judged_entries plan t senders.0 (first_row_line plan) [] None guards.2) (λ (es : List StateRow). Ok (state_told plan t senders.0 guards.0 guards.1 es))
    (entries_lines plan t senders.0 (first_row_line plan) [] None guards.2) (λ (es : List StateRow). tt)))

all_lines : (plan : Plan) (lines : List (List ℕ)) → OfLines (judged_lines plan lines)
all_lines plan [] = tt
all_lines plan (line ∷ lines) =
    let keeps : ℕ → Bool = λ t. nat_lt t (half_bits plan) in
    then_lines (judged_line 1 (time_form line) keeps) (judged_after_time plan lines) (one_line 1 (time_form line) keeps) (after_lines plan lines)

pub too_long : (plan : Plan) (octets : List ℕ) → most_state_octets < length octets → judged_state plan octets ≡ Err fault.TooLarge
unfolding judged_state
too_long plan octets lt = rw (lt-ltb most_state_octets (length octets) lt) refl

pub not_long : (plan : Plan) (octets : List ℕ) → length octets ≤ most_state_octets → judged_state plan octets ≡ judged_lines plan (text_lines octets)
unfolding judged_state
not_long plan octets le = rw (le-ltb most_state_octets (length octets) le) refl

-- a text that isn't too long isn't said to be
pub few_octets : (plan : Plan) (octets : List ℕ) (r : Result NetState StateFault) → IsJudgement (judged_lines plan (text_lines octets)) r → r ≢ Err fault.TooLarge
few_octets plan octets r (inl e) is = subst OfLines (sym e ∙ is) (all_lines plan (text_lines octets))
few_octets plan octets r (inr e) is = cc (sym e ∙ is)

-- the text of the state that is answered
pub text_answered : (plan : Plan) (octets : List ℕ) (r : Result NetState StateFault) → IsJudgement (judged_state plan octets) r → IfOk r (λ s. IsTextOfState plan s octets)
text_answered plan octets (Ok s) (inl e) = state_found plan octets s (sym e)
text_answered plan octets (Ok s) (inr e) = cc e
text_answered plan octets (Err f) h = tt

pub resumable_answered : (plan : Plan) (octets : List ℕ) (r : Result NetState StateFault) → IsJudgement (judged_state plan octets) r → IfOk r (λ s. IsResumable plan s)
resumable_answered plan octets (Ok s) (inl e) = resumable plan s (state_found plan octets s (sym e)).state
resumable_answered plan octets (Ok s) (inr e) = cc e
resumable_answered plan octets (Err f) h = tt

-- a state's text is answered by the state
pub state_answered : (plan : Plan) (octets : List ℕ) (r : Result NetState StateFault) → IsJudgement (judged_state plan octets) r → (s : NetState) → IsTextOfState plan s octets → length octets ≤ most_state_octets
    → IsJudgement (Ok s) r
state_answered plan octets r (inl e) s text few = inl (e ∙ state_again plan s octets text few)
state_answered plan octets r (inr e) s text few = inr e

pub quiet_answered : (plan : Plan) (octets : List ℕ) (r : Result NetState StateFault) → IsJudgement (judged_state plan octets) r → (t : ℕ) → IsQuiet plan t → octets ≡ text_of_state plan (state_at plan t)
    → length octets ≤ most_state_octets → IsJudgement (Ok (state_at plan t)) r
quiet_answered plan octets r h t quiet text few = state_answered plan octets r h (state_at plan t) (record { state = quiet_states plan t quiet; text = text }) few
