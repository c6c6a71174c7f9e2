-- What octets are: the text of a state of a plan, or a text with this first fault (profile). Line by line, and the form
-- of a line before its values. Half bits count from 0, lines from 1.
use Rattle.std.specs.Prelude.{◌≡◌, ◌⊎◌, ℕ, ◌+◌, Bool, nat_lt, if◌then◌else◌, List, [], ◌∷◌, ◌++◌, length, Option, None, Some, Result, Ok, Err}
use Rattle.collision_log.specs.declared.row.Row.{Row}
use Rattle.frame_layout.specs.declared.queue.Ready.{Ready}
use Rattle.layout.specs.declared.lines.StationLine.{StationLine}
use Rattle.load_plan.specs.declared.plan.Plan.{Plan}
use Rattle.mac_transmit.specs.declared.state.SenderState.{SenderState}
use Rattle.network.specs.Outputs.{half_bits}
use Rattle.port_partition.specs.Guard.{Guard}
use Rattle.quiet_state.specs.declared.state.NetState.{NetState}
use Rattle.run_checkpoint.specs.Entries.{StateRow, captures_of_entries, is_length_of, is_reception, rows_of_entries}
use Rattle.run_checkpoint.specs.LineForms.{guard_form, is_end_line, octets_form, row_form, sender_form, time_form}
use Rattle.run_checkpoint.specs.Places.{NamedPort, all_ports}
use Rattle.run_checkpoint.specs.Ranges.{do_all_end, is_guard_in, is_row_after, is_sender_in}
use Rattle.run_checkpoint.specs.States.{IsStateOfPlan, text_of_state}
use Rattle.run_checkpoint.specs.TextLines.{text_lines}
use Rattle.run_checkpoint.specs.declared.fault.StateFault.{StateFault}
use Rattle.run_checkpoint.specs.declared.fault.StateFault.TheVariants as fault

-- the most octets of a state's text
abbrev pub most_state_octets : ℕ
most_state_octets = 268435456

-- the second judgement, where the first has no fault
abbrev pub then_judged : {A B : Type 0} → Result A StateFault → (A → Result B StateFault) → Result B StateFault
then_judged (Ok x) next = next x
then_judged (Err f) next = Err f

-- line n, by what it says where it is of the form that is due, and by the test that its values have to pass
abbrev pub judged_line : {A : Type 0} → ℕ → Option A → (A → Bool) → Result A StateFault
judged_line n None keeps = Err (fault.BadLine n)
judged_line n (Some x) keeps = if keeps x then Ok x else Err (fault.BadValue n)

-- the lines from line n on begin with one for the sender of each of these stations, in their order, after the senders
-- that were told so far: all senders, and the lines that are left
abbrev pub judged_senders : ℕ → List SenderState → List StationLine → List (List Ready) → List (List ℕ)
    → Result (List SenderState × List (List ℕ)) StateFault
judged_senders n told (station ∷ stations) (queue ∷ queues) [] = Err (fault.BadLine n)
judged_senders n told (station ∷ stations) (queue ∷ queues) (line ∷ lines) =
    then_judged (judged_line n (sender_form station.name line) (is_sender_in (length queue)))
    (λ s. judged_senders (n + 1) (told ++ s ∷ []) stations queues lines)
judged_senders n told _ _ lines = Ok (told, lines)

-- the lines from line n on begin with one for each of these ports, in their order, after the guards and rests that were
-- told so far: all guards and rests, and the lines that are left
abbrev pub judged_guards : ℕ → List Guard → List ℕ → List NamedPort → List (List ℕ)
    → Result (List Guard × List ℕ × List (List ℕ)) StateFault
judged_guards n guards rests [] lines = Ok (guards, rests, lines)
judged_guards n guards rests (port ∷ ports) [] = Err (fault.BadLine n)
judged_guards n guards rests (port ∷ ports) (line ∷ lines) =
    then_judged (judged_line n (guard_form port.name port.port line) (λ g. is_guard_in g.0 g.1))
    (λ g. judged_guards (n + 1) (guards ++ g.0 ∷ []) (rests ++ g.1 ∷ []) ports lines)

-- nothing follows the last line, which is line n
abbrev pub judged_rest : ℕ → List StateRow → List (List ℕ) → Result (List StateRow) StateFault
judged_rest n told [] = Ok told
judged_rest n told (line ∷ lines) = Err (fault.BadLine (n + 1))

-- line n is the last one: the rows end as many frames of each sender as its place says, and nothing follows
abbrev pub judged_end : ℕ → List SenderState → List StateRow → List (List ℕ) → Result (List StateRow) StateFault
judged_end n senders told lines =
    if do_all_end 0 senders (rows_of_entries told) then judged_rest n told lines else Err (fault.BadValue n)

-- the lines from line n on are those of rows before half bit t with the octets that were received, and the last line,
-- after the rows that were told so far; after a row of a frame that was received its octets are due
abbrev pub judged_entries : Plan → ℕ → List SenderState → ℕ → List StateRow → Option Row → List (List ℕ)
    → Result (List StateRow) StateFault
judged_entries plan t senders n told due [] = Err (fault.BadLine n)
judged_entries plan t senders n told None (line ∷ lines) =
    if is_end_line line then judged_end n senders told lines
    else then_judged
    (judged_line n (row_form plan.layout line) (is_row_after plan t senders (rows_of_entries told)))
    (λ row.
    if is_reception row.body then judged_entries plan t senders (n + 1) told (Some row) lines
    else judged_entries plan t senders (n + 1) (told ++ record { row = row; octets = [] } ∷ []) None lines)
judged_entries plan t senders n told (Some row) (line ∷ lines) =
    then_judged (judged_line n (octets_form line) (λ octets. is_length_of row.body (length octets)))
    (λ octets.
    judged_entries plan t senders (n + 1) (told ++ record { row = row; octets = octets } ∷ []) None lines)

-- the state before half bit t that was told so
abbrev pub state_told : Plan → ℕ → List SenderState → List Guard → List ℕ → List StateRow → NetState
state_told plan t senders guards rests es =
    record {
      t = t;
      senders = senders;
      guards = guards;
      rests = rests;
      rows = rows_of_entries es;
      captures = captures_of_entries (length plan.layout.stations) es;
    }

-- the number of the first line of a port
abbrev pub first_guard_line : Plan → ℕ
first_guard_line plan = length plan.layout.stations + 2

-- the number of the first line after those of senders and ports
abbrev pub first_row_line : Plan → ℕ
first_row_line plan = first_guard_line plan + length (all_ports plan.layout)

-- the lines of a state before half bit t, from line 2 on
abbrev pub judged_after_time : Plan → List (List ℕ) → ℕ → Result NetState StateFault
judged_after_time plan lines t =
    then_judged (judged_senders 2 [] plan.layout.stations plan.queues lines)
    (λ senders. then_judged (judged_guards (first_guard_line plan) [] [] (all_ports plan.layout) senders.1)
    (λ guards. then_judged (judged_entries plan t senders.0 (first_row_line plan) [] None guards.2)
    (λ es. Ok (state_told plan t senders.0 guards.0 guards.1 es))))

-- the lines of a text: its first is that of a half bit of the run
abbrev pub judged_lines : Plan → List (List ℕ) → Result NetState StateFault
judged_lines plan [] = Err (fault.BadLine 1)
judged_lines plan (line ∷ lines) =
    then_judged (judged_line 1 (time_form line) (λ t. nat_lt t (half_bits plan))) (judged_after_time plan lines)

-- the state of the plan whose text the octets are, or the first fault of the text
unfoldable pub judged_state : Plan → List ℕ → Result NetState StateFault
judged_state plan octets =
    if nat_lt most_state_octets (length octets) then Err fault.TooLarge else judged_lines plan (text_lines octets)

-- the octets are the text of this state of the plan
pub record IsTextOfState (plan : Plan) (s : NetState) (octets : List ℕ) : Type 0 where
  pub state : IsStateOfPlan plan s
  pub text : octets ≡ text_of_state plan s

-- the text that the octets are has this first fault
abbrev pub HasStateFault : Plan → List ℕ → StateFault → Type 0
HasStateFault plan octets f = judged_state plan octets ≡ Err f

-- the answer is this judgement, unless memory ran out
abbrev pub IsJudgement : {A : Type 0} → Result A StateFault → Result A StateFault → Type 0
IsJudgement judged answer = (answer ≡ judged) ⊎ (answer ≡ Err fault.OutOfMemory)
