-- The states of a plan, and their text (profile). Half bits count from 0.
use Rattle.std.specs.Prelude.{◌≡◌, ℕ, ◌<◌, ◌^◌, true, List, [], ◌∷◌, ◌++◌, length, ⊤}
use Rattle.std.specs.List.{AllByRecursion, flat_map}
use Rattle.collision_log.specs.declared.row.Row.{Row}
use Rattle.frame_layout.specs.declared.queue.Ready.{Ready}
use Rattle.layout.specs.declared.lines.StationLine.{StationLine}
use Rattle.load_plan.specs.declared.plan.Plan.{Plan}
use Rattle.log_meter.specs.LoggedRows.{IsLoggable}
use Rattle.mac_parameters.specs.Parameters.{jabber_rest}
use Rattle.mac_transmit.specs.Resuming.{IsStateOf}
use Rattle.mac_transmit.specs.declared.state.SenderState.{SenderState}
use Rattle.network.specs.Outputs.{half_bits}
use Rattle.port_partition.specs.Guard.{Guard, IsGuard}
use Rattle.quiet_state.specs.declared.state.NetState.{NetState}
use Rattle.run_checkpoint.specs.Entries.{StateRow, captures_of_entries, entries_of, is_length_of, lines_of_entries}
use Rattle.run_checkpoint.specs.LineTexts.{end_line, line_of_guard, line_of_sender, line_of_time_kept}
use Rattle.run_checkpoint.specs.Places.{NamedPort, all_ports}
use Rattle.run_checkpoint.specs.Ranges.{do_all_end, is_row_after}

-- one sender for each queue, in order, from whose state it can go on; its place is a number of 32 bits
abbrev pub AreSendersOf : List (List Ready) → List SenderState → Type 0
AreSendersOf [] [] = ⊤
AreSendersOf (queue ∷ queues) (s ∷ ss) = IsStateOf queue s × (s.place < 2 ^ 32) × AreSendersOf queues ss
AreSendersOf _ _ = ⊥

-- one guard and one number of half bits for each port, in order: a halted port rests for less than 192 more half bits
abbrev pub AreGuardsOf : List NamedPort → List Guard → List ℕ → Type 0
AreGuardsOf [] [] [] = ⊤
AreGuardsOf (port ∷ ports) (g ∷ gs) (rest ∷ rests) = IsGuard g × (rest < jabber_rest) × AreGuardsOf ports gs rests
AreGuardsOf _ _ _ = ⊥

-- an entry that may follow these rows in a state of this plan before half bit t with these senders: of one of the
-- plan's devices, in order, with numbers in range and, where a frame was received, as many octets as its row says
pub record IsEntryAfter (plan : Plan) (t : ℕ) (senders : List SenderState) (before : List Row) (e : StateRow)
    : Type 0 where
  pub row : IsLoggable plan.layout e.row
  pub after : is_row_after plan t senders before e.row ≡ true
  pub length : is_length_of e.row.body (length e.octets) ≡ true
  pub octets : AllByRecursion (λ octet. octet < 2 ^ 8) e.octets

-- each entry may follow these rows and those of the entries before it
abbrev pub AreEntriesAfter : Plan → ℕ → List SenderState → List Row → List StateRow → Type 0
AreEntriesAfter plan t senders before [] = ⊤
AreEntriesAfter plan t senders before (e ∷ es) =
    IsEntryAfter plan t senders before e × AreEntriesAfter plan t senders (before ++ e.row ∷ []) es

-- the rows of a state, with the octets that its stations received
abbrev pub entries_of_state : NetState → List StateRow
entries_of_state s = entries_of s.rows s.captures

-- a state that a network of this plan may go on from: before a half bit of the run, with a sender for each station and
-- a guard for each port; its rows in order and in range, with each station's frames 1, 2, 3 and so on up to its place
-- sent or given up; and what the stations received is what the rows tell
pub record IsStateOfPlan (plan : Plan) (s : NetState) : Type 0 where
  pub time : s.t < half_bits plan
  pub senders : AreSendersOf plan.queues s.senders
  pub guards : AreGuardsOf (all_ports plan.layout) s.guards s.rests
  pub entries : AreEntriesAfter plan s.t s.senders [] (entries_of_state s)
  pub ended : do_all_end 0 s.senders s.rows ≡ true
  pub captures : s.captures ≡ captures_of_entries (length plan.layout.stations) (entries_of_state s)

-- the lines of the senders of these stations
abbrev pub lines_of_senders : List StationLine → List SenderState → List (List ℕ)
lines_of_senders (station ∷ stations) (s ∷ ss) = line_of_sender station.name s ∷ lines_of_senders stations ss
lines_of_senders _ _ = []

-- the lines of the guards of these ports
abbrev pub lines_of_guards : List NamedPort → List Guard → List ℕ → List (List ℕ)
lines_of_guards (port ∷ ports) (g ∷ gs) (rest ∷ rests) =
    line_of_guard port.name port.port g rest ∷ lines_of_guards ports gs rests
lines_of_guards _ _ _ = []

-- the lines of a state: its half bit, its senders, its guards, its rows with the octets that were received, and the end
abbrev pub lines_of_state : Plan → NetState → List (List ℕ)
lines_of_state plan s =
    line_of_time_kept s.t ∷ (lines_of_senders plan.layout.stations s.senders
    ++ (lines_of_guards (all_ports plan.layout) s.guards s.rests
    ++ (lines_of_entries plan.layout (entries_of_state s) ++ end_line ∷ [])))

-- the text of a state
unfoldable pub text_of_state : Plan → NetState → List ℕ
text_of_state plan s = flat_map (λ line. line) (lines_of_state plan s)
