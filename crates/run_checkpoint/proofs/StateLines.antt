-- Each line of a state is one line of a text.
use Rattle.std.proofs.Common.{◌≡◌, ℕ, suc, ◌+◌, ◌==◌, ◌/◌, ◌%◌, Bool, true, false, if◌then◌else◌, List, [], ◌∷◌, ◌++◌, flat_map, map, length, refl, sym, arith, inl, inr, append_assoc, All}
use Rattle.std.specs.Prelude.{codes, decimal, nat_le, slice_get, unwrap_or}
use Rattle.std.proofs.lemmas.Bool.{cases_lt, lt-ltb, le-ltb, ne_eqb}
use Rattle.collision_log.specs.declared.row.Row.{Row}
use Rattle.layout.specs.Sound.{IsSound, IsSoundStation, IsSoundRepeater, device_names}
use Rattle.layout.specs.declared.lines.Layout.{Layout}
use Rattle.layout.specs.declared.lines.StationLine.{StationLine}
use Rattle.layout.specs.declared.lines.RepeaterLine.{RepeaterLine}
use Rattle.load_plan.specs.declared.plan.Plan.{Plan}
use Rattle.load_plan.proofs.PlansAreSound.{sound_of_plan}
use Rattle.mac_transmit.specs.declared.deference.Defer.{Defer}
use Rattle.mac_transmit.specs.declared.deference.Defer.TheVariants.{Watch, Busy, Gap}
use Rattle.mac_transmit.specs.declared.phase.Phase.{Phase}
use Rattle.mac_transmit.specs.declared.phase.Phase.TheVariants.{Rest, Waiting, Sending, Backoff}
use Rattle.mac_transmit.specs.declared.state.SenderState.{SenderState}
use Rattle.port_partition.specs.Guard.{Guard}
use Rattle.quiet_state.specs.declared.state.NetState.{NetState}
use Rattle.run_texts.specs.Texts.{line_of_row}
use Rattle.run_checkpoint.specs.Entries.{StateRow, is_reception, lines_of_entries, lines_of_entry}
use Rattle.run_checkpoint.specs.LineTexts.{count_words, defer_words, end_line, hex_digit, hex_digits, line_of_guard, line_of_octets, line_of_row_kept, line_of_sender, line_of_time_kept, phase_words, yes_or_no}
use Rattle.run_checkpoint.specs.Places.{NamedPort, all_ports, ports_named, ports_of_repeaters}
use Rattle.run_checkpoint.specs.States.{entries_of_state, lines_of_guards, lines_of_senders, lines_of_state, text_of_state}
use Rattle.run_checkpoint.specs.TextLines.{text_lines}
use Rattle.run_texts.proofs.HeldOctets.{device_lacks, holds, holds_append, name_lacks, neither, no_feed_octet, then_number, then_words}
use Rattle.run_checkpoint.proofs.LinesApart.{AreTextLines, IsOneTextLine, lines_again, text_lines_append}
use Rattle.run_texts.proofs.RowLines.{row_feed, row_text}

time_line : (t : ℕ) → IsOneTextLine (line_of_time_kept t)
time_line t = record { text = codes "state " ++ decimal t; none = then_number (codes "state ") t refl; is = refl }

yes_feed : (b : Bool) → holds 10 (yes_or_no b) ≡ false
yes_feed true = refl
yes_feed false = refl

phase_feed : (p : Phase) → holds 10 (phase_words p) ≡ false
phase_feed Rest = refl
phase_feed Waiting = refl
phase_feed (Sending start hit) = refl
phase_feed (Backoff until) = then_number (codes " phase backoff ") until refl

defer_feed : (d : Defer) → holds 10 (defer_words d) ≡ false
defer_feed Watch = refl
defer_feed (Busy was) = holds_append 10 (codes " defer busy ") (yes_or_no was) refl (yes_feed was)
defer_feed (Gap k was) =
    holds_append 10 (codes " defer gap " ++ decimal k ++ codes " ") (yes_or_no was) (holds_append 10 (codes " defer gap " ++ decimal k) (codes " ") (then_number (codes " defer gap ") k refl) refl) (yes_feed was)

sender_line : (name : List ℕ) (s : SenderState) → holds 10 name ≡ false → IsOneTextLine (line_of_sender name s)
unfolding line_of_sender
sender_line name s none =
    let one : List ℕ = codes "station " ++ name in
    let two : List ℕ = one ++ phase_words s.phase in
    let three : List ℕ = two ++ defer_words s.defer in
    let four : List ℕ = three ++ codes " attempt " ++ decimal s.attempt in
    let five : List ℕ = four ++ codes " place " ++ decimal s.place in
    record {
      text = five ++ codes " drawn " ++ decimal s.drawn;
      none =
          then_words five (codes " drawn ") s.drawn (then_words four (codes " place ") s.place (then_words three (codes " attempt ") s.attempt
          (holds_append 10 two (defer_words s.defer) (holds_append 10 one (phase_words s.phase) (holds_append 10 (codes "station ") name refl none) (phase_feed s.phase)) (defer_feed s.defer)) refl) refl) refl;
      is = refl;
    }

-- a text, and an answer after words
then_answer : (text words : List ℕ) (b : Bool) → holds 10 text ≡ false → holds 10 words ≡ false → holds 10 (text ++ words ++ yes_or_no b) ≡ false
then_answer text words b none word = holds_append 10 (text ++ words) (yes_or_no b) (holds_append 10 text words none word) (yes_feed b)

guard_line : (name : List ℕ) (port : ℕ) (g : Guard) (rest : ℕ) → holds 10 name ≡ false → IsOneTextLine (line_of_guard name port g rest)
unfolding line_of_guard count_words
guard_line name port g rest none =
    let one : List ℕ = codes "guard " ++ name in
    let two : List ℕ = one ++ codes " port " ++ decimal port in
    let three : List ℕ = two ++ codes " closed " ++ yes_or_no g.closed in
    let four : List ℕ = three ++ codes " mend " ++ yes_or_no g.mend in
    let five : List ℕ = four ++ codes " struck " ++ yes_or_no g.struck in
    let front : holds 10 five ≡ false =
    then_answer four (codes " struck ") g.struck (then_answer three (codes " mend ") g.mend (then_answer two (codes " closed ") g.closed
    (then_words one (codes " port ") port (holds_append 10 (codes "guard ") name refl none) refl) refl) refl) refl in
    let six : List ℕ = codes " in_row " ++ decimal g.in_row in
    let seven : List ℕ = six ++ codes " clash_run " ++ decimal g.clash_run in
    let eight : List ℕ = seven ++ codes " clean_run " ++ decimal g.clean_run in
    let counts : List ℕ = eight ++ codes " rest " ++ decimal rest in
    let back : holds 10 counts ≡ false =
    then_words eight (codes " rest ") rest (then_words seven (codes " clean_run ") g.clean_run (then_words six (codes " clash_run ") g.clash_run (then_number (codes " in_row ") g.in_row refl) refl) refl) refl in
    record { text = five ++ counts; none = holds_append 10 five counts front back; is = sym (append_assoc five counts (codes "\n")) }

row_line : (layout : Layout) (row : Row) → IsSound layout → IsOneTextLine (line_of_row_kept layout row)
unfolding line_of_row_kept line_of_row
row_line layout row sound =
    let repeater : Bool = nat_le (length layout.stations) row.device in
    let name : List ℕ = unwrap_or (slice_get (device_names layout) row.device) [] in
    let all : List ℕ = row_text row repeater name in
    let none : holds 10 all ≡ false = row_feed row repeater name (device_lacks 10 row.device layout no_feed_octet sound) in
    record { text = codes "row " ++ all; none = holds_append 10 (codes "row ") all refl none; is = sym (append_assoc (codes "row ") all (codes "\n")) }

digit_other : (n : ℕ) → (hex_digit n == 10) ≡ false
digit_other n =
    elim (cases_lt n 10) [
      | inl small ↦ rw (lt-ltb n 10 small) (ne_eqb (n + 48) 10 (λ e. absurd (omega (arith, e))))
      | inr big ↦ rw (le-ltb n 10 big) (ne_eqb (n + 87) 10 (λ e. absurd (omega (arith, e))))
    ]

digits_feed : (octets : List ℕ) → holds 10 (flat_map hex_digits octets) ≡ false
digits_feed [] = refl
digits_feed (o ∷ os) =
    neither (hex_digit (o / 16) == 10) _ (digit_other (o / 16)) (neither (hex_digit (o % 16) == 10) _ (digit_other (o % 16)) (digits_feed os))

octets_line : (octets : List ℕ) → IsOneTextLine (line_of_octets octets)
unfolding line_of_octets
octets_line octets = record { text = codes "octets " ++ flat_map hex_digits octets; none = holds_append 10 (codes "octets ") (flat_map hex_digits octets) refl (digits_feed octets); is = refl }

senders_lines : (f n : ℕ) (stations : List StationLine) (ss : List SenderState) → All (IsSoundStation f n) stations → AreTextLines (lines_of_senders stations ss)
senders_lines f n [] ss all = tt
senders_lines f n (st ∷ sts) [] all = tt
senders_lines f n (st ∷ sts) (s ∷ ss) all =
    (sender_line st.name s (name_lacks 10 st.name no_feed_octet (all 0 st (omega arith)).name.octets), senders_lines f n sts ss (λ k d l. all (suc k) d (omega (arith, l))))

-- ports whose repeater's name has no line feed
abbrev PortsOneLine : List NamedPort → Type 0
PortsOneLine [] = Unit {0}
PortsOneLine (p ∷ ps) = (holds 10 p.name ≡ false) × PortsOneLine ps

ports_append : (ps qs : List NamedPort) → PortsOneLine ps → PortsOneLine qs → PortsOneLine (ps ++ qs)
ports_append [] qs one two = two
ports_append (p ∷ ps) qs one two = (one.0, ports_append ps qs one.1 two)

ports_of_one : (name : List ℕ) (from : List ℕ) → holds 10 name ≡ false → PortsOneLine (map (λ p. record { name = name; port = p + 1 }) from)
ports_of_one name [] none = tt
ports_of_one name (k ∷ ks) none = (none, ports_of_one name ks none)

ports_of_all : (n : ℕ) (rs : List RepeaterLine) → All (IsSoundRepeater n) rs → PortsOneLine (ports_of_repeaters rs)
ports_of_all n [] all = tt
ports_of_all n (r ∷ rs) all =
    ports_append (ports_named r.name (length r.ports)) (ports_of_repeaters rs) (ports_of_one r.name _ (name_lacks 10 r.name no_feed_octet (all 0 r (omega arith)).name.octets)) (ports_of_all n rs (λ k d l. all (suc k) d (omega (arith, l))))

guards_lines : (ports : List NamedPort) (gs : List Guard) (rests : List ℕ) → PortsOneLine ports → AreTextLines (lines_of_guards ports gs rests)
guards_lines [] gs rests all = tt
guards_lines (p ∷ ps) [] rests all = tt
guards_lines (p ∷ ps) (g ∷ gs) [] all = tt
guards_lines (p ∷ ps) (g ∷ gs) (r ∷ rs) all = (guard_line p.name p.port g r all.0, guards_lines ps gs rs all.1)

octets_lines : (b : Bool) (octets : List ℕ) → AreTextLines (if b then line_of_octets octets ∷ [] else [])
octets_lines true octets = (octets_line octets, tt)
octets_lines false octets = tt

entries_lines : (layout : Layout) (es : List StateRow) → IsSound layout → AreTextLines (lines_of_entries layout es)
entries_lines layout [] sound = tt
entries_lines layout (e ∷ es) sound =
    text_lines_append (lines_of_entry layout e) (lines_of_entries layout es) (row_line layout e.row sound, octets_lines (is_reception e.row.body) e.octets) (entries_lines layout es sound)

-- the lines of a state are found in its text
pub lines_of_text : (plan : Plan) (s : NetState) → text_lines (text_of_state plan s) ≡ lines_of_state plan s
unfolding text_of_state
lines_of_text plan s =
    let sound : IsSound plan.layout = sound_of_plan plan in
    let end : AreTextLines (end_line ∷ []) = (record { text = codes "end"; none = refl; is = refl }, tt) in
    lines_again (lines_of_state plan s) (
      time_line s.t,
      text_lines_append (lines_of_senders plan.layout.stations s.senders) _ (senders_lines _ _ plan.layout.stations s.senders sound.stations)
          (text_lines_append (lines_of_guards (all_ports plan.layout) s.guards s.rests) _ (guards_lines (all_ports plan.layout) s.guards s.rests (ports_of_all _ plan.layout.repeaters sound.repeaters))
          (text_lines_append (lines_of_entries plan.layout (entries_of_state s)) (end_line ∷ []) (entries_lines plan.layout (entries_of_state s) sound) end)),
    )
