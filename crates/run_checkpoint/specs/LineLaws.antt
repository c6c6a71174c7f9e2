-- Laws of the lines of a state: what is written is read back, and a line whose values keep the rules is the one line of
-- what it says (profile).
use Rattle.std.specs.Prelude.{◌≡◌, ℕ, ◌<◌, ◌≤◌, ◌^◌, true, List, length, Some}
use Rattle.std.specs.List.{AllByRecursion}
use Rattle.frame_layout.specs.declared.queue.Ready.{Ready}
use Rattle.mac_parameters.specs.Parameters.{jabber_rest, most_half_bits}
use Rattle.mac_transmit.specs.Resuming.{IsStateOf}
use Rattle.mac_transmit.specs.declared.state.SenderState.{SenderState}
use Rattle.port_partition.specs.Guard.{Guard, IsGuard}
use Rattle.run_checkpoint.specs.LineForms.{guard_form, octets_form, sender_form, time_form}
use Rattle.run_checkpoint.specs.LineTexts.{line_of_guard, line_of_octets, line_of_sender, line_of_time_kept}
use Rattle.run_checkpoint.specs.Ranges.{is_guard_in, is_sender_in}

-- the line of a half bit is read back
abbrev pub TimesAreReadBack : Type 0
TimesAreReadBack = (t : ℕ) → t ≤ most_half_bits → time_form (line_of_time_kept t) ≡ Some t

-- a line that says a half bit of the longest run is the line of that half bit
abbrev pub TimesHaveOneLine : Type 0
TimesHaveOneLine = (line : List ℕ) (t : ℕ) → time_form line ≡ Some t → t ≤ most_half_bits → line ≡ line_of_time_kept t

-- the line of a sender that can go on is read back, with values that keep the rules
abbrev pub SendersAreReadBack : Type 0
SendersAreReadBack =
    (name : List ℕ) (queue : List Ready) (s : SenderState) → IsStateOf queue s → s.place < 2 ^ 32
    → (sender_form name (line_of_sender name s) ≡ Some s) × (is_sender_in (length queue) s ≡ true)

-- a line whose values keep the rules is that of a sender that can go on
abbrev pub SendersHaveOneLine : Type 0
SendersHaveOneLine =
    (name line : List ℕ) (queue : List Ready) (s : SenderState) → sender_form name line ≡ Some s
    → is_sender_in (length queue) s ≡ true → IsStateOf queue s × (line ≡ line_of_sender name s)

-- the line of a port is read back, with values that keep the rules
abbrev pub GuardsAreReadBack : Type 0
GuardsAreReadBack =
    (name : List ℕ) (port : ℕ) (g : Guard) (rest : ℕ) → IsGuard g → rest < jabber_rest
    → (guard_form name port (line_of_guard name port g rest) ≡ Some (g, rest)) × (is_guard_in g rest ≡ true)

-- a line whose values keep the rules is that of a port
abbrev pub GuardsHaveOneLine : Type 0
GuardsHaveOneLine =
    (name : List ℕ) (port : ℕ) (line : List ℕ) (g : Guard) (rest : ℕ) → guard_form name port line ≡ Some (g, rest)
    → is_guard_in g rest ≡ true → IsGuard g × (rest < jabber_rest) × (line ≡ line_of_guard name port g rest)

-- the line of octets is read back
abbrev pub OctetsAreReadBack : Type 0
OctetsAreReadBack =
    (octets : List ℕ) → AllByRecursion (λ octet. octet < 2 ^ 8) octets
    → octets_form (line_of_octets octets) ≡ Some octets

-- a line that says octets is their line
abbrev pub OctetsHaveOneLine : Type 0
OctetsHaveOneLine =
    (line octets : List ℕ) → octets_form line ≡ Some octets
    → AllByRecursion (λ octet. octet < 2 ^ 8) octets × (line ≡ line_of_octets octets)
