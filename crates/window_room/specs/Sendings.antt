-- What happens at a station's sender in half bits one after another.
use Rattle.std.specs.Prelude.{ℕ, ◌+◌, ◌-◌, List, [], ◌∷◌}
use Rattle.mac_parameters.specs.Parameters.{interframe_gap, preamble_length}
use Rattle.manchester_line.specs.declared.Sym.{Sym}
use Rattle.collision_log.specs.declared.row.Body.{Body}
use Rattle.mac_receive.specs.Receiver.{with_event}
use Rattle.mac_transmit.specs.declared.phase.Phase.{Phase}
use Rattle.mac_transmit.specs.declared.phase.Phase.TheVariants.{Sending}
use Rattle.mac_transmit.specs.Sender.{Sender, sender_step}

-- What happens at a sender in half bits in which its station hears these symbols, in order (4.2.3).
abbrev pub sending_bodies : Sender → List Sym → List Body
sending_bodies s [] = []
sending_bodies s (h ∷ hs) = with_event (sender_step s h).event (sending_bodies (sender_step s h).state hs)

-- The half bits of a sending under way before half bit t; 0 where none is under way (4.2.3).
abbrev pub elapsed : ℕ → Phase → ℕ
elapsed t (Sending start hit) = t - start
elapsed t _ = 0

-- The half bits from the end of one sending to that of the next, at least: the interframe gap, the preamble and the
-- start frame delimiter (4.2.3.2.1, 3.2.1).
abbrev pub least_turn : ℕ
least_turn = interframe_gap + preamble_length
