-- What the line of a sender says (profile).
use Rattle.mac_transmit.specs.declared.deference.Defer.{Defer}
use Rattle.mac_transmit.specs.declared.deference.Defer.TheVariants.{Watch, Busy, Gap}
use Rattle.mac_transmit.specs.declared.state.SenderState.{SenderState}
use Rattle.run_checkpoint.specs.declared.sender_line.DeferLine.{DeferLine}
use Rattle.run_checkpoint.specs.declared.sender_line.DeferLine.TheVariants as told
use Rattle.run_checkpoint.specs.declared.sender_line.SenderLine.{SenderLine}

-- how the sender waits
abbrev pub defer_of_line : DeferLine → Defer
defer_of_line told.Watch = Watch
defer_of_line (told.Busy was) = Busy was
defer_of_line (told.Gap k was) = Gap k was

-- the sender's state
abbrev pub sender_of_line : SenderLine → SenderState
sender_of_line l = record {
  phase = l.phase;
  defer = defer_of_line l.defer;
  attempt = l.attempt;
  place = l.place;
  drawn = l.drawn;
}
