-- Several half bits of a segment in which each of its stations hears a signal all the time, or Idle all the time, and
-- goes on with what it does (profile). Half bits count from 0.
use Rattle.std.specs.Prelude.{ℕ, ◌+◌, ◌≤◌, Bool, List, ◌++◌, take, drop, length}
use Rattle.manchester_line.specs.declared.Sym.{Sym}
use Rattle.mac_transmit.specs.Sender.{Sender}
use Rattle.mac_transmit.specs.Calm.{AllHeardAs, AreCalm, AreOverBefore, change_in}
use Rattle.mac_transmit.specs.Emissions.{emission_by}
use Rattle.net_parts.specs.declared.parcel.Parcel.{Parcel}
use Rattle.net_parts.specs.Machines.{span}

-- What a sender emits in the n half bits from now on, if nothing happens to it until then (4.2.8).
abbrev pub sent_ahead : Sender → ℕ → List Sym
sent_ahead s n = span (λ j. emission_by s j s.phase) 0 n

-- Nothing happens at a station's sender in n half bits in which the station hears a signal all the time, or Idle all
-- the time, as `carrier` says: it goes on with what it does (profile).
pub record IsCalmAs (n : ℕ) (carrier : Bool) (s : Sender) : Type 0 where
  pub number : AreOverBefore n (change_in s carrier)
  pub calm : (hs : List Sym) → AllHeardAs carrier hs → length hs ≤ n → AreCalm s hs

-- A parcel with these symbols for the half bits of its window from k on (profile).
abbrev pub with_piece_at : ℕ → List Sym → Parcel → Parcel
with_piece_at k piece p = record p { symbols = take k p.symbols ++ (piece ++ drop (k + length piece) p.symbols) }
