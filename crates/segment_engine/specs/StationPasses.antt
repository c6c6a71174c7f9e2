-- What the stations of a segment do in a half bit (profile). Half bits and devices count from 0.
use Rattle.std.specs.Prelude.{ℕ, List, map}
use Rattle.manchester_line.specs.declared.Sym.{Sym}
use Rattle.collision_log.specs.declared.row.Row.{Row}
use Rattle.mac_transmit.specs.Sender.{Sender}
use Rattle.mac_receive.specs.Receiver.{Receiving, Reception}
use Rattle.network.specs.Net.{sendings, receptions}
use Rattle.net_parts.specs.SegmentParts.{rows_on}

-- What these receivers do in a half bit in which their stations hear these symbols, with these senders (4.2.9).
abbrev pub receptions_by : List Sym → List Sender → List Receiving → List Reception
receptions_by hs ss rs = receptions hs (map (λ o. o.emitted) (sendings hs ss)) rs

-- The rows of half bit t of the stations of these numbers that hear these symbols (profile).
abbrev pub rows_heard : ℕ → List ℕ → List Sym → List Sender → List Receiving → List Row
rows_heard t ks hs ss rs =
    rows_on t ks (map (λ o. o.event) (sendings hs ss)) (map (λ r. r.event) (receptions_by hs ss rs))
