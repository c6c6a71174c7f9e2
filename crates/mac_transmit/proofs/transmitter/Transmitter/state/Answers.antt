use Rattle.mac_transmit.specs.Sender.{Sender}
use Rattle.mac_transmit.proofs.ResumableStates.{kept_in_ranges}
use Rattle.mac_transmit.proofs.transmitter.Transmitter.state.Goals as goal

pub returns-clause-ranges : goal.returns-clause-ranges
returns-clause-ranges c = λ n d.
    let q = c.self.inside in
    let s : Sender = record { queue = q.queue; draws = q.draws; t = q.t; place = q.place; phase = q.phase; defer = q.defer; attempt = q.attempt; last_end = q.last_end; carrier_from = q.carrier_from } in
    kept_in_ranges c.args.self.now s q.drawn c.self.view_is c.self.invariant.0 c.self.invariant.1 n d
