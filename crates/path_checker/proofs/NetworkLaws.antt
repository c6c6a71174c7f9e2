-- The laws of a plan's network on which waves and collisions stand.
use Rattle.mac_transmit.proofs.LawfulAttempts.{attempts_are_lawful}
use Rattle.network.specs.Signals.{CablesCarry, RepeatersRepeat, StationAttemptsAreLawful}
use Rattle.network.proofs.SegmentsCarry as cables
use Rattle.network.proofs.PortsRepeat as repeaters
use Rattle.network.proofs.StationAttempts.{attempts_lawful}

pub carries : CablesCarry
carries = cables.carries

pub repeats : RepeatersRepeat
repeats = repeaters.repeats

pub lawful : StationAttemptsAreLawful
lawful = attempts_lawful attempts_are_lawful
