-- Ports as the code names them (profile).
use Rattle.run_checkpoint.specs.Places.{NamedPort}
use Rattle.run_checkpoint.specs.declared.places.PortName.{PortName}

-- the port
abbrev pub named_port : PortName → NamedPort
named_port p = record { name = p.name.now; port = p.port }
