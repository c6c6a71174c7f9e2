use denote.Param.Send.{sendable}
use Rattle.worker_gate.proofs.threads.fn.run_threads.scope.Goals as goal

pub start_all-requires-send-P : goal.start_all-requires-send-P
start_all-requires-send-P g c κs within = search sendable depth 30

pub start_all-requires-send-S : goal.start_all-requires-send-S
start_all-requires-send-S g c κs within = search sendable depth 30

pub start_all-requires-send-R : goal.start_all-requires-send-R
start_all-requires-send-R g c κs within = search sendable depth 30
