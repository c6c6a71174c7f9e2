use Rattle.std.proofs.Common.{◌≡◌, take}
use Rattle.frame_table.specs.Ports.{changes_of}
use Rattle.frame_table.proofs.ports.changes_of.Given as goal

abbrev pub invariant-loop-event : goal.invariant-loop-event
invariant-loop-event l = l.changes ≡ changes_of l.p (take l.event-index l.events)
