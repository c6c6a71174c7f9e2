use Rattle.std.proofs.Common.{◌≡◌}
use Rattle.crossbeam_queue.specs.Passes.{view, IsPassOf}
use Rattle.window_exchange.proofs.mailbox.Mailbox.send.Given as goal

abbrev pub invariant-loop : goal.invariant-loop
invariant-loop g l = IsPassOf l.self.queue l.pass.pass × (view l.pass.pass ≡ view l.initial.pass.pass) × (l.parcel ≡ l.initial.parcel)
