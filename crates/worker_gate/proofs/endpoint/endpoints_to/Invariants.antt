use Rattle.std.proofs.Common.{◌≡◌, [], All, map, take}
use Rattle.std.specs.Arc.{arc_value}
use Rattle.crossbeam_queue.specs.Passes.{view}
use Rattle.window_exchange.specs.Balance.{name_lists}
use Rattle.worker_gate.proofs.endpoint.endpoints_to.Given as goal

-- an endpoint of each box so far, in their order
abbrev pub invariant-loop-fresh : goal.invariant-loop-fresh
invariant-loop-fresh g l = record {
  boxes : map (λ p. arc_value p.mailbox) l.ends.items ≡ map (λ p. arc_value p.mailbox) (take l.fresh-index l.fn.boxes.items);
  lists : All (λ p. view p.pass.pass ≡ name_lists [] []) l.ends.items;
  kept : map (λ p. arc_value p.mailbox) l.fresh-items ≡ map (λ p. arc_value p.mailbox) l.fn.boxes.items;
}
