use Rattle.std.proofs.Common.{◌≡◌, [], All, length, map}
use Rattle.std.specs.Arc.{arc_value}
use Rattle.crossbeam_queue.specs.Passes.{view}
use Rattle.window_exchange.specs.Balance.{name_lists}
use Rattle.worker_gate.proofs.endpoint.make_endpoints.Given as goal

abbrev pub invariant-loop-box : goal.invariant-loop-box
invariant-loop-box g l = length l.boxes.items ≡ l._box

-- each row so far has an endpoint of each box, in their order
abbrev pub invariant-loop-row : goal.invariant-loop-row
invariant-loop-row g l = record {
  long : length l.rows.items ≡ l._row;
  some : length l.boxes.items ≡ l.workers;
  boxes : All (λ row. map (λ p. arc_value p.mailbox) row.items ≡ map (λ p. arc_value p.mailbox) l.boxes.items) l.rows.items;
  lists : All (λ row. All (λ p. view p.pass.pass ≡ name_lists [] []) row.items) l.rows.items;
}
