use Rattle.std.proofs.Common.{◌≡◌, map}
use Rattle.worker_gate.proofs.worker.work.Given as goal

-- what the kits have to do stays
abbrev pub invariant-loop : goal.invariant-loop
invariant-loop g l =
    (goal.iterator-loop g).can_next l.iterator' × (goal.iterator-loop g).is_finite l.iterator' ×
    (map (λ kit. kit.windows) l.kits ≡ map (λ kit. kit.windows) l.fn.kits) × (map (λ kit. kit.duties) l.kits ≡ map (λ kit. kit.duties) l.fn.kits)
