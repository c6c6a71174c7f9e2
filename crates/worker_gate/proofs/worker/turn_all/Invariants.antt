use Rattle.std.proofs.Common.{◌≡◌, map}
use Rattle.worker_gate.proofs.worker.turn_all.Given as goal

-- what the kits have to do stays
abbrev pub invariant-loop-kit : goal.invariant-loop-kit
invariant-loop-kit g l =
    (map (λ kit. kit.windows) l.kits ≡ map (λ kit. kit.windows) l.initial.kits) × (map (λ kit. kit.duties) l.kits ≡ map (λ kit. kit.duties) l.initial.kits)
