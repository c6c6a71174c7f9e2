use Rattle.std.proofs.Common.{◌≡◌, ◌≢◌, All, take}
use Rattle.worker_gate.proofs.gather.pick.Given as goal

-- none so far has this number
abbrev pub invariant-loop-i : goal.invariant-loop-i
invariant-loop-i g l = All (λ own. g.S.Part.number own.part ≢ l.number) (take l.i l.owns.items) × (l.owns.items ≡ l.initial.owns.items)
