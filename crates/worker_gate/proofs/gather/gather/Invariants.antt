use Rattle.std.proofs.Common.{◌+◌, ◌-◌, map}
use Rattle.worker_gate.specs.FinishedParts.{AreFinished, HaveFinished}
use Rattle.worker_gate.proofs.gather.gather.Given as goal

-- and where all have finished, those that are left have
abbrev pub invariant-loop-k : goal.invariant-loop-k
invariant-loop-k g l = record {
  made : AreFinished g.S.Part.plan g.S.Part.number g.S.Part.at l.plan l.first l.k l.parts.items;
  rest : HaveFinished g.S.Part.plan g.S.Part.number g.S.Part.at l.first l.count (map (λ own. own.part) l.fn.owns.items)
      → HaveFinished g.S.Part.plan g.S.Part.number g.S.Part.at (l.first + l.k) (l.count - l.k) (map (λ own. own.part) l.owns.items);
}
