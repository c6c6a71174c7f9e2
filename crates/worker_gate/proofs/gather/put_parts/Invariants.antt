use Rattle.std.proofs.Common.{◌≡◌, ◌++◌, All, map}
use Rattle.std.specs.Prelude.{Some, reverse, vec_len}
use Rattle.worker_gate.proofs.gather.put_parts.Given as goal

abbrev pub invariant-loop-part : goal.invariant-loop-part
invariant-loop-part g l = record {
  planned : All (λ s. Some (g.S.Part.plan s) ≡ g.P.Planned.plan) l.parts.items;
  kept : map (λ o. o.part) l.owns.items ++ reverse l.parts.items
      ≡ map (λ o. o.part) l.initial.owns.items ++ reverse l.initial.parts.items;
}

abbrev pub decreases-loop-part : goal.decreases-loop-part
decreases-loop-part g l = vec_len l.parts
