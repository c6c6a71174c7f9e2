use Rattle.std.proofs.Common.{◌≡◌, All, map, take}
use Rattle.part_dealing.specs.OtherEnds.{GoesToOwner}
use Rattle.part_dealing.specs.declared.dealing.Outlet.{Outlet}
use Rattle.part_dealing.proofs.dealing.outlets_of.Given as goal

-- the edges so far, each with its worker
abbrev pub invariant-loop-edge : goal.invariant-loop-edge
invariant-loop-edge l = record {
  so_far : map (λ (o : Outlet). o.edge) l.outlets.items ≡ take l.edge-index l.edges;
  owned : All (GoesToOwner l.plan l.owners l.part) l.outlets.items;
}
