use Rattle.std.proofs.Common.{◌≡◌, true, All, [], ◌∷◌, ◌++◌, get_or, sym, ◌∙◌, arith, rules, subst}
use Rattle.std.proofs.lemmas.Grind.{common_steps}
use Rattle.std.proofs.lemmas.List.Elements.{All-push}
use Rattle.net_parts.specs.Boards.{has_edge}
use Rattle.exchange_core.proofs.EdgesOfParts.{has_each}
use Rattle.part_dealing.specs.OtherEnds.{GoesToOwner}
use Rattle.part_dealing.specs.declared.dealing.Outlet.{Outlet}
use Rattle.part_dealing.proofs.dealing.outlets_of.Goals as goal

pub other_end-end-requires : goal.other_end-end-requires
other_end-end-requires c =
    let es = c.as_slice-edges.result.now in
    subst (λ xs. has_edge xs (get_or es c.loop-edge.edge-index 0) ≡ true) (c.as_slice-edges.ensures ∙ c.in_ok-list.ensures) (has_each es c.loop-edge.edge-index 0 c.loop-edge-test.true)

pub loop-edge-preserved : goal.loop-edge-preserved
loop-edge-preserved c =
    let o : Outlet = record { edge = get_or c.as_slice-edges.result.now c.loop-edge.edge-index 0; worker = c.owner_of-worker.result } in
    let more : c.push.new.self.items ≡ c.loop-edge.outlets.items ++ o ∷ [] = search rules in
    let goes = GoesToOwner c.args.plan.now c.args.owners.now c.args.part in
    record {
      so_far = grind (arith, common_steps);
      owned = subst (All goes) (sym more) (All-push goes c.loop-edge.outlets.items o c.loop-edge.invariant.owned
          (record { end = c.other_end-end.result; there = c.other_end-end.ensures; worker = c.owner_of-worker.ensures }));
    }
