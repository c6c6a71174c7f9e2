-- The other end of an edge, and the worker to whom a parcel goes that leaves over it (profile). Parts, edges and
-- workers count from 0.
use Rattle.std.specs.Prelude.{◌≡◌, ◌≢◌, ℕ, ◌<◌, true, List, slice_index_or}
use Rattle.load_plan.specs.declared.plan.Plan.{Plan}
use Rattle.net_parts.specs.Boards.{has_edge}
use Rattle.net_parts.specs.Parts.{edges_of_part, parts}
use Rattle.part_dealing.specs.declared.dealing.Outlet.{Outlet}

-- Part v is at the other end of edge e of part u: it is a part of the plan other than u, and it alone of all others has
-- this edge among its own (profile).
pub record IsOtherEnd (plan : Plan) (u e v : ℕ) : Type 0 where
  pub part : v < parts plan
  pub other : v ≢ u
  pub edge : has_edge (edges_of_part plan v) e ≡ true
  pub alone : (w : ℕ) → w ≢ u → has_edge (edges_of_part plan w) e ≡ true → w ≡ v

-- An outlet of part u goes to the worker that has the part at the other end of its edge, where these are the parts'
-- workers; worker 0 has each part that isn't among them (profile).
pub record GoesToOwner (plan : Plan) (owners : List ℕ) (u : ℕ) (o : Outlet) : Type 0 where
  pub end : ℕ
  pub there : IsOtherEnd plan u o.edge end
  pub worker : o.worker ≡ slice_index_or owners end 0
