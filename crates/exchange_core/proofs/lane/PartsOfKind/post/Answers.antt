use Rattle.std.proofs.Common.{ap, ◌∙◌, arith}
use Rattle.std.specs.Prelude.{if◌then◌else◌, Option}
use Rattle.exchange_core.specs.Holdings.{Holding, vacate_holding}
use Rattle.exchange_core.specs.Shares.{leaves, parcel_in}
use Rattle.exchange_core.proofs.CarriedParcels.{changed_if, part_in_place}
use Rattle.exchange_core.proofs.lane.PartsOfKind.post.Goals as goal

pub returns-then-part-len-clause-value : goal.returns-then-part-len-clause-value
returns-then-part-len-clause-value g c =
    c.post_at.ensures.value ∙ ap (leaves c.args.edge) (part_in_place _ _ _ c.self.view_is c.args.from.part c.index_mut.result.now (let n = c.if-part-len.true in let l = c.len.ensures in omega (arith, n, l)) c.index_mut.ensures.value)

pub returns-then-part-len-clause-left : goal.returns-then-part-len-clause-left
returns-then-part-len-clause-left g c =
    changed_if _ _ _ c.self.view_is c.args.from.part c.index_mut.result.now (let n = c.if-part-len.true in let l = c.len.ensures in omega (arith, n, l)) c.index_mut.ensures.value (leaves c.args.edge) (vacate_holding c.args.edge) c.post_at.new.place c.post_at.ensures.left

pub returns-then-part-len-clause-out : goal.returns-then-part-len-clause-out
returns-then-part-len-clause-out g c =
    c.post_at.ensures.out ∙ ap (λ (o : Option Holding). if leaves c.args.edge o then parcel_in c.args.edge o else c.args.parcel.now)
    (part_in_place _ _ _ c.self.view_is c.args.from.part c.index_mut.result.now (let n = c.if-part-len.true in let l = c.len.ensures in omega (arith, n, l)) c.index_mut.ensures.value)
