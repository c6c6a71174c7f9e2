use Rattle.std.proofs.Common.{◌≡◌, true, ap, sym, subst, ◌∙◌, arith}
use Rattle.std.specs.Prelude.{if◌then◌else◌, IfSome, Option}
use Rattle.net_parts.specs.Parcels.{IsTrueParcel}
use Rattle.exchange_core.specs.Holdings.{Holding, vacate_holding}
use Rattle.exchange_core.specs.Shares.{part_on, leaves, parcel_in, received_on}
use Rattle.exchange_core.proofs.CarriedParcels.{changed_if, part_in_place}
use Rattle.exchange_core.proofs.lane.PartsOfKind.bring.Goals as goal

pub bring_at-requires-after_bounds : goal.bring_at-requires-after_bounds
bring_at-requires-after_bounds g c κs within =
    subst (λ (o : Option Holding). leaves c.args.edge o ≡ true → IfSome (part_on c.args.at.part c.args.to.now) (λ (h : Holding). IsTrueParcel h.plan (parcel_in c.args.edge o)))
    (sym (part_in_place _ _ _ c.self.view_is c.args.from.part c.index_mut.result.now (let n = c.if-part-len.true in let l = c.len.ensures in omega (arith, n, l)) c.index_mut.ensures.value)) c.requires

pub returns-then-part-len-clause-value : goal.returns-then-part-len-clause-value
returns-then-part-len-clause-value g c =
    c.bring_at.ensures.value ∙ ap (leaves c.args.edge) (part_in_place _ _ _ c.self.view_is c.args.from.part c.index_mut.result.now (let n = c.if-part-len.true in let l = c.len.ensures in omega (arith, n, l)) c.index_mut.ensures.value)

pub returns-then-part-len-clause-left : goal.returns-then-part-len-clause-left
returns-then-part-len-clause-left g c =
    changed_if _ _ _ c.self.view_is c.args.from.part c.index_mut.result.now (let n = c.if-part-len.true in let l = c.len.ensures in omega (arith, n, l)) c.index_mut.ensures.value (leaves c.args.edge) (vacate_holding c.args.edge) c.bring_at.new.place c.bring_at.ensures.left

pub returns-then-part-len-clause-come : goal.returns-then-part-len-clause-come
returns-then-part-len-clause-come g c =
    c.bring_at.ensures.come ∙ ap (λ (o : Option Holding). if leaves c.args.edge o then received_on (parcel_in c.args.edge o) c.args.at.part c.args.to.now else c.args.to.now)
    (part_in_place _ _ _ c.self.view_is c.args.from.part c.index_mut.result.now (let n = c.if-part-len.true in let l = c.len.ensures in omega (arith, n, l)) c.index_mut.ensures.value)
