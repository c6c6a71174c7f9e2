use Rattle.std.proofs.Common.{true, false, refl, ap, ◌∙◌}
use Rattle.exchange_core.specs.Shares.{has_place_for}
use Rattle.exchange_core.proofs.TakenParcels.{edge_kept, place_at}
use Rattle.exchange_core.proofs.share.Share.awaits.Goals as goal

pub returns-then-parcel : goal.returns-then-parcel
returns-then-parcel g c =
    c.has.ensures ∙ place_at _ _ _ _ _ _ _ (edge_kept c.self.invariant refl c.spot-repeater.ensures.part) false c.args.parcel.now refl c.if-parcel.true ∙ ap (has_place_for c.args.parcel.now) c.self.view_is

pub returns : goal.returns
returns g c =
    c.has-2.ensures ∙ place_at _ _ _ _ _ _ _ (edge_kept c.self.invariant c.spot-segment.ensures.part refl) true c.args.parcel.now refl c.if-parcel.false ∙ ap (has_place_for c.args.parcel.now) c.self.view_is
