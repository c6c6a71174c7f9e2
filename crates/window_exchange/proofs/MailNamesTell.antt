-- Parcels of one name are the same but for their symbols, and an honest parcel is true for the box's plan.
use Rattle.std.proofs.Common.{ap, subst}
use Rattle.std.specs.Prelude.{Option, IfSome}
use Rattle.load_plan.specs.declared.plan.Plan.{Plan}
use Rattle.net_parts.specs.Parcels.{IsTrueParcel}
use Rattle.window_exchange.specs.declared.mail.Name.{Name}
use Rattle.window_exchange.specs.MailNames.{NamesTell, HonestParcelsAreTrue}

pub same_parcel : NamesTell
same_parcel p q e = record {
  edge = ap (λ (n : Name). n.edge) e;
  window = ap (λ (n : Name). n.window) e;
  way = ap (λ (n : Name). n.to_repeater) e;
  spoiled = ap (λ (n : Name). n.spoiled) e;
}

pub true_parcels : (boxed : Option Plan) → HonestParcelsAreTrue boxed
true_parcels boxed plan p e h = subst (λ (o : Option Plan). IfSome o (λ the. IsTrueParcel the p)) e h
