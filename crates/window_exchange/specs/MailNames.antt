-- What the parcels in a box are called, and which parcels a box takes (profile). Edges and windows count from 0.
use Rattle.std.specs.Prelude.{◌≡◌, Option, Some, IfSome, false}
use Rattle.load_plan.specs.declared.plan.Plan.{Plan}
use Rattle.net_parts.specs.declared.parcel.Parcel.{Parcel}
use Rattle.net_parts.specs.Parcels.{IsTrueParcel, true_symbols}
use Rattle.window_exchange.specs.declared.mail.Name.{Name}

-- The name of a parcel: its edge, its window, its way and whether it is spoiled (profile).
abbrev pub parcel_name : Parcel → Name
parcel_name p = record { edge = p.edge; window = p.window; to_repeater = p.to_repeater; spoiled = p.spoiled }

-- A parcel is honest, where the box is of that plan, if it is of any: it is true for the plan or spoiled (profile).
abbrev pub IsHonest : Option Plan → Parcel → Type 0
IsHonest boxed p = IfSome boxed (λ plan. IsTrueParcel plan p)

-- Two parcels have one edge, window and way, and both are spoiled or both aren't (profile).
pub record IsSameParcel (p q : Parcel) : Type 0 where
  pub edge : p.edge ≡ q.edge
  pub window : p.window ≡ q.window
  pub way : p.to_repeater ≡ q.to_repeater
  pub spoiled : p.spoiled ≡ q.spoiled

-- Parcels of one name are the same but for their symbols (profile).
abbrev pub NamesTell : Type 0
NamesTell = (p q : Parcel) → parcel_name p ≡ parcel_name q → IsSameParcel p q

-- A parcel that a box of this plan takes, if it isn't spoiled, has the symbols that the plan has for its edge, way and
-- window (profile).
abbrev pub HonestParcelsAreTrue : Option Plan → Type 0
HonestParcelsAreTrue boxed = (plan : Plan) (p : Parcel) → boxed ≡ Some plan → IsHonest boxed p → p.spoiled ≡ false
    → p.symbols ≡ true_symbols plan p.to_repeater p.edge p.window
