-- What the fields of a part with its parcels have to do with what contracts see (profile).
use Rattle.std.specs.Prelude.{◌≡◌, ℕ, Bool, true, List}
use Rattle.load_plan.specs.declared.plan.Plan.{Plan}
use Rattle.net_parts.specs.declared.parcel.Parcel.{Parcel}
use Rattle.net_parts.specs.Windows.{windows}
use Rattle.net_parts.specs.Parts.{is_segment_part}
use Rattle.exchange_core.specs.Holdings.{Holding, IsSoundHolding}

-- Fields as a record: the part's plan, number and own window, the window, and the rest in the record's order
-- (profile).
abbrev pub held_as : Plan → ℕ → ℕ → ℕ → Bool → Bool → Bool → List Parcel → List Bool → Holding
held_as plan u at w lost refused reserved parcels away = record {
  plan = plan;
  number = u;
  window = w;
  at = at;
  lost = lost;
  refused = refused;
  reserved = reserved;
  parcels = parcels;
  away = away;
}

-- The kept number, number of windows and kind are the part's, and where there is room the part has it (profile).
pub record IsHolder (u n : ℕ) (segment room : Bool) (h : Holding) : Type 0 where
  pub number_is : u ≡ h.number
  pub windows_are : n ≡ windows h.plan
  pub segment_is : segment ≡ is_segment_part h.plan h.number
  pub room_is : h.reserved ≡ true → room ≡ true
  pub sound : IsSoundHolding h
