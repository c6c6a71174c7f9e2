-- What a worker makes of the parcels that come through its box (profile).
use Rattle.std.specs.Prelude.{◌≡◌, Bool, true, false, List, [], ◌∷◌, ◌++◌, All, Option, map}
use Rattle.load_plan.specs.declared.plan.Plan.{Plan}
use Rattle.net_parts.specs.declared.parcel.Parcel.{Parcel}
use Rattle.exchange_core.specs.Shares.{Held, received}
use Rattle.window_exchange.specs.MailNames.{IsHonest, parcel_name}
use Rattle.window_exchange.specs.Balance.{name_lists}
use Rattle.window_exchange.specs.declared.mail.Lists.{Lists}

-- There is a parcel (profile).
abbrev pub is_some_parcel : List Parcel → Bool
is_some_parcel [] = false
is_some_parcel (p ∷ ps) = true

-- A share that has got these parcels, the first of them first, each of them if it goes to one of its parts (profile).
abbrev pub received_all : List Parcel → Held → Held
received_all [] s = s
received_all (p ∷ ps) s = received_all ps (received p s)

-- These parcels are such as a box of this plan holds, if it is one, and a share has got them (profile).
pub record AreReceived (boxed : Option Plan) (came : Bool) (before after : Held) (parcels : List Parcel)
    : Type 0 where
  pub honest : All (IsHonest boxed) parcels
  pub some : came ≡ is_some_parcel parcels
  pub share : after ≡ received_all parcels before

-- A share has got parcels that came through a box (profile).
abbrev pub HasReceived : Option Plan → Bool → Held → Held → Type 0
HasReceived boxed came before after = (parcels : List Parcel) × AreReceived boxed came before after parcels

-- And a pass of the box has taken those, in this order (profile).
abbrev pub HasEmptied : Option Plan → Bool → Held → Held → Lists → Lists → Type 0
HasEmptied boxed came before after had has =
    (parcels : List Parcel) × AreReceived boxed came before after parcels
    × (has ≡ name_lists had.put (had.taken ++ map parcel_name parcels))
