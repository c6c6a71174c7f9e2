-- Receivers that are kept, and what they stand for (profile).
use Rattle.std.specs.Prelude.{List, [], ◌∷◌}
use Rattle.mac_receive.specs.Receiver.{Receiving}
use Rattle.mac_receive.specs.KeptReceiver.{KeptReception, Hears}

-- Each of the receivers that are kept stands for one of these, in their order.
abbrev pub AllHear : List Receiving → List KeptReception → Type 0
AllHear [] [] = Unit {0}
AllHear (r ∷ rs) (k ∷ ks) = Hears r k × AllHear rs ks
AllHear _ _ = ⊥
