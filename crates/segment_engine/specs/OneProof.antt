-- Facts by cases and by recursion of which there is one proof at most, so that a struct may keep them (profile).
use Rattle.std.specs.Prelude.{ℕ, Option, Some, None, List, [], ◌∷◌}
use Rattle.std.specs.Coded.{×_prop, Unit-prop, le_prop}
use Rattle.std.proofs.Props.{props}
use Rattle.manchester_line.specs.declared.Sym.{Sym}
use Rattle.mac_transmit.specs.declared.phase.Phase.{Phase}
use Rattle.mac_transmit.specs.declared.phase.Phase.TheVariants.{Rest, Waiting, Sending, Backoff}
use Rattle.mac_transmit.specs.Calm.{AreCalm, AreOverBefore, IsCalmIn}
use Rattle.mac_transmit.specs.Emissions.{IsSendingFor}
use Rattle.mac_transmit.specs.Sender.{Sender, sender_step}

IsCalmIn-prop : (s : Sender) (h : Sym) → IsProp (IsCalmIn s h)
IsCalmIn-prop s h = hlevel props

pub AreCalm-prop : (s : Sender) (hs : List Sym) → IsProp (AreCalm s hs)
AreCalm-prop s [] = Unit-prop
AreCalm-prop s (h ∷ hs) = ×_prop (IsCalmIn-prop s h) (AreCalm-prop (sender_step s h).state hs)

pub AreOverBefore-prop : (n : ℕ) (change : Option ℕ) → IsProp (AreOverBefore n change)
AreOverBefore-prop n None = Unit-prop
AreOverBefore-prop n (Some m) = le_prop

pub IsSendingFor-prop : (s : Sender) (n : ℕ) (p : Phase) → IsProp (IsSendingFor s n p)
IsSendingFor-prop s n Rest = λ x y. absurd x
IsSendingFor-prop s n Waiting = λ x y. absurd x
IsSendingFor-prop s n (Sending start hit) = le_prop
IsSendingFor-prop s n (Backoff until) = λ x y. absurd x

-- what shows that what a part keeps has one proof at most
pub ruleset one_proof = (AreCalm-prop, AreOverBefore-prop, IsSendingFor-prop, props)
