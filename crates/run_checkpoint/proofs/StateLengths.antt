-- How many senders, guards and rests a state of a plan has.
use Rattle.std.proofs.Common.{◌≡◌, ℕ, suc, List, [], ◌∷◌, length, refl, ap}
use Rattle.frame_layout.specs.declared.queue.Ready.{Ready}
use Rattle.mac_transmit.specs.declared.state.SenderState.{SenderState}
use Rattle.port_partition.specs.Guard.{Guard}
use Rattle.run_checkpoint.specs.Places.{NamedPort}
use Rattle.run_checkpoint.specs.States.{AreGuardsOf, AreSendersOf}

pub as_many_senders : (queues : List (List Ready)) (ss : List SenderState) → AreSendersOf queues ss → length queues ≡ length ss
as_many_senders [] [] h = refl
as_many_senders (q ∷ qs) (s ∷ ss) h = ap suc (as_many_senders qs ss h.2)
as_many_senders [] (s ∷ ss) h = absurd h
as_many_senders (q ∷ qs) [] h = absurd h

pub as_many_guards : (ports : List NamedPort) (gs : List Guard) (rests : List ℕ) → AreGuardsOf ports gs rests → (length ports ≡ length gs) × (length ports ≡ length rests)
as_many_guards [] [] [] h = (refl, refl)
as_many_guards (p ∷ ps) (g ∷ gs) (r ∷ rs) h = let m = as_many_guards ps gs rs h.2 in (ap suc m.0, ap suc m.1)
as_many_guards [] [] (r ∷ rs) h = absurd h
as_many_guards [] (g ∷ gs) [] h = absurd h
as_many_guards [] (g ∷ gs) (r ∷ rs) h = absurd h
as_many_guards (p ∷ ps) [] [] h = absurd h
as_many_guards (p ∷ ps) [] (r ∷ rs) h = absurd h
as_many_guards (p ∷ ps) (g ∷ gs) [] h = absurd h
