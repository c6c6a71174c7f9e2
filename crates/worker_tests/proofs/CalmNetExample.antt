-- An example of a network that waits, before half bit 0: nothing happens in half bits 0 and 1, since its station's one
-- frame may be sent from half bit 2 on, and its repeater of two ports, with a delay of one half bit, is at rest.
use Rattle.std.proofs.Common.{◌≡◌, ℕ, zero, suc, ◌<◌, All, [], ◌∷◌, false, refl, arith}
use Rattle.std.proofs.lemmas.List.Elements.{All-nil, All-cons, All-head, All-from_recursion}
use Rattle.std.specs.Fn.{iterate}
use Rattle.manchester_line.specs.declared.Sym.TheVariants as sym
use Rattle.manchester_line.specs.Decoding.{new_decoding}
use Rattle.mac_receive.specs.KeptReceiver.{KeptReception}
use Rattle.mac_transmit.specs.Calm.{AreCalm, calm_of, change_in}
use Rattle.mac_transmit.specs.Sender.{Sender, new_sender, ready_at, sender_step, finished, event_from, promoted, deferring, is_free, sending_started, emitting}
use Rattle.repeater_core.specs.Calm.{IsCalm, IsUneventful, silent_step}
use Rattle.repeater_core.specs.Step.{RepeaterDevice, new_state, mode_next, chosen}
use Rattle.net_step.specs.CalmNets.{IsCalmNet, WaitsFor}
use Rattle.net_step.specs.KeptNet.{KeptNet}

-- a sender with one frame
abbrev one_frame : Sender
one_frame = new_sender (record { at = 2; frame = [] } ∷ []) (record { seed = 1; station = 0; made = 0 })

abbrev at_rest : RepeaterDevice
at_rest = new_state 2 1

-- what a receiver keeps before half bit t, which has heard so many half bits of a frame
abbrev heard : ℕ → ℕ → KeptReception
heard t halves = record { lose = 7; most = 1514; deaf = false; halves = halves; decoder = new_decoding; steps = t }

-- before half bit t, with all signals over from half bit `settled` on, and a reception of so many half bits; nothing
-- else that is kept matters here
abbrev net_before : ℕ → ℕ → ℕ → KeptNet
net_before t settled halves = record {
  t = t;
  senders = one_frame ∷ [];
  receivers = heard t halves ∷ [];
  repeaters = at_rest ∷ [];
  wires = [];
  places = [];
  rows = [];
  captures = [];
  reaches = [];
  delays = [];
  settled = settled;
}

calm_for_two : calm_of one_frame false ≡ 2
unfolding change_in ready_at
calm_for_two = refl

calm_in_two : AreCalm one_frame (sym.Idle ∷ sym.Idle ∷ [])
unfolding sender_step finished event_from promoted deferring is_free sending_started emitting ready_at
calm_in_two = (record { no_event = refl; same_phase = refl }, (record { no_event = refl; same_phase = refl }, tt))

waits_for_two : WaitsFor 2 one_frame
waits_for_two = record { not_sending = refl; number = omega (arith, calm_for_two); calm = calm_in_two }

both_idle : All (λ s. s ≡ sym.Idle) (sym.Idle ∷ sym.Idle ∷ [])
both_idle = All-from_recursion (λ s. s ≡ sym.Idle) (sym.Idle ∷ sym.Idle ∷ []) (refl, (refl, tt))

uneventful_twice : (k : ℕ) → k < 2 → IsUneventful (iterate silent_step k at_rest)
unfolding chosen mode_next silent_step
uneventful_twice zero h = record {
  emits = both_idle;
  decides = both_idle;
  no_clash = refl;
  none_closes = refl;
  none_opens = refl;
  none_halted = refl;
}
uneventful_twice (suc zero) h = record {
  emits = both_idle;
  decides = both_idle;
  no_clash = refl;
  none_closes = refl;
  none_opens = refl;
  none_halted = refl;
}
uneventful_twice (suc (suc k)) h = absurd (omega (arith, h))

rests_for_two : IsCalm at_rest 2
rests_for_two = record { at_most = omega arith; uneventful = uneventful_twice }

pub calm_net_for_two : IsCalmNet 2 (net_before 0 0 0)
calm_net_for_two = record {
  settled = omega arith;
  senders = All-cons (WaitsFor 2) one_frame [] waits_for_two (All-nil (WaitsFor 2));
  receivers = All-from_recursion (λ r. r.halves ≡ 0) (heard 0 0 ∷ []) (refl, tt);
  repeaters = All-cons (λ r. IsCalm r 2) at_rest [] rests_for_two (All-nil (λ r. IsCalm r 2));
}

-- in half bit 2 the station begins to send
pub not_for_three : IsCalmNet 3 (net_before 0 0 0) → ⊥
not_for_three calm =
    let waits = All-head (WaitsFor 3) one_frame [] calm.senders in absurd (omega (arith, calm_for_two, waits.number))

-- it isn't calm while the station hears a frame
pub not_while_it_hears : IsCalmNet 2 (net_before 0 0 1) → ⊥
not_while_it_hears calm =
    let none : 1 ≡ 0 = All-head (λ r. r.halves ≡ 0) (heard 0 1) [] calm.receivers in absurd (omega (arith, none))

-- nor where signals were over from half bit 1 on and 2,000 half bits haven't gone since
pub not_while_signals_go : IsCalmNet 2 (net_before 2000 1 0) → ⊥
not_while_signals_go calm = absurd (omega (arith, calm.settled))
