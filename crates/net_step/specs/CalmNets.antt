-- When nothing happens in a network for some half bits, so that what is kept of it leaps over them (profile).
use Rattle.std.specs.Prelude.{ℕ, ◌≡◌, ◌≤◌, ◌-◌, All, false, replicate, slice_index_or}
use Rattle.manchester_line.specs.declared.Sym.TheVariants.{Idle}
use Rattle.mac_parameters.specs.Parameters.{greatest_place}
use Rattle.mac_transmit.specs.Sender.{Sender, is_sending}
use Rattle.mac_transmit.specs.Calm.{AreCalm, calm_of}
use Rattle.repeater_core.specs.Calm.{IsCalm}
use Rattle.network.specs.Net.{Net, emitted_in, decided_in}
use Rattle.net_step.specs.KeptNet.{KeptNet}

-- A sender doesn't send, and nothing happens to it in m half bits in which its station hears Idle.
pub record WaitsFor (m : ℕ) (s : Sender) : Type 0 where
  pub not_sending : is_sending s.phase ≡ false
  pub number : m ≤ calm_of s false
  pub calm : AreCalm s (replicate m Idle)

-- Nothing happens in the next m half bits: no station sends or begins to, no reception is under way, nothing happens at
-- a repeater whose ports hear Idle, and all signals were over before any that a tap still can hear was sent.
pub record IsCalmNet (m : ℕ) (k : KeptNet) : Type 0 where
  pub settled : k.settled ≤ k.t - greatest_place
  pub senders : All (WaitsFor m) k.senders
  pub receivers : All (λ r. r.halves ≡ 0) k.receivers
  pub repeaters : All (λ r. IsCalm r m) k.repeaters

-- In the half bit no tap emits anything, and nothing is decided for any port.
pub record IsSilentHalfBit (n : Net) : Type 0 where
  pub emits : (q : ℕ) → slice_index_or (emitted_in n) q Idle ≡ Idle
  pub decides : (e : ℕ) → slice_index_or (decided_in n) e Idle ≡ Idle
