-- A sender that isn't sending can go on later.
use Rattle.std.proofs.Common.{◌≡◌, ℕ, ◌≤◌, false, ltb, Option, length, sym, subst}
use Rattle.std.proofs.lemmas.Bool.{ltb-true}
use Rattle.frame_layout.specs.declared.queue.Ready.{Ready}
use Rattle.std.specs.Prelude.{List}
use Rattle.mac_parameters.specs.Parameters.{interframe_gap, most_draws}
use Rattle.mac_transmit.specs.declared.deference.Defer.{Defer}
use Rattle.mac_transmit.specs.declared.deference.Defer.TheVariants.{Watch, Busy, Gap}
use Rattle.mac_transmit.specs.declared.phase.Phase.{Phase}
use Rattle.mac_transmit.specs.declared.phase.Phase.TheVariants.{Rest, Waiting, Sending, Backoff}
use Rattle.mac_transmit.specs.Deference.{gap_of}
use Rattle.mac_transmit.specs.Resuming.{state_of, IsStateOf, IsPhaseIn, IsDeferIn}
use Rattle.mac_transmit.specs.Sender.{Sender, IsSender, PhaseIsSound, DeferIsSound, is_sending}

phase_in : (queue : List Ready) (place t made : ℕ) (d : Defer) (p : Phase) → is_sending p ≡ false → PhaseIsSound t made (ltb place (length queue)) d p → IsPhaseIn queue place p
phase_in queue place t made d Rest n h = tt
phase_in queue place t made d Waiting n h = ltb-true place (length queue) h
phase_in queue place t made d (Sending start hit) n h = absurd (cc)
phase_in queue place t made d (Backoff until) n h = (ltb-true place (length queue) h.0, h.1)

defer_in : (t : ℕ) (last : Option ℕ) (from : ℕ) (d : Defer) → gap_of d ≤ interframe_gap → DeferIsSound t last from d → IsDeferIn d
defer_in t last from Watch g h = tt
defer_in t last from (Busy was) g h = tt
defer_in t last from (Gap k was) g h = (h.2, g)

in_ranges : (s : Sender) → IsSender s → is_sending s.phase ≡ false → s.draws.made ≤ most_draws → IsStateOf s.queue (state_of s)
in_ranges s h n d = record {
  place = h.place;
  phase = phase_in s.queue s.place s.t s.draws.made s.defer s.phase n h.phase_sound;
  defer = defer_in s.t s.last_end s.carrier_from s.defer h.gap h.defer_sound;
  first = h.first;
  last = h.last;
  drawn = d;
}

pub kept_in_ranges : (now s : Sender) (drawn : ℕ) → s ≡ now → IsSender s → drawn ≡ s.draws.made → is_sending now.phase ≡ false → now.draws.made ≤ most_draws
    → IsStateOf now.queue (record { phase = s.phase; defer = s.defer; attempt = s.attempt; place = s.place; drawn = drawn })
kept_in_ranges now s drawn e h m n d =
    let resting : is_sending s.phase ≡ false = subst (λ (x : Sender). is_sending x.phase ≡ false) (sym e) n in
    let few : s.draws.made ≤ most_draws = subst (λ (x : Sender). x.draws.made ≤ most_draws) (sym e) d in
    subst (λ (x : Sender). IsStateOf x.queue (record { phase = s.phase; defer = s.defer; attempt = s.attempt; place = s.place; drawn = drawn })) e
    (subst (λ i. IsStateOf s.queue (record { phase = s.phase; defer = s.defer; attempt = s.attempt; place = s.place; drawn = i })) (sym m) (in_ranges s h resting few))
