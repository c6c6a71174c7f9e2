-- What is kept of a network tells whether it is quiet, and its state.
use Rattle.std.proofs.Common.{◌≡◌, ℕ, zero, suc, ◌<◌, ◌≤◌, true, false, All, List, [], ◌∷◌, replicate, length, get_or, refl, sym, subst, ap, ◌∙◌, arith}
use Rattle.std.specs.Prelude.{◌↔◌, IsTrue}
use Rattle.std.proofs.lemmas.List.{length-map, get_or-map}
use Rattle.manchester_line.specs.declared.Sym.TheVariants.{Idle}
use Rattle.layout.specs.declared.lines.PortLine.{PortLine}
use Rattle.mac_receive.specs.KeptReceiver.{KeptReception}
use Rattle.mac_receive.specs.Receiver.{Receiving, new_receiving, receiver_after}
use Rattle.mac_transmit.specs.Sender.{Sender, is_sending}
use Rattle.repeater_core.specs.Step.{RepeaterDevice}
use Rattle.repeater_core.specs.declared.modes.Mode.TheVariants as mode
use Rattle.network.specs.Net.{Net}
use Rattle.quiet_state.specs.LastSignals.{last_signal, reach_over, IsOverBy, IsQuietAsKept}
use Rattle.quiet_state.specs.Quiet.{IsStill}
use Rattle.quiet_state.proofs.QuietAsKept.{still_as_kept}
use Rattle.kept_devices.specs.KeptReceivers.{AllHear}
use Rattle.net_step.specs.KeptNet.{KeptNet, AreOver, Stands}

-- a new receiver that hears Idle stays new
pub still_new : (lose most n : ℕ) → receiver_after (new_receiving lose most) (replicate n Idle) false ≡ new_receiving lose most
still_new lose most zero = refl
still_new lose most (suc n) = still_new lose most n

-- a receiver that has nothing under way, as it is kept
abbrev pub IsStillKept : KeptReception → Type 0
IsStillKept k = (k.deaf ≡ false) × (k.halves ≡ 0)

still_there : (rs : List Receiving) (ks : List KeptReception) → AllHear rs ks → All IsStill rs → All IsStillKept ks
still_there [] [] h all i d l = absurd (omega arith)
still_there [] (k ∷ ks) h all i d l = absurd h
still_there (r ∷ rs) [] h all i d l = absurd h
still_there (r ∷ rs) (k ∷ ks) h all zero d l = (still_as_kept r k h.0).0 (all 0 r (omega arith))
still_there (r ∷ rs) (k ∷ ks) h all (suc i) d l = still_there rs ks h.1 (λ j e m. all (suc j) e (omega arith)) i d (omega arith)

still_here : (rs : List Receiving) (ks : List KeptReception) → AllHear rs ks → All IsStillKept ks → All IsStill rs
still_here [] [] h all i d l = absurd (omega arith)
still_here [] (k ∷ ks) h all i d l = absurd h
still_here (r ∷ rs) [] h all i d l = absurd h
still_here (r ∷ rs) (k ∷ ks) h all zero d l = (still_as_kept r k h.0).1 (all 0 k (omega arith))
still_here (r ∷ rs) (k ∷ ks) h all (suc i) d l = still_here rs ks h.1 (λ j e m. all (suc j) e (omega arith)) i d (omega arith)

-- what each tap emitted is over
reach_at : (n : Net) (k : KeptNet) → Stands n k → (q : ℕ) (d : PortLine) → q < length n.taps → get_or k.reaches q 0 ≡ reach_over (get_or n.taps q d) n.taps
reach_at n k st q d l = ap (λ xs. get_or xs q 0) st.reaches ∙ get_or-map (λ (x : PortLine). reach_over x n.taps) n.taps q d 0 l

many_reaches : (n : Net) (k : KeptNet) → Stands n k → length k.reaches ≡ length n.taps
many_reaches n k st = ap length st.reaches ∙ length-map n.taps (λ (x : PortLine). reach_over x n.taps)

-- what is kept tells this
pub record TellsQuiet (k : KeptNet) : Type 0 where
  pub settled : k.settled ≤ k.t
  pub senders : All (λ s. is_sending s.phase ≡ false) k.senders
  pub receivers : All IsStillKept k.receivers
  pub repeaters : All (λ r. r.mode ≡ mode.Idle) k.repeaters

quiet_told : (n : Net) (k : KeptNet) → Stands n k → TellsQuiet k → IsQuietAsKept n
quiet_told n k st q =
    let over = (st.settled n.t).0 (let now = st.time in let s = q.settled in omega (arith, now, s)) in
    record {
      senders = subst (All (λ (s : Sender). is_sending s.phase ≡ false)) st.senders q.senders;
      receivers = still_here n.receivers k.receivers st.receivers q.receivers;
      repeaters = subst (All (λ (r : RepeaterDevice). r.mode ≡ mode.Idle)) st.repeaters q.repeaters;
      cables = λ p d l. subst (λ m. IsOverBy n.t m (last_signal n.t n.emitted p)) (reach_at n k st p d l) (over.0 p (let many = many_reaches n k st in omega (arith, l, many)));
      delays = subst (λ (ds : List ℕ). AreOver n.t n.t ds n.decided) st.delays over.1;
    }

told_quiet : (n : Net) (k : KeptNet) → Stands n k → IsQuietAsKept n → TellsQuiet k
told_quiet n k st q =
    let d : PortLine = record { segment = 0; at = 0 } in
    let cables : AreOver n.t n.t k.reaches n.emitted =
    λ p l. let m : p < length n.taps = (let many = many_reaches n k st in omega (arith, l, many)) in subst (λ w. IsOverBy n.t w (last_signal n.t n.emitted p)) (sym (reach_at n k st p d m)) (q.cables p d m) in
    let delays : AreOver n.t n.t k.delays n.decided = subst (λ (ds : List ℕ). AreOver n.t n.t ds n.decided) (sym st.delays) q.delays in
    let settled : k.settled ≤ n.t = (st.settled n.t).1 (cables, delays) in
    record {
      settled = (let now = st.time in omega (arith, settled, now));
      senders = subst (All (λ (s : Sender). is_sending s.phase ≡ false)) (sym st.senders) q.senders;
      receivers = still_there n.receivers k.receivers st.receivers q.receivers;
      repeaters = subst (All (λ (r : RepeaterDevice). r.mode ≡ mode.Idle)) (sym st.repeaters) q.repeaters;
    }

pub quiet_as_told : (n : Net) (k : KeptNet) → Stands n k → TellsQuiet k ↔ IsQuietAsKept n
quiet_as_told n k st = (quiet_told n k st, told_quiet n k st)

pub not_told : (n : Net) (k : KeptNet) → Stands n k → (TellsQuiet k → ⊥) → (IsTrue false → IsQuietAsKept n) × (IsQuietAsKept n → IsTrue false)
not_told n k st h = ((λ e. absurd (let both : false ≡ true = e in cc)), (λ q. absurd (h (told_quiet n k st q))))
