-- A network in which nothing happens, many half bits later.
use Rattle.std.proofs.Common.{◌≡◌, ℕ, zero, suc, ◌+◌, ◌<◌, ◌≤◌, false, List, [], ◌∷◌, map, length, replicate, refl, sym, subst, ap, ◌∙◌, arith}
use Rattle.std.specs.Prelude.{◌↔◌}
use Rattle.std.specs.Fn.{iterate}
use Rattle.manchester_line.specs.declared.Sym.{Sym}
use Rattle.manchester_line.specs.declared.Sym.TheVariants.{Idle}
use Rattle.mac_parameters.specs.Parameters.{greatest_place}
use Rattle.mac_transmit.specs.Sender.{Sender, sender_step}
use Rattle.mac_transmit.specs.Calm.{after_all}
use Rattle.mac_receive.specs.Receiver.{Receiving, receiver_step, receiver_after}
use Rattle.repeater_core.specs.Calm.{silent_step}
use Rattle.repeater_core.specs.Step.{RepeaterDevice}
use Rattle.network.specs.Net.{Net, next, emitted_before, emitted_in, decided_in}
use Rattle.quiet_state.specs.Resumed.{later_net}
use Rattle.net_step.specs.CalmNets.{IsSilentHalfBit}
use Rattle.net_step.proofs.IdleHistory.{settled_idle}
use Rattle.net_step.proofs.SignalsSettle.{AllOver}
use Rattle.net_step.proofs.CalmHalfBit.{IsCalm, calm_next, calm_on}

-- the network y is x, m half bits later
pub record IsCalmLater (m : ℕ) (x y : Net) : Type 0 where
  pub taps : y.taps ≡ x.taps
  pub time : y.t ≡ x.t + m
  pub senders : y.senders ≡ map (λ s. after_all s (replicate m Idle)) x.senders
  pub receivers : y.receivers ≡ map (λ r. receiver_after r (replicate m Idle) false) x.receivers
  pub repeaters : y.repeaters ≡ map (iterate silent_step m) x.repeaters
  pub rows : y.rows ≡ x.rows
  pub captures : y.captures ≡ x.captures
  pub silent : (back q : ℕ) → back ≤ greatest_place → q < length x.taps → emitted_before y.emitted back q ≡ Idle
  pub over : (s : ℕ) (reaches delays : List ℕ) → ((t : ℕ) → (s ≤ t) ↔ AllOver t x.t reaches delays x.emitted x.decided) → (t : ℕ) → (s ≤ t) ↔ AllOver t y.t reaches delays y.emitted y.decided

same_map : {X : Type 0} (xs : List X) → xs ≡ map (λ x. x) xs
same_map [] = refl
same_map (x ∷ xs) = ap (λ ys. x ∷ ys) (same_map xs)

map_twice : {X Y Z : Type 0} (f : X → Y) (g : Y → Z) (xs : List X) → map g (map f xs) ≡ map (λ x. g (f x)) xs
map_twice f g [] = refl
map_twice f g (x ∷ xs) = ap (λ ys. g (f x) ∷ ys) (map_twice f g xs)

-- the first half bit first
later_first : (n : Net) (m : ℕ) → later_net (next n) m ≡ next (later_net n m)
later_first n zero = refl
later_first n (suc m) = ap next (later_first n m)

pub calm_later : (m : ℕ) (x : Net) → IsCalm m x → IsCalmLater m x (later_net x m)
calm_later zero x c = record {
  taps = refl;
  time = omega arith;
  senders = same_map x.senders;
  receivers = same_map x.receivers;
  repeaters = same_map x.repeaters;
  rows = refl;
  captures = refl;
  silent = c.silent;
  over = λ s reaches delays h. h;
}
calm_later (suc m) x c =
    let one = calm_next m x c in
    let rest = calm_later m (next x) (calm_on m x c) in
    subst (IsCalmLater (suc m) x) (later_first x m) (record {
      taps = rest.taps;
      time = (let now = rest.time in omega (arith, now));
      senders = rest.senders ∙ ap (map (λ (s : Sender). after_all s (replicate m Idle))) one.senders ∙ map_twice (λ (s : Sender). (sender_step s Idle).state) (λ (s : Sender). after_all s (replicate m Idle)) x.senders;
      receivers = rest.receivers ∙ ap (map (λ (r : Receiving). receiver_after r (replicate m Idle) false)) one.receivers ∙ map_twice (λ (r : Receiving). (receiver_step r Idle false).state) (λ (r : Receiving). receiver_after r (replicate m Idle) false) x.receivers;
      repeaters = rest.repeaters ∙ ap (map (iterate silent_step m)) one.repeaters ∙ map_twice silent_step (iterate silent_step m) x.repeaters;
      rows = rest.rows ∙ one.rows;
      captures = rest.captures ∙ one.captures;
      silent = rest.silent;
      over = λ s reaches delays h. rest.over s reaches delays (settled_idle s x.t reaches delays (emitted_in x) (decided_in x) x.emitted x.decided one.emitted one.decided h);
    })

-- each half bit of them is silent
pub silent_at : (i m : ℕ) (x : Net) → i < m → IsCalm m x → IsSilentHalfBit (later_net x i)
silent_at i zero x l c = absurd (omega (arith, l))
silent_at zero (suc m) x l c = let one = calm_next m x c in record { emits = one.emitted; decides = one.decided }
silent_at (suc i) (suc m) x l c = subst IsSilentHalfBit (later_first x i) (silent_at i m (next x) (omega (arith, l)) (calm_on m x c))
