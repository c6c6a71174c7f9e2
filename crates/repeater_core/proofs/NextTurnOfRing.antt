-- A ring read from its next turn on is the ring read one row further on.
use Rattle.std.proofs.Common.{◌≡◌, ℕ, ◌+◌, ◌*◌, inl, inr, List, ◌++◌, length, sym, ap, ap₂, ◌∙◌, arith}
use Rattle.std.proofs.lemmas.Bool.{cases_eq}
use Rattle.std.proofs.lemmas.Bool.Decides.{nat_tests}
use Rattle.std.proofs.lemmas.List.{take_all, drop_all, append-nil}
use Rattle.manchester_line.specs.declared.Sym.{Sym}
use Rattle.repeater_core.specs.Delayed.{Delayed, rotated, turn_after}

pub rotated_turn : (turn delay ports : ℕ) (xs : List Sym) → length xs ≡ delay * ports → rotated (turn_after turn delay * ports) xs ≡ rotated (turn * ports + ports) xs
rotated_turn turn delay ports xs len = elim (cases_eq (turn + 1) delay) [
  | inl e ↦
      let wraps : turn_after turn delay ≡ 0 = grind (arith, nat_tests) in
      let none : turn_after turn delay * ports ≡ 0 = rw wraps (omega arith) in
      let all : turn * ports + ports ≡ length xs = omega (arith, ap (λ d. d * ports) e) in
      ap (λ h. rotated h xs) none ∙ append-nil xs ∙ sym (ap (λ h. rotated h xs) all ∙ ap₂ ◌++◌ (drop_all (length xs) xs (omega arith)) (take_all (length xs) xs (omega arith)))
  | inr ne ↦
      let goes : turn_after turn delay ≡ turn + 1 = grind (arith, nat_tests) in
      let same : turn_after turn delay * ports ≡ turn * ports + ports = rw goes (omega arith) in
      ap (λ h. rotated h xs) same
]

pub same_delayed : {n d : ℕ} {xs ys : List Sym} → xs ≡ ys → ◌≡◌ {A = Delayed} (record { ports = n; delay = d; rows = xs }) (record { ports = n; delay = d; rows = ys })
same_delayed e = cc
