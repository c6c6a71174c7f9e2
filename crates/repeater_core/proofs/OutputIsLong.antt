-- The output to a port is as long as the mode tells, from one mode to the next.
use Rattle.std.proofs.Common.{◌≡◌, ◌≢◌, ℕ, ◌+◌, ◌<◌, ◌≤◌, min, false, ltb, eqb, refl, inl, inr, arith}
use Rattle.std.proofs.lemmas.Bool.{cond_both}
use Rattle.std.proofs.lemmas.Bool.Decides.{nat_tests, eqb_tells}
use Rattle.mac_parameters.specs.Parameters.{fragment_extension}
use Rattle.manchester_line.specs.declared.Sym.{Sym}
use Rattle.manchester_line.specs.declared.Sym.TheVariants as sy
use Rattle.repeater_core.specs.declared.modes.Mode.TheVariants.{Idle, Repeat, Extend, RxClash, TxClash, OnePort}
use Rattle.repeater_core.specs.declared.modes.Activity.TheVariants.{Nobody, One, Several}
use Rattle.repeater_core.specs.Modes.{next_count, begun, repeated, mode_after}
use Rattle.repeater_core.specs.declared.modes.Mode.{Mode}
use Rattle.repeater_core.specs.declared.modes.Activity.{Activity}
use Rattle.repeater_core.specs.Laws.{SendsNothing, AllBut, IsLongFor}

-- where the output to q stops it was long enough, and the next is as long as the next mode tells
abbrev pub GoesOnLong : Mode → ℕ → ℕ → Type 0
GoesOnLong mode q run = (SendsNothing mode q → (0 < run → fragment_extension ≤ run) × IsLongFor mode q 0) × (¬ SendsNothing mode q → IsLongFor mode q (run + 1))

next_long : (i run : ℕ) → min (i + 1) fragment_extension ≤ run → min (next_count i + 1) fragment_extension ≤ run + 1
next_long i run h = grind (arith, nat_tests)

past_all : (i run : ℕ) → ltb (next_count i) fragment_extension ≡ false → min (i + 1) fragment_extension ≤ run → fragment_extension ≤ run
past_all i run e h = grind (arith, nat_tests)

-- to a mode that sends to all but n
to_others : (n least q run : ℕ) → (q ≡ n → run ≡ 0) → (q ≢ n → least ≤ run + 1) → (q ≡ n → (0 < run → fragment_extension ≤ run) × AllBut n least q 0) × (¬ (q ≡ n) → AllBut n least q (run + 1))
to_others n least q run none some = (λ e. (λ l. let z : run ≡ 0 = none e in omega arith, (λ _. refl, λ d. absurd (d e))), λ d. (λ e. absurd (d e), λ _. some d))

to_clash : (i q run : ℕ) → min (i + 1) fragment_extension ≤ run + 1 → GoesOnLong (TxClash i) q run
to_clash i q run h = (λ e. absurd e, λ _. h)

to_idle : (q run : ℕ) → (0 < run → fragment_extension ≤ run) → GoesOnLong Idle q run
to_idle q run h = (λ _. (h, refl), λ d. absurd (d tt))

long_or_none : (n least q run : ℕ) → AllBut n least q run → (least ≤ run → fragment_extension ≤ run) → 0 < run → fragment_extension ≤ run
long_or_none n least q run h k l = elim (eqb_tells q n) [
  | inl same ↦ (let z : run ≡ 0 = h.0 same.1 in absurd (omega arith))
  | inr other ↦ k (h.1 other.1)
]

begun_long : (n q run : ℕ) (s : Sym) → run ≡ 0 → GoesOnLong (begun n s) q run
begun_long n q run sy.Idle z = to_others n (min (0 + 1) fragment_extension) q run (λ _. z) (λ _. omega arith)
begun_long n q run sy.Hi z = to_others n (min (0 + 1) fragment_extension) q run (λ _. z) (λ _. omega arith)
begun_long n q run sy.Lo z = to_others n (min (0 + 1) fragment_extension) q run (λ _. z) (λ _. omega arith)
begun_long n q run sy.Clash z = to_others n (min (0 + 1) fragment_extension) q run (λ _. z) (λ _. omega arith)

repeated_long : (n i q run : ℕ) (s : Sym) → AllBut n (min (i + 1) fragment_extension) q run → GoesOnLong (repeated n i s) q run
repeated_long n i q run sy.Idle h = to_others n (min (next_count i + 1) fragment_extension) q run h.0 (λ d. next_long i run (h.1 d))
repeated_long n i q run sy.Hi h = to_others n (min (next_count i + 1) fragment_extension) q run h.0 (λ d. next_long i run (h.1 d))
repeated_long n i q run sy.Lo h = to_others n (min (next_count i + 1) fragment_extension) q run h.0 (λ d. next_long i run (h.1 d))
repeated_long n i q run sy.Clash h = to_others n (min (0 + 1) fragment_extension) q run h.0 (λ _. omega arith)

pub output_is_long : (mode : Mode) (a : Activity) (q run : ℕ) → IsLongFor mode q run → GoesOnLong (mode_after mode a) q run
output_is_long Idle Nobody q run h = to_idle q run (λ l. absurd (omega arith))
output_is_long Idle (One m s) q run h = begun_long m q run s h
output_is_long Idle Several q run h = to_clash 0 q run (omega arith)
output_is_long (Repeat n i) Nobody q run h =
    cond_both (ltb (next_count i) fragment_extension) (Extend n (next_count i) 0) Idle (λ m. GoesOnLong m q run)
    (λ _. to_others n (min (next_count i + 1) fragment_extension) q run h.0 (λ d. next_long i run (h.1 d)))
    (λ e. to_idle q run (long_or_none n (min (i + 1) fragment_extension) q run h (past_all i run e)))
output_is_long (Repeat n i) (One m s) q run h = cond_both (eqb m n) (repeated n i s) (TxClash 0) (λ m. GoesOnLong m q run) (λ _. repeated_long n i q run s h) (λ _. to_clash 0 q run (omega arith))
output_is_long (Repeat n i) Several q run h = to_clash 0 q run (omega arith)
output_is_long (Extend n i j) Nobody q run h =
    cond_both (ltb (next_count i) fragment_extension) (Extend n (next_count i) (j + 1)) Idle (λ m. GoesOnLong m q run)
    (λ _. to_others n (min (next_count i + 1) fragment_extension) q run h.0 (λ d. next_long i run (h.1 d)))
    (λ e. to_idle q run (long_or_none n (min (i + 1) fragment_extension) q run h (past_all i run e)))
output_is_long (Extend n i j) (One m s) q run h = cond_both (eqb m n) (RxClash n 0) (TxClash 0) (λ m. GoesOnLong m q run) (λ _. to_others n (min (0 + 1) fragment_extension) q run h.0 (λ _. omega arith)) (λ _. to_clash 0 q run (omega arith))
output_is_long (Extend n i j) Several q run h = to_clash 0 q run (omega arith)
output_is_long (RxClash n i) Nobody q run h =
    cond_both (ltb (next_count i) fragment_extension) (RxClash n (next_count i)) Idle (λ m. GoesOnLong m q run)
    (λ _. to_others n (min (next_count i + 1) fragment_extension) q run h.0 (λ d. next_long i run (h.1 d)))
    (λ e. to_idle q run (long_or_none n (min (i + 1) fragment_extension) q run h (past_all i run e)))
output_is_long (RxClash n i) (One m s) q run h = cond_both (eqb m n) (RxClash n (next_count i)) (TxClash 0) (λ m. GoesOnLong m q run) (λ _. to_others n (min (next_count i + 1) fragment_extension) q run h.0 (λ d. next_long i run (h.1 d))) (λ _. to_clash 0 q run (omega arith))
output_is_long (RxClash n i) Several q run h = to_clash 0 q run (omega arith)
output_is_long (TxClash i) Nobody q run h =
    cond_both (ltb (next_count i) fragment_extension) (TxClash (next_count i)) Idle (λ m. GoesOnLong m q run)
    (λ _. to_clash (next_count i) q run (next_long i run h))
    (λ e. to_idle q run (λ _. past_all i run e h))
output_is_long (TxClash i) (One m s) q run h =
    cond_both (ltb (next_count i) fragment_extension) (TxClash (next_count i)) (OnePort m 0) (λ m. GoesOnLong m q run)
    (λ _. to_clash (next_count i) q run (next_long i run h))
    (λ e. let k : fragment_extension ≤ run = past_all i run e h in (λ same. (λ _. k, (λ _. refl, λ d. absurd (d same))), λ d. (λ z. absurd (d z), λ _. omega arith)))
output_is_long (TxClash i) Several q run h = to_clash (next_count i) q run (next_long i run h)
output_is_long (OnePort n i) Nobody q run h = to_idle q run (long_or_none n fragment_extension q run h (λ k. k))
output_is_long (OnePort n i) (One m s) q run h = cond_both (eqb m n) (OnePort n (next_count i)) (TxClash 0) (λ m. GoesOnLong m q run) (λ _. to_others n fragment_extension q run h.0 (λ d. let k : fragment_extension ≤ run = h.1 d in omega arith)) (λ _. to_clash 0 q run (omega arith))
output_is_long (OnePort n i) Several q run h = to_clash 0 q run (omega arith)
