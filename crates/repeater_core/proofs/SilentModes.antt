-- What silent half bits make of modes and of a port's counts, and how the calm of a port falls by one with each.
use Rattle.std.proofs.Common.{◌≡◌, ℕ, zero, suc, ◌+◌, ◌-◌, ◌<◌, ◌≤◌, min, Bool, true, false, not, cond, ltb, eqb, leb, ◌&&◌, refl, sym, ap, ap₂, ◌∙◌, arith}
use Rattle.std.proofs.lemmas.Bool.Decides.{nat_tests}
use Rattle.std.proofs.lemmas.Bool.{cond_both}
use Rattle.std.specs.Fn.{iterate}
use Rattle.mac_parameters.specs.Parameters.{fragment_extension}
use Rattle.repeater_core.specs.Limits.{counts_end, most_calm}
use Rattle.repeater_core.specs.declared.modes.Mode.{Mode}
use Rattle.repeater_core.specs.declared.modes.Mode.TheVariants.{Idle, Repeat, Extend, RxClash, TxClash, OnePort}
use Rattle.repeater_core.specs.Modes.{next_count, count_of, jams_of}
use Rattle.repeater_core.specs.Counts.{Count, resting_count}
use Rattle.repeater_core.specs.Laws.{SendsNothing}
use Rattle.repeater_core.specs.SilentParts.{sends_for, sends_to, port_calm, silent_mode, silent_count, IsAfterSilence}

next_is : (i : ℕ) → i < fragment_extension → next_count i ≡ i + 1
next_is i l = grind (arith, nat_tests)

-- a mode that a silent half bit led to, after n more of them
abbrev pub later : ℕ → Mode → Mode
later n (Extend p i j) = cond (ltb (i + n) fragment_extension) (Extend p (i + n) (j + n)) Idle
later n (RxClash p i) = cond (ltb (i + n) fragment_extension) (RxClash p (i + n)) Idle
later n (TxClash i) = cond (ltb (i + n) fragment_extension) (TxClash (i + n)) Idle
later n _ = Idle

ends : (i n : ℕ) → i < fragment_extension → ltb (next_count i) fragment_extension ≡ false → ltb (i + suc n) fragment_extension ≡ false
ends i n l e = grind (arith, nat_tests)

ended : (x : Mode) (i n : ℕ) → i < fragment_extension → ltb (next_count i) fragment_extension ≡ false → Idle ≡ cond (ltb (i + suc n) fragment_extension) x Idle
ended x i n l e = sym (ap (λ b. cond b x Idle) (ends i n l e))

starts : (x : Mode) (i : ℕ) → i < fragment_extension → x ≡ cond (ltb (i + 0) fragment_extension) x Idle
starts x i l = let e : ltb (i + 0) fragment_extension ≡ true = grind (arith, nat_tests) in sym (ap (λ b. cond b x Idle) e)

one_more : (i n : ℕ) → i < fragment_extension → next_count i + n ≡ i + suc n
one_more i n l = let e = next_is i l in omega arith

below_end : (i : ℕ) → ltb (next_count i) fragment_extension ≡ true → next_count i < fragment_extension
below_end i e = grind (arith, nat_tests)

pub later_is : (n : ℕ) (mode : Mode) → IsAfterSilence mode → iterate silent_mode n mode ≡ later n mode
later_is zero Idle f = refl
later_is (suc n) Idle f = later_is n Idle f
later_is n (Repeat p i) f = absurd f
later_is n (OnePort p i) f = absurd f
later_is zero (Extend p i j) f = starts (Extend p i j) i f ∙ (let a : i ≡ i + 0 = omega arith in let b : j ≡ j + 0 = omega arith in ap₂ (λ x y. cond (ltb (i + 0) fragment_extension) (Extend p x y) Idle) a b)
later_is zero (RxClash p i) f = starts (RxClash p i) i f ∙ (let a : i ≡ i + 0 = omega arith in ap (λ x. cond (ltb (i + 0) fragment_extension) (RxClash p x) Idle) a)
later_is zero (TxClash i) f = starts (TxClash i) i f ∙ (let a : i ≡ i + 0 = omega arith in ap (λ x. cond (ltb (i + 0) fragment_extension) (TxClash x) Idle) a)
later_is (suc n) (Extend p i j) f =
    cond_both (ltb (next_count i) fragment_extension) (Extend p (next_count i) (j + 1)) Idle (λ m. iterate silent_mode n m ≡ later (suc n) (Extend p i j))
    (λ e. later_is n (Extend p (next_count i) (j + 1)) (below_end i e)
    ∙ (let b : j + 1 + n ≡ j + suc n = omega arith in ap₂ (λ x y. cond (ltb x fragment_extension) (Extend p x y) Idle) (one_more i n f) b))
    (λ e. later_is n Idle tt ∙ ended (Extend p (i + suc n) (j + suc n)) i n f e)
later_is (suc n) (RxClash p i) f =
    cond_both (ltb (next_count i) fragment_extension) (RxClash p (next_count i)) Idle (λ m. iterate silent_mode n m ≡ later (suc n) (RxClash p i))
    (λ e. later_is n (RxClash p (next_count i)) (below_end i e) ∙ ap (λ x. cond (ltb x fragment_extension) (RxClash p x) Idle) (one_more i n f))
    (λ e. later_is n Idle tt ∙ ended (RxClash p (i + suc n)) i n f e)
later_is (suc n) (TxClash i) f =
    cond_both (ltb (next_count i) fragment_extension) (TxClash (next_count i)) Idle (λ m. iterate silent_mode n m ≡ later (suc n) (TxClash i))
    (λ e. later_is n (TxClash (next_count i)) (below_end i e) ∙ ap (λ x. cond (ltb x fragment_extension) (TxClash x) Idle) (one_more i n f))
    (λ e. later_is n Idle tt ∙ ended (TxClash (i + suc n)) i n f e)

-- the mode after a silent half bit is one that a silent half bit led to
pub after_silence : (mode : Mode) → IsAfterSilence (silent_mode mode)
after_silence Idle = tt
after_silence (Repeat p i) = cond_both (ltb (next_count i) fragment_extension) (Extend p (next_count i) 0) Idle IsAfterSilence (below_end i) (λ _. tt)
after_silence (Extend p i j) = cond_both (ltb (next_count i) fragment_extension) (Extend p (next_count i) (j + 1)) Idle IsAfterSilence (below_end i) (λ _. tt)
after_silence (RxClash p i) = cond_both (ltb (next_count i) fragment_extension) (RxClash p (next_count i)) Idle IsAfterSilence (below_end i) (λ _. tt)
after_silence (TxClash i) = cond_both (ltb (next_count i) fragment_extension) (TxClash (next_count i)) Idle IsAfterSilence (below_end i) (λ _. tt)
after_silence (OnePort p i) = tt

pub jams_stay : (mode : Mode) → count_of mode < counts_end → jams_of mode ≤ count_of mode → jams_of (silent_mode mode) ≤ count_of (silent_mode mode)
jams_stay mode l m = grind (arith, nat_tests)

-- what half bits in which a port rests, or nothing is wished for it, make of its counts
abbrev pub rested : ℕ → Count → Count
rested n c = cond (leb n c.rest) (record { run = 0; rest = c.rest - n; after_rest = true }) (resting_count 0)

rested_once : (r : ℕ) (run : ℕ) (a : Bool) → silent_count (record { run = run; rest = r; after_rest = a }) ≡ rested 1 (record { run = run; rest = r; after_rest = a })
rested_once zero run a = refl
rested_once (suc r) run a = grind (arith, nat_tests)

rested_more : (n : ℕ) (c : Count) → 0 < n → rested n (silent_count c) ≡ rested (suc n) c
rested_more n c l = grind (arith, nat_tests)

pub rested_for : (n : ℕ) (c : Count) → 0 < n → iterate silent_count n c ≡ rested n c
rested_for zero c l = absurd (omega arith)
rested_for (suc zero) c l = rested_once c.rest c.run c.after_rest
rested_for (suc (suc n)) c l = rested_for (suc n) (silent_count c) (omega arith) ∙ rested_more (suc n) c (omega arith)

-- for how many silent half bits a mode sends, and to whom
pub sends_at_most : (mode : Mode) → sends_for mode ≤ fragment_extension - 1
sends_at_most mode = grind arith

pub sends_falls : (mode : Mode) → sends_for (silent_mode mode) ≡ sends_for mode - 1
sends_falls Idle = refl
sends_falls (Repeat p i) = grind (arith, nat_tests)
sends_falls (Extend p i j) = grind (arith, nat_tests)
sends_falls (RxClash p i) = grind (arith, nat_tests)
sends_falls (TxClash i) = grind (arith, nat_tests)
sends_falls (OnePort p i) = refl

goes_on : (x y : Mode) (i : ℕ) → 1 < fragment_extension - 1 - i → cond (ltb (next_count i) fragment_extension) x y ≡ x
goes_on x y i l = let e : ltb (next_count i) fragment_extension ≡ true = grind (arith, nat_tests) in ap (λ b. cond b x y) e

pub sends_on : (mode : Mode) (q : ℕ) → 1 < sends_for mode → sends_to (silent_mode mode) q ≡ sends_to mode q
sends_on Idle q l = refl
sends_on (Repeat p i) q l = ap (λ m. sends_to m q) (goes_on (Extend p (next_count i) 0) Idle i l)
sends_on (Extend p i j) q l = ap (λ m. sends_to m q) (goes_on (Extend p (next_count i) (j + 1)) Idle i l)
sends_on (RxClash p i) q l = ap (λ m. sends_to m q) (goes_on (RxClash p (next_count i)) Idle i l)
sends_on (TxClash i) q l = ap (λ m. sends_to m q) (goes_on (TxClash (next_count i)) Idle i l)
sends_on (OnePort p i) q l = absurd (omega arith)

-- whether the mode after a silent half bit sends to port q
abbrev pub sends_next : Mode → ℕ → Bool
sends_next mode q = sends_to mode q && ltb 0 (sends_for mode)

open_goes : (q n i : ℕ) → not (eqb q n) && ltb 0 (fragment_extension - 1 - i) ≡ true → (ltb (next_count i) fragment_extension ≡ true) × (eqb q n ≡ false)
open_goes q n i e = (goes, apart)
  where
    goes : ltb (next_count i) fragment_extension ≡ true
    goes = grind (arith, nat_tests)

    apart : eqb q n ≡ false
    apart = grind (arith, nat_tests)

shut : (q n i : ℕ) → not (eqb q n) && ltb 0 (fragment_extension - 1 - i) ≡ false → ltb (next_count i) fragment_extension ≡ true → q ≡ n
shut q n i e g = grind (arith, nat_tests)

clash_goes : (i : ℕ) → ltb 0 (fragment_extension - 1 - i) ≡ true → ltb (next_count i) fragment_extension ≡ true
clash_goes i e = grind (arith, nat_tests)

clash_ends : (i : ℕ) → ltb 0 (fragment_extension - 1 - i) ≡ false → ltb (next_count i) fragment_extension ≡ true → ⊥
clash_ends i e g = grind (arith, nat_tests)

other : (q n : ℕ) → eqb q n ≡ false → ¬ (q ≡ n)
other q n e = grind (arith, nat_tests)

to_all : (x : Mode) (b : Bool) (q : ℕ) → b ≡ true → ¬ SendsNothing x q → ¬ SendsNothing (cond b x Idle) q
to_all x true q e h = h
to_all x false q e h = absurd (cc)

to_none : (x : Mode) (b : Bool) (q : ℕ) → (b ≡ true → SendsNothing x q) → SendsNothing (cond b x Idle) q
to_none x true q h = h refl
to_none x false q h = tt

pub sends_something : (mode : Mode) (q : ℕ) → sends_next mode q ≡ true → ¬ SendsNothing (silent_mode mode) q
sends_something Idle q e = absurd (cc)
sends_something (Repeat n i) q e = let o = open_goes q n i e in to_all (Extend n (next_count i) 0) (ltb (next_count i) fragment_extension) q o.0 (other q n o.1)
sends_something (Extend n i j) q e = let o = open_goes q n i e in to_all (Extend n (next_count i) (j + 1)) (ltb (next_count i) fragment_extension) q o.0 (other q n o.1)
sends_something (RxClash n i) q e = let o = open_goes q n i e in to_all (RxClash n (next_count i)) (ltb (next_count i) fragment_extension) q o.0 (other q n o.1)
sends_something (TxClash i) q e = to_all (TxClash (next_count i)) (ltb (next_count i) fragment_extension) q (clash_goes i e) (λ n. n)
sends_something (OnePort n i) q e = absurd (never (not (eqb q n)) e)
  where
    never : (b : Bool) → b && false ≡ true → ⊥
    never true e = cc
    never false e = cc

pub sends_nothing : (mode : Mode) (q : ℕ) → sends_next mode q ≡ false → SendsNothing (silent_mode mode) q
sends_nothing Idle q e = tt
sends_nothing (Repeat n i) q e = to_none (Extend n (next_count i) 0) (ltb (next_count i) fragment_extension) q (shut q n i e)
sends_nothing (Extend n i j) q e = to_none (Extend n (next_count i) (j + 1)) (ltb (next_count i) fragment_extension) q (shut q n i e)
sends_nothing (RxClash n i) q e = to_none (RxClash n (next_count i)) (ltb (next_count i) fragment_extension) q (shut q n i e)
sends_nothing (TxClash i) q e = to_none (TxClash (next_count i)) (ltb (next_count i) fragment_extension) q (clash_ends i e)
sends_nothing (OnePort n i) q e = tt

-- one half bit less, where the number is not for good
abbrev pub fallen : ℕ → ℕ
fallen a = cond (eqb a most_calm) most_calm (a - 1)

pub fallen_min : (a b : ℕ) → a ≤ most_calm → b ≤ most_calm → fallen (min a b) ≡ min (fallen a) (fallen b)
fallen_min a b l m = grind (arith, nat_tests)

falls_at : (b b' : Bool) (left rest : ℕ) → (1 < left → b' ≡ b) → left ≤ fragment_extension - 1 → 0 < cond (b && ltb rest left) rest most_calm
    → cond (b' && ltb (rest - 1) (left - 1)) (rest - 1) most_calm ≡ fallen (cond (b && ltb rest left) rest most_calm)
falls_at b b' left rest s m l = grind (arith, nat_tests)

pub port_falls : (mode : Mode) (q rest : ℕ) → 0 < port_calm mode q rest → port_calm (silent_mode mode) q (rest - 1) ≡ fallen (port_calm mode q rest)
port_falls mode q rest l =
    ap (λ n. cond (sends_to (silent_mode mode) q && ltb (rest - 1) n) (rest - 1) most_calm) (sends_falls mode)
    ∙ falls_at (sends_to mode q) (sends_to (silent_mode mode) q) (sends_for mode) rest (sends_on mode q) (sends_at_most mode) l

pub port_at_most : (mode : Mode) (q rest : ℕ) → port_calm mode q rest ≤ most_calm
port_at_most mode q rest = at (sends_to mode q) (sends_for mode) (sends_at_most mode)
  where
    at : (b : Bool) (left : ℕ) → left ≤ fragment_extension - 1 → cond (b && ltb rest left) rest most_calm ≤ most_calm
    at b left m = grind (arith, nat_tests)
