-- The loud taps among those of another list, which leaves out none of them.
use Rattle.std.proofs.Common.{◌≡◌, ℕ, ◌+◌, ◌<◌, ◌≤◌, inl, inr, List, set, take, length, get_or, refl, subst, arith}
use Rattle.std.proofs.lemmas.Bool.{cases_lt}
use Rattle.tap_lines.specs.TapLines.{TapLine, no_line, IsIdleFrom}
use Rattle.tap_lines.specs.TapLists.{AreIdleButFor, AreLoudTaps}
use Rattle.tap_lines.proofs.HeardLists.{Parts, all_listed, idle_first, idle_next, parts_at}
use Rattle.tap_lines.proofs.LoudLists.{ListedTo, listed_all, listed_loud, listed_on}

-- the first n of these list the loud taps among the first i others
abbrev pub AmongTo : ℕ → List TapLine → List ℕ → ℕ → List ℕ → ℕ → Type 0
AmongTo u ls ms i ns n = (q : ℕ) → Parts ms i q → q ≤ length ls → ListedTo u ls ns n q

-- of none there are none
pub among_none : (u : ℕ) (ls : List TapLine) (ms ns : List ℕ) → AreIdleButFor u ls ms → AmongTo u ls ms 0 ns 0
among_none u ls ms ns idle q parts few = record {
  few = omega arith;
  within = λ i h. absurd (omega (arith, h));
  rising = λ i j less h. absurd (omega (arith, h));
  others = λ r h out. idle_first u q r ls ms idle parts few h;
  loud = λ i h. absurd (omega (arith, h));
}

-- an idle tap more
pub among_idle : (u i n : ℕ) (ls : List TapLine) (ms ns : List ℕ) → AreIdleButFor u ls ms → i < length ms → IsIdleFrom u (get_or ls (get_or ms i 0) no_line) →
    AmongTo u ls ms i ns n → AmongTo u ls ms (i + 1) ns n
among_idle u i n ls ms ns idle h off so_far q parts few =
    let x = get_or ms i 0 in
    let before : x < q = parts.before i (omega arith) in
    listed_on u n x q ls ns (so_far x (parts_at u i ls ms idle h) (omega (arith, before, few))) (omega (arith, before)) (λ r low high. elim (cases_lt x r) [
      | inl after ↦ idle_next u i q r ls ms idle h parts few after high
      | inr now ↦ let e : x ≡ r = omega (arith, low, now) in subst (λ k. IsIdleFrom u (get_or ls k no_line)) e off
    ])

-- a loud tap more
pub among_loud : (u i n : ℕ) (ls : List TapLine) (ms ns : List ℕ) → AreIdleButFor u ls ms → i < length ms → length ls ≤ length ns →
    ¬ IsIdleFrom u (get_or ls (get_or ms i 0) no_line) → AmongTo u ls ms i ns n → AmongTo u ls ms (i + 1) (set ns n (get_or ms i 0)) (n + 1)
among_loud u i n ls ms ns idle h room on so_far q parts few =
    let x = get_or ms i 0 in
    let before : x < q = parts.before i (omega arith) in
    let here = so_far x (parts_at u i ls ms idle h) (omega (arith, before, few)) in
    let less = here.few in
    listed_on u (n + 1) (x + 1) q ls (set ns n x) (listed_loud u ls ns n x here (omega (arith, less, before, few, room)) on) (omega (arith, before))
    (λ r low high. idle_next u i q r ls ms idle h parts few (omega (arith, low)) high)

-- there is room for one more
pub among_room : (u i n : ℕ) (ls : List TapLine) (ms ns : List ℕ) → AreIdleButFor u ls ms → i < length ms → AmongTo u ls ms i ns n → n < length ls
among_room u i n ls ms ns idle h so_far =
    let there = idle.within i h in
    let here = so_far (get_or ms i 0) (parts_at u i ls ms idle h) (omega (arith, there)) in
    let less = here.few in
    omega (arith, less, there)

-- of all there are all
pub among_all : (u i n : ℕ) (ls : List TapLine) (ms ns : List ℕ) → AreIdleButFor u ls ms → length ms ≤ i → i ≤ length ms → length ls ≤ length ns → AmongTo u ls ms i ns n →
    AreLoudTaps u ls (take n ns)
among_all u i n ls ms ns idle end few room so_far =
    let here = so_far (length ls) (all_listed u i ls ms idle end few) (omega arith) in
    let less = here.few in
    listed_all u n (length ls) ls ns here refl (omega (arith, less, room))
