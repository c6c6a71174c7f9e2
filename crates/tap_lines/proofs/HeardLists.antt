-- What a tap hears by the lines of listed taps, one after another.
use Rattle.std.proofs.Common.{◌≡◌, ℕ, zero, suc, ◌+◌, ◌-◌, ◌<◌, ◌≤◌, inl, inr, List, drop, length, get_or, sym, ap, ◌∙◌, arith}
use Rattle.std.proofs.lemmas.Bool.{cases_lt}
use Rattle.manchester_line.specs.declared.Sym.{Sym}
use Rattle.manchester_line.specs.declared.Sym.TheVariants.{Idle}
use Rattle.manchester_line.specs.Line.{mix_of}
use Rattle.tap_lines.specs.TapLines.{TapLine, no_line, IsIdleFrom, heard_of_line, heard_of_lines, heard_by_lines, IsReachOf}
use Rattle.tap_lines.specs.TapLists.{AreIdleButFor, IsLeftOut}
use Rattle.tap_lines.proofs.LineClasses.{idle_on}
use Rattle.tap_lines.proofs.HeardLines.{mix_idle, idle_mix, heard_next, silent_line}

-- the first i of these are below q, and the others aren't
pub record Parts (ns : List ℕ) (i q : ℕ) : Type 0 where
  pub before : (k : ℕ) → k < i → get_or ns k 0 < q
  pub behind : (k : ℕ) → i ≤ k → k < length ns → q ≤ get_or ns k 0

-- what was heard and what is heard of the lines from where the first i listed end are all that is heard
abbrev pub CompletedFrom : ℕ → ℕ → List TapLine → ℕ → List ℕ → ℕ → Sym → Type 0
CompletedFrom L t ls p ns i s = (q : ℕ) → Parts ns i q → q ≤ length ls →
    mix_of s (heard_of_lines L t p (get_or ls p no_line).at q (drop q ls)) ≡ heard_by_lines L t ls p

-- idle lines are passed over
heard_behind : (L t far p q n : ℕ) (ls : List TapLine) (s all : Sym) → IsReachOf far L ls → p < length ls → q + n ≤ length ls →
    ((r : ℕ) → q ≤ r → r < q + n → IsIdleFrom (t - far) (get_or ls r no_line)) →
    mix_of s (heard_of_lines L t p (get_or ls p no_line).at q (drop q ls)) ≡ all →
    mix_of s (heard_of_lines L t p (get_or ls p no_line).at (q + n) (drop (q + n) ls)) ≡ all
heard_behind L t far p q zero ls s all within hp room idle before =
    let e : q + 0 ≡ q = omega arith in
    ap (λ k. mix_of s (heard_of_lines L t p (get_or ls p no_line).at k (drop k ls))) e ∙ before
heard_behind L t far p q (suc n) ls s all within hp room idle before =
    let e : q + suc n ≡ q + 1 + n = omega arith in
    let in_it : q < length ls = omega (arith, room) in
    let none = silent_line L t far p q ls within hp in_it (λ v after. idle_on (t - far) v (get_or ls q no_line) (idle q (omega arith) (omega arith)) after) in
    let one = heard_next L t p q ls s s all in_it (sym (ap (mix_of s) none ∙ mix_idle s)) before in
    ap (λ k. mix_of s (heard_of_lines L t p (get_or ls p no_line).at k (drop k ls))) e
    ∙ heard_behind L t far p (q + 1) n ls s all within hp (omega (arith, room)) (λ r low high. idle r (omega (arith, low)) (omega (arith, high))) one

-- those between are left out
between : (ns : List ℕ) (i q q' r : ℕ) → ((k : ℕ) → k < i → get_or ns k 0 < q) → Parts ns i q' → q ≤ r → r < q' → IsLeftOut r ns
between ns i q q' r early parts low high k h e = elim (cases_lt k i) [
  | inl before ↦ let z = early k before in omega (arith, z, e, low)
  | inr after ↦ let z = parts.behind k after h in omega (arith, z, e, high)
]

-- those below the first that is listed
pub idle_first : (u q r : ℕ) (ls : List TapLine) (ns : List ℕ) → AreIdleButFor u ls ns → Parts ns 0 q → q ≤ length ls → r < q → IsIdleFrom u (get_or ls r no_line)
idle_first u q r ls ns idle parts few high = idle.others r (omega (arith, high, few)) (between ns 0 0 q r (λ k h. absurd (omega (arith, h))) parts (omega arith) high)

-- those behind one that is listed
pub idle_next : (u i q r : ℕ) (ls : List TapLine) (ns : List ℕ) → AreIdleButFor u ls ns → i < length ns → Parts ns (i + 1) q → q ≤ length ls → get_or ns i 0 < r → r < q → IsIdleFrom u (get_or ls r no_line)
idle_next u i q r ls ns idle h parts few low high =
    let x = get_or ns i 0 in
    idle.others r (omega (arith, high, few)) (between ns (i + 1) (x + 1) q r
    (λ k m. elim (cases_lt k i) [
      | inl before ↦ let z = idle.rising k i before h in omega (arith, z)
      | inr now ↦ let e : k ≡ i = omega (arith, m, now) in let z = ap (λ j. get_or ns j 0) e in omega (arith, z)
    ]) parts (omega (arith, low)) high)

-- at one that is listed
pub parts_at : (u i : ℕ) (ls : List TapLine) (ns : List ℕ) → AreIdleButFor u ls ns → i < length ns → Parts ns i (get_or ns i 0)
parts_at u i ls ns idle h = record {
  before = λ k m. idle.rising k i m h;
  behind = λ k l m. elim (cases_lt i k) [
    | inl after ↦ let z = idle.rising i k after m in omega (arith, z)
    | inr now ↦ let e : i ≡ k = omega (arith, l, now) in let z = ap (λ j. get_or ns j 0) e in omega (arith, z)
  ];
}

-- from the first line on
pub listed_first : (L t far p : ℕ) (ls : List TapLine) (ns : List ℕ) (s : Sym) → IsReachOf far L ls → p < length ls → AreIdleButFor (t - far) ls ns → s ≡ Idle →
    CompletedFrom L t ls p ns 0 s
listed_first L t far p ls ns s within hp idle none q parts few =
    let all = heard_by_lines L t ls p in
    let e : q ≡ 0 + q = omega arith in
    ap (λ k. mix_of s (heard_of_lines L t p (get_or ls p no_line).at k (drop k ls))) e
    ∙ heard_behind L t far p 0 q ls s all within hp (omega (arith, few))
    (λ r low high. idle_first (t - far) q r ls ns idle parts few (omega (arith, high)))
    (ap (λ x. mix_of x all) none ∙ idle_mix all)

-- a listed line more
pub listed_next : (L t far p i : ℕ) (ls : List TapLine) (ns : List ℕ) (s s' : Sym) → IsReachOf far L ls → p < length ls → AreIdleButFor (t - far) ls ns →
    i < length ns → s' ≡ mix_of s (heard_of_line L t ls p (get_or ns i 0)) → CompletedFrom L t ls p ns i s → CompletedFrom L t ls p ns (i + 1) s'
listed_next L t far p i ls ns s s' within hp idle h is so_far q parts few =
    let x = get_or ns i 0 in
    let all = heard_by_lines L t ls p in
    let in_it : x < length ls = idle.within i h in
    let one = heard_next L t p x ls s s' all in_it is (so_far x (parts_at (t - far) i ls ns idle h) (omega (arith, in_it))) in
    let less : x < q = parts.before i (omega arith) in
    let n = q - (x + 1) in
    let e : q ≡ x + 1 + n = omega (arith, less) in
    ap (λ k. mix_of s' (heard_of_lines L t p (get_or ls p no_line).at k (drop k ls))) e
    ∙ heard_behind L t far p (x + 1) n ls s' all within hp (omega (arith, few, less))
    (λ r low high. idle_next (t - far) i q r ls ns idle h parts few (omega (arith, low)) (omega (arith, high, less))) one

-- behind all that are listed
pub all_listed : (u i : ℕ) (ls : List TapLine) (ns : List ℕ) → AreIdleButFor u ls ns → length ns ≤ i → i ≤ length ns → Parts ns i (length ls)
all_listed u i ls ns idle end few = record {
  before = λ k h. idle.within k (omega (arith, h, few));
  behind = λ k l m. absurd (omega (arith, l, m, end));
}
