-- Lists of the taps on whose lines anything stands that may still be heard.
use Rattle.std.proofs.Common.{◌≡◌, ◌≢◌, ℕ, ◌+◌, ◌<◌, ◌≤◌, inl, inr, List, [], ◌∷◌, set, take, length, length-take-le, get_or, get_or-set_same, refl, sym, subst, ap, ◌∙◌, arith}
use Rattle.std.proofs.lemmas.List.{get_or-set_other, get_or-take}
use Rattle.std.proofs.lemmas.Bool.{cases_lt, false_from_ne_true, false≢true}
use Rattle.tap_lines.specs.TapLines.{TapLine, no_line, class_on, AreIdleFrom, AreOthersIdle, IsIdleFrom, IsOnlySource}
use Rattle.tap_lines.specs.TapLists.{AreIdleButFor, AreLoudTaps}

-- the first n of these list the loud taps below r
pub record ListedTo (u : ℕ) (ls : List TapLine) (ns : List ℕ) (n r : ℕ) : Type 0 where
  pub few : n ≤ r
  pub within : (i : ℕ) → i < n → get_or ns i 0 < r
  pub rising : (i j : ℕ) → i < j → j < n → get_or ns i 0 < get_or ns j 0
  pub others : (q : ℕ) → q < r → ((i : ℕ) → i < n → get_or ns i 0 ≢ q) → IsIdleFrom u (get_or ls q no_line)
  pub loud : (i : ℕ) → i < n → ¬ IsIdleFrom u (get_or ls (get_or ns i 0) no_line)

-- a loud tap more
pub listed_loud : (u : ℕ) (ls : List TapLine) (ns : List ℕ) (n r : ℕ) → ListedTo u ls ns n r → n < length ns → ¬ IsIdleFrom u (get_or ls r no_line) →
    ListedTo u ls (set ns n r) (n + 1) (r + 1)
listed_loud u ls ns n r so_far room late =
    let fewer = so_far.few in
    let last : get_or (set ns n r) n 0 ≡ r = get_or-set_same ns n r 0 room in
    let first : (i : ℕ) → i < n → get_or (set ns n r) i 0 ≡ get_or ns i 0 = λ i h. get_or-set_other ns n i r 0 (λ e. omega (arith, e, h)) in
    let at_end : (i : ℕ) → i < n + 1 → n ≤ i → get_or (set ns n r) i 0 ≡ r = λ i h l.
    let e : i ≡ n = omega (arith, h, l) in ap (λ k. get_or (set ns n r) k 0) e ∙ last in
    record {
      few = omega (arith, fewer);
      within = λ i h. elim (cases_lt i n) [
        | inl before ↦ let z = so_far.within i before in let e = first i before in omega (arith, z, e)
        | inr now ↦ let e = at_end i h now in omega (arith, e)
      ];
      rising = λ i j less h. elim (cases_lt j n) [
        | inl before ↦
            let before' : i < n = omega (arith, less, before) in
            let z = so_far.rising i j less before in
            let e = first i before' in
            let e' = first j before in
            omega (arith, z, e, e')
        | inr now ↦
            let before : i < n = omega (arith, less, h) in
            let z = so_far.within i before in
            let e = first i before in
            let e' = at_end j h now in
            omega (arith, z, e, e')
      ];
      others = λ q h out. elim (cases_lt q r) [
        | inl before ↦ so_far.others q before (λ i m e. out i (omega (arith, m)) (first i m ∙ e))
        | inr now ↦
            let e : r ≡ q = omega (arith, h, now) in
            absurd (out n (omega arith) (last ∙ e))
      ];
      loud = λ i h. elim (cases_lt i n) [
        | inl before ↦ subst (λ z. ¬ IsIdleFrom u (get_or ls z no_line)) (sym (first i before)) (so_far.loud i before)
        | inr now ↦ subst (λ z. ¬ IsIdleFrom u (get_or ls z no_line)) (sym (at_end i h now)) late
      ];
    }

-- all taps
pub listed_all : (u n r : ℕ) (ls : List TapLine) (ns : List ℕ) → ListedTo u ls ns n r → r ≡ length ls → n ≤ length ns → AreLoudTaps u ls (take n ns)
listed_all u n r ls ns so_far end room =
    let size = length-take-le n ns room in
    let same : (i : ℕ) → i < length (take n ns) → get_or (take n ns) i 0 ≡ get_or ns i 0 = λ i h. get_or-take n ns i 0 (omega (arith, h, size)) in
    record {
      idle = record {
        within = λ i h. let z = so_far.within i (omega (arith, h, size)) in let e = same i h in omega (arith, z, e, end);
        rising = λ i j less h.
            let z = so_far.rising i j less (omega (arith, h, size)) in
            let e = same i (omega (arith, less, h)) in
            let e' = same j h in
            omega (arith, z, e, e');
        others = λ q h out. so_far.others q (omega (arith, h, end)) (λ i m e.
            let there : i < length (take n ns) = omega (arith, m, size) in
            out i there (same i there ∙ e));
      };
      loud = λ i h. subst (λ z. ¬ IsIdleFrom u (get_or ls z no_line)) (sym (same i h)) (so_far.loud i (omega (arith, h, size)));
    }

-- where two taps are loud, none is the only one
pub two_loud : (u i j q : ℕ) (ls : List TapLine) (ns : List ℕ) → AreIdleButFor u ls ns → i < j → j < length ns →
    ¬ IsIdleFrom u (get_or ls (get_or ns i 0) no_line) → ¬ IsIdleFrom u (get_or ls (get_or ns j 0) no_line) → ¬ IsOnlySource u ls q
two_loud u i j q ls ns idle before h first second only =
    let less = idle.rising i j before h in
    elim (cases_lt q (get_or ns j 0)) [
      | inl low ↦ second (λ v late. only.others (get_or ns j 0) v (idle.within j h) (λ e. omega (arith, e, low)) late)
      | inr high ↦ first (λ v late. only.others (get_or ns i 0) v (idle.within i (omega (arith, before, h))) (λ e. omega (arith, e, high, less)) late)
    ]

-- where not just one tap is listed, none is the only one
pub not_one : (u : ℕ) (ls : List TapLine) (ns : List ℕ) → AreLoudTaps u ls ns → length ns ≢ 1 → (q : ℕ) → IsOnlySource u ls q → AreIdleFrom u ls
not_one u ls [] loud many q only = λ r v h late. loud.idle.others r h (λ i m. absurd (omega (arith, m))) v late
not_one u ls (x ∷ []) loud many q only = absurd (many refl)
not_one u ls (x ∷ y ∷ ns) loud many q only =
    absurd (two_loud u 0 1 q ls (x ∷ y ∷ ns) loud.idle (omega arith) (omega arith) (loud.loud 0 (omega arith)) (loud.loud 1 (omega arith)) only)

-- where all listed taps but this one are idle, so are all others
pub idle_but : (u q : ℕ) (ls : List TapLine) (ns : List ℕ) → AreIdleButFor u ls ns →
    ((i : ℕ) → i < length ns → get_or ns i 0 ≢ q → IsIdleFrom u (get_or ls (get_or ns i 0) no_line)) → AreOthersIdle u ls q
idle_but u q ls ns idle each r v h other late = false_from_ne_true (class_on (get_or ls r no_line) v) (λ on.
    let there : IsIdleFrom u (get_or ls r no_line) = idle.others r h (λ i m e.
    false≢true (sym (subst (λ k. IsIdleFrom u (get_or ls k no_line)) e (each i m (λ z. other (sym e ∙ z))) v late) ∙ on)) in
    false≢true (sym (there v late) ∙ on))

-- goes on as listed up to a tap behind, where those between are idle
pub listed_on : (u n r r' : ℕ) (ls : List TapLine) (ns : List ℕ) → ListedTo u ls ns n r → r ≤ r' →
    ((q : ℕ) → r ≤ q → q < r' → IsIdleFrom u (get_or ls q no_line)) → ListedTo u ls ns n r'
listed_on u n r r' ls ns so_far more idle =
    let few = so_far.few in
    record {
      few = omega (arith, few, more);
      within = λ i h. let z = so_far.within i h in omega (arith, z, more);
      rising = so_far.rising;
      others = λ q h out. elim (cases_lt q r) [
        | inl before ↦ so_far.others q before out
        | inr after ↦ idle q after h
      ];
      loud = so_far.loud;
    }

-- from a later half bit on
pub later_idle : (u u' : ℕ) (ls : List TapLine) (ns : List ℕ) → u ≤ u' → AreIdleButFor u ls ns → AreIdleButFor u' ls ns
later_idle u u' ls ns late idle = record {
  within = idle.within;
  rising = idle.rising;
  others = λ r h out v after. idle.others r h out v (omega (arith, late, after));
}
