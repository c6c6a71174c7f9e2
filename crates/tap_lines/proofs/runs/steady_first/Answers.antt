use Rattle.std.proofs.Common.{◌≡◌, ℕ, ◌<◌, ◌≤◌, ◌+◌, ◌-◌, Bool, List, take, drop, length, get_or, length-take-le, length-drop, inl, inr, ap, sym, ◌∙◌, arith}
use Rattle.std.proofs.lemmas.Bool.{cases_lt}
use Rattle.std.proofs.lemmas.List.{get_or-drop, get_or-take}
use Rattle.manchester_line.specs.declared.Sym.{Sym}
use Rattle.manchester_line.specs.declared.Sym.TheVariants.{Idle}
use Rattle.manchester_line.specs.Line.{is_signal}
use Rattle.tap_lines.proofs.runs.steady_first.Goals as goal

-- a piece behind others, all of which are so, is so too
more : (n m : ℕ) (carrier : Bool) (xs : List Sym) → n + m ≤ length xs →
    ((j : ℕ) → j < length (take (n + m - n) (drop n xs)) → is_signal (get_or (take (n + m - n) (drop n xs)) j Idle) ≡ carrier) →
    ((i : ℕ) → i < n → is_signal (get_or xs i Idle) ≡ carrier) →
    (i : ℕ) → i < n + m → is_signal (get_or xs i Idle) ≡ carrier
more n m carrier xs h piece before i l =
    elim (cases_lt i n) [
      | inl low ↦ before i low
      | inr high ↦
          let rest : length (drop n xs) ≡ length xs - n = length-drop n xs in
          let size : length (take (n + m - n) (drop n xs)) ≡ n + m - n = length-take-le (n + m - n) (drop n xs) (omega (arith, rest, h)) in
          let e : n + (i - n) ≡ i = omega (arith, high) in
          let inside : i - n < n + m - n = omega (arith, l, high) in
          ap is_signal (ap (λ k. get_or xs k Idle) (sym e) ∙ sym (get_or-drop n xs (i - n) Idle) ∙ sym (get_or-take (n + m - n) (drop n xs) (i - n) Idle inside))
          ∙ piece (i - n) (omega (arith, inside, size))
    ]

pub loop-steady-preserved : goal.loop-steady-preserved
loop-steady-preserved c =
    let steady = c.loop-steady.steady in
    let xs = c.args.piece.now in
    let within = c.loop-steady.invariant.within in
    let test = c.loop-steady-test.true in
    let fits : steady + 32 ≤ length xs = omega (arith, within, test) in
    record {
      within = fits;
      steady = more steady 32 c.args.carrier xs fits (c.are_all.ensures.steady c.if-are_all.true) c.loop-steady.invariant.steady;
    }
