use Rattle.std.proofs.Common.{◌≡◌, ◌≤◌, false, inl, inr, get_or, subst, ap, arith}
use Rattle.std.proofs.lemmas.Bool.{cases_lt}
use Rattle.std.proofs.lemmas.List.{get_or_default}
use Rattle.segment_engine.specs.declared.apart.Watch.{Watch}
use Rattle.segment_engine.proofs.apart.first_due.Goals as goal

pub loop-watch-preserved : goal.loop-watch-preserved
loop-watch-preserved c =
    let k = c.loop-watch.watch-index in
    let ws = c.args.watches.now in
    let inv = c.loop-watch.invariant in
    let test = c.loop-watch-test.true in
    let is = c.min-due.ensures in
    let none : Watch = record { since = 0; until = 0; carrier = false; told = 0 } in
    record {
      within = let a = inv.within in omega (arith, is, a);
      first = λ i w h. elim (cases_lt i k) [
        | inl less ↦ let a = inv.first i w less in omega (arith, is, a)
        | inr last ↦
            let e : k ≡ i = omega (arith, h, last) in
            let same = ap (λ (x : Watch). x.until) (get_or_default ws k none w test) in
            let here : c.min-due.result ≤ (get_or ws k w).until = omega (arith, is, same) in
            subst (λ j. c.min-due.result ≤ (get_or ws j w).until) e here
      ];
      due = λ u h all. let a = inv.due u h all in let b = all k none test in omega (arith, is, a, b);
    }
