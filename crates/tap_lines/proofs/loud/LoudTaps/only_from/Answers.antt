use Rattle.std.proofs.Common.{◌≡◌, inl, inr, length, get_or, sym, ap, ◌∙◌, arith}
use Rattle.std.proofs.lemmas.Bool.{cases_lt}
use Rattle.tap_lines.proofs.LoudLists.{idle_but, two_loud}
use Rattle.tap_lines.proofs.loud.LoudTaps.only_from.Goals as goal
use Rattle.tap_lines.proofs.loud.LoudTaps.only_from.Goals.{then-i-len-via-then-i-len, then-i-len-via-else-i-len+then-next_loud-len}

pub returns-then-i-len-clause-none : goal.returns-then-i-len-clause-none
returns-then-i-len-clause-none c = λ q only r v h late.
    let ls = c.args.lines.now in
    let ns = c.args.self.now.taps in
    let first = c.next_loud-i.ensures in
    let many = c.len.ensures in
    elim c.then-i-len.branch [
      | then-i-len-via-then-i-len w ↦
          let end = w.if-i-len.true in
          idle_but c.args.u (length ls) ls ns c.requires (λ i m differs. first.idle i (omega arith) (omega (arith, m, end, many))) r v h (λ e. omega (arith, e, h)) late
      | then-i-len-via-else-i-len+then-next_loud-len w ↦
          let not_end = w.if-i-len.false in
          let few = first.within in
          let more = w.if-next_loud-len.true in
          let many' = w.len-else-i-len.ensures in
          let behind = w.next_loud.ensures.from in
          absurd (two_loud c.args.u c.next_loud-i.result w.next_loud.result q ls ns c.requires (omega (arith, behind)) (omega (arith, more, many'))
          (first.loud (omega (arith, not_end, many, few))) (w.next_loud.ensures.loud (omega (arith, more, many'))) only)
    ]

pub returns-clause-only : goal.returns-clause-only
returns-clause-only c =
    let ls = c.args.lines.now in
    let ns = c.args.self.now.taps in
    let i = c.next_loud-i.result in
    let first = c.next_loud-i.ensures in
    let few = first.within in
    let many = c.len.ensures in
    let not_end = c.if-i-len.false in
    let end = c.if-next_loud-len.false in
    let many' = c.len-else-i-len.ensures in
    let which = c.tap.ensures in
    let there = c.requires.within i (omega (arith, few, many, not_end)) in
    record {
      within = omega (arith, which, there);
      others = idle_but c.args.u c.tap.result ls ns c.requires (λ k h differs. elim (cases_lt k i) [
        | inl before ↦ first.idle k (omega arith) before
        | inr after ↦ elim (cases_lt i k) [
          | inl behind ↦ c.next_loud.ensures.idle k (omega (arith, behind)) (omega (arith, h, end, many'))
          | inr now ↦ let e : k ≡ i = omega (arith, after, now) in absurd (differs (ap (λ z. get_or ns z 0) e ∙ sym which))
        ]
      ]);
    }
