use Rattle.std.proofs.Common.{◌-◌, length, ap, ◌∙◌, inr, arith}
use Rattle.line_probe.proofs.Columns.{rows_short}
use Rattle.netsim.proofs.probe.tell_taps.Goals as goal

pub write_taps-requires-clause-heard : goal.write_taps-requires-clause-heard
write_taps-requires-clause-heard g c =
    record {
      plan = c.args.plan.now;
      all = c.args.taps.now;
      n = c.from-end.result - c.from-begin.result;
      are = c.in_ok-heard-in-Runs.ensures;
      many = c.requires.named;
      within = omega (arith, c.from-end.ensures, c.from-begin.ensures, c.requires.late, c.requires.order);
    }

pub write_taps-requires-clause-short : goal.write_taps-requires-clause-short
write_taps-requires-clause-short g c =
    omega (arith, ap length c.in_ok-heard-in-Runs.ensures, rows_short c.args.plan.now c.args.taps.now c.from-begin.result (c.from-end.result - c.from-begin.result) c.requires.few, c.from-end.ensures, c.from-begin.ensures, c.requires.short, c.requires.late, c.requires.order)

pub returns-in_ok-heard-in-Runs-clause-told : goal.returns-in_ok-heard-in-Runs-clause-told
returns-in_ok-heard-in-Runs-clause-told g c =
    let told = c.write_taps.ensures.told c.args.plan.now c.args.taps.now (c.from-end.result - c.from-begin.result) c.in_ok-heard-in-Runs.ensures c.requires.named in
    rw c.in-Runs.is (inr (rw (c.from-begin.ensures, c.from-end.ensures) at told))

pub returns-in_ok-text-in-Waves-clause-told : goal.returns-in_ok-text-in-Waves-clause-told
returns-in_ok-text-in-Waves-clause-told g c =
    let is = c.as_slice.ensures ∙ c.in_ok-text-in-Waves.ensures in
    rw c.in-Waves.is (inr (c.as_slice.result.now, rw (c.from-begin.ensures, c.from-end.ensures) at is, c.tell.ensures.told.0))
