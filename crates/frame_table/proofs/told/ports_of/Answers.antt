use Rattle.std.proofs.Common.{◌≡◌, ◌+◌, [], length, ap, arith}
use Rattle.std.proofs.lemmas.List.{length_push}
use Rattle.frame_table.specs.Ports.{changes_of}
use Rattle.frame_table.proofs.ToldSteps.{each_at}
use Rattle.frame_table.proofs.told.ports_of.Goals as goal

pub loop-p-init : goal.loop-p-init
loop-p-init c = record {
  count = ap length c.new-ports.ensures;
  each = λ p lt. absurd (omega arith);
}

pub loop-p-preserved : goal.loop-p-preserved
loop-p-preserved c =
    let old = c.loop-p.ports in
    let more = c.in_ok-changes_of.field-0 in
    record {
      count = omega (arith, ap length c.in_ok-push.ensures.ok, length_push old more, c.loop-p.invariant.count);
      each = each_at (λ q cs. cs ≡ changes_of (q + 1) c.args.events.now) [] old c.push.new.self more c.loop-p.p c.loop-p.invariant.count c.in_ok-push.ensures.ok c.loop-p.invariant.each c.in_ok-changes_of.ensures;
    }

pub returns-clause-each : goal.returns-clause-each
returns-clause-each c = λ p lt. c.loop-p.invariant.each p (omega arith)
