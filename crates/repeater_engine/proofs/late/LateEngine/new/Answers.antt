use Rattle.std.proofs.Common.{refl, arith, rules}
use Rattle.repeater_engine.proofs.late.LateEngine.new.Goals as goal

pub invariant_of-result : goal.invariant_of-result
invariant_of-result c = record {
  sending = λ l. absurd (omega (arith, l, c.in_ok-new.ensures.steady));
  within = omega arith;
  aside = λ l. absurd (omega (arith, l));
  ports = refl;
  few = omega arith;
  hearing = search rules;
  sending_room = search rules;
}
