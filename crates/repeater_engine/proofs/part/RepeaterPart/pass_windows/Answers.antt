use Rattle.std.proofs.Common.{◌≡◌, ◌*◌, ap, ◌∙◌, arith}
use Rattle.std.proofs.lemmas.Bool.{false≢true}
use Rattle.net_parts.specs.Windows.{lookahead}
use Rattle.repeater_engine.proofs.SilentRuns.{part_later}
use Rattle.repeater_engine.proofs.part.RepeaterPart.pass_windows.Goals as goal

pub invariant_of-self : goal.invariant_of-self
invariant_of-self c =
    let s = c.args.self.now in
    let last = c.requires.within in
    let many : c.args.count * c.from.result ≡ c.args.count * lookahead s.plan.value.layout = ap (λ l. c.args.count * l) (c.from.ensures ∙ s.is_part.lead_is) in
    record {
      is_part = s.is_part;
      begun = omega (arith, last);
      stands = record {
        device = c.pass.ensures.device ∙ s.stands.device;
        state = part_later s.plan.value s.part s.repeater s.window s.is_part.number s.is_part.within (omega (arith, last)) s.engine.state s.stands.state c.args.count (c.args.count * c.from.result) c.pass.new.self.state last many c.requires.calm c.requires.silent c.pass.ensures.state;
      };
      room = λ h. absurd (false≢true h);
    }
