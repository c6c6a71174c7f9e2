use Rattle.std.proofs.Common.{ℕ, ap, ◌∙◌}
use Rattle.net_parts.specs.Standing.{repeater_at}
use Rattle.net_parts.specs.RepeaterParts.{RepeaterState}
use Rattle.net_parts.specs.Windows.{time}
use Rattle.repeater_engine.proofs.RepeatersAsParts.{rows_out}
use Rattle.repeater_engine.proofs.part.RepeaterPart.take_out.Goals as goal

pub returns-clause-rows : goal.returns-clause-rows
returns-clause-rows c = λ last.
    let s = c.args.self in
    c.in_ok-outputs.ensures.rows
    ∙ ap (λ (x : RepeaterState). x.rows) s.stands.state
    ∙ ap (λ (w : ℕ). (repeater_at s.plan.value s.repeater (time s.plan.value w)).rows) last
    ∙ rows_out s.plan.value s.part s.repeater s.is_part.number s.is_part.within
