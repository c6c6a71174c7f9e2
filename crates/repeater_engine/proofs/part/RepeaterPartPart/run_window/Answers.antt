use Rattle.std.proofs.Common.{◌≡◌, ◌+◌, map, ap, ◌∙◌}
use Rattle.net_parts.specs.RepeaterParts.{RepeaterState}
use Rattle.net_parts.specs.Windows.{time}
use Rattle.repeater_engine.specs.KeptRepeaters.{turned_to_segment}
use Rattle.repeater_engine.proofs.RepeatersAsParts.{arrived_is, refilled_is}
use Rattle.repeater_engine.proofs.part.RepeaterPartPart.run_window.Goals as goal

pub make_window-requires-clause-parcels : goal.make_window-requires-clause-parcels
make_window-requires-clause-parcels c =
    let s = c.args.self.now in
    let first : s.engine.state.t ≡ time s.plan.value s.window = ap (λ (x : RepeaterState). x.t) s.stands.state in
    c.requires.parcels
    ∙ arrived_is s.plan.value s.part s.repeater s.is_part.number s.is_part.within s.window s.engine.state.t c.half_bits_of_window-half_bits.result c.requires.window first c.half_bits_of_window-half_bits.ensures

pub returns-clause-parcels : goal.returns-clause-parcels
returns-clause-parcels c =
    let s = c.args.self.now in
    let first : s.engine.state.t ≡ time s.plan.value s.window = ap (λ (x : RepeaterState). x.t) s.stands.state in
    c.turn_all.ensures
    ∙ ap (map (turned_to_segment (s.window + 1))) c.make_window.ensures.parcels
    ∙ refilled_is s.plan.value s.part s.repeater s.is_part.number s.is_part.within s.window s.engine.state.t c.half_bits_of_window-half_bits.result c.requires.window first c.half_bits_of_window-half_bits.ensures
