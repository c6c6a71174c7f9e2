use Rattle.std.proofs.Common.{◌∙◌, sym, arith}
use Rattle.report_texts.proofs.HeardLines.{probed_many}
use Rattle.report_texts.proofs.wave_texts.text_of_waves.Goals as goal

pub waves_text-requires-clause-names : goal.waves_text-requires-clause-names
waves_text-requires-clause-names c = sym (probed_many c.args.plan.now c.args.from c.args.to c.args.taps.now c.in_ok-lists.lists c.in_ok-lists.ensures.probed ∙ c.requires.named)

pub waves_text-requires-clause-few : goal.waves_text-requires-clause-few
waves_text-requires-clause-few c = omega (arith, probed_many c.args.plan.now c.args.from c.args.to c.args.taps.now c.in_ok-lists.lists c.in_ok-lists.ensures.probed, c.requires.few)
