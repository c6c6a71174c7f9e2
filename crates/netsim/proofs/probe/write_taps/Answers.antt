use Rattle.std.proofs.Common.{Err, ℕ, List, get_or, length, ◌≡◌, ◌∙◌, arith, rules}
use Rattle.load_plan.specs.declared.plan.Plan.{Plan}
use Rattle.line_probe.specs.Heard.{rows_of_taps}
use Rattle.line_probe.specs.declared.tap.Tap.{Tap}
use Rattle.report_texts.specs.HeardTexts.{IsTextOfTap}
use Rattle.netsim.proofs.ProbeEnds.{cut_by, cut_with}
use Rattle.netsim.proofs.TapTexts.{text_at, told_cut, told_more, told_unmade}
use Rattle.netsim.proofs.probe.write_taps.Given.{Over}
use Rattle.netsim.proofs.probe.write_taps.Goals.{After-tell}
use Rattle.netsim.proofs.probe.write_taps.Goals as goal

abbrev no_tap : Tap
no_tap = record { device = 0; port = 0 }

-- the text that was to be written is that of the next word's tap
next_text : (g : Over) (c : After-tell g) (plan : Plan) (taps : List Tap) (n : ℕ) → c.args.heard.now ≡ rows_of_taps plan taps c.args.from n → length taps ≡ length c.args.words.now
    → IsTextOfTap plan c.args.from n (get_or c.args.words.now c.loop-k.k c.index-words-k.result) (get_or taps c.loop-k.k no_tap) c.as_slice.result.now
next_text g c plan taps n is many =
    text_at plan c.args.from n c.as_str.result.now (get_or c.args.words.now c.loop-k.k c.index-words-k.result) (get_or taps c.loop-k.k no_tap) c.in_ok-text.text c.as_slice.result.now (c.as_str.ensures ∙ c.index-words-k.is) c.as_slice.ensures
    (c.in_ok-text.ensures plan taps n no_tap is many)

pub returns-in_err-text-clause-told : goal.returns-in_err-text-clause-told
returns-in_err-text-clause-told g c plan taps n is many =
    let unmade = told_unmade plan c.args.from n c.loop-k.k c.args.words.now taps no_tap c.index-words-k.result c.args.world.now.written c.loop-k.world.written c.loop-k-test.true many (c.loop-k.invariant.told plan taps n is many) in
    search rules

pub returns-in_err-tell-clause-told : goal.returns-in_err-tell-clause-told
returns-in_err-tell-clause-told g c plan taps n is many =
    let e = c.in_err-tell.field-0.0 in
    let stopped : c.from_residual-in_err-tell.result ≡ Err e = search rules in
    let cut = told_cut plan c.args.from n c.loop-k.k c.args.words.now taps no_tap c.index-words-k.result c.as_slice.result.now c.args.world.now.written c.loop-k.world.written c.tell.new.self.written
    c.loop-k-test.true many (c.loop-k.invariant.told plan taps n is many) (next_text g (goal.at.returns-in_err-tell-clause-told g c).After-tell plan taps n is many) (cut_by c.as_slice.result.now c.loop-k.world c.tell.new.self e c.in_err-tell.ensures.told.0 c.in_err-tell.ensures.failed) in
    rw stopped (cut.0, cut.1, cut_with cut.0 c.as_slice.result.now c.args.world.now c.loop-k.world c.tell.new.self e cut.2 c.loop-k.invariant.faults c.in_err-tell.ensures.told.0 c.in_err-tell.ensures.failed)

pub loop-k-preserved : goal.loop-k-preserved
loop-k-preserved g c = record {
  told = λ plan taps n is many.
      told_more plan c.args.from n c.loop-k.k c.args.words.now taps no_tap c.index-words-k.result c.as_slice.result.now c.args.world.now.written c.loop-k.world.written c.tell.new.self.written
      c.loop-k-test.true many (c.loop-k.invariant.told plan taps n is many) (next_text g (goal.at.loop-k-preserved g c).After-tell plan taps n is many) c.in_ok-tell.ensures.told.0;
  faults = omega (arith, c.loop-k.invariant.faults, c.tell.ensures.faults);
  held = c.in_ok-tell.ensures.told.1 ∙ c.loop-k.invariant.held;
}
