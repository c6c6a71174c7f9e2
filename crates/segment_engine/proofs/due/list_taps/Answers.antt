use Rattle.std.proofs.Common.{◌-◌, subst, arith}
use Rattle.tap_lines.specs.TapLists.{AreIdleButFor}
use Rattle.tap_lines.proofs.LoudLists.{later_idle}
use Rattle.segment_engine.proofs.due.list_taps.Goals as goal

pub find_among-requires-clause-idle : goal.find_among-requires-clause-idle
find_among-requires-clause-idle c =
    let begun = c.requires.begun in
    let early = c.saturating_sub.ensures in
    let late = c.saturating_sub-2.ensures in
    later_idle _ _ c.args.lines.now c.find.new.self.taps (omega (arith, begun, early, late)) c.find.ensures.loud.idle

pub returns-clause-loud : goal.returns-clause-loud
returns-clause-loud c = subst (λ v. AreIdleButFor v c.args.lines.now c.find_among.new.self.taps) c.saturating_sub-2.ensures c.find_among.ensures.loud.idle

pub returns-clause-late : goal.returns-clause-late
returns-clause-late c = subst (λ v. AreIdleButFor v c.args.lines.now c.find.new.self.taps) c.saturating_sub.ensures c.find.ensures.loud.idle
