use Rattle.std.proofs.Common.{◌≡◌, ℕ, List, ◌++◌, map, length, length-take-le, take, drop, sym, subst, ap, ◌∙◌, arith}
use Rattle.std.proofs.Math.Seq.{take-append_seam}
use Rattle.manchester_line.specs.declared.Sym.{Sym}
use Rattle.manchester_line.specs.Line.{is_signal}
use Rattle.repeater_core.specs.declared.modes.Mode.{Mode}
use Rattle.repeater_core.specs.Classes.{AreHeardAs, AreSteadyRows, DecideTexts, IsSource}
use Rattle.repeater_core.specs.Step.{emitted_by, decided_by}
use Rattle.repeater_engine.specs.LeapedHalfBits.{rows_brought}
use Rattle.repeater_engine.proofs.ClassesOfRows.{of_source, heard_as}
use Rattle.repeater_engine.proofs.leaps.leap_over.Goals.{After-leap_classes}
use Rattle.repeater_engine.proofs.leaps.leap_over.Goals as goal

-- a list that is written over from its beginning
overwritten : (n : ℕ) (new old : List Sym) → length new ≡ n → take n (new ++ drop n old) ≡ new
overwritten n new old e = ap (λ m. take m (new ++ drop n old)) (sym e) ∙ take-append_seam new (drop n old)

pub leap_classes-requires-clause-source : goal.leap_classes-requires-clause-source
leap_classes-requires-clause-source c =
    let rows = rows_brought c.args.k c.args.m c.args.parcels.now in
    let text = c.repeated-text.result.now in
    of_source c.args.repeater.now.mode c.args.heard.now text rows c.requires.alike (subst (λ (m : Mode). IsSource m text rows) c.mode.ensures c.repeated-text.ensures.source)

pub leap_classes-requires-clause-steady : goal.leap_classes-requires-clause-steady
leap_classes-requires-clause-steady c = λ j l. c.requires.steady j (omega (arith, l, c.repeated-text.ensures.len))

rows_are : (c : After-leap_classes) → AreHeardAs c.args.heard.now c.args.repeater.now.mode c.repeated-text.result.now (rows_brought c.args.k c.args.m c.args.parcels.now)
rows_are c =
    let rows = rows_brought c.args.k c.args.m c.args.parcels.now in
    let text = c.repeated-text.result.now in
    heard_as c.args.repeater.now.mode c.args.heard.now text c.args.parcels.now c.args.k c.args.m c.repeated-text.ensures.len c.requires.alike
    (subst (λ (m : Mode). IsSource m text rows) c.mode.ensures c.repeated-text.ensures.source)

decided_is : (c : After-leap_classes) → c.leap_classes.new.decided ≡ decided_by c.args.heard.now c.args.repeater.now
decided_is c = c.leap_classes.ensures.decided (omega (arith, c.requires.some, c.repeated-text.ensures.len))

pub returns-clause-state : goal.returns-clause-state
returns-clause-state c =
    let at = (goal.at.returns-clause-state c).After-leap_classes in
    c.leap_classes.ensures.state (rows_brought c.args.k c.args.m c.args.parcels.now) (rows_are at)

pub returns-clause-emitted : goal.returns-clause-emitted
returns-clause-emitted c = c.leap_classes.ensures.emits (omega (arith, c.requires.some, c.repeated-text.ensures.len))

pub returns-clause-decided : goal.returns-clause-decided
returns-clause-decided c = decided_is (goal.at.returns-clause-decided c).After-leap_classes

pub returns-clause-steps : goal.returns-clause-steps
returns-clause-steps c =
    let at = (goal.at.returns-clause-steps c).After-leap_classes in
    let rows = rows_brought c.args.k c.args.m c.args.parcels.now in
    let r = c.args.repeater.now in
    subst (λ (xs : List Sym). AreSteadyRows rows (map is_signal (emitted_by r)) (map is_signal xs) r) (sym (decided_is at)) (c.leap_classes.ensures.steps rows (rows_are at))

pub returns-clause-decisions : goal.returns-clause-decisions
returns-clause-decisions c =
    let at = (goal.at.returns-clause-decisions c).After-leap_classes in
    let rows = rows_brought c.args.k c.args.m c.args.parcels.now in
    let r = c.args.repeater.now in
    let size : length c.leap_classes.new.sent ≡ c.args.m = omega (arith, c.leap_classes.auto.sent, length-take-le c.args.m c.args.sent.now (omega arith)) in
    let first = subst (λ (xs : List Sym). DecideTexts rows (map is_signal xs) c.leap_classes.new.sent r) (sym (decided_is at)) (c.leap_classes.ensures.decisions rows (rows_are at)) in
    subst (λ (xs : List Sym). DecideTexts rows (map is_signal c.leap_classes.new.decided) xs r) (sym (overwritten c.args.m c.leap_classes.new.sent c.args.sent.now size)) first
