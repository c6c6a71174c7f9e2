use Rattle.std.proofs.Common.{◌+◌, length-set, set, get_or, get_or-set_same, ap, ◌∙◌, arith}
use Rattle.std.proofs.lemmas.List.{get_or-set_other, get_or_default}
use Rattle.tap_lines.specs.TapLines.{no_line, goes_on, line_extended}
use Rattle.segment_engine.proofs.ArrivedLines.{all_alike, arrived_alike, stand_alike, stand_lowered}
use Rattle.segment_engine.proofs.apart.arrive_one.Goals as goal

pub returns-then-same-symbols-clause-stands : goal.returns-then-same-symbols-clause-stands
returns-then-same-symbols-clause-stands c = λ from i w s k h other is.
    let r = c.args.r in
    let ls = c.args.lines.now in
    let ss = c.args.symbols.now in
    let line = c.go_on.new.self in
    let there = c.requires.tap in
    let read = get_or_default ls r c.index-lines-r.result no_line there in
    let own = get_or-set_same ls r line no_line there ∙ c.go_on.ensures ∙ ap (λ l. line_extended l ss) read in
    let all = c.if-same-symbols.true in
    stand_alike c.args.of.now from c.args.t i r ls (set ls r line) (get_or c.args.watches.now i w) s k
    (all_alike r ls (set ls r line) ss (length-set ls r line) own (λ q d e. get_or-set_other ls r q line d e)
    (λ j l. c.alike_first-same.ensures.alike j (omega (arith, l, all)) ∙ ap goes_on read))
    other is

pub returns-clause-stands : goal.returns-clause-stands
returns-clause-stands c = λ from i w s k h other is.
    let r = c.args.r in
    let t = c.args.t in
    let ls = c.args.lines.now in
    let ss = c.args.symbols.now in
    let line = c.extend.new.self in
    let same = c.alike_first-same.result in
    let there = c.requires.tap in
    let read = get_or_default ls r c.index-lines-r.result no_line there in
    let own = get_or-set_same ls r line no_line there ∙ c.extend.ensures ∙ ap (λ l. line_extended l ss) read in
    let size = c.lower_all.auto.watches in
    stand_lowered c.args.of.now from t (t + same) i r ls (set ls r line) (get_or c.args.watches.now i w) (get_or c.lower_all.new.watches i w) s k
    (arrived_alike r ls (set ls r line) ss (length-set ls r line) own (λ q d e. get_or-set_other ls r q line d e) t same c.requires.ended c.alike_first-same.ensures.within
    (λ j l. c.alike_first-same.ensures.alike j l ∙ ap goes_on read))
    (omega arith) other (c.lower_all.ensures i w (omega (arith, h, size))) is
