use Rattle.std.proofs.Common.{◌≡◌, ◌+◌, cond, drop, max, get_or, sym, ap, ◌∙◌, arith, rules}
use Rattle.manchester_line.specs.declared.Sym.TheVariants.{Idle}
use Rattle.manchester_line.specs.Line.{is_signal}
use Rattle.net_step.specs.KeptNet.{over_from}
use Rattle.net_step.proofs.SignalsSettle.{over_more, over_none, over_step}
use Rattle.net_step.proofs.settling.over_from.Goals as goal

pub loop-k-preserved : goal.loop-k-preserved
loop-k-preserved c =
    let k = c.loop-k.k in
    let needs = c.args.needs.now in
    let row = c.args.row.now in
    let one : c.symbol_over.result ≡ cond (is_signal (get_or row k Idle)) (c.args.t + get_or needs k 0 + 1) 0 = c.symbol_over.ensures in
    let more = over_more c.args.t k needs row (omega arith) (omega arith) in
    let greater : c.max-from.result ≡ max c.loop-k.from c.symbol_over.result = search rules in
    over_step c.loop-k.from c.symbol_over.result _ _ _ _ greater (more ∙ ap (λ m. max m (over_from c.args.t (drop (k + 1) needs) (drop (k + 1) row))) (sym one)) c.loop-k.invariant

pub returns : goal.returns
returns c =
    let none = over_none c.args.t c.loop-k.k c.args.needs.now c.args.row.now (omega arith) in
    omega (arith, none, c.loop-k.invariant)
