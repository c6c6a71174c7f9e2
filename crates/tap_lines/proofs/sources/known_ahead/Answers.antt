use Rattle.std.proofs.Common.{◌≡◌, ◌+◌, true, false, get_or, sym, ◌∙◌, arith, rules}
use Rattle.std.proofs.lemmas.List.{get_or_read}
use Rattle.tap_lines.specs.TapLines.{no_line}
use Rattle.tap_lines.proofs.EndsOfSignals.{no_signal}
use Rattle.tap_lines.proofs.HeardClasses.{only_back, own_class}
use Rattle.tap_lines.proofs.sources.known_ahead.Goals as goal

pub returns-then-carrier-clause-longest : goal.returns-then-carrier-clause-longest
returns-then-carrier-clause-longest c = λ less same.
    let carrier : c.args.carrier ≡ true = search rules in
    no_signal (sym carrier ∙ sym same
    ∙ (own_class c.args.lookahead c.args.t c.args.far (c.args.t + 0) c.args.p c.args.source c.args.lines.now c.requires.reach c.requires.tap c.requires.source (omega arith) c.if-source-p.true))

pub returns-else-carrier-clause-known : goal.returns-else-carrier-clause-known
returns-else-carrier-clause-known c = λ j h.
    let carrier : c.args.carrier ≡ false = search rules in
    (own_class c.args.lookahead c.args.t c.args.far (c.args.t + j) c.args.p c.args.source c.args.lines.now c.requires.reach c.requires.tap c.requires.source (omega arith) c.if-source-p.true)
    ∙ sym carrier

pub returns-clause-known : goal.returns-clause-known
returns-clause-known c = λ j h.
    let ls = c.args.lines.now in
    let p = c.args.p in
    let q = c.args.source in
    let only = c.requires.source in
    let tap : c.index-lines-p.result ≡ get_or ls p no_line = get_or_read ls p c.index-lines-p.result c.requires.tap c.index-lines-p.is no_line in
    let line : c.index-lines-source.result ≡ get_or ls q no_line = get_or_read ls q c.index-lines-source.result only.within c.index-lines-source.is no_line in
    (only_back c.args.lookahead c.args.t c.args.far (c.args.t + j) p q c.place.result c.back-back.result ls c.index-lines-p.result c.index-lines-source.result
    c.requires.reach c.requires.tap only (omega arith) c.if-source-p.false tap line c.place.ensures c.back-back.ensures)
    ∙ c.steady_back.ensures.steady j h

pub returns-clause-longest : goal.returns-clause-longest
returns-clause-longest c = λ less same.
    let ls = c.args.lines.now in
    let p = c.args.p in
    let q = c.args.source in
    let only = c.requires.source in
    let j = c.steady_back.result in
    let tap : c.index-lines-p.result ≡ get_or ls p no_line = get_or_read ls p c.index-lines-p.result c.requires.tap c.index-lines-p.is no_line in
    let line : c.index-lines-source.result ≡ get_or ls q no_line = get_or_read ls q c.index-lines-source.result only.within c.index-lines-source.is no_line in
    c.steady_back.ensures.longest less
    ((sym (only_back c.args.lookahead c.args.t c.args.far (c.args.t + j) p q c.place.result c.back-back.result ls c.index-lines-p.result c.index-lines-source.result
    c.requires.reach c.requires.tap only (omega arith) c.if-source-p.false tap line c.place.ensures c.back-back.ensures))
    ∙ same)
