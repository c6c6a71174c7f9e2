use Rattle.std.proofs.Common.{◌≡◌, ◌+◌, ◌-◌, get_or, sym, subst, arith, rules, IfSome}
use Rattle.std.proofs.lemmas.List.{get_or_read}
use Rattle.network.specs.Times.{earlier}
use Rattle.tap_lines.specs.TapLines.{no_line, symbol_on, heard_by_lines, IsOnlySource}
use Rattle.tap_lines.proofs.HeardLines.{heard_back}
use Rattle.tap_lines.proofs.LinesAhead.{span_alike}
use Rattle.tap_lines.proofs.sources.piece_of.Goals as goal

pub returns-clause-piece : goal.returns-clause-piece
returns-clause-piece c =
    let ls = c.args.lines.now in
    let p = c.args.p in
    let q = c.in-Some.q in
    let t = c.args.t in
    let L = c.args.lookahead in
    let only : IsOnlySource (t - c.args.far) ls q = search rules in
    let tap : c.index-lines-p.result ≡ get_or ls p no_line = get_or_read ls p c.index-lines-p.result c.requires.tap c.index-lines-p.is no_line in
    let line : c.index-lines-q.result ≡ get_or ls q no_line = get_or_read ls q c.index-lines-q.result only.within c.index-lines-q.is no_line in
    subst (λ xs. IfSome c.written_back.result (λ piece. piece.now ≡ xs))
    (span_alike (λ u. earlier (symbol_on c.index-lines-q.result) u c.back-back.result) (λ u. heard_by_lines L u ls p) t t c.args.count (λ i h.
    sym (heard_back L t c.args.far (t + i) p q c.place.result c.back-back.result ls c.index-lines-p.result c.index-lines-q.result
    c.requires.reach c.requires.tap only (omega arith) c.if-q-p.false tap line c.place.ensures c.back-back.ensures)))
    c.written_back.ensures.piece
