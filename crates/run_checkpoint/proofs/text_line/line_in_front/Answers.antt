use Rattle.std.proofs.Common.{arith, sym, ◌∙◌}
use Rattle.run_checkpoint.proofs.LinesApart.{front_of, last_line, no_text, some_text}
use Rattle.run_checkpoint.proofs.text_line.line_in_front.Goals as goal

pub returns-then-is_empty-clause-none : goal.returns-then-is_empty-clause-none
returns-then-is_empty-clause-none c = no_text c.args.octets.now (sym c.is_empty.ensures ∙ c.if-is_empty.true)

pub returns-then-end-octets-clause-some : goal.returns-then-end-octets-clause-some
returns-then-end-octets-clause-some c =
    last_line c.args.octets.now (some_text c.args.octets.now (sym c.is_empty.ensures ∙ c.if-is_empty.false)) (omega (arith, c.feed_place-end.ensures.len, c.if-end-octets.true))

pub returns-clause-some : goal.returns-clause-some
returns-clause-some c = front_of c.args.octets.now c.feed_place-end.result c.feed_place-end.ensures.len (omega (arith, c.feed_place-end.ensures.within, c.if-end-octets.false))
