use Rattle.std.proofs.Common.{◌≤◌, length, decimal, arith, length-append, rules}
use Rattle.std.proofs.lemmas.Fmt.{length-decimal-le}
use Rattle.collision_log.proofs.line.LineText.number.Goals as goal

pub returns-clause-u32 : goal.returns-clause-u32
returns-clause-u32 c = λ small.
    let short : length (decimal c.args.number) ≤ 10 = search (rules, length-decimal-le 10) in
    rw (c.text.ensures, c.as_bytes.ensures.value, c.format.ensures.text, length-append) (omega arith)
