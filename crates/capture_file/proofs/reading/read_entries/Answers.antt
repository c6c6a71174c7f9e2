use Rattle.std.proofs.Common.{◌∙◌, ap, length, take, length-append, rules, arith}
use Rattle.std.proofs.lemmas.List.{take-append-le, take_all}
use Rattle.capture_file.specs.declared.entries.Record.{Record}
use Rattle.capture_file.specs.Captures.{records_in}
use Rattle.capture_file.specs.Reading.{walked}
use Rattle.capture_file.proofs.Walk.{rest_is_short, rest_is_last}
use Rattle.capture_file.proofs.reading.read_entries.Goals as goal

pub returns-then-not-is_long-clause-to : goal.returns-then-not-is_long-clause-to
unfolding walked
returns-then-not-is_long-clause-to c =
    let old = c.args.records.now in
    let more = records_in c.args.form 0 c.args.octets.now in (
      search (rules, rest_is_short, rest_is_last),
      search (rules, rest_is_short, rest_is_last),
      omega (arith, c.in_ok-rest.ensures.room, ap (length {A = Record}) c.in_ok-rest.ensures.records, length-append old more),
      search (rules, rest_is_short, rest_is_last),
      search (rules, rest_is_short, rest_is_last),
      search (rules, rest_is_short, rest_is_last),
      λ some. ap (take (length old)) c.in_ok-rest.ensures.records ∙ take-append-le (length old) old more (omega arith) ∙ take_all (length old) old (omega arith),
    )
