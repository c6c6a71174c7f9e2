use Rattle.std.proofs.Common.{refl, sym}
use Rattle.log_meter.specs.Entries.{line_of}
use Rattle.log_meter.proofs.LinesRead.{line_is_there, more_after, nothing_read, some_left, whole_is_line}
use Rattle.log_meter.proofs.line.read_line.Goals as goal

pub returns-in_default-clause-bad : goal.returns-in_default-clause-bad
returns-in_default-clause-bad c = (λ _ l grammar e. nothing_read c.args.line.now l c.in_default.ensures grammar e, λ _. refl)

pub returns-then-not-is_empty-clause-bad : goal.returns-then-not-is_empty-clause-bad
returns-then-not-is_empty-clause-bad c =
    (λ _ l grammar e. more_after c.args.line.now (line_of c.in-Some.entry) c.in-Some.rest.now l c.in-Some.ensures (some_left c.in-Some.rest.now (sym c.if-not-is_empty.ensures)) grammar e, λ _. refl)

pub returns-in_default-kept-clause-bad : goal.returns-in_default-kept-clause-bad
returns-in_default-kept-clause-bad c =
    line_is_there c.args.line.now (line_of c.in-Some.entry) c.in-Some.rest.now _ c.in-Some.ensures (sym c.if-not-is_empty.ensures) (λ e. cc e)

pub returns-clause-line : goal.returns-clause-line
returns-clause-line c =
    let is = whole_is_line c.args.line.now (line_of c.in-Some.entry) c.in-Some.rest.now c.in-Some.ensures (sym c.if-not-is_empty.ensures) in
    rw c.in-Ok.ensures is

pub returns-clause-bad : goal.returns-clause-bad
returns-clause-bad c =
    line_is_there c.args.line.now (line_of c.in-Some.entry) c.in-Some.rest.now _ c.in-Some.ensures (sym c.if-not-is_empty.ensures) (λ e. cc e)
