use Rattle.std.proofs.Common.{◌+◌, ◌≤◌, sym, ◌∙◌, arith}
use Rattle.mac_parameters.specs.Parameters.{fragment_extension}
use Rattle.repeater_core.proofs.LaterTexts.{count_later, wrapped_near, wrapped_far}
use Rattle.repeater_core.proofs.texts.later_count.Goals as goal

pub returns-then-i-n-lt-FRAGMENT_EXTENSION : goal.returns-then-i-n-lt-FRAGMENT_EXTENSION
returns-then-i-n-lt-FRAGMENT_EXTENSION c =
    sym (count_later c.args.n c.args.i c.requires.count ∙ wrapped_near (c.args.i + c.args.n) c.if-i-n-lt-FRAGMENT_EXTENSION.true)

pub returns-else-i-n-lt-FRAGMENT_EXTENSION : goal.returns-else-i-n-lt-FRAGMENT_EXTENSION
returns-else-i-n-lt-FRAGMENT_EXTENSION c =
    let far : fragment_extension ≤ c.args.i + c.args.n = (let no = c.if-i-n-lt-FRAGMENT_EXTENSION.false in omega arith) in
    sym (count_later c.args.n c.args.i c.requires.count ∙ wrapped_far (c.args.i + c.args.n) far)
