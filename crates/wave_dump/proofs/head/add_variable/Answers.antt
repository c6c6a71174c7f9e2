use Rattle.std.proofs.Common.{◌++◌, ◌∙◌, ap, codes}
use Rattle.std.proofs.lemmas.Result.{on_ok_weaker}
use Rattle.wave_dump.specs.Dump.{line_of_variable}
use Rattle.wave_dump.specs.Values.{code_of_tap}
use Rattle.wave_dump.proofs.Joined.{five_pieces}
use Rattle.wave_dump.proofs.head.add_variable.Goals as goal

pub returns : goal.returns
unfolding line_of_variable
returns c =
    on_ok_weaker c.extend-4.result
    (λ e. five_pieces c.args.text.now (codes "$var wire 1 ") (code_of_tap c.args.k) (codes " ") c.args.name.now (codes " $end\n") c.extend.new.self c.add_code.new.text c.extend-2.new.self c.extend-3.new.self c.extend-4.new.self
    c.in_ok-extend.ensures.ok c.in_ok-add_code.ensures c.in_ok-extend-2.ensures.ok (c.in_ok-extend-3.ensures.ok ∙ ap (λ xs. c.extend-2.new.self ++ xs) (c.as_bytes.ensures.value ∙ c.as_str.ensures)) e)
    c.extend-4.ensures.ok
