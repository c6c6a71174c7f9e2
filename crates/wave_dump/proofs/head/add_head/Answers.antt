use Rattle.std.proofs.Common.{codes}
use Rattle.std.proofs.lemmas.Result.{on_ok_weaker}
use Rattle.wave_dump.specs.Dump.{head_of_dump, lines_of_stretch, lines_of_variables}
use Rattle.wave_dump.proofs.Joined.{five_pieces}
use Rattle.wave_dump.proofs.head.add_head.Goals as goal

pub returns : goal.returns
unfolding head_of_dump
returns c =
    on_ok_weaker c.extend-3.result
    (λ e. five_pieces c.args.text.now (lines_of_stretch c.args.from c.args.to) (codes "$scope module net $end\n") (lines_of_variables 0 c.args.names.now) (codes "$upscope $end\n") (codes "$enddefinitions $end\n") c.add_stretch.new.text c.extend.new.self c.add_variables.new.text c.extend-2.new.self c.extend-3.new.self
    c.in_ok-add_stretch.ensures c.in_ok-extend.ensures.ok c.in_ok-add_variables.ensures c.in_ok-extend-2.ensures.ok e)
    c.extend-3.ensures.ok
