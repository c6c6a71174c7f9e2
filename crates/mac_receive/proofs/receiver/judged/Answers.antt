use Rattle.std.proofs.Common.{◌∙◌, sym, ap}
use Rattle.manchester_line.specs.Reading.{reading}
use Rattle.mac_receive.specs.Receiver.{judged_row}
use Rattle.mac_receive.proofs.RowsOfReceptions.{whole_row}
use Rattle.mac_receive.proofs.receiver.judged.Goals as goal

pub returns : goal.returns
returns c = λ given h.
    whole_row (reading given) c.octets.result.now c.heard-heard.result.spare c.heard-heard.result.octets c.args.most c.args.halves c.row_of.result
    (sym (c.heard-heard.ensures.spoiled given h) ∙ c.if-heard.false) c.requires
    (λ bits is. c.octets.ensures.first given bits h is)
    (λ bits is. c.heard-heard.ensures.spare given bits h is)
    (λ bits is. c.heard-heard.ensures.octets given bits h is)
    (c.row_of.ensures ∙ ap (λ v. judged_row v c.heard-heard.result.octets c.args.halves) c.judge_up_to-verdict.ensures)
