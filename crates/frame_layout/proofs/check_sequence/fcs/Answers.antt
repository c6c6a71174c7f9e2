use Rattle.std.proofs.Common.{◌≡◌, ◌<◌, ◌%◌, get_or, refl, sym, ◌∙◌, arith, rules}
use Rattle.std.specs.Prelude.{bit_xor}
use Rattle.std.specs.Fn.{iterate}
use Rattle.std.proofs.lemmas.List.{at_drop_all}
use Rattle.frame_layout.specs.Division.{bits}
use Rattle.frame_layout.specs.Register.{turned, turned_all}
use Rattle.frame_layout.proofs.Octets.{fed_octet, fcs_is}
use Rattle.frame_layout.proofs.check_sequence.fcs.Goals as goal

pub loop-octet-preserved : goal.loop-octet-preserved
loop-octet-preserved c =
    let i = c.loop-octet.octet-index in
    let reg = c.loop-octet.register in
    let o = get_or c.args.octets.now i 0 in
    let small : o < 256 = search (rules, c.type_inv.octets i) in
    let t : c.eight_steps.result ≡ iterate turned 8 (bit_xor reg o % 256) = rw c.from.ensures at c.eight_steps.ensures in
    fed_octet c.args.octets.now i reg o c.eight_steps.result c.loop-octet-test.true refl small t ∙ c.loop-octet.invariant

pub returns : goal.returns
returns c =
    let octets = c.args.octets.now in
    let reg = c.loop-octet.register in
    let last : reg ≡ turned_all 4294967295 (bits octets) = sym (at_drop_all (λ xs. turned_all reg (bits xs)) octets c.loop-octet.octet-index (omega arith)) ∙ c.loop-octet.invariant in
    omega (arith, fcs_is octets, last)
