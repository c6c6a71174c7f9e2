use Rattle.std.proofs.Common.{◌≡◌, ◌<◌, length, length-set, get_or, ap, ◌∙◌, arith}
use Rattle.std.proofs.lemmas.List.{get_or_read}
use Rattle.tap_lines.specs.TapLines.{no_line, class_on}
use Rattle.tap_lines.proofs.LoudLists.{listed_loud, listed_all}
use Rattle.tap_lines.proofs.loud.write_loud.Goals as goal

pub loop-r-preserved : goal.loop-r-preserved
loop-r-preserved c =
    let ls = c.args.lines.now in
    let ns = c.loop-r.numbers in
    let n = c.loop-r.count in
    let r = c.loop-r.r in
    let inv = c.loop-r.invariant in
    let in_it = c.loop-r-test.true in
    let is : c.index-lines-r.result ≡ get_or ls r no_line = get_or_read ls r c.index-lines-r.result in_it c.index-lines-r.is no_line in
    let room : n < length ns = let few = inv.so_far.few in let len = inv.len in let fits = c.requires in omega (arith, few, len, fits, in_it) in
    record {
      len = length-set ns n r ∙ inv.len;
      so_far = listed_loud c.args.u ls ns n r inv.so_far room
          (λ idle. c.is_quiet_from.ensures.loud c.if-is_quiet_from.false (λ v after. ap (λ l. class_on l v) is ∙ idle v after));
    }

pub returns-clause-loud : goal.returns-clause-loud
returns-clause-loud c =
    let ls = c.args.lines.now in
    let inv = c.loop-r.invariant in
    let few = inv.so_far.few in
    let len = inv.len in
    let fits = c.requires in
    let ended = c.loop-r-test.false in
    let auto = c.loop-r.auto.r-end in
    listed_all c.args.u c.loop-r.count c.loop-r.r ls c.loop-r.numbers inv.so_far (omega (arith, ended, auto)) (omega (arith, few, len, fits, ended, auto))
