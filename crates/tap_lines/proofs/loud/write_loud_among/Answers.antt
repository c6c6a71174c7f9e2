use Rattle.std.proofs.Common.{◌<◌, ◌+◌, set, length, length-set, get_or, sym, subst, ap, ◌∙◌, arith}
use Rattle.std.proofs.lemmas.List.{get_or_read}
use Rattle.tap_lines.specs.TapLines.{no_line, IsIdleFrom}
use Rattle.tap_lines.proofs.AmongLists.{AmongTo, among_all, among_idle, among_loud, among_room}
use Rattle.tap_lines.proofs.loud.write_loud_among.Goals as goal

pub loop-i-preserved-then-is_quiet_from : goal.loop-i-preserved-then-is_quiet_from
loop-i-preserved-then-is_quiet_from c =
    let ls = c.args.lines.now in
    let ms = c.args.among.now.taps in
    let i = c.loop-i.i in
    let test = c.loop-i-test.true in
    let many = c.len-i-end.ensures in
    let in_it : i < length ms = omega (arith, test, many) in
    let which = c.tap-q.ensures in
    let there = c.requires.idle.within i in_it in
    let is = get_or_read ls c.tap-q.result c.index-lines-q.result (omega (arith, which, there)) c.index-lines-q.is no_line in
    record {
      len = c.loop-i.invariant.len;
      few = c.loop-i.invariant.few;
      so_far = among_idle c.args.u i c.loop-i.count ls ms c.loop-i.numbers c.requires.idle in_it
          (subst (IsIdleFrom c.args.u) (is ∙ ap (λ k. get_or ls k no_line) which) (c.is_quiet_from.ensures.quiet c.if-is_quiet_from.true)) c.loop-i.invariant.so_far;
    }

pub bounds-numbers-count : goal.bounds-numbers-count
bounds-numbers-count c =
    let test = c.loop-i-test.true in
    let many = c.len-i-end.ensures in
    let fits = c.requires.room in
    let len = c.loop-i.invariant.len in
    let less = among_room c.args.u c.loop-i.i c.loop-i.count c.args.lines.now c.args.among.now.taps c.loop-i.numbers c.requires.idle (omega (arith, test, many)) c.loop-i.invariant.so_far in
    omega (arith, less, fits, len)

pub loop-i-preserved : goal.loop-i-preserved
loop-i-preserved c =
    let ls = c.args.lines.now in
    let ms = c.args.among.now.taps in
    let ns = c.loop-i.numbers in
    let n = c.loop-i.count in
    let i = c.loop-i.i in
    let inv = c.loop-i.invariant in
    let test = c.loop-i-test.true in
    let many = c.len-i-end.ensures in
    let len = inv.len in
    let fits = c.requires.room in
    let in_it : i < length ms = omega (arith, test, many) in
    let which = c.tap-q.ensures in
    let there = c.requires.idle.within i in_it in
    let is = get_or_read ls c.tap-q.result c.index-lines-q.result (omega (arith, which, there)) c.index-lines-q.is no_line in
    let less = among_room c.args.u i n ls ms ns c.requires.idle in_it inv.so_far in
    record {
      few = omega (arith, less);
      len = length-set ns n c.tap-q.result ∙ len;
      so_far = subst (λ x. AmongTo c.args.u ls ms (i + 1) (set ns n x) (n + 1)) (sym which)
          (among_loud c.args.u i n ls ms ns c.requires.idle in_it (omega (arith, fits, len))
          (λ idle. c.is_quiet_from.ensures.loud c.if-is_quiet_from.false (subst (IsIdleFrom c.args.u) (sym (is ∙ ap (λ k. get_or ls k no_line) which)) idle)) inv.so_far);
    }

pub returns-clause-loud : goal.returns-clause-loud
returns-clause-loud c =
    let inv = c.loop-i.invariant in
    let len = inv.len in
    let fits = c.requires.room in
    let many = c.len-i-end.ensures in
    let ended = c.loop-i-test.false in
    let auto = c.loop-i.auto.i-end in
    among_all c.args.u c.loop-i.i c.loop-i.count c.args.lines.now c.args.among.now.taps c.loop-i.numbers c.requires.idle (omega (arith, ended, many)) (omega (arith, auto, many)) (omega (arith, fits, len)) inv.so_far
