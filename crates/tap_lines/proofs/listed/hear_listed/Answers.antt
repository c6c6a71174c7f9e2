use Rattle.std.proofs.Common.{◌≡◌, ◌<◌, ◌+◌, ◌-◌, refl, true, false, length, get_or, sym, ap, ◌∙◌, arith, rules}
use Rattle.manchester_line.specs.declared.Sym.TheVariants.{Idle}
use Rattle.manchester_line.specs.Line.{mix_of}
use Rattle.tap_lines.specs.TapLines.{heard_of_line}
use Rattle.tap_lines.proofs.HeardLines.{heard_piece, mix_idle, own_line}
use Rattle.tap_lines.proofs.HeardLists.{all_listed, listed_first, listed_next}
use Rattle.tap_lines.proofs.HeardClasses.{listed_line}
use Rattle.tap_lines.proofs.LoudLists.{later_idle}
use Rattle.tap_lines.proofs.listed.hear_listed.Goals as goal

pub loop-i-init : goal.loop-i-init
loop-i-init c =
    let ls = c.args.lines.now in
    let ns = c.args.loud.now.taps in
    let len : length c.fill.new.self ≡ length c.args.piece.now = search rules in
    record {
      len = len;
      fresh = λ e j d h.
          let in_it : j < length c.fill.new.self = omega (arith, h, len) in
          search rules;
      heard = λ j h.
          let in_it : j < length c.fill.new.self = omega (arith, h, len) in
          let none : get_or c.fill.new.self j Idle ≡ Idle = search rules in
          let idle = later_idle _ (c.args.t + j - c.args.far) ls ns (omega arith) c.requires.listed.loud in
          listed_first c.args.lookahead (c.args.t + j) c.args.far c.args.p ls ns _ c.requires.listed.reach c.requires.listed.tap idle none;
    }

pub loop-i-preserved-then-q-p : goal.loop-i-preserved-then-q-p
loop-i-preserved-then-q-p c =
    let ls = c.args.lines.now in
    let ns = c.args.loud.now.taps in
    let i = c.loop-i.i in
    let p = c.args.p in
    let L = c.args.lookahead in
    let test = c.loop-i-test.true in
    let many = c.len-i-end.ensures in
    let own : get_or ns i 0 ≡ p = sym c.tap-q.ensures ∙ c.if-q-p.true in
    record {
      len = c.loop-i.invariant.len;
      fresh = c.loop-i.invariant.fresh;
      heard = λ j h.
          let s = get_or c.loop-i.piece j Idle in
          let u = c.args.t + j in
          let idle = later_idle _ (u - c.args.far) ls ns (omega arith) c.requires.listed.loud in
          listed_next L u c.args.far p i ls ns s s c.requires.listed.reach c.requires.listed.tap idle (omega (arith, test, many))
          (sym (ap (mix_of s) (own_line L u p (get_or ns i 0) ls own) ∙ mix_idle s))
          (c.loop-i.invariant.heard j h);
    }

pub loop-i-preserved : goal.loop-i-preserved
loop-i-preserved c =
    let ls = c.args.lines.now in
    let ns = c.args.loud.now.taps in
    let i = c.loop-i.i in
    let p = c.args.p in
    let q = c.tap-q.result in
    let L = c.args.lookahead in
    let test = c.loop-i-test.true in
    let many = c.len-i-end.ensures in
    let len = c.mix_over.auto.piece ∙ c.loop-i.invariant.len in
    let which = c.tap-q.ensures in
    let in_it : i < length ns = omega (arith, test, many) in
    record {
      len = len;
      fresh = λ (e : false ≡ true). absurd (search rules);
      heard = λ j h.
          let s = get_or c.loop-i.piece j Idle in
          let u = c.args.t + j in
          let idle = later_idle _ (u - c.args.far) ls ns (omega arith) c.requires.listed.loud in
          listed_next L u c.args.far p i ls ns s (get_or c.mix_over.new.piece j Idle) c.requires.listed.reach c.requires.listed.tap idle in_it
          (c.mix_over.ensures j Idle (omega (arith, h, len))
          ∙ ap (mix_of s) (sym (listed_line L c.args.far c.args.t (length c.args.piece.now) u p q i c.place-at.result _ ls ns c.index-lines-p.result c.index-lines-q.result c.requires.listed in_it which c.if-q-p.false c.index-lines-p.is c.index-lines-q.is c.place-at.ensures refl)
          ∙ ap (λ k. heard_of_line L u ls p k) which))
          (c.loop-i.invariant.heard j h);
    }

pub returns : goal.returns
returns c =
    let ls = c.args.lines.now in
    let ns = c.args.loud.now.taps in
    let i = c.loop-i.i in
    let test = c.loop-i-test.false in
    let many = c.len-i-end.ensures in
    let auto = c.loop-i.auto.i-end in
    let parts = all_listed _ i ls ns c.requires.listed.loud (omega (arith, test, many)) (omega (arith, auto, many)) in
    heard_piece c.args.lookahead c.args.t _ c.args.p (length ls) ls c.loop-i.piece c.loop-i.invariant.len (omega arith)
    (λ j h. c.loop-i.invariant.heard j h (length ls) parts (omega arith))
