use Rattle.std.proofs.Common.{ℕ, ◌+◌, ◌*◌, ◌<◌, ◌≤◌, length, drop, get_or, sym, ap, ◌∙◌, arith}
use Rattle.manchester_line.specs.declared.Sym.{Sym}
use Rattle.manchester_line.specs.declared.Sym.TheVariants.{Idle}
use Rattle.manchester_line.specs.Line.{mix_of}
use Rattle.cable_segment.specs.Bus.{heard_among}
use Rattle.cable_segment.proofs.Skipping.{skip_to, hear_more}
use Rattle.cable_segment.proofs.rows.heard_in.Goals as goal

pub loop-q-init : goal.loop-q-init
loop-q-init c =
    let k = c.requires.skips in
    let n = length c.args.positions.now in
    let told : ℕ → ℕ → Sym = λ back q. get_or c.args.rows.now ((c.args.ahead + back) * n + q) Idle in
    let in' : get_or c.args.next.now 0 0 ≤ n = k.within 0 (omega arith) in
    record {
      within = in';
      heard = sym (skip_to told c.args.tap (get_or c.args.positions.now c.args.tap 0) 0 (get_or c.args.next.now 0 0) c.args.positions.now (omega arith) in' (λ j back a b. k.silent 0 j (c.args.ahead + back) (omega arith) a b));
    }

pub loop-q-preserved : goal.loop-q-preserved
loop-q-preserved c =
    let k = c.requires.skips in
    let n = length c.args.positions.now in
    let told : ℕ → ℕ → Sym = λ back q. get_or c.args.rows.now ((c.args.ahead + back) * n + q) Idle in
    let at = get_or c.args.positions.now c.args.tap 0 in
    let q = c.loop-q.q in
    let next = get_or c.args.next.now (q + 1) 0 in
    let low : q < n = c.loop-q-test.true in
    let in' : next ≤ n = k.within (q + 1) (omega arith) in
    let on' : q + 1 ≤ next = k.on (q + 1) (omega arith) in
    record {
      within = in';
      heard =
          ap (λ (x : Sym). mix_of x (heard_among told c.args.tap at next (drop next c.args.positions.now))) c.mix-sound.ensures
          ∙ hear_more told c.args.tap at q next c.args.positions.now c.loop-q.sound c.heard_of.result _ low on' in' (λ j back a b. k.silent (q + 1) j (c.args.ahead + back) (omega arith) a b) c.heard_of.ensures c.loop-q.invariant.heard;
    }
