use Rattle.std.proofs.Common.{◌≡◌, ℕ, ◌+◌, ◌-◌, ◌*◌, ◌≤◌, length, drop, slice_index, slice_index_or}
use Rattle.manchester_line.specs.declared.Sym.TheVariants.{Idle}
use Rattle.manchester_line.specs.Line.{mix_of}
use Rattle.cable_segment.specs.Bus.{heard_among}
use Rattle.cable_segment.proofs.rows.heard_in.Given as goal

abbrev pub invariant-loop-q : goal.invariant-loop-q
invariant-loop-q l =
    let told = λ (back : ℕ) (q : ℕ). slice_index_or l.rows ((l.ahead + back) * length l.positions + q) Idle in
    let at = slice_index l.positions l.tap in
    record {
      within : l.q ≤ length l.positions;
      heard : mix_of l.sound (heard_among told l.tap at l.q (drop l.q l.positions)) ≡ heard_among told l.tap at 0 l.positions;
    }

abbrev pub decreases-loop-q : goal.decreases-loop-q
decreases-loop-q l = length l.positions - l.q
