use Rattle.std.proofs.Common.{ℕ, ◌<◌, ◌≤◌, ◌*◌, length, slice_index_or}
use Rattle.net_parts.specs.Parts.{edges_of_part}
use Rattle.net_parts.specs.Windows.{lookahead}
use Rattle.turn_run.specs.SilentWindows.{StaysIdle}
use Rattle.turn_run.proofs.quiet.calm_of.Given as goal

-- those so far are calm for so many windows
abbrev pub invariant-loop-part : goal.invariant-loop-part
invariant-loop-part g l = record {
  within : l.calm ≤ l.most;
  among : l.part-index ≤ length l.parts;
  are_calm : (q : ℕ) (d : g.row.K.Denot) (n : ℕ) → q < l.part-index → 0 < n → n ≤ l.calm → g.K.PartKind.calm (slice_index_or l.parts q d) n;
  silent : (q : ℕ) (d : g.row.K.Denot) → q < l.part-index →
      (let s = slice_index_or l.parts q d in
      let plan = g.K.Part.plan s in
      StaysIdle (g.K.PartKind.comes plan) (g.K.PartKind.goes plan) (edges_of_part plan (g.K.Part.number s)) (g.K.Part.at s * lookahead plan.layout) (l.calm * lookahead plan.layout));
}
