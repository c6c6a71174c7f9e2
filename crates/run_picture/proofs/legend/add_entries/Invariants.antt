use Rattle.std.proofs.Common.{◌≡◌, ◌≤◌, ◌++◌, drop}
use Rattle.run_picture.specs.Kinds.{drawn_kinds}
use Rattle.run_picture.specs.Legend.{entries}
use Rattle.run_picture.proofs.legend.add_entries.Given as goal

abbrev pub invariant-loop-kind : goal.invariant-loop-kind
invariant-loop-kind l =
    record {
      text : l.text ++ entries l.n (drawn_kinds l.window l.lines (drop l.kind-index l.kinds)) ≡ l.fn.text ++ entries 0 (drawn_kinds l.window l.lines l.kinds);
      within : l.n ≤ l.kind-index;
    }
