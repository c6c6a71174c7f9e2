use Rattle.std.proofs.Common.{◌≡◌, ◌≤◌, ◌-◌, length, take}
use Rattle.run_endings.specs.Writing.{put_file}
use Rattle.run_forms.proofs.files.write_file.Given as goal

abbrev pub invariant-loop-done : goal.invariant-loop-done
invariant-loop-done g l =
    (l.done ≤ length l.text)
    × (g.S.Store.held l.store ≡ put_file l.name (take l.done l.text) (g.S.Store.held l.fn.store))
    × (g.S.Store.read_faults l.fn.store ≤ g.S.Store.read_faults l.store)
    × (g.S.Store.write_faults l.fn.store ≤ g.S.Store.write_faults l.store)

abbrev pub decreases-loop-done : goal.decreases-loop-done
decreases-loop-done g l = length l.text - l.done
