use Rattle.std.proofs.Common.{◌≡◌, ◌≤◌, ◌-◌, ◌++◌, length, take, option_map}
use Rattle.run_forms.proofs.sink_texts.write_text.Given as goal

abbrev pub invariant-loop-done : goal.invariant-loop-done
invariant-loop-done g l =
    (l.done ≤ length l.text)
    × (g.K.Sink.written l.out ≡ option_map (λ w. w ++ take l.done l.text) (g.K.Sink.written l.fn.out))
    × (g.K.Sink.refused l.fn.out ≤ g.K.Sink.refused l.out)
    × (g.K.Sink.faults l.fn.out ≤ g.K.Sink.faults l.out)

abbrev pub decreases-loop-done : goal.decreases-loop-done
decreases-loop-done g l = length l.text - l.done
