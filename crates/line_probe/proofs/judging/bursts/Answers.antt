use Rattle.std.proofs.Common.{◌≡◌, ◌≤◌, ◌-◌, ℕ, List, ap, arith, drop, get_or, length, length-drop, subst, sym, take, ◌∙◌}
use Rattle.std.proofs.lemmas.List.{take_all}
use Rattle.mac_parameters.specs.Parameters.{most_half_bits}
use Rattle.manchester_line.specs.declared.Sym.TheVariants.{Idle}
use Rattle.line_probe.specs.Runs.{AreJoined, AreRunsOf, symbols_of_runs}
use Rattle.line_probe.specs.declared.run.Run.{Run}
use Rattle.line_probe.proofs.BurstsSoFar.{bursts_done, bursts_step, fewer_symbols, joined_rest}
use Rattle.line_probe.proofs.BurstsFound.{answer_in}
use Rattle.line_probe.proofs.judging.bursts.Goals as goal

-- the runs from one of them on
rest_is : (runs : List Run) (k : ℕ) → take (length runs - k) (drop k runs) ≡ drop k runs
rest_is runs k = take_all (length runs - k) (drop k runs) (omega (arith, length-drop k runs))

pub burst_here-burst-requires-clause-joined : goal.burst_here-burst-requires-clause-joined
burst_here-burst-requires-clause-joined c =
    let none : Run = record { start = 0; count = 0; symbol = Idle } in
    let runs : List Run = c.as_slice-runs.result.now in
    let joined = subst (λ (rs : List Run). AreJoined c.requires.from rs) (sym c.as_slice-runs.ensures) c.requires.runs_of.joined in
    subst (λ (rs : List Run). AreJoined (get_or runs c.loop-k.k none).start rs) (sym (rest_is runs c.loop-k.k))
    (joined_rest c.requires.from runs c.loop-k.k none joined c.loop-k-test.true)

pub burst_here-burst-requires-clause-room : goal.burst_here-burst-requires-clause-room
burst_here-burst-requires-clause-room c =
    let runs : List Run = c.as_slice-runs.result.now in
    let fits : length (symbols_of_runs runs) ≤ most_half_bits =
    omega (arith, ap (λ (rs : List Run). length (symbols_of_runs rs)) c.as_slice-runs.ensures, ap length c.requires.runs_of.symbols_are, c.requires.within) in
    subst (λ (rs : List Run). length (symbols_of_runs rs) ≤ most_half_bits) (sym (rest_is runs c.loop-k.k)) (omega (arith, fewer_symbols runs c.loop-k.k, fits))

pub loop-k-preserved : goal.loop-k-preserved
loop-k-preserved c =
    let none : Run = record { start = 0; count = 0; symbol = Idle } in
    let runs : List Run = c.as_slice-runs.result.now in
    let joined = subst (λ (rs : List Run). AreJoined c.requires.from rs) (sym c.as_slice-runs.ensures) c.requires.runs_of.joined in
    rw (c.in_ok-add.ensures, c.burst_here-burst.ensures, rest_is runs c.loop-k.k, c.is_signal-after_idle.ensures)
    (bursts_step c.requires.from runs c.loop-k.k none c.loop-k.bursts c.loop-k.after_idle joined c.loop-k-test.true ∙ c.loop-k.invariant)

pub returns-clause-exact : goal.returns-clause-exact
returns-clause-exact c from symbols are =
    let runs : List Run = c.as_slice-runs.result.now in
    let here = subst (λ (rs : List Run). AreRunsOf from symbols rs) (sym c.as_slice-runs.ensures) are in
    bursts_done from symbols runs c.loop-k.k c.loop-k.bursts c.loop-k.after_idle here (omega (arith, c.loop-k-test.false)) c.loop-k.invariant

pub returns-clause-maximal : goal.returns-clause-maximal
returns-clause-maximal c from symbols are =
    let runs : List Run = c.as_slice-runs.result.now in
    let here = subst (λ (rs : List Run). AreRunsOf from symbols rs) (sym c.as_slice-runs.ensures) are in
    answer_in from symbols c.loop-k.bursts
    (bursts_done from symbols runs c.loop-k.k c.loop-k.bursts c.loop-k.after_idle here (omega (arith, c.loop-k-test.false)) c.loop-k.invariant)
