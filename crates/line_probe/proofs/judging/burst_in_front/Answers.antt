use Rattle.std.proofs.Common.{◌≤◌, List, arith, length, sym, take, ◌∙◌}
use Rattle.manchester_line.proofs.DecoderAnswers.{halves_of}
use Rattle.manchester_line.specs.declared.Sym.TheVariants.{Idle}
use Rattle.line_probe.specs.Runs.{symbols_of_runs}
use Rattle.line_probe.specs.declared.run.Run.{Run}
use Rattle.line_probe.proofs.BurstsSoFar.{decodes_run, idle_run_ends, no_run_ends, run_fits, signals_more, some_half_bits}
use Rattle.line_probe.proofs.judging.burst_in_front.Goals as goal

pub returns-then-not-is_signal : goal.returns-then-not-is_signal
returns-then-not-is_signal c =
    let none : Run = record { start = 0; count = 0; symbol = Idle } in
    let i = c.runs.run-index in
    let runs : List Run = c.args.runs.now in
    c.judged.ensures (symbols_of_runs (take i runs)) c.runs.invariant.decodes
    ∙ sym (idle_run_ends c.args.start runs i none c.runs-test.true (some_half_bits c.args.start runs i none c.requires.joined c.runs-test.true)
    (sym c.is_signal.ensures ∙ c.if-not-is_signal.true) c.runs.invariant.signals)

pub hear-requires-clause-room : goal.hear-requires-clause-room
hear-requires-clause-room c =
    let none : Run = record { start = 0; count = 0; symbol = Idle } in
    let i = c.runs.run-index in
    let runs : List Run = c.args.runs.now in
    omega (arith, halves_of (symbols_of_runs (take i runs)) c.runs.decoder c.runs.invariant.decodes, run_fits runs i none c.runs-test.true, c.requires.room)

pub runs-preserved : goal.runs-preserved
runs-preserved c =
    let none : Run = record { start = 0; count = 0; symbol = Idle } in
    let i = c.runs.run-index in
    let runs : List Run = c.args.runs.now in
    record {
      decodes = decodes_run runs i none c.hear.new.decoder c.runs-test.true (c.hear.ensures.decodes (symbols_of_runs (take i runs)) c.runs.invariant.decodes);
      signals = signals_more runs i none c.runs-test.true (sym c.is_signal.ensures ∙ c.if-not-is_signal.false) c.runs.invariant.signals;
    }

pub returns : goal.returns
returns c =
    let all : length c.args.runs.now ≤ c.runs.run-index = omega (arith, c.runs-test.false) in
    sym (no_run_ends c.args.start c.args.runs.now c.runs.run-index all c.runs.invariant.signals)
