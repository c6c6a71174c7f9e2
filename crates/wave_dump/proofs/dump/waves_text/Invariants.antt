use Rattle.std.proofs.Common.{◌≡◌, List, length, map}
use Rattle.manchester_line.specs.declared.Sym.{Sym}
use Rattle.wave_dump.specs.Heard.{AreTapRuns}
use Rattle.wave_dump.proofs.SoFar.{IsDumpedTo}
use Rattle.wave_dump.proofs.dump.waves_text.Given as goal

abbrev pub invariant-told : goal.invariant-told
invariant-told l =
    record {
      taps : length l.waiting.items ≡ length l.lists;
      dumped : (heard : List (List Sym)) → AreTapRuns l.from l.to heard l.lists → IsDumpedTo l.names l.from l.to l.t heard (map (λ runs. runs.now) l.waiting.items) l.text;
    }
