use Rattle.std.proofs.Common.{◌≡◌, ◌+◌, ◌++◌, List, replicate}
use Rattle.manchester_line.specs.Decoding.{Decodes}
use Rattle.manchester_line.specs.declared.Sym.{Sym}
use Rattle.line_probe.proofs.judging.hear.Given as goal

abbrev pub invariant-loop-i : goal.invariant-loop-i
invariant-loop-i l =
    record {
      halves : l.decoder.halves ≡ l.fn.decoder.halves + l.i;
      decodes : (halves : List Sym) → Decodes halves l.fn.decoder → Decodes (halves ++ replicate l.i l.run.symbol) l.decoder;
    }
