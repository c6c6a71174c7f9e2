-- A log has no more lines than octets.
use Rattle.std.proofs.Common.{◌≡◌, ◌+◌, ◌≤◌, List, [], ◌∷◌, ◌++◌, length, codes, ap, arith, length-append}
use Rattle.log_meter.specs.Lines.{entry_text}
use Rattle.log_meter.specs.Logs.{log_text}
use Rattle.log_meter.specs.declared.line.LogLine.{LogLine}
use Rattle.run_picture.specs.Marks.{title_of}
use Rattle.run_picture.specs.PictureLaws.{LinesAreFew}
use Rattle.run_picture.proofs.Titles.{line_is_title}

no_more_lines : (lines : List LogLine) → length lines ≤ length (log_text lines)
no_more_lines [] = omega arith
no_more_lines (line ∷ lines) =
    let whole : length (entry_text line ++ log_text lines) ≡ length (entry_text line) + length (log_text lines) = length-append (entry_text line) (log_text lines) in
    let one : length (entry_text line) ≡ length (title_of line ++ codes "\n") = ap length (line_is_title line) in
    let two : length (title_of line ++ codes "\n") ≡ length (title_of line) + 1 = length-append (title_of line) (codes "\n") in
    omega (arith, whole, one, two, no_more_lines lines)

pub lines_are_few : LinesAreFew
lines_are_few octets lines log = omega (arith, no_more_lines lines, ap length log.text)
