use Rattle.std.proofs.Common.{◌∙◌, ap, sym, ◌≡◌, ◌+◌, ◌-◌, ◌≤◌, ◌++◌, length, arith}
use Rattle.std.specs.Prelude.{min}
use Rattle.capture_file.specs.Captures.{captured_length}
use Rattle.capture_file.specs.Reading.{octets_lacking}
use Rattle.capture_file.proofs.Joined.{lacking_is, said_in_place}
use Rattle.capture_file.proofs.reading.lacking.Goals as goal

pub returns-clause-count : goal.returns-clause-count
returns-clause-count c =
    let form = c.in-Entries.form in
    let rest = c.args.rest.now in
    let piece = c.args.piece.now in
    let said : 16 ≤ length rest + length piece → c.captured.result ≡ captured_length form (rest ++ piece) =
    λ h. c.captured.ensures ∙ said_in_place form rest piece c.min-kept.result c.min-lent.result c.copy_from_slice.new.self c.copy_from_slice-2.new.self _ _ c.min-kept.ensures c.min-lent.ensures c.copy_from_slice.ensures.after c.copy_from_slice-2.ensures.after h in
    let counted : c.min.result ≡ min (min (16 + c.captured.result) 18446744073709551615 - length rest) (length piece) =
    omega (arith, c.min.ensures, c.saturating_sub.ensures, c.saturating_add-whole.ensures) in
    counted ∙ lacking_is form rest piece c.captured.result c.requires said ∙ ap (λ s. octets_lacking s rest piece) (sym c.in-Entries.is)
