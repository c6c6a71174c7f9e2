use Rattle.std.proofs.Common.{◌≡◌, ◌+◌, ◌∙◌, true, sym, ap, rules}
use Rattle.mac_parameters.specs.Parameters.{half_bits_an_octet}
use Rattle.manchester_line.specs.Decoding.{Decoding, all_put}
use Rattle.manchester_line.proofs.FramePairs.{octet_pushed}
use Rattle.manchester_line.proofs.decoder.Decoder.push_octet.Goals as goal

pub returns-in-Some : goal.returns-in-Some
returns-in-Some c =
    let found : c.args.self.now.found ≡ true = ap (λ (d : Decoding). d.found) (sym c.self.view_is) ∙ search rules in
    octet_pushed c.args.self.now _ c.args.halves.now c.in-Some.octet c.requires.half found c.requires.eight (sym c.in-Some.is ∙ c.octet_of.ensures)
    (λ bits l is. c.put_octet.ensures bits l is ∙ ap (λ (d : Decoding). all_put (record d { halves = d.halves + half_bits_an_octet }) bits) c.self.view_is)
