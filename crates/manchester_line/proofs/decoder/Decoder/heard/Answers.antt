use Rattle.std.proofs.Common.{◌≡◌, ◌∙◌, rules}
use Rattle.std.specs.Prelude.{◌||◌}
use Rattle.std.specs.Option.{is_some}
use Rattle.manchester_line.proofs.DecoderAnswers.{halves_of, spoiled_of, count_of, spare_of, line_heard}
use Rattle.manchester_line.proofs.decoder.Decoder.heard.Goals as goal
use Rattle.manchester_line.proofs.decoder.Decoder.heard.Goals.{then-self, else-self}

pub returns-clause-halves : goal.returns-clause-halves
returns-clause-halves c = λ halves h. halves_of halves _ (c.self.view_is ∙ h)

pub returns-clause-spoiled : goal.returns-clause-spoiled
returns-clause-spoiled c = λ halves h.
    let is : c.if-self.result ≡ (c.self.inside.spoiled || is_some c.self.inside.half) = elim c.if-self.branch [ then-self w ↦ search rules | else-self w ↦ search rules ] in
    is ∙ spoiled_of halves _ (c.self.view_is ∙ h)

pub returns-clause-octets : goal.returns-clause-octets
returns-clause-octets c = λ halves bits h is. count_of halves _ bits (c.self.view_is ∙ h) is

pub returns-clause-spare : goal.returns-clause-spare
returns-clause-spare c = λ halves bits h is. spare_of halves _ bits (c.self.view_is ∙ h) is

pub returns-clause-line : goal.returns-clause-line
returns-clause-line c = λ octets all h.
    let is : c.if-self.result ≡ (c.self.inside.spoiled || is_some c.self.inside.half) = elim c.if-self.branch [ then-self w ↦ search rules | else-self w ↦ search rules ] in
    line_heard octets _ c.if-self.result all (c.self.view_is ∙ h) is
