use Rattle.std.proofs.Common.{◌∙◌, sym, arith}
use Rattle.std.proofs.lemmas.List.{take_all}
use Rattle.manchester_line.proofs.DecoderAnswers.{octets_of, line_octets}
use Rattle.manchester_line.proofs.decoder.Decoder.octets.Goals as goal

pub returns-then-self-lt-KEPT_OCTETS-clause-first : goal.returns-then-self-lt-KEPT_OCTETS-clause-first
returns-then-self-lt-KEPT_OCTETS-clause-first c = λ halves bits h is. octets_of halves _ bits (c.self.view_is ∙ h) is

pub returns-then-self-lt-KEPT_OCTETS-clause-line : goal.returns-then-self-lt-KEPT_OCTETS-clause-line
returns-then-self-lt-KEPT_OCTETS-clause-line c = λ octets all few h. line_octets octets _ all few (c.self.view_is ∙ h)

pub returns-else-self-lt-KEPT_OCTETS-clause-first : goal.returns-else-self-lt-KEPT_OCTETS-clause-first
returns-else-self-lt-KEPT_OCTETS-clause-first c = λ halves bits h is.
    sym (take_all c.self.inside.count c.self.inside.buffer (omega arith)) ∙ octets_of halves _ bits (c.self.view_is ∙ h) is

pub returns-else-self-lt-KEPT_OCTETS-clause-line : goal.returns-else-self-lt-KEPT_OCTETS-clause-line
returns-else-self-lt-KEPT_OCTETS-clause-line c = λ octets all few h.
    sym (take_all c.self.inside.count c.self.inside.buffer (omega arith)) ∙ line_octets octets _ all few (c.self.view_is ∙ h)
