use Rattle.std.proofs.Common.{◌∷◌, [], Some, None, ◌∙◌}
use Rattle.std.proofs.lemmas.Bool.Decides.{Decides-eqb}
use Rattle.std.proofs.lemmas.Slice.Eq.{strip_prefix_is}
use Rattle.line_probe.proofs.TapWords.{no_colon, no_name, numbers_compared}
use Rattle.line_probe.proofs.tap.is_port_word.Goals as goal

pub returns-in_default : goal.returns-in_default
returns-in_default c =
    no_name c.args.word.now c.args.name.now c.as_bytes.result.now c.args.number c.as_bytes.ensures.value
    (strip_prefix_is Decides-eqb c.args.word.now c.as_bytes.result.now None c.in_default.ensures.cases)

pub returns-in_default-strip_prefix : goal.returns-in_default-strip_prefix
returns-in_default-strip_prefix c =
    no_colon c.args.word.now c.args.name.now c.as_bytes.result.now c.in-Some.rest.now c.args.number c.as_bytes.ensures.value
    (strip_prefix_is Decides-eqb c.args.word.now c.as_bytes.result.now (Some c.in-Some.rest) c.in-Some.ensures.cases)
    (strip_prefix_is Decides-eqb c.in-Some.rest.now (58 ∷ []) None c.in_default-strip_prefix.ensures.cases)

pub returns : goal.returns
returns c =
    numbers_compared c.args.word.now c.args.name.now c.as_bytes.result.now c.in-Some.rest.now c.in-Some-strip_prefix.rest.now c.as_bytes-digits.result.now c.args.number c.eq.result
    c.as_bytes.ensures.value
    (strip_prefix_is Decides-eqb c.args.word.now c.as_bytes.result.now (Some c.in-Some.rest) c.in-Some.ensures.cases)
    (strip_prefix_is Decides-eqb c.in-Some.rest.now (58 ∷ []) (Some c.in-Some-strip_prefix.rest) c.in-Some-strip_prefix.ensures.cases)
    (c.as_bytes-digits.ensures.value ∙ c.format.ensures.text) c.eq.ensures
