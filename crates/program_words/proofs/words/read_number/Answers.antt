use Rattle.std.proofs.Common.{◌≡◌, arith, sym, ap, ◌∙◌, rules}
use Rattle.std.specs.Prelude.{decimal}
use Rattle.std.proofs.lemmas.Fmt.{parse-decimal}
use Rattle.std.proofs.lemmas.Slice.Eq.{bytes_eq-Decides}
use Rattle.program_words.proofs.NumbersInWords.{number_found, number_unfound}
use Rattle.program_words.proofs.words.read_number.Goals as goal

pub returns-in_default-clause-number : goal.returns-in_default-clause-number
returns-in_default-clause-number c =
    sym (number_unfound c.args.least c.args.most c.args.word.now (λ n low high is.
    let e = parse-decimal 32 n c.args.word.now c.parse.result (omega arith) (omega arith) is c.parse.ensures.value.0 in cc))

pub returns-then-number-least-clause-number : goal.returns-then-number-least-clause-number
returns-then-number-least-clause-number c =
    sym (number_unfound c.args.least c.args.most c.args.word.now (λ n low high is.
    let e = parse-decimal 32 n c.args.word.now c.parse.result (omega arith) (omega arith) is c.parse.ensures.value.0 in
    let same : c.in-Ok.number ≡ n = cc in absurd (omega arith)))

pub returns-then-number-most-clause-number : goal.returns-then-number-most-clause-number
returns-then-number-most-clause-number c =
    sym (number_unfound c.args.least c.args.most c.args.word.now (λ n low high is.
    let e = parse-decimal 32 n c.args.word.now c.parse.result (omega arith) (omega arith) is c.parse.ensures.value.0 in
    let same : c.in-Ok.number ≡ n = cc in absurd (omega arith)))

pub returns-then-eq-clause-number : goal.returns-then-eq-clause-number
returns-then-eq-clause-number c =
    sym (number_found c.args.least c.args.most c.args.word.now c.in-Ok.number c.requires.small (omega arith) (omega arith)
    (sym ((bytes_eq-Decides c.format.result.now c.args.word.now).0 (search rules)) ∙ c.format.ensures.text))

pub returns-else-eq-clause-number : goal.returns-else-eq-clause-number
returns-else-eq-clause-number c =
    sym (number_unfound c.args.least c.args.most c.args.word.now (λ n low high is.
    let e = parse-decimal 32 n c.args.word.now c.parse.result (omega arith) (omega arith) is c.parse.ensures.value.0 in
    let same : c.in-Ok.number ≡ n = cc in
    let equal : c.format.result.now ≡ c.args.word.now = c.format.ensures.text ∙ ap decimal same ∙ sym is in
    let decided = (bytes_eq-Decides c.format.result.now c.args.word.now).1 equal in
    cc))
