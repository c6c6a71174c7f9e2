use Rattle.std.proofs.Common.{sym, ap, subst, take, ◌∙◌}
use Rattle.std.specs.Prelude.{IsAscii}
use Rattle.std.proofs.lemmas.Str.{IsUtf8-from_ascii}
use Rattle.text_fields.proofs.Words.{name_is_ascii}
use Rattle.text_fields.proofs.fields.name.Goals as goal

pub returns-in_default : goal.returns-in_default
returns-in_default c =
    let front = c.split_at.ensures.front ∙ ap (λ n. take n c.args.octets.now) c.name_len-len.ensures.len in
    absurd (c.in_default.ensures.cases.0 (IsUtf8-from_ascii _ (subst IsAscii (sym front) (name_is_ascii c.args.octets.now))))
