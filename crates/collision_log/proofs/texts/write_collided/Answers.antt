use Rattle.std.proofs.Common.{append_assoc, refl}
use Rattle.collision_log.proofs.texts.write_collided.Goals as goal

pub returns-clause-text : goal.returns-clause-text
returns-clause-text c =
    rw (c.field-5.ensures.text, c.field-4.ensures.text, c.field-3.ensures.text, c.field-2.ensures.text, c.field.ensures.text, c.from.ensures, c.from-2.ensures, c.from-3.ensures, c.from-4.ensures) (simp append_assoc refl)
