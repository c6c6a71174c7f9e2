use Rattle.std.proofs.Common.{append_assoc, refl}
use Rattle.collision_log.proofs.texts.write_body.Goals as goal

pub returns-in-GivenUp-clause-text : goal.returns-in-GivenUp-clause-text
returns-in-GivenUp-clause-text c =
    rw (c.in-GivenUp.is, c.field-in-GivenUp-3.ensures.text, c.field-in-GivenUp-2.ensures.text, c.field-in-GivenUp.ensures.text, c.from-in-GivenUp.ensures, c.from-in-GivenUp-2.ensures) (simp append_assoc refl)

pub returns-in-Closed-clause-text : goal.returns-in-Closed-clause-text
returns-in-Closed-clause-text c = rw (c.in-Closed.is, c.field-in-Closed.ensures.text, c.from-in-Closed.ensures, append_assoc)

pub returns-in-Opened-clause-text : goal.returns-in-Opened-clause-text
returns-in-Opened-clause-text c = rw (c.in-Opened.is, c.field-in-Opened.ensures.text, c.from-in-Opened.ensures, append_assoc)
