use Rattle.std.proofs.Common.{refl}
use Rattle.outside.specs.declared.store.SinkFail.{SinkFail}
use Rattle.run_forms.proofs.TextsByPieces.{said_by}
use Rattle.run_forms.proofs.world.World.say.Goals as goal

pub returns : goal.returns
returns g c =
    rw (← c.self.view_is) (record {
      said = said_by SinkFail c.write_text.result c.args.line.now _ _ _ _ c.write_text.ensures.ok c.write_text.ensures.err c.write_text.ensures.refusal c.write_text.ensures.refused;
      held = refl;
      reads = refl;
      writes = refl;
    })
