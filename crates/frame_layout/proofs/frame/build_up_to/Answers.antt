use Rattle.std.proofs.Common.{ap, ◌∙◌, arith}
use Rattle.frame_layout.specs.Frame.{verdict_of}
use Rattle.frame_layout.proofs.Frames.{frame_fits, verdict_of-frame_of}
use Rattle.frame_layout.proofs.frame.build_up_to.Goals as goal

pub invariant_of-result : goal.invariant_of-result
invariant_of-result c = frame_fits c.args.octets.now _ c.args.most c.requires (omega arith) c.in_ok-octets.ensures

pub returns-clause-good : goal.returns-clause-good
returns-clause-good c =
    ap (λ f. verdict_of f 0 c.args.most) c.in_ok-octets.ensures ∙ verdict_of-frame_of c.args.octets.now c.args.most c.requires (omega arith)
