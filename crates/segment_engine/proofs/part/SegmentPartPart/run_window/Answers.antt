use Rattle.std.proofs.Common.{◌+◌, ◌*◌, arith}
use Rattle.std.proofs.lemmas.Bool.{false≢true}
use Rattle.segment_engine.proofs.KeptParts.{kept_of}
use Rattle.segment_engine.proofs.HandedOut.{few_windows}
use Rattle.segment_engine.proofs.part.SegmentPartPart.run_window.Goals as goal

pub invariant_of-self : goal.invariant_of-self
invariant_of-self c =
    let x = c.args.self.now in
    let g = x.segment in
    let state = c.run.new.state in
    record {
      stands = c.run.ensures.at;
      at_time = c.run.ensures.time;
      octets = x.octets;
      last = c.run.ensures.last;
      room = λ h. absurd (false≢true h);
      kept = kept_of g (x.window + 1) ((x.window + 1) * g.lookahead) state c.run.ensures.time c.run.ensures.at;
    }

pub overflow_add-self : goal.overflow_add-self
overflow_add-self c =
    let few = few_windows c.args.self.now.segment.plan.value c.args.self.now.window c.requires.window in
    omega (arith, few)
