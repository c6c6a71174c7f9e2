use Rattle.std.proofs.Common.{ap, arith, drop}
use Rattle.window_room.proofs.MarkedFrames.{captures_more, marks_more, station_within}
use Rattle.window_room.proofs.frames.WindowFrames.push.Goals as goal

pub invariant_of-self : goal.invariant_of-self
invariant_of-self c = (
  marks_more _ _ _ c.self.inside.marks.items _ _ (grind (arith, c.in-Ok.ensures.len)) c.self.invariant.0
      (record {
        forward = grind (arith, c.len-start.ensures, c.len-end.ensures, c.in-Ok.ensures.len);
        within = grind (arith, c.len-end.ensures);
        station = station_within c.self.inside.octets.items (drop c.self.inside.done c.self.inside.marks.items) c.self.inside.settled.items c.args.self.now.captures c.args.station (ap (λ r. r.captures) c.self.view_is) c.requires.station;
      })
      c.in-Ok-push.ensures.items,
  grind (arith, c.self.invariant.1, c.in-Ok-push.ensures.len),
  c.self.invariant.2,
)

pub returns-clause-captures : goal.returns-clause-captures
returns-clause-captures c =
    captures_more c.self.inside.octets.items c.args.octets.now _ c.self.inside.marks.items _ c.self.inside.settled.items c.self.inside.done _ _ _ c.self.invariant.1 c.self.invariant.0
    (grind (arith, c.len-start.ensures)) (grind (arith, c.len-end.ensures, c.in-Ok.ensures.len))
    c.in-Ok.ensures.items c.in-Ok-push.ensures.items (ap (λ r. r.captures) c.self.view_is)
