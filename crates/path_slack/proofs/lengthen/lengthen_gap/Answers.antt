use Rattle.path_slack.specs.Lengthened.{lengthened_gap}
use Rattle.path_slack.proofs.LongerGaps.{gap_sound, stations_fit, ports_fit}
use Rattle.path_slack.proofs.lengthen.lengthen_gap.Goals as goal

pub moved_stations-requires : goal.moved_stations-requires
moved_stations-requires c =
    rw c.as_slice-2.ensures (stations_fit c.args.layout.now c.args.segment c.args.high c.args.x c.requires.bounds)

pub moved_repeaters-requires : goal.moved_repeaters-requires
moved_repeaters-requires c =
    rw c.as_slice-3.ensures (ports_fit c.args.layout.now c.args.segment c.args.high c.args.x c.requires.bounds)

pub returns-clause-sound : goal.returns-clause-sound
unfolding lengthened_gap
returns-clause-sound c =
    rw (c.in_ok-copied_segments.ensures, c.in_ok-moved_stations.ensures, c.in_ok-moved_repeaters.ensures, c.in_ok-copied_sends.ensures, c.as_slice.ensures, c.as_slice-2.ensures, c.as_slice-3.ensures, c.as_slice-4.ensures)
    (gap_sound c.args.layout.now c.args.segment c.args.high c.args.x c.requires.sound c.requires.bounds)
