use Rattle.path_slack.specs.Lengthened.{lengthened_delay}
use Rattle.path_slack.proofs.LongerDelays.{delay_sound, delay_fits}
use Rattle.path_slack.proofs.lengthen.lengthen_delay.Goals as goal

pub slowed_repeaters-requires : goal.slowed_repeaters-requires
slowed_repeaters-requires c =
    rw c.as_slice-3.ensures (delay_fits c.args.layout.now c.args.repeater c.args.x c.requires.bounds)

pub returns-clause-sound : goal.returns-clause-sound
unfolding lengthened_delay
returns-clause-sound c =
    rw (c.in_ok-copied_segments.ensures, c.in_ok-copied_stations.ensures, c.in_ok-slowed_repeaters.ensures, c.in_ok-copied_sends.ensures, c.as_slice.ensures, c.as_slice-2.ensures, c.as_slice-3.ensures, c.as_slice-4.ensures)
    (delay_sound c.args.layout.now c.args.repeater c.args.x c.requires.sound c.requires.bounds)
