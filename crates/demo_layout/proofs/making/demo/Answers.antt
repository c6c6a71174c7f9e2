use Rattle.demo_layout.specs.Demo.{demo_of}
use Rattle.demo_layout.proofs.SoundDemo.{sound_demo}
use Rattle.demo_layout.proofs.making.demo.Goals as goal

pub returns-clause-sound : goal.returns-clause-sound
unfolding demo_of
returns-clause-sound c =
    rw (c.in_ok-segments.ensures, c.in_ok-stations.ensures, c.in_ok-repeaters.ensures, c.in_ok-sends.ensures) (sound_demo c.args.number c.requires.most)
