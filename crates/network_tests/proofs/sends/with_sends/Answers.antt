use Rattle.std.proofs.Common.{arith}
use Rattle.network_tests.proofs.SoundSends.{sound_with_sends}
use Rattle.network_tests.proofs.sends.with_sends.Goals as goal

pub returns-clause-sound : goal.returns-clause-sound
returns-clause-sound c =
    sound_with_sends c.args.layout _ c.requires.sound c.requires.format c.requires.stations (omega (arith, c.requires.count, c.in_ok-sends.ensures.count)) c.in_ok-sends.ensures.sound
