use Rattle.std.proofs.Common.{◌+◌, ◌<◌, length}
use Rattle.line_probe.specs.Taps.{IsPortWord}
use Rattle.line_probe.specs.declared.tap.Tap.{Tap}
use Rattle.line_probe.proofs.tap.find_tap.Given as goal

abbrev pub invariant-repeaters : goal.invariant-repeaters
invariant-repeaters l = (tap : Tap) → tap.device < length l.layout.stations + l.r → IsPortWord l.layout l.word tap → ⊥
