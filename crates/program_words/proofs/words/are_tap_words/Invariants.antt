use Rattle.std.proofs.Common.{◌≡◌, drop}
use Rattle.program_words.specs.Requests.{are_tap_words}
use Rattle.program_words.proofs.words.are_tap_words.Given as goal

abbrev pub invariant-loop-word : goal.invariant-loop-word
invariant-loop-word l = are_tap_words l.words ≡ are_tap_words (drop l.word-index l.words)
