use Rattle.std.proofs.Common.{◌≡◌, ◌≢◌, true, false, take}
use Rattle.reception_laws.proofs.teller.are_same.Given as goal

-- the first j symbols are the same, if all that were looked at are; else the texts differ
abbrev pub invariant-loop-j : goal.invariant-loop-j
invariant-loop-j l = record {
  front : l.same ≡ true → take l.j l.text ≡ take l.j l.other;
  apart : l.same ≡ false → l.text ≢ l.other;
}
