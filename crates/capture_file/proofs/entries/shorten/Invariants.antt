use Rattle.std.proofs.Common.{◌≡◌, ◌+◌, length, take}
use Rattle.capture_file.proofs.entries.shorten.Given as goal

-- as many are taken as the counter went on, and what is to stay stays
abbrev pub invariant-loop-more : goal.invariant-loop-more
invariant-loop-more g l = record {
  taken : length l.list + l._more ≡ length l.initial.list + l.count;
  same : take l.count l.list ≡ take l.count l.initial.list;
}
