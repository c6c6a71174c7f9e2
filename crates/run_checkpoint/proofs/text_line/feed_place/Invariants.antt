use Rattle.std.proofs.Common.{◌≡◌, ◌≤◌, ◌+◌, ◌-◌, length, drop}
use Rattle.std.specs.List.{prefix_len}
use Rattle.run_checkpoint.specs.TextLines.{is_within_line}
use Rattle.run_checkpoint.proofs.text_line.feed_place.Given as goal

abbrev pub invariant-loop-len : goal.invariant-loop-len
invariant-loop-len l =
    record {
      so_far : prefix_len is_within_line l.octets ≡ l.len + prefix_len is_within_line (drop l.len l.octets);
      within : l.len ≤ length l.octets;
    }

abbrev pub decreases-loop-len : goal.decreases-loop-len
decreases-loop-len l = length l.octets - l.len
