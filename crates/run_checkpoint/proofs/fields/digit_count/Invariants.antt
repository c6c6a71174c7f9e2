use Rattle.std.proofs.Common.{◌≡◌, ◌≤◌, ◌+◌, ◌-◌, length, drop}
use Rattle.std.specs.Char.{is_ascii_digit}
use Rattle.std.specs.List.{prefix_len}
use Rattle.run_checkpoint.proofs.fields.digit_count.Given as goal

abbrev pub invariant-loop-len : goal.invariant-loop-len
invariant-loop-len l =
    record {
      so_far : prefix_len is_ascii_digit l.octets ≡ l.len + prefix_len is_ascii_digit (drop l.len l.octets);
      within : l.len ≤ length l.octets;
    }

abbrev pub decreases-loop-len : goal.decreases-loop-len
decreases-loop-len l = length l.octets - l.len
