use Rattle.std.proofs.Common.{◌≡◌, ◌≤◌, ◌+◌, ◌-◌, length, drop}
use Rattle.std.specs.List.{prefix_len}
use Rattle.layout.specs.NameOctets.{is_name_octet}
use Rattle.text_fields.proofs.fields.name_len.Given as goal

abbrev pub invariant-loop-len : goal.invariant-loop-len
invariant-loop-len l =
    record {
      so_far : prefix_len is_name_octet l.octets ≡ l.len + prefix_len is_name_octet (drop l.len l.octets);
      within : l.len ≤ length l.octets;
    }

abbrev pub decreases-loop-len : goal.decreases-loop-len
decreases-loop-len l = length l.octets - l.len
