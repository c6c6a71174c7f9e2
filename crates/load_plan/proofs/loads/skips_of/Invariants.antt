use Rattle.std.proofs.Common.{◌≡◌, ◌≤◌, ◌+◌, drop, count_by}
use Rattle.load_plan.specs.Loads.{fate_of, is_short, is_long, is_snapped}
use Rattle.load_plan.proofs.loads.skips_of.Given as goal

-- those so far and those in the rest are all, and there are no more than records
abbrev pub invariant-loop-record : goal.invariant-loop-record
invariant-loop-record l = record {
  short : l.skips.short + count_by (λ r. is_short (fate_of l.most r)) (drop l.record-index l.records) ≡ count_by (λ r. is_short (fate_of l.most r)) l.records;
  long : l.skips.long + count_by (λ r. is_long (fate_of l.most r)) (drop l.record-index l.records) ≡ count_by (λ r. is_long (fate_of l.most r)) l.records;
  snapped : l.skips.snapped + count_by (λ r. is_snapped (fate_of l.most r)) (drop l.record-index l.records) ≡ count_by (λ r. is_snapped (fate_of l.most r)) l.records;
  few_short : l.skips.short ≤ l.record-index;
  few_long : l.skips.long ≤ l.record-index;
  few_snapped : l.skips.snapped ≤ l.record-index;
}
