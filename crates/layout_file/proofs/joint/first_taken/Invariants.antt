use Rattle.std.proofs.Common.{◌≡◌, [], map, drop}
use Rattle.layout_file.specs.JointFaults.{first_taken}
use Rattle.layout_file.specs.Sites.{seen, seen_tap}
use Rattle.layout_file.proofs.TapsOfTables.{first_taken_after}
use Rattle.layout_file.proofs.joint.first_taken.Given as goal

abbrev pub invariant-loop-site : goal.invariant-loop-site
invariant-loop-site l = first_taken [] (map seen l.sites) ≡ first_taken_after (map seen_tap l.taps.items) (map seen (drop l.site-index l.sites))
