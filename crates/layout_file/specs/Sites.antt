-- What the code's sites and contexts stand for.
use Rattle.toml.specs.View.{table_view}
use Rattle.layout_file.specs.declared.sites.Site.{Site}
use Rattle.layout_file.specs.declared.joint.Tap.{Tap}
use Rattle.layout_file.specs.JointFaults.{NamedTap}
use Rattle.layout_file.specs.Spots.{Spot}

-- the table at a site, with its place
abbrev pub seen : Site → Spot
seen s = record { shape = s.shape; row = s.row; port = s.port; members = table_view s.members.now }

-- the tap that the code keeps
abbrev pub seen_tap : Tap → NamedTap
seen_tap t = record { segment = t.segment.now; at = t.at }
