-- The frames that a station received (profile). Half bits count from 0.
use Rattle.std.specs.Prelude.{ℕ, Bool, ◌==◌, ◌&&◌, List, Option, None, Some}
use Rattle.std.specs.List.{filter_map, list_any}
use Rattle.std.specs.List.Sorted.{IsPermutation, IsSorted}
use Rattle.std.specs.Ordering.{nat_cmp, ordering_then}
use Rattle.std.specs.declared.cmp.Ordering.{Ordering}
use Rattle.collision_log.specs.declared.row.Body.{Body}
use Rattle.collision_log.specs.declared.row.Body.TheVariants.{Received}
use Rattle.frame_table.specs.declared.events.Event.{Event}
use Rattle.frame_table.specs.declared.receptions.Reception.{Reception}

-- a reception, if it is one
abbrev pub reception_in : ℕ → Body → Option Reception
reception_in t (Received octets) = Some (record { t = t; octets = octets })
reception_in t _ = None

-- the receptions among these events
abbrev pub receptions_of : List Event → List Reception
receptions_of events = filter_map (λ e. reception_in e.t e.body) events

-- whether one of these receptions ended in half bit t, with so many octets
abbrev pub has_received : ℕ → ℕ → List Reception → Bool
has_received t octets receptions = list_any (λ r. (r.t == t) && (r.octets == octets)) receptions

-- by half bits, and then by octets
abbrev pub reception_cmp : Reception → Reception → Ordering
reception_cmp a b = ordering_then (nat_cmp a.t b.t) (nat_cmp a.octets b.octets)

-- the receptions among these events, in order
pub record AreReceptions (events : List Event) (receptions : List Reception) : Type 0 where
  pub same : IsPermutation (receptions_of events) receptions
  pub order : IsSorted reception_cmp receptions
