-- What stations send that have loads: the records of a capture, and after them their sends (profile).
use Rattle.std.specs.Prelude.{ℕ, ◌+◌, ◌-◌, ◌/◌, ◌==◌, max, min, Bool, true, false, nat_lt, if◌then◌else◌, Option, Some, None, unwrap_or, List, [], ◌∷◌, ◌++◌, length, map, filter, count_by}
use Rattle.capture_file.specs.declared.entries.Record.{Record}
use Rattle.frame_layout.specs.declared.queue.Ready.{Ready}
use Rattle.frame_layout.specs.Frame.{frame_of}
use Rattle.layout.specs.declared.lines.Layout.{Layout}
use Rattle.layout.specs.declared.lines.SendLine.{SendLine}
use Rattle.mac_parameters.specs.Parameters.{addresses_and_type, nanoseconds_a_half_bit, most_octets}
use Rattle.load_plan.specs.declared.loads.Fate.{Fate}
use Rattle.load_plan.specs.declared.loads.Fate.TheVariants.{Sent, Snapped, Short, Long}
use Rattle.load_plan.specs.declared.plan.Skips.{Skips}

-- the most records of one load
abbrev pub most_records_of_load : ℕ
most_records_of_load = 4000000000

-- what becomes of a record, by the most octets of a frame, in this order: octets of the frame were not kept; there are
-- fewer than a frame's addresses and type have; there are more than a frame may have
abbrev pub fate_of : ℕ → Record → Fate
fate_of most r =
    if nat_lt (length r.octets) r.original then Snapped
    else if nat_lt (length r.octets) addresses_and_type then Short
    else if nat_lt most (length r.octets) then Long
    else Sent

-- the record is sent
abbrev pub is_sent : Fate → Bool
is_sent Sent = true
is_sent _ = false

-- it is skipped, since octets of its frame were not kept
abbrev pub is_snapped : Fate → Bool
is_snapped Snapped = true
is_snapped _ = false

-- it is skipped as too short
abbrev pub is_short : Fate → Bool
is_short Short = true
is_short _ = false

-- it is skipped as too long
abbrev pub is_long : Fate → Bool
is_long Long = true
is_long _ = false

-- how many records are skipped for each reason
unfoldable pub skips_of : ℕ → List Record → Skips
skips_of most rs = record {
  short = count_by (λ r. is_short (fate_of most r)) rs;
  long = count_by (λ r. is_long (fate_of most r)) rs;
  snapped = count_by (λ r. is_snapped (fate_of most r)) rs;
}

-- the earlier of two times, where there are any
abbrev pub earlier_of : Option ℕ → Option ℕ → Option ℕ
earlier_of None b = b
earlier_of (Some a) None = Some a
earlier_of (Some a) (Some b) = Some (min a b)

-- the least time of the records of a load, in nanoseconds, skipped ones too
abbrev pub least_of : List Record → Option ℕ
least_of [] = None
least_of (r ∷ rs) = earlier_of (Some r.nanos) (least_of rs)

-- the least time of the records of all loads
abbrev pub least_of_all : List (List Record) → Option ℕ
least_of_all [] = None
least_of_all (rs ∷ rss) = earlier_of (least_of rs) (least_of_all rss)

-- when half bit 0 is, in nanoseconds; where there are no records it doesn't matter
unfoldable pub start_of : List (List Record) → ℕ
start_of loads = unwrap_or (least_of_all loads) 0

-- octets that are to be sent, no earlier than in this half bit
pub record Offer : Type 0 where
  pub at : ℕ
  pub octets : List ℕ

-- a record's half bit, from 0, is the number of whole half bits that went by since the start
abbrev pub offer_of_record : ℕ → Record → Offer
offer_of_record start r = record { at = (r.nanos - start) / nanoseconds_a_half_bit; octets = r.octets }

-- a send as an offer: its half bit and its octets
abbrev pub offer_of_send : SendLine → Offer
offer_of_send s = record { at = s.at; octets = s.octets }

-- the records that are sent, in the file's order
abbrev pub offers_of_load : ℕ → ℕ → List Record → List Offer
offers_of_load start most rs = map (offer_of_record start) (filter (λ r. is_sent (fate_of most r)) rs)

-- the sends of a station, numbered from 0, in the file's order
abbrev pub sends_of : ℕ → List SendLine → List SendLine
sends_of station sends = filter (λ s. s.station == station) sends

-- the sends of a station as offers, in the file's order
abbrev pub offers_of_sends : ℕ → List SendLine → List Offer
offers_of_sends station sends = map offer_of_send (sends_of station sends)

-- frames in this order, each ready at its half bit or, where that is later, at that of the frame before it, which is
-- `last` for the first of them
abbrev pub raised : ℕ → List Offer → List Ready
raised last [] = []
raised last (o ∷ os) = record { at = max last o.at; frame = frame_of o.octets } ∷ raised (max last o.at) os

-- the queue of a station: the frames of its load and after them those of its sends
unfoldable pub queue_of_load : ℕ → ℕ → List SendLine → ℕ → List Record → List Ready
queue_of_load start most sends station rs = raised 0 (offers_of_load start most rs ++ offers_of_sends station sends)

-- the queues of the stations from this one on, whose loads these are
abbrev pub queues_from : ℕ → ℕ → List SendLine → ℕ → List (List Record) → List (List Ready)
queues_from start most sends station [] = []
queues_from start most sends station (rs ∷ rss) =
    queue_of_load start most sends station rs ∷ queues_from start most sends (station + 1) rss

-- the most octets of a frame without its check sequence, by the layout's format
abbrev pub most_of : Layout → ℕ
most_of layout = most_octets (layout.format == 2)

-- the queues of the stations of a layout with these loads, one for each station
unfoldable pub planned_queues : Layout → List (List Record) → List (List Ready)
planned_queues layout loads = queues_from (start_of loads) (most_of layout) layout.sends 0 loads

-- the counts of the records that are skipped, one for each station
unfoldable pub planned_skips : Layout → List (List Record) → List Skips
planned_skips layout loads = map (skips_of (most_of layout)) loads
