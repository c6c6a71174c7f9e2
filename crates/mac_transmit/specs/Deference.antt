-- Deference (IEEE 802.3, 4.2.3.2.1 and 4.2.8): the states and the table by which a station waits for its turn.
use Rattle.std.specs.Prelude.{ℕ, ◌+◌, Bool, true, false, ◌==◌, ◌||◌, ◌&&◌, not, nat_lt, if◌then◌else◌}
use Rattle.mac_parameters.specs.Parameters.{interframe_gap, interframe_gap_part_1}
use Rattle.mac_transmit.specs.declared.deference.Defer.{Defer}
use Rattle.mac_transmit.specs.declared.deference.Defer.TheVariants.{Watch, Busy, Gap}

-- the half bits of the interframe gap that have gone, of 192
abbrev pub gap_of : Defer → ℕ
gap_of Watch = 0
gap_of (Busy was) = 0
gap_of (Gap k was) = k

-- the state after a half bit of a station that watches: carrier begins a busy time
abbrev pub watched : Bool → Defer
watched true = Busy false
watched false = Watch

-- The state after a half bit with carrier c, a sending of the station's own x, and a frame that waits w. In part 1 of
-- the gap, its first 128 half bits, carrier begins the busy time again, but not after a sending of the station's own.
abbrev pub deferred : Defer → Bool → Bool → Bool → Defer
deferred Watch c x w = watched c
deferred (Busy was) c x w = if c || x then Busy (was || x) else Gap 1 was
deferred (Gap k was) c x w =
    if k == interframe_gap then (if w then Watch else watched c)
    else if nat_lt k interframe_gap_part_1 && (not was && c) then Busy false
    else Gap (k + 1) was

-- whether the station is free to start in a half bit with carrier c, and with a frame that waits w
abbrev pub free_of : Defer → Bool → Bool → Bool
free_of Watch c w = not c
free_of (Busy was) c w = false
free_of (Gap k was) c w = (k == interframe_gap) && (w || not c)
