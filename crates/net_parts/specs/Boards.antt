-- The board of a run, and the events that change it (profile). Parts, edges and windows count from 0.
use Rattle.std.specs.Prelude.{◌≡◌, ℕ, Bool, true, false, not, ◌+◌, ◌<◌, ◌==◌, List, [], ◌∷◌, map, replicate, if◌then◌else◌, slice_index_or}
use Rattle.std.specs.List.{AllByRecursion}
use Rattle.manchester_line.specs.declared.Sym.{Sym}
use Rattle.manchester_line.specs.declared.Sym.TheVariants.{Idle}
use Rattle.load_plan.specs.declared.plan.Plan.{Plan}
use Rattle.net_parts.specs.Windows.{lookahead, windows}
use Rattle.net_parts.specs.Parts.{PartState, part_at, run_part, edges_of_part, is_segment_part, parts}
use Rattle.net_parts.specs.Parcels.{true_symbols, next_stamp}

-- A part: its window, its state, and whether it is lost (profile).
pub record PartOnBoard : Type 0 where
  pub window : ℕ
  pub state : PartState
  pub lost : Bool

-- Where a parcel is: at its segment, at its repeater, or in mail (profile).
pub data Whereabouts : Type 0 where
  Segment : Whereabouts
  Repeater : Whereabouts
  Mail : Whereabouts

-- The one parcel of an edge: its stamp, its way, its symbols, whether it is spoiled, and where it is (profile).
pub record ParcelOnBoard : Type 0 where
  pub window : ℕ
  pub to_repeater : Bool
  pub symbols : List Sym
  pub spoiled : Bool
  pub spot : Whereabouts

-- Each part and each edge's parcel, by their numbers (profile).
pub record Board : Type 0 where
  pub part : ℕ → PartOnBoard
  pub parcel : ℕ → ParcelOnBoard

-- What may happen to a board: a part makes a window, or is given up for it, and a parcel goes into mail, or out of it
-- (profile).
pub data Event : Type 0 where
  Run : (part : ℕ) → Event
  Spoil : (part : ℕ) → Event
  Post : (edge : ℕ) → Event
  Take : (edge : ℕ) → Event

-- All parts new at window 0, and each parcel at its segment with stamp 0, on the way to the segment, full of Idle
-- (profile).
abbrev pub opening_board : Plan → Board
opening_board plan = record {
  part = λ u. record { window = 0; state = part_at plan u 0; lost = false };
  parcel = λ e. record {
    window = 0;
    to_repeater = false;
    symbols = replicate (lookahead plan.layout) Idle;
    spoiled = false;
    spot = Segment;
  };
}

-- Where a way leads (profile).
abbrev pub whereabouts_at : Bool → Whereabouts
whereabouts_at true = Repeater
whereabouts_at false = Segment

-- The place of an edge among others, from 0 (profile).
abbrev pub place_in : List ℕ → ℕ → ℕ
place_in [] e = 0
place_in (f ∷ fs) e = if f == e then 0 else place_in fs e + 1

-- Whether an edge is one of these (profile).
abbrev pub has_edge : List ℕ → ℕ → Bool
has_edge [] e = false
has_edge (f ∷ fs) e = if f == e then true else has_edge fs e

-- A parcel is at part u, on the way to it, with this stamp (profile).
abbrev pub IsHere : Plan → ℕ → ℕ → ParcelOnBoard → Type 0
IsHere plan u w p =
    let way = not (is_segment_part plan u) in
    (p.spot ≡ whereabouts_at way) × (p.to_repeater ≡ way) × (p.window ≡ w)

-- A part's window is one of the run's, and each parcel of its edges is here with that stamp, and meets a further
-- condition (profile).
abbrev pub IsReady : Plan → Board → ℕ → (ParcelOnBoard → Type 0) → Type 0
IsReady plan b u also =
    (u < parts plan) × ((b.part u).window < windows plan)
    × AllByRecursion (λ e. IsHere plan u (b.part u).window (b.parcel e) × also (b.parcel e)) (edges_of_part plan u)

-- An event can happen to a board (profile).
abbrev pub IsEnabled : Plan → Board → Event → Type 0
IsEnabled plan b (Run u) = IsReady plan b u (λ p. p.spoiled ≡ false) × ((b.part u).lost ≡ false)
IsEnabled plan b (Spoil u) = IsReady plan b u (λ p. Unit {0})
IsEnabled plan b (Post e) = (b.parcel e).spot ≡ whereabouts_at (not (b.parcel e).to_repeater)
IsEnabled plan b (Take e) = (b.parcel e).spot ≡ Mail

-- The parcel that part u turned and stamped in window w, with these symbols (profile).
abbrev pub refilled_on_board : Plan → ℕ → ℕ → List Sym → ParcelOnBoard → ParcelOnBoard
refilled_on_board plan u w symbols p = record {
  window = next_stamp (is_segment_part plan u) w;
  to_repeater = is_segment_part plan u;
  symbols = symbols;
  spoiled = false;
  spot = p.spot;
}

-- The parcel that part u turned and stamped in window w, without symbols and spoiled (profile).
abbrev pub emptied_on_board : Plan → ℕ → ℕ → ParcelOnBoard → ParcelOnBoard
emptied_on_board plan u w p = record {
  window = next_stamp (is_segment_part plan u) w;
  to_repeater = is_segment_part plan u;
  symbols = [];
  spoiled = true;
  spot = p.spot;
}

-- The same of all numbers, but this of u (profile).
abbrev pub put_at : {X : Type 0} → ℕ → X → (ℕ → X) → ℕ → X
put_at u s f v = if u == v then s else f v

-- The board after an event. In Run the part makes the half bits of its window from the plan, its own state and its
-- parcels' symbols alone (profile).
abbrev pub happens : Plan → Board → Event → Board
happens plan b (Run u) =
    let w = (b.part u).window in
    let es = edges_of_part plan u in
    let made = run_part plan u w (b.part u).state (map (λ e. (b.parcel e).symbols) es) in
    record {
      part = put_at u (record { window = w + 1; state = made.state; lost = false }) b.part;
      parcel = λ e.
          if has_edge es e then refilled_on_board plan u w (slice_index_or made.symbols (place_in es e) []) (b.parcel e)
          else b.parcel e;
    }
happens plan b (Spoil u) =
    let w = (b.part u).window in
    record {
      part = put_at u (record { window = w + 1; state = (b.part u).state; lost = true }) b.part;
      parcel = λ e. if has_edge (edges_of_part plan u) e then emptied_on_board plan u w (b.parcel e) else b.parcel e;
    }
happens plan b (Post e) = record b { parcel = put_at e (record (b.parcel e) { spot = Mail }) b.parcel }
happens plan b (Take e) =
    record b { parcel = put_at e (record (b.parcel e) { spot = whereabouts_at (b.parcel e).to_repeater }) b.parcel }

-- Each of these events, one after the other, can happen where it stands (profile).
abbrev pub AreEnabled : Plan → Board → List Event → Type 0
AreEnabled plan b [] = Unit {0}
AreEnabled plan b (e ∷ es) = IsEnabled plan b e × AreEnabled plan (happens plan b e) es

-- The board after these events, one after the other (profile).
abbrev pub board_after : Plan → Board → List Event → Board
board_after plan b [] = b
board_after plan b (e ∷ es) = board_after plan (happens plan b e) es

-- Every part that isn't lost stands at its window's time, and every unspoiled parcel is true for the plan (profile).
pub record IsTrueBoard (plan : Plan) (b : Board) : Type 0 where
  pub parts : (u : ℕ) → (b.part u).lost ≡ false → (b.part u).state ≡ part_at plan u (b.part u).window
  pub parcels : (e : ℕ) → (b.parcel e).spoiled ≡ false →
      (b.parcel e).symbols ≡ true_symbols plan (b.parcel e).to_repeater e (b.parcel e).window
