-- What parcels carry, and what comes to a part and leaves it (profile). Parts, edges, windows and half bits count
-- from 0.
use Rattle.std.specs.Prelude.{◌≡◌, ℕ, ◌+◌, ◌-◌, ◌*◌, min, Bool, true, false, not, List, map}
use Rattle.manchester_line.specs.declared.Sym.{Sym}
use Rattle.load_plan.specs.declared.plan.Plan.{Plan}
use Rattle.network.specs.Outputs.{half_bits}
use Rattle.net_parts.specs.declared.parcel.Parcel.{Parcel}
use Rattle.net_parts.specs.Windows.{lookahead, size}
use Rattle.net_parts.specs.Machines.{span}
use Rattle.net_parts.specs.Standing.{arrives, port_hears}
use Rattle.net_parts.specs.Parts.{edges_of_part, is_segment_part}

-- The symbols of the parcel of edge e with stamp w. On the way to its repeater they are those that the port hears in
-- window w. On the way to its segment they are those that come in for it in the half bits of window w, each of which
-- was decided L half bits before, L being the lookahead: L symbols, or as many as the last window has for the stamp
-- behind it (profile).
unfoldable pub true_symbols : Plan → Bool → ℕ → ℕ → List Sym
true_symbols plan true e w = span (port_hears plan e) (w * lookahead plan.layout) (size plan w)
true_symbols plan false e w =
    let L = lookahead plan.layout in
    span (arrives plan L e) (w * L) (min L (half_bits plan + L - w * L))

-- The stamp of what a part refills in window w, where it is a segment or isn't (profile).
abbrev pub next_stamp : Bool → ℕ → ℕ
next_stamp true w = w
next_stamp false w = w + 1

-- What the parcels of part u bring for window w, in order of its edges (profile).
abbrev pub brings : Plan → ℕ → ℕ → List (List Sym)
brings plan u w = map (λ e. true_symbols plan (not (is_segment_part plan u)) e w) (edges_of_part plan u)

-- What the parcels of part u take with them from window w, in order of its edges (profile).
abbrev pub takes : Plan → ℕ → ℕ → List (List Sym)
takes plan u w =
    let way = is_segment_part plan u in
    map (λ e. true_symbols plan way e (next_stamp way w)) (edges_of_part plan u)

-- A parcel is true for a plan, or spoiled (profile).
abbrev pub IsTrueParcel : Plan → Parcel → Type 0
IsTrueParcel plan p = p.spoiled ≡ false → p.symbols ≡ true_symbols plan p.to_repeater p.edge p.window

-- The parcel of edge e with this way and stamp, unspoiled and true (profile).
abbrev pub true_parcel : Plan → Bool → ℕ → ℕ → Parcel
true_parcel plan way w e =
    record { edge = e; window = w; to_repeater = way; symbols = true_symbols plan way e w; spoiled = false }

-- The parcels that part u gets for window w, in order of its edges (profile).
abbrev pub arrived : Plan → ℕ → ℕ → List Parcel
arrived plan u w = map (true_parcel plan (not (is_segment_part plan u)) w) (edges_of_part plan u)

-- The parcels that part u gives after window w, in order of its edges: turned, stamped and refilled (profile).
abbrev pub refilled : Plan → ℕ → ℕ → List Parcel
refilled plan u w =
    let way = is_segment_part plan u in
    map (true_parcel plan way (next_stamp way w)) (edges_of_part plan u)
