-- Half bits in which each port, closed ones too, hears symbols of one class, and nothing happens but counts (profile,
-- for the modes and guards of clause 9): what a frame or a jam does to a repeater. Ports and half bits count from 0.
use Rattle.std.specs.Prelude.{ℕ, ◌≡◌, ◌+◌, ◌*◌, ◌<◌, nat_lt, Bool, if◌then◌else◌, List, [], ◌∷◌, length, map, take, drop, slice_index_or}
use Rattle.std.specs.List.{AllByRecursion}
use Rattle.mac_parameters.specs.Parameters.{preamble_length}
use Rattle.manchester_line.specs.declared.Sym.{Sym}
use Rattle.manchester_line.specs.declared.Sym.TheVariants as sym
use Rattle.manchester_line.specs.Line.{preamble_at, jam_at}
use Rattle.repeater_core.specs.declared.modes.Mode.{Mode}
use Rattle.repeater_core.specs.declared.modes.Mode.TheVariants.{Idle, Repeat, Extend, RxClash, TxClash, OnePort}
use Rattle.repeater_core.specs.Delayed.{Delayed, moved_on}
use Rattle.repeater_core.specs.Step.{RepeaterDevice, after, emitted_by, decided_by}
use Rattle.repeater_core.specs.Steady.{mode_on, texted, IsSteady, IsSteadyStep}

-- the class of a symbol, named by one symbol of it: Idle, a signal of either level, or Clash
abbrev pub class_of : Sym → Sym
class_of sym.Idle = sym.Idle
class_of sym.Clash = sym.Clash
class_of s = sym.Hi

-- the state after half bits in which the ports hear these rows of a symbol a port, the first one first
abbrev pub after_rows : List (List Sym) → RepeaterDevice → RepeaterDevice
after_rows [] r = r
after_rows (row ∷ rows) r = after_rows rows (after row r)

-- what the port that a mode repeats hears in these half bits, where there is one
abbrev pub IsSource : Mode → List Sym → List (List Sym) → Type 0
IsSource (Repeat n i) heard rows = map (λ row. slice_index_or row n sym.Idle) rows ≡ heard
IsSource _ heard rows = Unit {0}

-- what the port that a mode repeats, where there is one, hears in these half bits is of the class of what it hears in
-- this row
abbrev pub IsOfSource : Mode → List Sym → List Sym → Type 0
IsOfSource (Repeat n i) hears heard =
    AllByRecursion (λ s. class_of s ≡ class_of (slice_index_or hears n sym.Idle)) heard
IsOfSource _ hears heard = Unit {0}

-- rows of what the ports hear (profile): one for each half bit of `heard`, which is what the port that the mode repeats
-- hears, and each of the classes of the row `hears`
pub record AreHeardAs (hears : List Sym) (mode : Mode) (heard : List Sym) (rows : List (List Sym)) : Type 0 where
  pub count : length rows ≡ length heard
  pub classes : AllByRecursion (λ row. map class_of row ≡ map class_of hears) rows
  pub source : IsSource mode heard rows

-- what a mode sends, to whom it does, where the port that it repeats hears s: of the preamble and start frame
-- delimiter, of the jam, or s
abbrev pub text_for : Mode → Sym → Sym
text_for Idle s = sym.Idle
text_for (Repeat n i) s = if nat_lt i preamble_length then preamble_at i else s
text_for (Extend n i j) s = jam_at j
text_for (RxClash n i) s = jam_at i
text_for (TxClash i) s = jam_at i
text_for (OnePort n i) s = jam_at i

-- what a mode sends in half bits in which it changes by its counts alone, and in which the port that it repeats hears
-- these symbols
abbrev pub texts_after : Mode → List Sym → List Sym
texts_after mode [] = []
texts_after mode (s ∷ heard) = text_for (mode_on mode) s ∷ texts_after (mode_on mode) heard

-- what is not yet emitted after half bits in each of which one text goes to the ports that are sent a signal
abbrev pub line_with : List Bool → List Sym → Delayed → Delayed
line_with deciding [] d = d
line_with deciding (text ∷ texts) d = line_with deciding texts (moved_on (texted deciding text) d)

-- each half bit of these rows is steady: the ports emit and are sent signals as told, the mode changes by its counts
-- alone, and no port is closed, opened or halted
abbrev pub AreSteadyRows : List (List Sym) → List Bool → List Bool → RepeaterDevice → Type 0
AreSteadyRows rows emitting deciding r =
    (k : ℕ) → k < length rows
    → IsSteadyStep (slice_index_or rows k []) emitting deciding (after_rows (take k rows) r)

-- in each half bit of these rows its text is decided for the ports that are sent a signal, and Idle for the others
abbrev pub DecideTexts : List (List Sym) → List Bool → List Sym → RepeaterDevice → Type 0
DecideTexts rows deciding texts r =
    (k : ℕ) → k < length rows
    → decided_by (slice_index_or rows k []) (after_rows (take k rows) r)
    ≡ texted deciding (slice_index_or texts k sym.Idle)

-- in each half bit of these rows within the delay the ports emit what was decided and not yet emitted before all of
-- them
abbrev pub EmitRows : List (List Sym) → RepeaterDevice → Type 0
EmitRows rows r =
    (k : ℕ) → k < length rows → k < r.line.delay
    → emitted_by (after_rows (take k rows) r) ≡ take r.line.ports (drop (k * r.line.ports) r.line.rows)

-- steady half bits stay steady: once some of them are over, in which the ports heard symbols of those classes, the n
-- that are left are steady, also with other symbols of those classes
abbrev pub SteadinessLasts : Type 0
SteadinessLasts =
    (hears row : List Sym) (rows : List (List Sym)) (r : RepeaterDevice) (n : ℕ)
    → AllByRecursion (λ row. map class_of row ≡ map class_of hears) rows → map class_of row ≡ map class_of hears
    → IsSteady hears r (length rows + n) → IsSteady row (after_rows rows r) n
