-- The axis of times (profile). Half bits count from 0; heights are hundredths of a pixel from the top.
use Rattle.std.specs.Prelude.{ℕ, ◌+◌, ◌-◌, ◌/◌, ◌%◌, ◌==◌, nat_lt, if◌then◌else◌, List, [], ◌∷◌, ◌++◌, find, unwrap_or, flat_map, codes, decimal}
use Rattle.std.specs.List.{range_with_len}
use Rattle.run_picture.specs.Sizes.{half_bits_a_microsecond, half_bits_a_tenth, longest_step, most_steps}
use Rattle.run_picture.specs.Times.{x_of}
use Rattle.run_picture.specs.declared.window.Window.{Window}

-- a hundred microseconds, in half bits
abbrev pub hundred_microseconds : ℕ
hundred_microseconds = 2000

-- the half bits from tick to tick that an axis may have beside the longest: round numbers of tenths of a microsecond
abbrev pub short_steps : List ℕ
short_steps =
    2 ∷ 4 ∷ 10 ∷ 20 ∷ 40 ∷ 100 ∷ 200 ∷ 400 ∷ 1000 ∷ hundred_microseconds ∷ 4000 ∷ 10000 ∷ 20000 ∷ 40000 ∷ []

-- the first of these steps of which so many half bits have at most `most_steps`, and where there is none, the longest
abbrev pub first_step : List ℕ → ℕ → ℕ
first_step steps width = unwrap_or (find (λ step. nat_lt ((width - 1) / most_steps) step) steps) longest_step

-- the half bits from tick to tick of a window with so many half bits
abbrev pub tick_step : ℕ → ℕ
tick_step width = first_step short_steps width

-- the tenths of a microsecond that are left of so many half bits, where there are any
abbrev pub tenths : ℕ → List ℕ
tenths rest = if rest == 0 then [] else codes "." ++ decimal (rest / half_bits_a_tenth)

-- a half bit's microseconds: the whole ones, and the tenths where they aren't 0
unfoldable pub microseconds : ℕ → List ℕ
microseconds t = decimal (t / half_bits_a_microsecond) ++ tenths (t % half_bits_a_microsecond)

-- the tick at half bit t: a line down the picture, its microseconds, and its half bits
unfoldable pub tick : Window → ℕ → ℕ → List ℕ
tick window height t =
    codes "<path class='line' d='M" ++ decimal (x_of window t) ++ codes " 7700V" ++ decimal height
    ++ codes "'/><text class='tick' x='" ++ decimal (x_of window t) ++ codes "' y='5700'>" ++ microseconds t
    ++ codes "</text><text class='tick' x='" ++ decimal (x_of window t) ++ codes "' y='7200'>" ++ decimal t
    ++ codes "</text>\n"

-- the tick at half bit t, if a multiple of the step is there
abbrev pub tick_at : Window → ℕ → ℕ → ℕ → List ℕ
tick_at window height step t = if t % step == 0 then tick window height t else []

-- the words of the axis
unfoldable pub words_of_axis : List ℕ
words_of_axis =
    codes "<text class='axis' x='-5200' y='5700'>microseconds</text>"
    ++ codes "<text class='axis' x='-5200' y='7200'>half bits</text>"
    ++ codes "<text class='axis' x='-600' y='8600'>place</text>\n"

-- the ticks at these half bits
abbrev pub ticks : Window → ℕ → ℕ → List ℕ → List ℕ
ticks window height step ts = flat_map (tick_at window height step) ts

-- the axis: its words, and its ticks from the window's first half bit to the one after its last
abbrev pub axis : Window → ℕ → List ℕ
axis window height =
    words_of_axis
    ++ ticks window height (tick_step (window.to - window.from))
    (range_with_len window.from (window.to + 1 - window.from))
