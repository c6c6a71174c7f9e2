-- Where half bits lie on the picture, in hundredths of a pixel from the plot's left edge (profile). Half bits count
-- from 0.
use Rattle.std.specs.Prelude.{ℕ, ◌+◌, ◌-◌, ◌*◌, ◌/◌, ◌<◌, ◌≤◌, nat_lt, if◌then◌else◌, List, ◌++◌, codes, decimal}
use Rattle.mac_parameters.specs.Parameters.{most_half_bits}
use Rattle.run_picture.specs.Sizes.{longest_window, plot_width}
use Rattle.run_picture.specs.declared.window.Window.{Window}

-- the half bits of a picture: at least one of them, within the longest run, and not too many
pub record IsWindow (window : Window) : Type 0 where
  pub order : window.from < window.to
  pub most : window.to ≤ most_half_bits
  pub few : window.to ≤ window.from + longest_window

-- how far right a half bit lies that isn't before the window
abbrev pub x_of : Window → ℕ → ℕ
x_of window t = plot_width * (t - window.from) / (window.to - window.from)

-- the same as text, with a sign where the half bit is before the window
unfoldable pub place_of_time : Window → ℕ → List ℕ
place_of_time window t =
    if nat_lt t window.from then codes "-" ++ decimal (plot_width * (window.from - t) / (window.to - window.from))
    else decimal (x_of window t)
