-- The picture of what a log tells of the half bits from `from` to below `to`, from 0: a space-time diagram, as SVG 1.1
-- (profile).
use Rattle.std.specs.Prelude.{ℕ, List, ◌++◌, codes}
use Rattle.layout.specs.declared.lines.Layout.{Layout}
use Rattle.log_meter.specs.declared.line.LogLine.{LogLine}
use Rattle.run_picture.specs.Axis.{axis}
use Rattle.run_picture.specs.Bands.{bands_text}
use Rattle.run_picture.specs.Head.{head}
use Rattle.run_picture.specs.Lanes.{page_of}
use Rattle.run_picture.specs.Legend.{legend}
use Rattle.run_picture.specs.Marks.{marks}
use Rattle.run_picture.specs.declared.lanes.Page.{Page}
use Rattle.run_picture.specs.declared.window.Window.{Window}

-- the picture on this page, of this window
abbrev pub picture_on : Page → Window → Layout → List LogLine → List ℕ
picture_on page window l lines =
    head page.height ++ legend window lines ++ axis window page.height ++ bands_text l l.segments page.bands
    ++ marks window l page.bands lines ++ codes "</svg>\n"

-- the picture of these lines
abbrev pub picture_of : Layout → List LogLine → ℕ → ℕ → List ℕ
picture_of l lines from to = picture_on (page_of l) (record { from = from; to = to }) l lines
