-- The text of a picture, made piece by piece.
use Rattle.std.proofs.Common.{◌≡◌, ℕ, List, [], ◌++◌, codes, ap, ◌∙◌}
use Rattle.layout.specs.declared.lines.Layout.{Layout}
use Rattle.log_meter.specs.declared.line.LogLine.{LogLine}
use Rattle.run_picture.specs.Axis.{axis}
use Rattle.run_picture.specs.Bands.{bands_text}
use Rattle.run_picture.specs.Head.{head}
use Rattle.run_picture.specs.Legend.{legend}
use Rattle.run_picture.specs.Marks.{marks}
use Rattle.run_picture.specs.Pictures.{picture_on}
use Rattle.run_picture.specs.declared.lanes.Band.{Band}
use Rattle.run_picture.specs.declared.lanes.Page.{Page}
use Rattle.run_picture.specs.declared.window.Window.{Window}

-- what stands before the marks
abbrev front_of : ℕ → List Band → Window → Layout → List LogLine → List ℕ
front_of height bands window l lines = head height ++ legend window lines ++ axis window height ++ bands_text l l.segments bands

-- all of it
abbrev all_of : ℕ → List Band → Window → Layout → List LogLine → List ℕ
all_of height bands window l lines = front_of height bands window l lines ++ marks window l bands lines ++ codes "</svg>\n"

pub whole_text : (page given : Page) (bands : List Band) (window : Window) (l : Layout) (lines rows : List LogLine) (t0 t1 t2 t3 : List ℕ)
    → given ≡ page → bands ≡ given.bands → rows ≡ lines → t0 ≡ [] → t1 ≡ t0 ++ front_of given.height bands window l rows → t2 ≡ t1 ++ marks window l bands rows
    → t3 ≡ t2 ++ codes "</svg>\n" → t3 ≡ picture_on page window l lines
whole_text page given bands window l lines rows t0 t1 t2 t3 page_is bands_are rows_are e0 e1 e2 e3 =
    e3 ∙ ap (λ (t : List ℕ). t ++ codes "</svg>\n") (e2 ∙ ap (λ (t : List ℕ). t ++ marks window l bands rows) (e1 ∙ ap (λ (t : List ℕ). t ++ front_of given.height bands window l rows) e0))
    ∙ ap (λ (r : List LogLine). all_of given.height bands window l r) rows_are
    ∙ ap (λ (bs : List Band). all_of given.height bs window l lines) bands_are
    ∙ ap (λ (p : Page). all_of p.height p.bands window l lines) page_is
