-- The head of a picture: its size, its style and its patterns (profile). Heights are hundredths of a pixel from the top
-- where the picture is 1,330 pixels wide.
use Rattle.std.specs.Prelude.{ℕ, List, ◌++◌, codes, decimal}

-- the style of words, and that the picture is as high as its width asks for
unfoldable pub style_of_words : List ℕ
style_of_words =
    codes "<style>svg{height:auto}text{font-family:sans-serif;font-size:1450px;fill:#222222}"
    ++ codes ".name,.segment{font-family:monospace}.segment{font-weight:bold}.long{font-size:1000px}"
    ++ codes ".name,.place,.axis{text-anchor:end}.place,.word{font-size:1200px;fill:#555555}"
    ++ codes ".tick,.axis{font-size:1300px}.tick{text-anchor:middle}"

-- the style of lines, and of sendings by how they ended
unfoldable pub style_of_sendings : List ℕ
style_of_sendings =
    codes ".lane{stroke:#999999;stroke-width:60}.line{stroke:#dddddd;stroke-width:60}"
    ++ codes ".wave,.front{fill:none;stroke:#555555;stroke-width:90}.wave{clip-path:url(#plot)}"
    ++ codes ".sent{fill:url(#sent);stroke:#1b5e9b;stroke-width:80}"
    ++ codes ".collided{fill:url(#collided);stroke:#a02020;stroke-width:80}"
    ++ codes ".given_up{fill:url(#given_up);stroke:#4a2070;stroke-width:80}"
    ++ codes ".cut{fill:url(#cut);stroke:#444444;stroke-width:80}"

-- the style of signs
unfoldable pub style_of_signs : List ℕ
style_of_signs =
    codes ".hit{fill:#111111;stroke:#ffffff;stroke-width:60}.received{fill:#2e8b3d;stroke:#ffffff;stroke-width:60}"
    ++ codes ".dropped{fill:none;stroke:#a02020;stroke-width:200}.clash{fill:#f0a000;stroke:#663c00;stroke-width:70}"
    ++ codes ".closed{fill:#111111;stroke:#111111;stroke-width:120}"
    ++ codes ".opened{fill:#ffffff;stroke:#111111;stroke-width:120}"
    ++ codes ".halted{fill:#8a4fc0;stroke:#111111;stroke-width:100}</style>\n"

-- the pattern that fills the bars of one kind of sendings: its name, the colour of its ground, and the lines on it
unfoldable pub pattern_of : List ℕ → List ℕ → List ℕ → List ℕ
pattern_of name colour lines =
    codes "<pattern id='" ++ name ++ codes "' width='500' height='500' patternUnits='userSpaceOnUse'>"
    ++ codes "<path d='M0 0h500v500h-500z' fill='" ++ colour ++ codes "'/>" ++ lines ++ codes "</pattern>\n"

-- the style
unfoldable pub style : List ℕ
style = style_of_words ++ style_of_sendings ++ style_of_signs

-- the patterns: of frames that were sent, that met a collision and that were given up, and of sendings that the end of
-- the run cut, so that they differ without colour
unfoldable pub patterns : List ℕ
patterns =
    pattern_of (codes "sent") (codes "#9ecbee") (codes "<path d='M0 250h500' stroke='#5b9bd0' stroke-width='90'/>")
    ++ pattern_of (codes "collided") (codes "#f6b3a8")
    (codes "<path d='M-100 600l700 -700M-100 100l200 -200M400 600l200 -200' stroke='#b02a2a' stroke-width='130'/>")
    ++ pattern_of (codes "given_up") (codes "#b79ad6")
    (codes "<path d='M0 0l500 500M0 500l500 -500' stroke='#3c1361' stroke-width='110'/>")
    ++ pattern_of (codes "cut") (codes "#eeeeee") (codes "<path d='M150 150h200v200h-200z' fill='#555555'/>")

-- the tag that opens a picture of this height, which is as wide as the window that shows it
unfoldable pub size_of_picture : ℕ → List ℕ
size_of_picture height =
    codes "<svg xmlns='http://www.w3.org/2000/svg' version='1.1' width='100%' viewBox='-26000 0 133000 "
    ++ decimal height ++ codes "'>\n"

-- the plot's outline, to which waves are clipped
unfoldable pub clip_of_plot : ℕ → List ℕ
clip_of_plot height =
    codes "<clipPath id='plot'><path d='M0 0H100000V" ++ decimal height ++ codes "H0z'/></clipPath>\n"

-- the white ground
unfoldable pub ground : ℕ → List ℕ
ground height = codes "<path d='M-26000 0h133000v" ++ decimal height ++ codes "h-133000z' fill='#ffffff'/>\n"

-- the head of a picture of this height
unfoldable pub head : ℕ → List ℕ
head height =
    size_of_picture height ++ style ++ codes "<defs>\n" ++ patterns ++ clip_of_plot height ++ codes "</defs>\n"
    ++ ground height
