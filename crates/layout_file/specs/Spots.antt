-- The tables of a document in the order in which they are judged (profile).
use Rattle.std.specs.Prelude.{ℕ, ◌+◌, List, [], ◌∷◌, ◌++◌}
use Rattle.toml.specs.Data.{Members}
use Rattle.layout_file.specs.declared.fault.Key.{Key}
use Rattle.layout_file.specs.declared.fault.Key.TheVariants as key
use Rattle.layout_file.specs.declared.rules.Shape.{Shape}
use Rattle.layout_file.specs.declared.rules.Shape.TheVariants as shape
use Rattle.layout_file.specs.declared.fault.LayoutCode.{LayoutCode}
use Rattle.layout_file.specs.declared.fault.LayoutFault.{LayoutFault}
use Rattle.layout_file.specs.Rules.{table_of}
use Rattle.layout_file.specs.Tree.{rows_at}

-- a table of the document: its row from 1, or 0 for the file's own, and its port from 1 in a repeater's row, else 0
pub record Spot : Type 0 where
  pub shape : Shape
  pub row : ℕ
  pub port : ℕ
  pub members : Members

-- the rows of an array, counted from n
abbrev pub spots_of_rows : Shape → ℕ → List Members → List Spot
spots_of_rows t n [] = []
spots_of_rows t n (ms ∷ rows) = record { shape = t; row = n; port = 0; members = ms } ∷ spots_of_rows t (n + 1) rows

-- the ports of the n-th repeater, counted from p
abbrev pub ports : ℕ → ℕ → List Members → List Spot
ports n p [] = []
ports n p (ms ∷ rows) = record { shape = shape.Port; row = n; port = p; members = ms } ∷ ports n (p + 1) rows

-- the n-th repeater, followed by its ports
abbrev pub with_ports : ℕ → Members → List Spot
with_ports n ms = record { shape = shape.Repeater; row = n; port = 0; members = ms } ∷ ports n 1 (rows_at ms key.Port)

-- the repeaters counted from n, each followed by its ports
abbrev pub repeaters : ℕ → List Members → List Spot
repeaters n [] = []
repeaters n (ms ∷ rows) =
    (record { shape = shape.Repeater; row = n; port = 0; members = ms } ∷ ports n 1 (rows_at ms key.Port))
    ++ repeaters (n + 1) rows

-- these tables, and after them the segments, the stations, the repeaters and the sends
abbrev pub with_rows : List Spot → Members → List Spot
with_rows ss ms =
    ((ss ++ spots_of_rows shape.Segment 1 (rows_at ms key.Segment))
    ++ spots_of_rows shape.Station 1 (rows_at ms key.Station))
    ++ repeaters 1 (rows_at ms key.Repeater)
    ++ spots_of_rows shape.Send 1 (rows_at ms key.Send)

-- the file, the segments, the stations, the repeaters and the sends
unfoldable pub spots : Members → List Spot
spots ms =
    (((record { shape = shape.File; row = 0; port = 0; members = ms } ∷ [])
    ++ spots_of_rows shape.Segment 1 (rows_at ms key.Segment))
    ++ spots_of_rows shape.Station 1 (rows_at ms key.Station))
    ++ repeaters 1 (rows_at ms key.Repeater)
    ++ spots_of_rows shape.Send 1 (rows_at ms key.Send)

-- a fault at a table
abbrev pub fault : LayoutCode → Spot → Key → LayoutFault
fault c s k = record { code = c; place = record { table = table_of s.shape; row = s.row; port = s.port; key = k } }
