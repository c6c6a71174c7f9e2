-- The names and numbers that are printed of a fault (profile).
use Rattle.std.specs.Prelude.{ℕ, List, codes}
use Rattle.layout_file.specs.declared.fault.Table.{Table}
use Rattle.layout_file.specs.declared.fault.Table.TheVariants as table
use Rattle.layout_file.specs.declared.fault.Key.{Key}
use Rattle.layout_file.specs.declared.fault.Key.TheVariants as key
use Rattle.layout_file.specs.declared.fault.LayoutCode.{LayoutCode}
use Rattle.layout_file.specs.declared.fault.LayoutCode.TheVariants as code

-- a table's printed name (profile)
abbrev pub name_of_table : Table → List ℕ
name_of_table table.File = codes "file"
name_of_table table.Segment = codes "segment"
name_of_table table.Station = codes "station"
name_of_table table.Repeater = codes "repeater"
name_of_table table.Send = codes "send"

-- a key as it is written in the file, and a dash for none (profile)
abbrev pub name_of_key : Key → List ℕ
name_of_key key.None = codes "-"
name_of_key key.Format = codes "format"
name_of_key key.Seed = codes "seed"
name_of_key key.UntilBits = codes "until_bits"
name_of_key key.Segment = codes "segment"
name_of_key key.Station = codes "station"
name_of_key key.Repeater = codes "repeater"
name_of_key key.Send = codes "send"
name_of_key key.Name = codes "name"
name_of_key key.At = codes "at"
name_of_key key.Load = codes "load"
name_of_key key.LoseBits = codes "lose_bits"
name_of_key key.Delay = codes "delay"
name_of_key key.Port = codes "port"
name_of_key key.Octets = codes "octets"

-- a code's number, from 1 in the order in which faults are looked for (profile)
abbrev pub number_of_code : LayoutCode → ℕ
number_of_code code.NotToml = 1
number_of_code code.UnknownKey = 2
number_of_code code.Missing = 3
number_of_code code.WrongType = 4
number_of_code code.BadName = 5
number_of_code code.OutOfRange = 6
number_of_code code.TooMany = 7
number_of_code code.SameName = 8
number_of_code code.NoSuchSegment = 9
number_of_code code.NoSuchStation = 10
number_of_code code.TapTaken = 11
number_of_code code.Loop = 12
number_of_code code.Apart = 13
number_of_code code.BadFrame = 14
number_of_code code.OutOfMemory = 15

-- a code's printed name (profile)
abbrev pub name_of_code : LayoutCode → List ℕ
name_of_code code.NotToml = codes "NotToml"
name_of_code code.UnknownKey = codes "UnknownKey"
name_of_code code.Missing = codes "Missing"
name_of_code code.WrongType = codes "WrongType"
name_of_code code.BadName = codes "BadName"
name_of_code code.OutOfRange = codes "OutOfRange"
name_of_code code.TooMany = codes "TooMany"
name_of_code code.SameName = codes "SameName"
name_of_code code.NoSuchSegment = codes "NoSuchSegment"
name_of_code code.NoSuchStation = codes "NoSuchStation"
name_of_code code.TapTaken = codes "TapTaken"
name_of_code code.Loop = codes "Loop"
name_of_code code.Apart = codes "Apart"
name_of_code code.BadFrame = codes "BadFrame"
name_of_code code.OutOfMemory = codes "OutOfMemory"
