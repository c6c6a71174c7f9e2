-- A line apart from where its name lies in memory (profile).
use Rattle.log_meter.specs.declared.entry.NamedLine.{NamedLine}
use Rattle.log_meter.specs.declared.line.LogLine.{LogLine}

-- the line
abbrev pub line_of : NamedLine → LogLine
line_of e = record { t = e.t; repeater = e.repeater; name = e.name.now; body = e.body }
