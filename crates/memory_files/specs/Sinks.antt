-- What a sink in memory shows (profile).
use Rattle.std.specs.Prelude.{ℕ, List}
use Rattle.memory_files.specs.declared.calls.Calls.{Calls}
use Rattle.memory_files.specs.declared.sink.MemorySink.{MemorySink}

-- the octets that it got
abbrev pub octets_of : MemorySink → List ℕ
octets_of sink = sink.octets

-- its writes, of which some fail
abbrev pub writes_of : MemorySink → Calls
writes_of sink = sink.writes

-- how many writes failed
abbrev pub failed_of : MemorySink → ℕ
failed_of sink = sink.faults

-- how many writes took nothing of their piece
abbrev pub refused_of : MemorySink → ℕ
refused_of sink = sink.refused
