use Rattle.std.proofs.Common.{◌≡◌, ◌++◌, map, drop}
use Rattle.std.specs.List.{flat_map}
use Rattle.capture_file.specs.Writing.{capture_text, text_of}
use Rattle.run_texts.specs.Captures.{record_of}
use Rattle.run_texts.proofs.captures.pcap_of.Given as goal

abbrev pub invariant-loop-one : goal.invariant-loop-one
invariant-loop-one l = capture_text (map record_of l.taken) ≡ l.capture ++ flat_map text_of (map record_of (drop l.one-index l.taken))
