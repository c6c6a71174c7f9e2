-- What a store in memory shows (profile).
use Rattle.std.specs.Prelude.{ℕ, List, max}
use Rattle.memory_files.specs.declared.calls.Calls.{Calls}
use Rattle.memory_files.specs.declared.store.MemoryStore.{MemoryStore}
use Rattle.memory_files.specs.declared.store.CallTally.{CallTally}
use Rattle.memory_files.specs.Calls.{no_calls, next_call, is_failing, faults_after}
use Rattle.outside.specs.Files.{Files}

-- its files
abbrev pub files_of : MemoryStore → Files
files_of store = store.files.items

-- its calls by their kinds, their faults, and the longest room or piece
abbrev pub tally_of : MemoryStore → CallTally
tally_of store = store.tally

-- the tally before any call; the numbers are those of the reads, starts and appends that fail
abbrev pub no_tally : List ℕ → List ℕ → List ℕ → CallTally
no_tally reads starts appends =
    record {
      reads = no_calls reads;
      starts = no_calls starts;
      appends = no_calls appends;
      read_faults = 0;
      write_faults = 0;
      largest = 0;
    }

-- the tally after one more read, with a room of so many octets
abbrev pub after_read : ℕ → CallTally → CallTally
after_read room tally =
    let reads : Calls = next_call tally.reads in
    record tally {
      reads = reads;
      read_faults = faults_after (is_failing reads) tally.read_faults;
      largest = max tally.largest room;
    }

-- the tally after one more start
abbrev pub after_start : CallTally → CallTally
after_start tally =
    let starts : Calls = next_call tally.starts in
    record tally { starts = starts; write_faults = faults_after (is_failing starts) tally.write_faults }

-- the tally after one more append, of so many octets
abbrev pub after_append : ℕ → CallTally → CallTally
after_append piece tally =
    let appends : Calls = next_call tally.appends in
    record tally {
      appends = appends;
      write_faults = faults_after (is_failing appends) tally.write_faults;
      largest = max tally.largest piece;
    }
