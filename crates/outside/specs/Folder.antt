-- The counts of faults of the store of real files and of the standard output (profile).
use Rattle.std.specs.Prelude.{ℕ}
use Rattle.outside.specs.declared.folder.FolderStore.{FolderStore}
use Rattle.outside.specs.declared.out.OutSink.{OutSink}

-- how many reads failed
abbrev pub read_faults_of : {R F M : Type 0} → FolderStore R F M → ℕ
read_faults_of store = store.read_faults

-- how many starts and appends failed
abbrev pub write_faults_of : {R F M : Type 0} → FolderStore R F M → ℕ
write_faults_of store = store.write_faults

-- how many writes failed
abbrev pub faults_of : {R : Type 0} → OutSink R → ℕ
faults_of sink = sink.faults
