-- What a form writes to the store, as the code names it (profile).
use Rattle.std.specs.Prelude.{ℕ, List}
use Rattle.run_endings.specs.WrittenNames.{RunOf, StateOf, ToWrite}
use Rattle.run_forms.specs.declared.written.Written.{Written}
use Rattle.run_forms.specs.declared.written.Written.TheVariants as written

-- the files of a run, or the state, of a prefix
abbrev pub written_by : Written → List ℕ → ToWrite
written_by written.Run prefix = RunOf prefix
written_by written.State prefix = StateOf prefix
