-- Calls of one kind, some of which fail by their numbers (profile).
use Rattle.std.specs.Prelude.{◌==◌, ℕ, ◌+◌, ◌-◌, ◌^◌, min, List, Bool, if◌then◌else◌}
use Rattle.std.specs.List.{list_any}
use Rattle.memory_files.specs.declared.calls.Calls.{Calls}

-- no call was made yet; those of these numbers, counted from 1, fail
abbrev pub no_calls : List ℕ → Calls
no_calls failing = record { failing = failing; made = 0 }

-- one more; a count stays at its last value, 2 ^ 64 - 1
abbrev pub one_more : ℕ → ℕ
one_more n = min (n + 1) (2 ^ 64 - 1)

-- one more call was made
abbrev pub next_call : Calls → Calls
next_call calls = record calls { made = one_more calls.made }

-- the call that was made last is one of those that fail
abbrev pub is_failing : Calls → Bool
is_failing calls = list_any (λ number. number == calls.made) calls.failing

-- a count of faults after a call that failed or didn't
abbrev pub faults_after : Bool → ℕ → ℕ
faults_after failed faults = if failed then one_more faults else faults
