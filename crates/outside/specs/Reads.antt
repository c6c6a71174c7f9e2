-- Reads of real files that go on in order (profile). Octets of a file are counted from 0.
use Rattle.std.specs.Prelude.{◌≡◌, ◌≢◌, ◌⊎◌, ◌==◌, ℕ, ◌+◌, ◌-◌, ◌^◌, min, List, [], ◌∷◌, ◌++◌, Bool, IsTrue, if◌then◌else◌, bytes_eq, Option, None, Some, option_map}
use Rattle.std.specs.List.{list_any}
use Rattle.outside.specs.declared.reads.OpenRead.{OpenRead}
use Rattle.outside.specs.declared.reads.Reads.{Reads}

-- an octet of a named file
pub record Octet : Type 0 where
  pub name : List ℕ
  pub place : ℕ

-- the octet for which a file is open
abbrev pub due_of : {F : Type 0} → OpenRead F → Octet
due_of reading = record { name = reading.name; place = reading.place }

-- the octet for which a file is open, where one is
abbrev pub due_octet : {F : Type 0} → Reads F → Option Octet
due_octet reads = option_map due_of reads.open

-- the octet for which a read of so many octets from a place on leaves its file open: at the end it leaves none
abbrev pub due_after : List ℕ → ℕ → ℕ → Option Octet
due_after name from n =
    if n == 0 then None else Some (record { name = name; place = min (from + n) (2 ^ 64 - 1) })

-- the files so far in which no place can be taken, such as pipes
abbrev pub streams_of : {F : Type 0} → Reads F → List (List ℕ)
streams_of reads = reads.streams

-- one of the names is this one
abbrev pub is_name_of : List ℕ → List (List ℕ) → Bool
is_name_of name names = list_any (λ known. bytes_eq known name) names

-- a read of a stream that doesn't go on from the read before it
abbrev pub IsReadAgain : {F : Type 0} → List ℕ → ℕ → Reads F → Type 0
IsReadAgain name from reads =
    IsTrue (is_name_of name (streams_of reads)) × (due_octet reads ≢ Some (record { name = name; place = from }))

-- the streams after a read of the named file: those before it, and it may be one more
abbrev pub AreStreams : List ℕ → List (List ℕ) → List (List ℕ) → Type 0
AreStreams name before now = (now ≡ before) ⊎ (now ≡ before ++ name ∷ [])
