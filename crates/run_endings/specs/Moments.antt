-- What a store and a sink tell at a moment (profile).
use Rattle.std.specs.Prelude.{ℕ, List, Option}
use Rattle.outside.specs.Files.{Files}

-- the store and the sink at a moment: the files and the text that they tell, and how many reads and writes of the
-- store failed, how many writes to the sink failed, and how many it refused
pub record Moment : Type 0 where
  pub held : Option Files
  pub reads : ℕ
  pub writes : ℕ
  pub written : Option (List ℕ)
  pub faults : ℕ
  pub refused : ℕ

-- the moment at which a store and a sink stand, by what a store and a sink tell, in the order of the record
abbrev pub moment :
    {S K : Type 0} → (S → Option Files) → (S → ℕ) → (S → ℕ) → (K → Option (List ℕ)) → (K → ℕ) → (K → ℕ) → S → K
    → Moment
moment held reads writes written faults refused store out =
    record {
      held = held store;
      reads = reads store;
      writes = writes store;
      written = written out;
      faults = faults out;
      refused = refused out;
    }
