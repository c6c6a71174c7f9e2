-- What a port makes of the wishes for it: a port whose unbroken output is as long as the limit is halted, and rests.
-- All here is profile, in the manner of the jabber lockup protection of clause 9. Ports count from 0.
use Rattle.std.specs.Prelude.{ℕ, ◌+◌, ◌-◌, ◌<◌, ◌≤◌, Bool, true, false, ◌==◌, if◌then◌else◌, List, [], ◌∷◌}
use Rattle.mac_parameters.specs.Parameters.{jabber_limit, jabber_rest}
use Rattle.manchester_line.specs.declared.Sym.{Sym}
use Rattle.manchester_line.specs.declared.Sym.TheVariants as sym
use Rattle.repeater_core.specs.declared.modes.Mode.{Mode}
use Rattle.repeater_core.specs.Modes.{wish_of}

-- the half bits of the unbroken output so far, the half bits of rest that are left, and whether the
-- output under way, or that may begin now, comes right after a rest
pub record Count : Type 0 where
  pub run : ℕ
  pub rest : ℕ
  pub after_rest : Bool

-- how far the counts go: of a rest, one half bit is over where the counts begin
pub record IsCount (c : Count) : Type 0 where
  pub run_at_most : c.run ≤ jabber_limit
  pub rest_at_most : c.rest < jabber_rest

-- the counts of a port without output that rests for so many half bits more
abbrev pub resting_count : ℕ → Count
resting_count rest = record { run = 0; rest = rest; after_rest = false }

-- what is decided for a port, whether the port rests in this half bit, whether it is halted now, and its counts after
pub record Choice : Type 0 where
  pub symbol : Sym
  pub rests : Bool
  pub halted : Bool
  pub count : Count

-- the choice for a port that does not rest, from the symbol that is wished for it
abbrev pub choice_awake : Sym → Count → Choice
choice_awake sym.Idle c = record { symbol = sym.Idle; rests = false; halted = false; count = resting_count 0 }
choice_awake wished c =
    if c.run == jabber_limit
    then record {
      symbol = sym.Idle;
      rests = true;
      halted = true;
      count = record { run = 0; rest = jabber_rest - 1; after_rest = true };
    }
    else record {
      symbol = wished;
      rests = false;
      halted = false;
      count = record { run = c.run + 1; rest = 0; after_rest = c.after_rest };
    }

-- the choice for a port, from the symbol that is wished for it
abbrev pub choice : Sym → Count → Choice
choice wished c =
    if c.rest == 0
    then choice_awake wished c
    else record {
      symbol = sym.Idle;
      rests = true;
      halted = false;
      count = record { run = 0; rest = c.rest - 1; after_rest = true };
    }

-- the choices for the ports from port q on, in the mode after the half bit
abbrev pub choices_from : Mode → List Sym → ℕ → List Count → List Choice
choices_from mode hears q [] = []
choices_from mode hears q (c ∷ cs) = choice (wish_of mode hears q) c ∷ choices_from mode hears (q + 1) cs
