-- How the line of a run is read from left to right: each reader answers what it found and the octets after it
-- (profile).
use Rattle.std.specs.Prelude.{ℕ, nat_le, List, [], codes, Option, None, Some, if◌then◌else◌}
use Rattle.mac_parameters.specs.Parameters.{most_half_bits}
use Rattle.text_fields.specs.Reading.{Read, ◌>>=◌, else_read, after_word, half_bit_at}
use Rattle.manchester_line.specs.declared.Sym.{Sym}
use Rattle.manchester_line.specs.declared.Sym.TheVariants.{Idle, Hi, Lo, Clash}
use Rattle.line_probe.specs.declared.run.Run.{Run}

-- this symbol, where its word was found
abbrev pub symbol_found : Sym → Option (List ℕ) → Read Sym
symbol_found symbol (Some rest) = Some (symbol, rest)
symbol_found symbol None = None

-- a symbol, by its word after a blank
unfoldable pub symbol_at : List ℕ → Read Sym
symbol_at octets =
    else_read (symbol_found Idle (after_word (codes " idle") octets))
    (else_read (symbol_found Hi (after_word (codes " hi") octets))
    (else_read (symbol_found Lo (after_word (codes " lo") octets))
    (symbol_found Clash (after_word (codes " clash") octets))))

-- the line of a run of at least one half bit, with its line feed
unfoldable pub run_at : List ℕ → Read Run
run_at octets = do
  start ← half_bit_at most_half_bits [] octets
  count ← half_bit_at most_half_bits (codes " ") start.1
  symbol ← symbol_at count.1
  rest ← after_word (codes "\n") symbol.1
  if nat_le 1 count.0 then Some (record { start = start.0; count = count.0; symbol = symbol.0 }, rest) else None
