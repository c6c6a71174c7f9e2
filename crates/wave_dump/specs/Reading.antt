-- A reader of value change dumps (IEEE 1364 clause 18): it goes over the octets word by word, and keeps what each tap
-- heard. Half bits count from 0.
use Rattle.std.specs.Prelude.{ℕ, ◌+◌, ◌-◌, ◌*◌, ◌/◌, ◌==◌, ◌||◌, Bool, if◌then◌else◌, List, [], ◌∷◌, ◌++◌, map, fold, replicate, Option, None, Some, codes}
use Rattle.std.specs.Str.{bytes_eq}
use Rattle.mac_parameters.specs.Parameters.{nanoseconds_a_half_bit}
use Rattle.manchester_line.specs.declared.Sym.{Sym}
use Rattle.manchester_line.specs.declared.Sym.TheVariants.{Idle, Hi, Lo, Clash}

-- whether an octet ends a word: a blank or a line feed
abbrev pub ends_word : ℕ → Bool
ends_word c = (c == 32) || (c == 10)

-- whether an octet is the sign of a command, "$"
abbrev pub is_dollar : ℕ → Bool
is_dollar c = c == 36

-- whether an octet is the sign of a time, "#"
abbrev pub is_number_sign : ℕ → Bool
is_number_sign c = c == 35

-- the number that these decimal digits are
abbrev pub number_of_digits : List ℕ → ℕ
number_of_digits digits = fold (λ n digit. n * 10 + (digit - 48)) 0 digits

-- the symbol that stands behind a value of four states: "z", "1", "0" or "x"
abbrev pub symbol_of_value : ℕ → Option Sym
symbol_of_value c =
    if c == 122 then Some Idle
    else if c == 49 then Some Hi
    else if c == 48 then Some Lo
    else if c == 120 then Some Clash
    else None

-- what the reader knows of a tap: the code by which the dump names it, its name, the symbol that was told of it last,
-- if one was, and the symbols that it heard before the half bit that was told last
pub record TapReader : Type 0 where
  pub code : List ℕ
  pub name : List ℕ
  pub symbol : Option Sym
  pub symbols : List Sym

-- the command that is open: none, one that tells nothing of taps, or the declaration of a tap with the words that were
-- read of it
pub data OpenCommand : Type 0 where
  NoCommand : OpenCommand
  Passed : OpenCommand
  Declared : (words : List (List ℕ)) → OpenCommand

-- what the reader knows: the word that it reads, as far as it was read, the command that is open, the taps, and the
-- half bit that was told last
pub record WordReader : Type 0 where
  pub word : List ℕ
  pub command : OpenCommand
  pub taps : List TapReader
  pub now : ℕ

-- so many half bits of a symbol, if there is one
abbrev pub half_bits_of_symbol : Option Sym → ℕ → List Sym
half_bits_of_symbol None n = []
half_bits_of_symbol (Some symbol) n = replicate n symbol

-- a tap after so many half bits in which nothing new was told of it
abbrev pub after_half_bits : ℕ → TapReader → TapReader
after_half_bits n tap = record tap { symbols = tap.symbols ++ half_bits_of_symbol tap.symbol n }

-- after the time of half bit t
abbrev pub after_time : WordReader → ℕ → WordReader
after_time r t = record r { taps = map (after_half_bits (t - r.now)) r.taps; now = t }

-- a tap after a symbol of the tap with this code
abbrev pub after_symbol : List ℕ → Sym → TapReader → TapReader
after_symbol code symbol tap = if bytes_eq tap.code code then record tap { symbol = Some symbol } else tap

-- after a value of the tap with this code
abbrev pub after_value : WordReader → List ℕ → Option Sym → WordReader
after_value r code None = r
after_value r code (Some symbol) = record r { taps = map (after_symbol code symbol) r.taps }

-- after a declaration with these words: its kind, its size, the tap's code and its name
abbrev pub after_declaration : WordReader → List (List ℕ) → WordReader
after_declaration r (kind ∷ size ∷ code ∷ name ∷ []) =
    record r { taps = r.taps ++ record { code = code; name = name; symbol = None; symbols = [] } ∷ [] }
after_declaration r _ = r

-- whether a word ends a command
abbrev pub ends_command : List ℕ → Bool
ends_command word = bytes_eq word (codes "$end")

-- the command that a word opens: the values of the first half bit stand in no command
abbrev pub command_of : List ℕ → OpenCommand
command_of word =
    if bytes_eq word (codes "$var") then Declared []
    else if bytes_eq word (codes "$dumpvars") || ends_command word then NoCommand
    else Passed

-- after a word with this first octet and these others, where this command is open
abbrev pub after_word_in : OpenCommand → WordReader → ℕ → List ℕ → WordReader
after_word_in NoCommand r c cs =
    if is_dollar c then record r { command = command_of (c ∷ cs) }
    else if is_number_sign c then after_time r (number_of_digits cs / nanoseconds_a_half_bit)
    else after_value r cs (symbol_of_value c)
after_word_in Passed r c cs = if ends_command (c ∷ cs) then record r { command = NoCommand } else r
after_word_in (Declared words) r c cs =
    if ends_command (c ∷ cs) then after_declaration (record r { command = NoCommand }) words
    else record r { command = Declared (words ++ (c ∷ cs) ∷ []) }

-- after this word, if it has octets
abbrev pub after_dump_word : WordReader → List ℕ → WordReader
after_dump_word r [] = r
after_dump_word r (c ∷ cs) = after_word_in r.command (record r { word = [] }) c cs

-- after one octet
abbrev pub after_dump_octet : WordReader → ℕ → WordReader
after_dump_octet r c = if ends_word c then after_dump_word r r.word else record r { word = r.word ++ c ∷ [] }

-- the reader before the first octet
abbrev pub first_word_reader : WordReader
first_word_reader = record { word = []; command = NoCommand; taps = []; now = 0 }

-- after these octets
abbrev pub after_dump_octets : WordReader → List ℕ → WordReader
after_dump_octets r octets = fold after_dump_octet r octets

-- what is read from a dump: the names of the taps, for each of them the symbols that it heard, and the half bit after
-- the last of these
pub record ReadDump : Type 0 where
  pub names : List (List ℕ)
  pub heard : List (List Sym)
  pub to : ℕ

-- what this reader knows
abbrev pub known_of_dump : WordReader → ReadDump
known_of_dump r =
    record { names = map (λ tap. tap.name) r.taps; heard = map (λ tap. tap.symbols) r.taps; to = r.now }

-- what is read from these octets
unfoldable pub read_dump : List ℕ → ReadDump
read_dump octets = known_of_dump (after_dump_octets first_word_reader octets)
