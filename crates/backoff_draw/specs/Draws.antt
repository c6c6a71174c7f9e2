-- The numbers that a station draws for its backoff (IEEE 802.3, 4.2.3.2.5; where they come from is profile).
use Rattle.std.specs.Prelude.{ℕ, ◌+◌, ◌%◌, ◌^◌, min, List, ◌++◌, replicate}
use Rattle.mac_parameters.specs.Parameters.{backoff_limit}
use Rattle.std.specs.Int.{w64, to_le_bytes}
use Rattle.rand_chacha.specs.ChaCha.{key_of, word_at}

-- The draws of a station: the seed of the run, the station's number from 0, and how many draws were made (profile).
pub record Drawing : Type 0 where
  pub seed : ℕ
  pub station : ℕ
  pub made : ℕ

-- The key of a seed: its eight octets, the least significant first, and 24 zeros (profile).
unfoldable pub key_of_seed : ℕ → List ℕ
key_of_seed seed = key_of (to_le_bytes w64 seed ++ replicate 24 0)

-- The word at place j, from 0, of the stream of ChaCha8 (four double rounds) that has the station's number
-- (profile).
unfoldable pub word : ℕ → ℕ → ℕ → ℕ
word seed station j = word_at 4 (key_of_seed seed) station j

-- The draw j, from 0, of a station after its attempt n, from 1: the low n bits of word j, but no more than the backoff
-- limit (4.2.3.2.5), which is a number of slot times.
abbrev pub draw_of : ℕ → ℕ → ℕ → ℕ → ℕ
draw_of seed station j n = word seed station j % 2 ^ min n backoff_limit

-- One draw more (profile). The places of a stream are counted modulo 2^68.
abbrev pub drawn : Drawing → Drawing
drawn d = record { seed = d.seed; station = d.station; made = (d.made + 1) % 2 ^ 68 }
