-- Silent half bits, in which no port hears anything, and for how many of them nothing happens: the calm (profile).
use Rattle.std.specs.Prelude.{ℕ, ◌≡◌, ◌<◌, ◌≤◌, true, false, length, replicate, List}
use Rattle.std.specs.List.{All}
use Rattle.std.specs.Fn.{iterate}
use Rattle.repeater_core.specs.Limits.{most_calm}
use Rattle.manchester_line.specs.declared.Sym.{Sym}
use Rattle.manchester_line.specs.declared.Sym.TheVariants as sym
use Rattle.repeater_core.specs.declared.modes.Mode.TheVariants.{Idle}
use Rattle.repeater_core.specs.Counts.{resting_count}
use Rattle.repeater_core.specs.SilentParts.{is_unchanged}
use Rattle.repeater_core.specs.Step.{RepeaterDevice, after, emitted_by, decided_by, clash_begins, closed_mask, opened_mask, halted_mask}

-- what the ports hear in a silent half bit: each hears Idle
abbrev pub silent_symbols : RepeaterDevice → List Sym
silent_symbols r = replicate (length r.guards) sym.Idle

-- the state after a silent half bit
unfoldable pub silent_step : RepeaterDevice → RepeaterDevice
silent_step r = after (silent_symbols r) r

-- a silent half bit emits only Idle, decides only Idle, and gives no event
pub record IsUneventful (r : RepeaterDevice) : Type 0 where
  pub emits : All (λ s. s ≡ sym.Idle) (emitted_by r)
  pub decides : All (λ s. s ≡ sym.Idle) (decided_by (silent_symbols r) r)
  pub no_clash : clash_begins (silent_symbols r) r ≡ false
  pub none_closes : closed_mask (silent_symbols r) r ≡ 0
  pub none_opens : opened_mask (silent_symbols r) r ≡ 0
  pub none_halted : halted_mask (silent_symbols r) r ≡ 0

-- nothing happens in the next n half bits if they are silent, for an n of at most 4,096
pub record IsCalm (r : RepeaterDevice) (n : ℕ) : Type 0 where
  pub at_most : n ≤ most_calm
  pub uneventful : (k : ℕ) → k < n → IsUneventful (iterate silent_step k r)

-- a repeater that a silent half bit leaves as it is
pub record IsUnchanged (r : RepeaterDevice) : Type 0 where
  pub mode : r.mode ≡ Idle
  pub guards : All (λ g. is_unchanged g ≡ true) r.guards
  pub counts : All (λ c. c ≡ resting_count 0) r.counts
  pub rows : All (λ s. s ≡ sym.Idle) r.line.rows
