-- An example of how far back lines keep what stands on them, where a window has 20 half bits: of a station at a cable's
-- end, and of a port 30 half bits away whose repeater has a delay of 25.
use Rattle.std.proofs.Common.{ℕ, ◌+◌, ◌≤◌, [], ◌∷◌, arith}
use Rattle.load_plan.specs.declared.plan.Plan.{Plan}
use Rattle.net_parts.specs.SegmentParts.{Wiring}
use Rattle.tap_lines.specs.TapLines.{TapLine}
use Rattle.segment_engine.specs.KnownLines.{KnowLines}

abbrev wired : Wiring
wired = record { stations = 0 ∷ []; edges = 0 ∷ []; delays = 25 ∷ []; positions = 0 ∷ 30 ∷ [] }

abbrev new_line : ℕ → ℕ → ℕ → TapLine
new_line at delay backlog = record { at = at; delay = delay; backlog = backlog; base = 0; symbols = []; room = backlog + 20 }

-- 30 half bits and the delay of 25, less a window's 20, are 35: the station hears what stands that far back on the
-- port's line, and to keep one half bit less is too few
pub not_near : (plan : Plan) → ¬ KnowLines plan wired 20 0 0 (new_line 0 20 30 ∷ new_line 30 25 34 ∷ [])
not_near plan know = let far : 35 ≤ 34 = know.near 0 1 (omega arith) (omega arith) in absurd (omega (arith, far))
