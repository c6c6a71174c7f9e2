-- When the windows of a segment begin, and how many half bits they have.
use Rattle.std.proofs.Common.{◌≡◌, ◌<◌, ◌≤◌, ◌+◌, ◌-◌, ◌*◌, ℕ, min, sym, ap, ◌∙◌, arith}
use Rattle.mac_parameters.specs.Parameters.{most_half_bits}
use Rattle.load_plan.specs.declared.plan.Plan.{Plan}
use Rattle.network.specs.Outputs.{half_bits}
use Rattle.network.proofs.RunnablePlans.{runnable_plan}
use Rattle.net_parts.specs.Windows.{lookahead, windows, time}
use Rattle.segment_engine.specs.declared.segment.Segment.{Segment}
use Rattle.segment_engine.proofs.WindowParcels.{window_begins, window_starts}

module _ (g : Segment) (wd t : ℕ) (below : wd < g.windows) (at : t ≡ time g.plan.value wd) where
  abbrev plan : Plan
  plan = g.plan.value

  abbrev L : ℕ
  L = lookahead plan.layout

  pub is_window : wd < windows plan
  is_window = let w = g.window_count in omega (arith, below, w)

  product : wd * g.lookahead ≡ wd * L
  product = ap (λ n. wd * n) g.window_length

  pub begins : t ≡ wd * g.lookahead
  begins = at ∙ window_starts plan wd is_window ∙ sym product

  pub early : t < most_half_bits
  early =
      let starts = begins in
      let p = product in
      let b = window_begins plan wd is_window in
      let short = (runnable_plan plan).short in
      let few : half_bits plan ≤ most_half_bits = omega (arith, short) in
      omega (arith, starts, p, b, few)

  module _ (from count now : ℕ) (all : from ≡ g.lookahead) (same : now ≡ t) (least : count ≡ min from (g.half_bits - now)) where
    pub half_bits_are : count ≡ min L (half_bits plan - wd * L)
    half_bits_are =
        let starts = begins in
        let p = product in
        let run = g.run_length in
        let long = g.window_length in
        omega (arith, least, all, same, starts, p, run, long)

    pub within_window : count ≤ g.lookahead
    within_window = omega (arith, least, all)

    pub within_run : (u k : ℕ) → u ≡ wd * g.lookahead + k → k ≤ count → u + (count - k) ≤ most_half_bits
    within_run u k is h =
        let b = window_begins plan wd is_window in
        let n = half_bits_are in
        let p = product in
        let short = (runnable_plan plan).short in
        let few : half_bits plan ≤ most_half_bits = omega (arith, short) in
        omega (arith, is, h, b, n, p, few)
