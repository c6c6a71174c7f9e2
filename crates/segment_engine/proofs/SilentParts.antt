-- A segment that stands at a window, and the windows after it in which nothing happens.
use Rattle.std.proofs.Common.{◌≡◌, ℕ, false, true, ◌+◌, ◌*◌, ◌/◌, ◌<◌, ◌≤◌, min, sym, subst, ap, ◌∙◌, arith, mul-le-mul_right}
use Rattle.std.proofs.lemmas.Bool.Decides.{nat_tests}
use Rattle.std.proofs.lemmas.Nat.{div-add-mod'}
use Rattle.manchester_line.specs.Decoding.{new_decoding}
use Rattle.mac_parameters.specs.Parameters.{most_half_bits}
use Rattle.mac_receive.specs.KeptReceiver.{KeptReception}
use Rattle.network.specs.Attempts.{sender_at}
use Rattle.load_plan.specs.declared.plan.Plan.{Plan}
use Rattle.network.proofs.RunnablePlans.{runnable_plan}
use Rattle.net_parts.specs.Parts.{is_segment_part, edges_of_part, edges_of_kind}
use Rattle.net_parts.specs.SegmentParts.{wiring}
use Rattle.net_parts.specs.Windows.{lookahead, time, windows}
use Rattle.segment_engine.specs.declared.running.Running.{Running}
use Rattle.segment_engine.specs.declared.segment.Segment.{Segment}
use Rattle.segment_engine.specs.QuietHalfBits.{IsQuietFor, ComeInIdle, GoOutIdle}
use Rattle.segment_engine.specs.RunningStates.{GoesOnAt, IsRunningAt}
use Rattle.segment_engine.proofs.QuietStations.{ports_hear_nothing}
use Rattle.segment_engine.proofs.WindowParcels.{window_begins, window_starts}

-- windows of quiet have no more half bits than it lasts
pub windows_within : (n c L : ℕ) → n ≤ c / L → n * L ≤ c
windows_within n c L few =
    let whole = div-add-mod' c L in
    let more : n * L ≤ c / L * L = mul-le-mul_right L few in
    omega (arith, whole, more)

pub least_of_two : (r d m : ℕ) → r ≡ min d m → r ≤ d
least_of_two r d m is = omega (arith, is)

-- what stands for a receiver that there isn't
no_receiver : KeptReception
no_receiver = record { lose = 0; most = 0; deaf = false; halves = 0; decoder = new_decoding; steps = 0 }

module _ (of : Segment) (wd : ℕ) (a : Running) (stands : IsRunningAt of (wd * of.lookahead) a) (at : a.t ≡ time of.plan.value wd) (below : wd < windows of.plan.value) where
  abbrev plan : Plan
  plan = of.plan.value

  abbrev L : ℕ
  L = lookahead plan.layout

  pub starts : a.t ≡ wd * L
  starts = at ∙ window_starts plan wd below

  pub begins_early : a.t < most_half_bits
  begins_early = let b = window_begins plan wd below in let is = starts in let short = (runnable_plan plan).short in omega (arith, b, is, short)

  -- what comes in is known up to now
  pub goes_now : GoesOnAt of a.t a
  goes_now = subst (λ f. GoesOnAt of f a) (ap (λ n. wd * n) of.window_length ∙ sym starts) stands.goes

  pub running_now : IsRunningAt of a.t a
  running_now = record { goes = goes_now; near = stands.near }

  edges_are : edges_of_part plan of.number ≡ (wiring plan.layout of.number).edges
  edges_are =
      let within = of.within in
      let is : is_segment_part plan of.number ≡ true = grind (arith, nat_tests) in
      ap (λ b. edges_of_kind plan b of.number) is

  pub come_now : (n : ℕ) → ComeInIdle plan (edges_of_part plan of.number) (wd * L) n → ComeInIdle plan (wiring plan.layout of.number).edges a.t n
  come_now n come = subst (λ t. ComeInIdle plan (wiring plan.layout of.number).edges t n) (sym starts) (subst (λ es. ComeInIdle plan es (wd * L) n) edges_are come)

  pub part_hears : (n : ℕ) → IsQuietFor n a → ComeInIdle plan (edges_of_part plan of.number) (wd * L) n → GoOutIdle plan (edges_of_part plan of.number) (wd * L) n
  part_hears n quiet come =
      subst (λ es. GoOutIdle plan es (wd * L) n) (sym edges_are) (subst (λ t. GoOutIdle plan (wiring plan.layout of.number).edges t n) starts (ports_hear_nothing of a n a.t goes_now quiet (come_now n come) (sender_at plan 0 0) no_receiver))

  -- and the windows that pass
  module _ (count : ℕ) (last : wd + count < windows plan) where
    pub ends : a.t + count * L ≡ time plan (wd + count)
    ends =
        let b = window_begins plan (wd + count) last in
        let is = starts in
        let all : (wd + count) * L ≡ wd * L + count * L = omega arith in
        omega (arith, is, b, all)

    pub ends_early : a.t + count * L ≤ most_half_bits
    ends_early =
        let b = window_begins plan (wd + count) last in
        let is = starts in
        let short = (runnable_plan plan).short in
        let all : (wd + count) * L ≡ wd * L + count * L = omega arith in
        omega (arith, is, b, all, short)
