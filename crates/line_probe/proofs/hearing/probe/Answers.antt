use Rattle.std.proofs.Common.{◌≡◌, ◌≤◌, ℕ, ◌+◌, ◌-◌, ◌∷◌, ◌++◌, [], List, length, take, get_or, refl, sym, ap, subst, arith}
use Rattle.std.proofs.lemmas.List.{take_all, take_more}
use Rattle.load_plan.proofs.PlansAreSound.{sound_of_plan}
use Rattle.line_probe.specs.Heard.{AreProbed}
use Rattle.line_probe.specs.declared.run.Run.{Run}
use Rattle.line_probe.specs.declared.tap.Tap.{Tap}
use Rattle.std.proofs.lemmas.List.Elements.{All-from_recursion}
use Rattle.line_probe.specs.Runs.{AreHeardRuns}
use Rattle.load_plan.specs.declared.plan.Plan.{Plan}
use Rattle.line_probe.proofs.HeardTaps.{probed_runs}
use Rattle.line_probe.proofs.Columns.{probed_more, rows_short}
use Rattle.line_probe.proofs.hearing.probe.Goals as goal

pub tap_runs-requires-clause-short : goal.tap_runs-requires-clause-short
tap_runs-requires-clause-short c =
    omega (arith, ap length c.in_ok-heard.ensures, rows_short c.args.plan.now c.args.taps.now c.args.from (c.args.to - c.args.from) c.requires.few, c.requires.order, c.requires.end, (sound_of_plan c.args.plan.now).bits_most)

pub loop-k-preserved : goal.loop-k-preserved
loop-k-preserved c =
    let none : Tap = record { device = 0; port = 0 } in
    let k = c.loop-k.k in
    let taps : List Tap = c.args.taps.now in
    let more : take (k + 1) taps ≡ take k taps ++ get_or taps k none ∷ [] = take_more taps k none c.loop-k-test.true in
    subst (λ (ts : List Tap). AreProbed c.args.plan.now c.args.from c.args.to ts c.push.new.self) (sym more)
    (subst (λ (rs : List (List Run)). AreProbed c.args.plan.now c.args.from c.args.to (take k taps ++ get_or taps k none ∷ []) rs) (sym c.in_ok-push.ensures.ok)
    (probed_more c.args.plan.now c.args.from c.args.to (take k taps) c.loop-k.lists (get_or taps k none) c.in_ok-tap_runs.field-0 c.loop-k.invariant
    (c.in_ok-tap_runs.ensures c.args.plan.now taps (c.args.to - c.args.from) none c.in_ok-heard.ensures refl)))

-- the runs of all taps
all_probed : (plan : Plan) (from to : ℕ) (taps : List Tap) (k : ℕ) (lists : List (List Run)) → length taps ≤ k → AreProbed plan from to (take k taps) lists → AreProbed plan from to taps lists
all_probed plan from to taps k lists le h = subst (λ (ts : List Tap). AreProbed plan from to ts lists) (take_all k taps le) h

pub returns-clause-probed : goal.returns-clause-probed
returns-clause-probed c = all_probed c.args.plan.now c.args.from c.args.to c.args.taps.now c.loop-k.k c.loop-k.lists (omega arith) c.loop-k.invariant

pub returns-clause-heard : goal.returns-clause-heard
returns-clause-heard c =
    All-from_recursion AreHeardRuns c.loop-k.lists (probed_runs c.args.plan.now c.args.from c.args.to c.args.taps.now c.loop-k.lists c.requires.order c.requires.end
    (all_probed c.args.plan.now c.args.from c.args.to c.args.taps.now c.loop-k.k c.loop-k.lists (omega arith) c.loop-k.invariant))
