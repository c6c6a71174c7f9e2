-- Runs that are looked over for a quiet half bit.
use Rattle.std.proofs.Common.{◌≡◌, ℕ, ◌+◌, ◌<◌, ◌≤◌, inl, inr, sym, subst, ap, ◌∙◌, arith}
use Rattle.std.proofs.lemmas.Bool.{cases_lt}
use Rattle.load_plan.specs.declared.plan.Plan.{Plan}
use Rattle.network.specs.Net.{net}
use Rattle.network.specs.Outputs.{half_bits}
use Rattle.quiet_state.specs.LastSignals.{IsQuietAsKept}
use Rattle.quiet_state.specs.Quiet.{IsQuiet}
use Rattle.quiet_state.specs.Resumed.{net_state, state_at}
use Rattle.quiet_state.specs.declared.state.NetState.{NetState}
use Rattle.quiet_state.proofs.QuietAsKept.{quiet_as_kept}
use Rattle.quiet_state.proofs.QuietNets.{time_is}
use Rattle.net_step.specs.Stops.{IsFirstQuiet, HasNoQuiet}

-- no half bit from `from` on and below t is quiet
abbrev pub NoneBefore : Plan → ℕ → ℕ → Type 0
NoneBefore plan from t = (u : ℕ) → from ≤ u → u < t → IsQuiet plan u → ⊥

none_more : (plan : Plan) (from t : ℕ) → NoneBefore plan from t → (from ≤ t → IsQuiet plan t → ⊥) → NoneBefore plan from (t + 1)
none_more plan from t none not u reached before q = elim (cases_lt u t) [
  | inl earlier ↦ none u reached earlier q
  | inr later ↦ (let same : u ≡ t = omega (arith, before, later) in not (omega (arith, reached, before)) (subst (IsQuiet plan) same q))
]

-- from `from` on each is told
pub none_loud : (plan : Plan) (from t : ℕ) → (IsQuietAsKept (net plan t) → ⊥) → NoneBefore plan from t → NoneBefore plan from (t + 1)
none_loud plan from t loud none = none_more plan from t none (λ l q. loud ((quiet_as_kept plan t q.within).0 q))

pub first_stop : (plan : Plan) (from t : ℕ) (s : NetState) → s ≡ net_state (net plan t) → from ≤ t → t < half_bits plan → IsQuietAsKept (net plan t) → NoneBefore plan from t → IsFirstQuiet plan from s.t × (s ≡ state_at plan s.t)
first_stop plan from t s e reached within kept none =
    let same : s.t ≡ t = ap (λ (x : NetState). x.t) e ∙ time_is plan t in
    subst (λ m. IsFirstQuiet plan from m × (s ≡ state_at plan m)) (sym same) (record { quiet = (quiet_as_kept plan t within).1 kept; reached = reached; first = none }, e)

pub none_at_end : (plan : Plan) (from t : ℕ) → half_bits plan ≤ t → NoneBefore plan from t → HasNoQuiet plan from
none_at_end plan from t over none u reached q = let within = q.within in none u reached (omega (arith, within, over)) q
