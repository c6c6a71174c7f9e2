-- A layout has too long a round trip exactly where its verdict is Over.
use Rattle.std.proofs.Common.{◌≡◌, ◌≢◌, refl, sym, subst, ℕ, ◌<◌, ◌≤◌, ◌↔◌, true, false, length, arith}
use Rattle.std.proofs.lemmas.Bool.{false≢true}
use Rattle.mac_parameters.specs.Parameters.{slot_time}
use Rattle.layout.specs.declared.lines.Layout.{Layout}
use Rattle.layout.specs.declared.ways.Attachment.TheVariants.{Station}
use Rattle.layout.specs.Paths.{IsDistance}
use Rattle.layout.proofs.WalksBack.{distance_back}
use Rattle.path_checker.specs.declared.verdict.PathVerdict.{PathVerdict}
use Rattle.path_checker.specs.declared.verdict.PathVerdict.TheVariants.{Within, Over, NoPair}
use Rattle.path_checker.specs.Verdicts.{IsVerdict}
use Rattle.path_checker.proofs.WorstPair.{apart_within}
use Rattle.path_slack.specs.Slacks.{IsOverlong}

-- stations with a distance are the layout's
pub second_within : (l : Layout) (a b n : ℕ) → a ≢ b → IsDistance l (Station a) (Station b) n → b < length l.stations
second_within l a b n ne d = apart_within l a n b (ne, d)

pub first_within : (l : Layout) (a b n : ℕ) → a ≢ b → IsDistance l (Station a) (Station b) n → a < length l.stations
first_within l a b n ne d = second_within l b a n (λ e. ne (sym e)) (distance_back l (Station a) (Station b) n d)

-- by the verdict no round trip is too long, or one is
pub not_within : (l : Layout) (v : PathVerdict) (worst a b : ℕ) → IsVerdict l v → v ≡ Within worst a b → IsOverlong l → ⊥
not_within l v worst a b verdict e over =
    let is : IsVerdict l (Within worst a b) = subst (IsVerdict l) e verdict in
    let low : over.trip ≤ worst = is.0.greatest over.a over.b over.trip over.different over.has in
    let short : worst < slot_time = is.1 in
    let long : slot_time ≤ over.trip = over.most in
    omega arith

pub not_pairless : (l : Layout) (v : PathVerdict) → IsVerdict l v → v ≡ NoPair → IsOverlong l → ⊥
not_pairless l v verdict e over =
    let few : length l.stations < 2 = subst (IsVerdict l) e verdict in
    let p : over.a < length l.stations = first_within l over.a over.b over.has.distance over.different over.has.apart in
    let q : over.b < length l.stations = second_within l over.a over.b over.has.distance over.different over.has.apart in
    over.different (omega arith)

pub is_overlong : (l : Layout) (v : PathVerdict) (worst a b : ℕ) → IsVerdict l v → v ≡ Over worst a b → IsOverlong l
is_overlong l v worst a b verdict e =
    let is : IsVerdict l (Over worst a b) = subst (IsVerdict l) e verdict in
    let low : a < b = is.0.pair.0 in
    record { a = a; b = b; different = (λ same. omega arith); trip = worst; has = is.0.has; most = is.1 }

pub only_true : (A : Type 0) → A → (true ≡ true) ↔ A
only_true A a = (λ e. a, λ x. refl)

pub only_false : (A : Type 0) → (A → ⊥) → (false ≡ true) ↔ A
only_false A none = (λ e. absurd (false≢true e), λ x. absurd (none x))
