-- A signal goes on along a walk from tap to tap, and back along the same taps.
use Rattle.std.proofs.Common.{◌≡◌, ◌≢◌, refl, sym, ◌∙◌, ap, subst, ℕ, suc, ◌+◌, ◌≤◌, List, [], ◌∷◌, Some, arith}
use Rattle.std.specs.List.{All}
use Rattle.manchester_line.specs.declared.Sym.TheVariants.{Idle}
use Rattle.layout.specs.declared.lines.Layout.{Layout}
use Rattle.layout.specs.declared.ways.Attachment.{Attachment}
use Rattle.layout.specs.declared.ways.Attachment.TheVariants.{Station, Port}
use Rattle.layout.specs.declared.ways.Way.{Way}
use Rattle.layout.specs.declared.ways.Way.TheVariants as way
use Rattle.layout.specs.Paths.{Path, IsPath, part_by, IsStep, other_way, IsWalk, at_of, delay_of, step_length, walk_length, length_of}
use Rattle.mac_parameters.specs.Distances.{distance}
use Rattle.layout.proofs.Sides.{repeater_number}
use Rattle.load_plan.specs.declared.plan.Plan.{Plan}
use Rattle.network.specs.Attempts.{tap_number, IsOpen, IsAwake, IsOpenPath}
use Rattle.network.specs.Signals.{CablesCarry, RepeatersRepeat}
use Rattle.network.specs.Times.{heard, emitted}
use Rattle.path_checker.specs.Propagation.{IsClear, WavesArrive}

-- A signal is at tap a in half bit t and about to go on by this way: the tap emits it along its cable, or hears it and
-- its repeater takes it.
unfoldable pub IsSignal : Plan → Way → Attachment → ℕ → Type 0
IsSignal plan way.Cable a t = emitted plan (tap_number plan.layout a) t ≢ Idle
IsSignal plan way.Repeater a t = heard plan (tap_number plan.layout a) t ≢ Idle

later : (plan : Plan) (w : Way) (a : Attachment) (t u : ℕ) → t ≡ u → IsSignal plan w a t → IsSignal plan w a u
later plan w a t u e s = subst (λ (v : ℕ). IsSignal plan w a v) e s

plus_plus : (t x y : ℕ) → t + x + y ≡ t + (x + y)
plus_plus t x y = omega arith

plus_back : (t x y : ℕ) → t + y + x ≡ t + (x + y)
plus_back t x y = omega arith

plus_none : (t : ℕ) → t ≡ t + 0
plus_none t = omega arith

by_cable :
    (plan : Plan) → CablesCarry → (a b : Attachment) (t : ℕ) → IsStep plan.layout way.Cable a b → IsSignal plan way.Cable a t
    → IsSignal plan way.Repeater b (t + step_length plan.layout way.Cable a b)
unfolding IsSignal
by_cable plan carries a b t step s = carries plan a b t step s

by_repeater :
    (plan : Plan) → RepeatersRepeat → (a b : Attachment) (t : ℕ) → IsStep plan.layout way.Repeater a b → IsOpen plan a t → IsAwake plan b t
    → IsSignal plan way.Repeater a t → IsSignal plan way.Cable b (t + step_length plan.layout way.Repeater a b)
unfolding IsSignal
by_repeater plan repeats a b t step unclosed awake s = repeats plan a b t step unclosed awake s

-- the way by which a walk could go on from its last tap
abbrev way_after : Way → List Attachment → Way
way_after w [] = w
way_after w (t ∷ ts) = way_after (other_way w) ts

wave :
    (plan : Plan) → CablesCarry → RepeatersRepeat → (w : Way) (a b : Attachment) (ts : List Attachment) (t : ℕ) → IsWalk plan.layout w a ts b → IsClear plan w a ts t
    → IsSignal plan w a t → IsSignal plan (way_after w ts) b (t + walk_length plan.layout w a ts)
wave plan carries repeats w a b [] t walk clear s = later plan w b t (t + 0) (plus_none t) (subst (λ (x : Attachment). IsSignal plan w x t) walk s)
wave plan carries repeats way.Cable a b (c ∷ cs) t walk clear s =
    let x = step_length plan.layout way.Cable a c in
    let y = walk_length plan.layout way.Repeater c cs in
    let here : IsSignal plan way.Repeater c (t + x) = by_cable plan carries a c t walk.0 s in
    later plan (way_after way.Repeater cs) b (t + x + y) (t + (x + y)) (plus_plus t x y) (wave plan carries repeats way.Repeater c b cs (t + x) walk.1 clear here)
wave plan carries repeats way.Repeater a b (c ∷ cs) t walk clear s =
    let x = step_length plan.layout way.Repeater a c in
    let y = walk_length plan.layout way.Cable c cs in
    let here : IsSignal plan way.Cable c (t + x) = by_repeater plan repeats a c t walk.0 clear.0 clear.1 s in
    later plan (way_after way.Cable cs) b (t + x + y) (t + (x + y)) (plus_plus t x y) (wave plan carries repeats way.Cable c b cs (t + x) walk.1 clear.2 here)

-- A tap is open and does not rest, from one half bit to another.
abbrev pub IsUsable : Plan → ℕ → ℕ → Attachment → Type 0
IsUsable plan from to a = (t : ℕ) → from ≤ t → t ≤ to → IsOpen plan a t × IsAwake plan a t

first_usable : (plan : Plan) (from to : ℕ) (c : Attachment) (cs : List Attachment) → All (IsUsable plan from to) (c ∷ cs) → IsUsable plan from to c
first_usable plan from to c cs all = all 0 c (omega arith)

rest_usable : (plan : Plan) (from to : ℕ) (c : Attachment) (cs : List Attachment) → All (IsUsable plan from to) (c ∷ cs) → All (IsUsable plan from to) cs
rest_usable plan from to c cs all = λ i d m. all (suc i) d (omega arith)

before_rest : (t x y to : ℕ) → t + (x + y) ≤ to → t + x + y ≤ to
before_rest t x y to m = omega arith

sooner : (t x y to : ℕ) → t + (x + y) ≤ to → t + y ≤ to
sooner t x y to m = omega arith

below : (t x to : ℕ) → t + x ≤ to → t ≤ to
below t x to m = omega arith

after : (from t x : ℕ) → from ≤ t → from ≤ t + x
after from t x m = omega arith

-- an open walk is clear
clear_of :
    (plan : Plan) (from to : ℕ) (w : Way) (a : Attachment) (ts : List Attachment) (t : ℕ) → IsUsable plan from to a → All (IsUsable plan from to) ts
    → from ≤ t → t + walk_length plan.layout w a ts ≤ to → IsClear plan w a ts t
clear_of plan from to w a [] t first rest l m = tt
clear_of plan from to way.Cable a (c ∷ cs) t first rest l m =
    let x = step_length plan.layout way.Cable a c in
    let y = walk_length plan.layout way.Repeater c cs in
    clear_of plan from to way.Repeater c cs (t + x) (first_usable plan from to c cs rest) (rest_usable plan from to c cs rest) (after from t x l) (before_rest t x y to m)
clear_of plan from to way.Repeater a (c ∷ cs) t first rest l m =
    let x = step_length plan.layout way.Repeater a c in
    let y = walk_length plan.layout way.Cable c cs in
    let next : IsUsable plan from to c = first_usable plan from to c cs rest in
    let now : t ≤ to = below t (x + y) to m in
    ((first t l now).0, (next t l now).1, clear_of plan from to way.Cable c cs (t + x) next (rest_usable plan from to c cs rest) (after from t x l) (before_rest t x y to m))

step_back : (l : Layout) (w : Way) (a b : Attachment) → IsStep l w a b → IsStep l w b a
step_back l w a b s = record { different = λ e. s.different (sym e); part = s.part; from = s.to; to = s.from }

distance_comm : (x y : ℕ) → distance y x ≡ distance x y
distance_comm x y = omega arith

same_delay : (l : Layout) (a b : Attachment) (part : ℕ) → part_by l way.Repeater a ≡ Some part → part_by l way.Repeater b ≡ Some part → delay_of l b ≡ delay_of l a
same_delay l (Station k) b part h k' = absurd (cc)
same_delay l (Port r p) (Station j) part h k' = absurd (cc)
same_delay l (Port r p) (Port s q) part h k' =
    let same : s ≡ r = repeater_number l s q part k' ∙ sym (repeater_number l r p part h) in
    rw same refl

-- a step is as long back
length_back : (l : Layout) (w : Way) (a b : Attachment) → IsStep l w a b → step_length l w b a ≡ step_length l w a b
length_back l way.Cable a b s = distance_comm (at_of l a) (at_of l b)
length_back l way.Repeater a b s = same_delay l a b s.part s.from s.to

-- A signal at the end of a walk that is about to go back over its last step comes to the tap where the walk began.
wave_back :
    (plan : Plan) → CablesCarry → RepeatersRepeat → (from to : ℕ) (w : Way) (a b : Attachment) (ts : List Attachment) (t : ℕ) → IsWalk plan.layout w a ts b
    → IsUsable plan from to a → All (IsUsable plan from to) ts → from ≤ t → t + walk_length plan.layout w a ts ≤ to
    → IsSignal plan (other_way (way_after w ts)) b t → IsSignal plan (other_way w) a (t + walk_length plan.layout w a ts)
wave_back plan carries repeats from to w a b [] t walk first rest l m s = later plan (other_way w) a t (t + 0) (plus_none t) (subst (λ (x : Attachment). IsSignal plan (other_way w) x t) (sym walk) s)
wave_back plan carries repeats from to way.Cable a b (c ∷ cs) t walk first rest l m s =
    let x = step_length plan.layout way.Cable a c in
    let y = walk_length plan.layout way.Repeater c cs in
    let back : step_length plan.layout way.Cable c a ≡ x = length_back plan.layout way.Cable a c walk.0 in
    let come : IsSignal plan way.Cable c (t + y) = wave_back plan carries repeats from to way.Repeater c b cs t walk.1 (first_usable plan from to c cs rest) (rest_usable plan from to c cs rest) l (sooner t x y to m) s in
    let on : IsSignal plan way.Repeater a (t + y + step_length plan.layout way.Cable c a) = by_cable plan carries c a (t + y) (step_back plan.layout way.Cable a c walk.0) come in
    later plan way.Repeater a (t + y + step_length plan.layout way.Cable c a) (t + (x + y)) (ap (λ (z : ℕ). t + y + z) back ∙ plus_back t x y) on
wave_back plan carries repeats from to way.Repeater a b (c ∷ cs) t walk first rest l m s =
    let x = step_length plan.layout way.Repeater a c in
    let y = walk_length plan.layout way.Cable c cs in
    let back : step_length plan.layout way.Repeater c a ≡ x = length_back plan.layout way.Repeater a c walk.0 in
    let next : IsUsable plan from to c = first_usable plan from to c cs rest in
    let come : IsSignal plan way.Repeater c (t + y) = wave_back plan carries repeats from to way.Cable c b cs t walk.1 next (rest_usable plan from to c cs rest) l (sooner t x y to m) s in
    let here : from ≤ t + y = after from t y l in
    let now : t + y ≤ to = sooner t x y to m in
    let on : IsSignal plan way.Cable a (t + y + step_length plan.layout way.Repeater c a) = by_repeater plan repeats c a (t + y) (step_back plan.layout way.Repeater a c walk.0) (next (t + y) here now).0 (first (t + y) here now).1 come in
    later plan way.Cable a (t + y + step_length plan.layout way.Repeater c a) (t + (x + y)) (ap (λ (z : ℕ). t + y + z) back ∙ plus_back t x y) on

-- a walk comes to a station along its cable
no_repeater : (l : Layout) (t : Attachment) (k part : ℕ) → t ≡ Station k → part_by l way.Repeater t ≢ Some part
no_repeater l (Station j) k part e = λ h. cc
no_repeater l (Port r p) k part e = λ h. cc

comes_by_cable : (l : Layout) (w : Way) (a t : Attachment) (ts : List Attachment) (k : ℕ) → IsWalk l w a (t ∷ ts) (Station k) → way_after w (t ∷ ts) ≡ way.Repeater
comes_by_cable l way.Cable a t [] k walk = refl
comes_by_cable l way.Repeater a t [] k walk = absurd (no_repeater l t k walk.0.part walk.1 walk.0.to)
comes_by_cable l w a t (u ∷ us) k walk = comes_by_cable l (other_way w) t u us k walk.1

-- between two different stations a walk goes from cable to cable
record IsCabled (l : Layout) (w : Way) (ts : List Attachment) : Type 0 where
  begins : w ≡ way.Cable
  ends : way_after w ts ≡ way.Repeater

cabled : (l : Layout) (a b : ℕ) (w : Way) (ts : List Attachment) → a ≢ b → IsWalk l w (Station a) ts (Station b) → IsCabled l w ts
cabled l a b w [] ne walk = absurd (ne (let e : Station a ≡ Station b = walk in cc))
cabled l a b way.Cable (t ∷ ts) ne walk = record { begins = refl; ends = comes_by_cable l way.Cable (Station a) t ts b walk }
cabled l a b way.Repeater (t ∷ ts) ne walk = absurd (no_repeater l (Station a) a walk.0.part refl walk.0.from)

sent : (plan : Plan) (w : Way) (a t : ℕ) → w ≡ way.Cable → emitted plan a t ≢ Idle → IsSignal plan w (Station a) t
unfolding IsSignal
sent plan w a t e s = subst (λ (v : Way). IsSignal plan v (Station a) t) (sym e) s

come_to : (plan : Plan) (w : Way) (b t : ℕ) → w ≡ way.Repeater → IsSignal plan w (Station b) t → heard plan b t ≢ Idle
unfolding IsSignal
come_to plan w b t e s = subst (λ (v : Way). IsSignal plan v (Station b) t) e s

pub waves_arrive : CablesCarry → RepeatersRepeat → WavesArrive
waves_arrive carries repeats plan a b t path ne leads clear s =
    let l = plan.layout in
    let ways : IsCabled l path.begins path.taps = cabled l a b path.begins path.taps ne leads in
    come_to plan (way_after path.begins path.taps) b (t + length_of l (Station a) path) ways.ends
    (wave plan carries repeats path.begins (Station a) (Station b) path.taps t leads clear (sent plan path.begins a t ways.begins s))

-- waves both ways along an open path
pub waves :
    CablesCarry → RepeatersRepeat → (plan : Plan) (a b : ℕ) (path : Path) → a ≢ b → IsPath plan.layout (Station a) path (Station b)
    → (from to : ℕ) → IsOpenPath plan from to path → (t : ℕ) → from ≤ t → t + length_of plan.layout (Station a) path ≤ to
    → emitted plan a t ≢ Idle → heard plan b (t + length_of plan.layout (Station a) path) ≢ Idle
waves carries repeats plan a b path ne leads from to clear t l m s =
    waves_arrive carries repeats plan a b t path ne leads (clear_of plan from to path.begins (Station a) path.taps t (λ u i j. (tt, tt)) clear l m) s

pub waves_back :
    CablesCarry → RepeatersRepeat → (plan : Plan) (a b : ℕ) (path : Path) → a ≢ b → IsPath plan.layout (Station a) path (Station b)
    → (from to : ℕ) → IsOpenPath plan from to path → (t : ℕ) → from ≤ t → t + length_of plan.layout (Station a) path ≤ to
    → emitted plan b t ≢ Idle → heard plan a (t + length_of plan.layout (Station a) path) ≢ Idle
waves_back carries repeats plan a b path ne leads from to clear t l m s =
    let ways : IsCabled plan.layout path.begins path.taps = cabled plan.layout a b path.begins path.taps ne leads in
    come_to plan (other_way path.begins) a (t + length_of plan.layout (Station a) path) (ap other_way ways.begins)
    (wave_back plan carries repeats from to path.begins (Station a) (Station b) path.taps t leads (λ u i j. (tt, tt)) clear l m (sent plan (other_way (way_after path.begins path.taps)) b t (ap other_way ways.ends) s))
