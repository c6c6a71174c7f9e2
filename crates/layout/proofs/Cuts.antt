-- Where each tap separates the network, two walks from one tap to another are the same walk.
use Rattle.std.proofs.Common.{◌≡◌, ◌≢◌, ◌⊎◌, refl, sym, ◌∙◌, ap, subst, inl, inr, ℕ, Bool, List, [], ◌∷◌, Option, None, Some}
use Rattle.std.specs.Option.{option_map}
use Rattle.std.proofs.lemmas.Bool.{cases_eq}
use Rattle.layout.specs.declared.lines.Layout.{Layout}
use Rattle.layout.specs.declared.ways.Attachment.{Attachment}
use Rattle.layout.specs.declared.ways.Attachment.TheVariants.{Station, Port}
use Rattle.layout.specs.declared.ways.Way.{Way}
use Rattle.layout.specs.declared.ways.Way.TheVariants as way
use Rattle.layout.specs.Paths.{place, IsTap, part_by, IsStep, other_way, IsWalk, Path, IsPath}

-- two taps are the same or not
pub same_tap : (a b : Attachment) → (a ≡ b) ⊎ (a ≢ b)
same_tap (Station k) (Station j) =
    elim (cases_eq k j) [ inl e ↦ inl (ap (λ n. Station n) e) | inr ne ↦ inr (λ e. let f : k ≡ j = cc in ne f) ]
same_tap (Station k) (Port r p) = inr (λ e. cc)
same_tap (Port r p) (Station k) = inr (λ e. cc)
same_tap (Port r p) (Port s q) =
    elim (cases_eq r s) [
      | inl e ↦ elim (cases_eq p q) [
        | inl f ↦ inl (let t : Port r p ≡ Port s q = cc in t)
        | inr ne ↦ inr (λ g. let f : p ≡ q = cc in ne f)
      ]
      | inr ne ↦ inr (λ g. let f : r ≡ s = cc in ne f)
    ]

pub same_way : (v w : Way) → (v ≡ w) ⊎ (v ≡ other_way w)
same_way way.Cable way.Cable = inl refl
same_way way.Cable way.Repeater = inr refl
same_way way.Repeater way.Cable = inr refl
same_way way.Repeater way.Repeater = inl refl

pub mapped : {A B : Type 0} (f : A → B) (o : Option A) (y : B) → option_map f o ≡ Some y → (x : A) × (o ≡ Some x)
mapped f None y h = absurd (cc)
mapped f (Some x) y h = (x, refl)

-- a tap that has a part is the layout's
pub has_part : (l : Layout) (w : Way) (t : Attachment) (part : ℕ) → part_by l w t ≡ Some part → IsTap l t
has_part l way.Cable t part h = mapped (λ p. p.segment) (place l t) part h
has_part l way.Repeater (Station k) part h = absurd (cc)
has_part l way.Repeater (Port r p) part h = mapped (λ _. r) (place l (Port r p)) part h

-- two colours for the taps as seen from their segments and from their repeaters, which tap f alone separates
pub record IsCut (l : Layout) (f : Attachment) (c : Way → Attachment → Bool) : Type 0 where
  pub crosses : c way.Cable f ≢ c way.Repeater f
  pub others : (g : Attachment) → IsTap l g → g ≢ f → c way.Cable g ≡ c way.Repeater g
  pub along : (w : Way) (a b : Attachment) → IsStep l w a b → c w a ≡ c w b

abbrev pub HasCuts : Layout → Type 0
HasCuts l = (f : Attachment) → IsTap l f → (c : Way → Attachment → Bool) × IsCut l f c

-- none of these taps is e
abbrev pub Avoids : Attachment → List Attachment → Type 0
Avoids e [] = Unit {0}
Avoids e (t ∷ ts) = (t ≢ e) × Avoids e ts

abbrev BeginsElsewhere : Attachment → List Attachment → Type 0
BeginsElsewhere e [] = Unit {0}
BeginsElsewhere e (t ∷ ts) = t ≢ e

crossing : (l : Layout) (f : Attachment) (c : Way → Attachment → Bool) → IsCut l f c → (w : Way) → c w f ≢ c (other_way w) f
crossing l f c cut way.Cable = cut.crosses
crossing l f c cut way.Repeater = λ e. cut.crosses (sym e)

uncut : (l : Layout) (f : Attachment) (c : Way → Attachment → Bool) → IsCut l f c → (g : Attachment) → IsTap l g → g ≢ f → (v w : Way) → c v g ≡ c w g
uncut l f c cut g is ne way.Cable way.Cable = refl
uncut l f c cut g is ne way.Cable way.Repeater = cut.others g is ne
uncut l f c cut g is ne way.Repeater way.Cable = sym (cut.others g is ne)
uncut l f c cut g is ne way.Repeater way.Repeater = refl

pub steps_to : (l : Layout) (w : Way) (a b : Attachment) → IsStep l w a b → IsTap l b
steps_to l w a b s = has_part l w b s.part s.to

pub steps_from : (l : Layout) (w : Way) (a b : Attachment) → IsStep l w a b → IsTap l a
steps_from l w a b s = has_part l w a s.part s.from

-- a walk that avoids the cut stays on its side, and so meets nothing of the other
kept_off : (l : Layout) (f : Attachment) (c : Way → Attachment → Bool) → IsCut l f c → (e : Attachment) (w : Way) (a : Attachment) (ts : List Attachment) (b : Attachment) → IsWalk l w a ts b → Avoids f ts → ((v : Way) → c v e ≢ c w a) → Avoids e ts
kept_off l f c cut e w a [] b walk avoids far = tt
kept_off l f c cut e w a (t ∷ ts) b walk avoids far =
    let here : c w a ≡ c w t = cut.along w a t walk.0 in
    let next : c (other_way w) t ≡ c w a = uncut l f c cut t (steps_to l w a t walk.0) avoids.0 (other_way w) w ∙ sym here in (
      λ (same : t ≡ e). far w (subst (λ (x : Attachment). c w x ≡ c w a) same (sym here)),
      kept_off l f c cut e (other_way w) t ts b walk.1 avoids.1 (λ v near. far v (near ∙ next)),
    )

-- and ends on its side
ends_near : (l : Layout) (f : Attachment) (c : Way → Attachment → Bool) → IsCut l f c → (w : Way) (a : Attachment) (ts : List Attachment) (b : Attachment) → IsWalk l w a ts b → Avoids f ts → ((v : Way) → c v a ≡ c w a) → (v : Way) → c v b ≡ c w a
ends_near l f c cut w a [] b walk avoids start v = subst (λ (x : Attachment). c v x ≡ c w a) walk (start v)
ends_near l f c cut w a (t ∷ ts) b walk avoids start v =
    let tap : IsTap l t = steps_to l w a t walk.0 in
    ends_near l f c cut (other_way w) t ts b walk.1 avoids.1 (λ u. uncut l f c cut t tap avoids.0 u (other_way w)) v
    ∙ uncut l f c cut t tap avoids.0 (other_way w) w
    ∙ sym (cut.along w a t walk.0)

ends_near_next : (l : Layout) (f : Attachment) (c : Way → Attachment → Bool) → IsCut l f c → (w : Way) (a t : Attachment) (ts : List Attachment) (b : Attachment) → IsWalk l w a (t ∷ ts) b → Avoids f (t ∷ ts) → (v : Way) → c v b ≡ c w a
ends_near_next l f c cut w a t ts b walk avoids v =
    let tap : IsTap l t = steps_to l w a t walk.0 in
    ends_near l f c cut (other_way w) t ts b walk.1 avoids.1 (λ u. uncut l f c cut t tap avoids.0 u (other_way w)) v
    ∙ uncut l f c cut t tap avoids.0 (other_way w) w
    ∙ sym (cut.along w a t walk.0)

begins : (l : Layout) (w : Way) (a : Attachment) (ts : List Attachment) (b : Attachment) → IsWalk l w a ts b → BeginsElsewhere a ts
begins l w a [] b walk = tt
begins l w a (t ∷ ts) b walk = λ e. walk.0.different (sym e)

-- a walk never comes back over a tap of the part where it is
stays : (l : Layout) → HasCuts l → (w : Way) (a : Attachment) (ts : List Attachment) (b : Attachment) → IsWalk l w a ts b → (e : Attachment) → IsTap l e
    → ((f : Attachment) (c : Way → Attachment → Bool) → IsCut l f c → c w e ≡ c w a) → BeginsElsewhere e ts → Avoids e ts
stays l cuts w a [] b walk e tap touches head = tt
stays l cuts w a (t ∷ ts) b walk e tap touches head =
    let there : IsTap l t = steps_to l w a t walk.0 in
    let c : Way → Attachment → Bool = (cuts t there).0 in
    let cut : IsCut l t c = (cuts t there).1 in
    let off : Avoids t ts = stays l cuts (other_way w) t ts b walk.1 t there (λ f d k. refl) (begins l (other_way w) t ts b walk.1) in (
      head,
      kept_off l t c cut e (other_way w) t ts b walk.1 off (λ v near.
          crossing l t c cut w (sym (cut.along w a t walk.0) ∙ sym (touches t c cut) ∙ uncut l t c cut e tap (λ same. head (sym same)) w v ∙ near)),
    )

-- nor over the tap from which it comes
pub leaves : (l : Layout) → HasCuts l → (w : Way) (a : Attachment) (ts : List Attachment) (b : Attachment) → IsTap l a → IsWalk l w a ts b → Avoids a ts
leaves l cuts w a ts b tap walk = stays l cuts w a ts b walk a tap (λ f c k. refl) (begins l w a ts b walk)

avoids_end : (l : Layout) (e : Attachment) (w : Way) (a t : Attachment) (ts : List Attachment) (b : Attachment) → IsWalk l w a (t ∷ ts) b → Avoids e (t ∷ ts) → b ≢ e
avoids_end l e w a t [] b walk avoids = λ same. avoids.0 (walk.1 ∙ same)
avoids_end l e w a t (u ∷ us) b walk avoids = avoids_end l e (other_way w) t u us b walk.1 avoids.1

pub never_round : (l : Layout) → HasCuts l → (w : Way) (a t : Attachment) (ts : List Attachment) (b : Attachment) → IsWalk l w a (t ∷ ts) b → b ≢ a
never_round l cuts w a t ts b walk = avoids_end l a w a t ts b walk (leaves l cuts w a (t ∷ ts) b (steps_from l w a t walk.0) walk)

-- two walks that part at once do not meet again
part_ways : (l : Layout) → HasCuts l → (w : Way) (a t u : Attachment) (ts us : List Attachment) (b : Attachment) → IsWalk l w a (t ∷ ts) b → IsWalk l w a (u ∷ us) b → u ≢ t → ⊥
part_ways l cuts w a t u [] us b walk other apart =
    let there : IsTap l t = steps_to l w a t walk.0 in
    let off : Avoids t (u ∷ us) = stays l cuts w a (u ∷ us) b other t there (λ f c k. sym (k.along w a t walk.0)) apart in
    avoids_end l t w a u us b other off (sym walk.1)
part_ways l cuts w a t u (x ∷ xs) us b walk other apart =
    let there : IsTap l t = steps_to l w a t walk.0 in
    let c : Way → Attachment → Bool = (cuts t there).0 in
    let cut : IsCut l t c = (cuts t there).1 in
    let off : Avoids t (u ∷ us) = stays l cuts w a (u ∷ us) b other t there (λ f d k. sym (k.along w a t walk.0)) apart in
    let near : c w b ≡ c w a = ends_near_next l t c cut w a u us b other off w in
    let far : c w b ≡ c (other_way w) t = ends_near_next l t c cut (other_way w) t x xs b walk.1 (leaves l cuts (other_way w) t (x ∷ xs) b there walk.1) w in
    crossing l t c cut w (sym (cut.along w a t walk.0) ∙ sym near ∙ far)

-- one walk by this way
one_walk : (l : Layout) → HasCuts l → (w : Way) (a : Attachment) (ts us : List Attachment) (b : Attachment) → IsWalk l w a ts b → IsWalk l w a us b → ts ≡ us
one_walk l cuts w a [] [] b walk other = refl
one_walk l cuts w a [] (u ∷ us) b walk other = absurd (never_round l cuts w a u us b other (sym walk))
one_walk l cuts w a (t ∷ ts) [] b walk other = absurd (never_round l cuts w a t ts b walk (sym other))
one_walk l cuts w a (t ∷ ts) (u ∷ us) b walk other =
    elim (same_tap u t) [
      | inl same ↦
          let next : IsWalk l (other_way w) t us b = subst (λ (x : Attachment). IsWalk l (other_way w) x us b) same other.1 in
          let rest : ts ≡ us = one_walk l cuts (other_way w) t ts us b walk.1 next in
          cc
      | inr apart ↦ absurd (part_ways l cuts w a t u ts us b walk other apart)
    ]

-- and none by the other way
one_way : (l : Layout) → HasCuts l → (w : Way) (a : Attachment) (ts us : List Attachment) (b : Attachment) → a ≢ b → IsWalk l w a ts b → IsWalk l (other_way w) a us b → ⊥
one_way l cuts w a [] us b apart walk other = apart walk
one_way l cuts w a (t ∷ ts) [] b apart walk other = apart other
one_way l cuts w a (t ∷ ts) (u ∷ us) b apart walk other =
    let here : IsTap l a = steps_from l w a t walk.0 in
    let c : Way → Attachment → Bool = (cuts a here).0 in
    let cut : IsCut l a c = (cuts a here).1 in
    let near : c w b ≡ c w a = ends_near_next l a c cut w a t ts b walk (leaves l cuts w a (t ∷ ts) b here walk) w in
    let far : c w b ≡ c (other_way w) a = ends_near_next l a c cut (other_way w) a u us b other (leaves l cuts (other_way w) a (u ∷ us) b here other) w in
    crossing l a c cut w (sym near ∙ far)

same_path : (v w : Way) (ts us : List Attachment) → v ≡ w → ts ≡ us → ◌≡◌ {A = Path} (record { begins = v; taps = ts }) (record { begins = w; taps = us })
same_path v w ts us e f = rw (e, f) refl

pub paths_same : (l : Layout) → HasCuts l → (a b : Attachment) → a ≢ b → (p q : Path) → IsPath l a p b → IsPath l a q b → p ≡ q
paths_same l cuts a b apart p q walk other =
    elim (same_way q.begins p.begins) [
      | inl same ↦
          let again : IsWalk l p.begins a q.taps b = subst (λ (w : Way). IsWalk l w a q.taps b) same other in
          let taps : p.taps ≡ q.taps = one_walk l cuts p.begins a p.taps q.taps b walk again in
          same_path p.begins q.begins p.taps q.taps (sym same) taps
      | inr turned ↦ absurd (one_way l cuts p.begins a p.taps q.taps b apart walk (subst (λ (w : Way). IsWalk l w a q.taps b) turned other))
    ]
