-- Stretches of half bits, as one half bit more is added.
use Rattle.std.proofs.Common.{◌≡◌, ◌≢◌, ℕ, zero, suc, ◌+◌, ◌<◌, ◌≤◌, max, min, List, [], ◌∷◌, ◌++◌, Option, None, Some, inl, inr, refl, sym, subst, ap, ◌∙◌, arith}
use Rattle.std.specs.Prelude.{◌⊎◌, Result, Ok, Err, OnOk}
use Rattle.std.specs.List.{AllByRecursion}
use Rattle.std.proofs.lemmas.Bool.{cases_lt}
use Rattle.tap_signals.specs.declared.kind.SignalKind.{SignalKind}
use Rattle.tap_signals.specs.declared.stretch.Stretch.{Stretch}
use Rattle.tap_signals.specs.Stretches.{IsInStretch, IsInOne, IsStretch, IsBeforeNext, AreInTurn, AreStretches, AreStretchesTo}

all_more : (P : Stretch → Type 0) (ss : List Stretch) (x : Stretch) → AllByRecursion P ss → P x → AllByRecursion P (ss ++ x ∷ [])
all_more P [] x h p = (p, tt)
all_more P (s ∷ ss) x h p = (h.0, all_more P ss x h.1 p)

all_parts : (P : Stretch → Type 0) (ss : List Stretch) (x : Stretch) → AllByRecursion P (ss ++ x ∷ []) → AllByRecursion P ss × P x
all_parts P [] x h = (tt, h.0)
all_parts P (s ∷ ss) x h = let rest = all_parts P ss x h.1 in ((h.0, rest.0), rest.1)

pub all_so : (P Q : Stretch → Type 0) → ((s : Stretch) → P s → Q s) → (ss : List Stretch) → AllByRecursion P ss → AllByRecursion Q ss
all_so P Q f [] h = tt
all_so P Q f (s ∷ ss) h = (f s h.0, all_so P Q f ss h.1)

in_front : (t : ℕ) (ss xs : List Stretch) → IsInOne t ss → IsInOne t (ss ++ xs)
in_front t [] xs h = absurd h
in_front t (s ∷ ss) xs (inl here) = inl here
in_front t (s ∷ ss) xs (inr there) = inr (in_front t ss xs there)

in_last : (t : ℕ) (ss : List Stretch) (x : Stretch) → IsInStretch t x → IsInOne t (ss ++ x ∷ [])
in_last t [] x h = inl h
in_last t (s ∷ ss) x h = inr (in_last t ss x h)

in_either : (t : ℕ) (ss : List Stretch) (x : Stretch) → IsInOne t (ss ++ x ∷ []) → IsInOne t ss ⊎ IsInStretch t x
in_either t [] x (inl here) = inr here
in_either t [] x (inr there) = absurd there
in_either t (s ∷ ss) x (inl here) = inl (inl here)
in_either t (s ∷ ss) x (inr there) = elim (in_either t ss x there) [
  | inl front ↦ inl (inr front)
  | inr last ↦ inr last
]

before_more : (s : Stretch) (ss : List Stretch) (last x : Stretch) → IsBeforeNext s (ss ++ last ∷ []) → IsBeforeNext s ((ss ++ last ∷ []) ++ x ∷ [])
before_more s [] last x h = h
before_more s (y ∷ ss) last x h = h

pub in_turn_more : (ss : List Stretch) (last x : Stretch) → AreInTurn (ss ++ last ∷ []) → last.end ≤ x.start → (last.end ≡ x.start → last.kind ≢ x.kind) → AreInTurn ((ss ++ last ∷ []) ++ x ∷ [])
in_turn_more [] last x h after other = ((after, other), (tt, tt))
in_turn_more (s ∷ ss) last x h after other = (before_more s ss last x h.0, in_turn_more ss last x h.1 after other)

before_longer : (s : Stretch) (ss : List Stretch) (last x : Stretch) → x.start ≡ last.start → x.kind ≡ last.kind → IsBeforeNext s (ss ++ last ∷ []) → IsBeforeNext s (ss ++ x ∷ [])
before_longer s [] last x e k h = (omega (arith, h.0, e), λ touch same. h.1 (touch ∙ e) (same ∙ k))
before_longer s (y ∷ ss) last x e k h = h

in_turn_longer : (ss : List Stretch) (last x : Stretch) → x.start ≡ last.start → x.kind ≡ last.kind → AreInTurn (ss ++ last ∷ []) → AreInTurn (ss ++ x ∷ [])
in_turn_longer [] last x e k h = (tt, tt)
in_turn_longer (s ∷ ss) last x e k h = (before_longer s ss last x e k h.0, in_turn_longer ss last x e k h.1)

-- a stretch of one half bit, and one that goes on to half bit t
abbrev pub one_half_bit : ℕ → SignalKind → Stretch
one_half_bit t kind = record { start = t; end = t + 1; kind = kind }

abbrev pub longer_to : ℕ → SignalKind → ℕ → Stretch
longer_to start kind t = record { start = start; end = t + 1; kind = kind }

wider : (f : ℕ → Option SignalKind) (from t : ℕ) (s : Stretch) → IsStretch f from t s → IsStretch f from (t + 1) s
wider f from t s h = record { begins = h.begins; some = h.some; ends = (let ends = h.ends in omega (arith, ends)); alike = h.alike }

single : (f : ℕ → Option SignalKind) (from t : ℕ) (kind : SignalKind) → from ≤ t → f t ≡ Some kind → IsStretch f from (t + 1) (one_half_bit t kind)
single f from t kind l e = record {
  begins = l;
  some = omega arith;
  ends = omega arith;
  alike = λ u w. let same : u ≡ t = omega (arith, w.0, w.1) in ap f same ∙ e;
}

-- nothing is emitted in half bit t
pub none_more : (f : ℕ → Option SignalKind) (from t : ℕ) (ss : List Stretch) → f t ≡ None → AreStretches f from t ss → AreStretches f from (t + 1) ss
none_more f from t ss none h = record {
  each = all_so (IsStretch f from t) (IsStretch f from (t + 1)) (wider f from t) ss h.each;
  every = λ u l m some. elim (cases_lt u t) [
    | inl old ↦ h.every u l old some
    | inr now ↦ let same : u ≡ t = omega (arith, m, now) in absurd (some (ap f same ∙ none))
  ];
  in_turn = h.in_turn;
}

-- a stretch begins in half bit t
pub begins_new : (f : ℕ → Option SignalKind) (from t : ℕ) (kind : SignalKind) (ss : List Stretch) → from ≤ t → f t ≡ Some kind → AreStretches f from t ss
    → AreInTurn (ss ++ one_half_bit t kind ∷ []) → AreStretches f from (t + 1) (ss ++ one_half_bit t kind ∷ [])
begins_new f from t kind ss l e h turn = record {
  each = all_more (IsStretch f from (t + 1)) ss (one_half_bit t kind) (all_so (IsStretch f from t) (IsStretch f from (t + 1)) (wider f from t) ss h.each) (single f from t kind l e);
  every = λ u a b some. elim (cases_lt u t) [
    | inl old ↦ in_front u ss (one_half_bit t kind ∷ []) (h.every u a old some)
    | inr now ↦ in_last u ss (one_half_bit t kind) (now, b)
  ];
  in_turn = turn;
}

pub first_one : (f : ℕ → Option SignalKind) (from t : ℕ) (kind : SignalKind) → from ≤ t → f t ≡ Some kind → AreStretches f from t [] → AreStretches f from (t + 1) (one_half_bit t kind ∷ [])
first_one f from t kind l e h = begins_new f from t kind [] l e h (tt, tt)

pub next_one : (f : ℕ → Option SignalKind) (from t : ℕ) (kind : SignalKind) (ss : List Stretch) (last : Stretch) → from ≤ t → f t ≡ Some kind → AreStretches f from t (ss ++ last ∷ [])
    → (last.end ≡ t → last.kind ≢ kind) → AreStretches f from (t + 1) ((ss ++ last ∷ []) ++ one_half_bit t kind ∷ [])
next_one f from t kind ss last l e h other =
    let ends = (all_parts (IsStretch f from t) ss last h.each).1.ends in
    begins_new f from t kind (ss ++ last ∷ []) l e h (in_turn_more ss last (one_half_bit t kind) h.in_turn ends other)

-- the last stretch goes on in half bit t
pub last_longer : (f : ℕ → Option SignalKind) (from t : ℕ) (kind : SignalKind) (ss : List Stretch) (last : Stretch) → f t ≡ Some kind → AreStretches f from t (ss ++ last ∷ [])
    → last.end ≡ t → last.kind ≡ kind → AreStretches f from (t + 1) (ss ++ longer_to last.start kind t ∷ [])
last_longer f from t kind ss last e h touches same_kind =
    let parts = all_parts (IsStretch f from t) ss last h.each in
    let long = longer_to last.start kind t in
    let some = parts.1.some in
    record {
      each = all_more (IsStretch f from (t + 1)) ss long (all_so (IsStretch f from t) (IsStretch f from (t + 1)) (wider f from t) ss parts.0) (record {
        begins = parts.1.begins;
        some = omega (arith, some, touches);
        ends = omega arith;
        alike = λ u w. elim (cases_lt u t) [
          | inl old ↦ parts.1.alike u (w.0, omega (arith, old, touches)) ∙ ap Some same_kind
          | inr now ↦ let same : u ≡ t = omega (arith, w.1, now) in ap f same ∙ e
        ];
      });
      every = λ u a b is. elim (cases_lt u t) [
        | inl old ↦ elim (in_either u ss last (h.every u a old is)) [
          | inl front ↦ in_front u ss (long ∷ []) front
          | inr here ↦ in_last u ss long (here.0, omega (arith, old))
        ]
        | inr now ↦ in_last u ss long (omega (arith, now, some, touches), b)
      ];
      in_turn = in_turn_longer ss last long refl (sym same_kind) h.in_turn;
    }

-- a half bit outside of the window
pub outside : (f : ℕ → Option SignalKind) (from to t : ℕ) (ss : List Stretch) → (t < from) ⊎ (to ≤ t) → AreStretchesTo f from to t ss → AreStretchesTo f from to (t + 1) ss
outside f from to t ss (inl early) h = let same : max from (min t to) ≡ max from (min (t + 1) to) = omega (arith, early) in subst (λ u. AreStretches f from u ss) same h
outside f from to t ss (inr late) h = let same : max from (min t to) ≡ max from (min (t + 1) to) = omega (arith, late) in subst (λ u. AreStretches f from u ss) same h

-- one within it
pub inside_before : (f : ℕ → Option SignalKind) (from to t : ℕ) (ss : List Stretch) → from ≤ t → t < to → AreStretchesTo f from to t ss → AreStretches f from t ss
inside_before f from to t ss l m h = let same : max from (min t to) ≡ t = omega (arith, l, m) in subst (λ u. AreStretches f from u ss) same h

pub inside_after : (f : ℕ → Option SignalKind) (from to t : ℕ) (ss : List Stretch) → from ≤ t → t < to → AreStretches f from (t + 1) ss → AreStretchesTo f from to (t + 1) ss
inside_after f from to t ss l m h = let same : t + 1 ≡ max from (min (t + 1) to) = omega (arith, l, m) in subst (λ u. AreStretches f from u ss) same h

-- a half bit in which nothing is emitted
pub silent_one : (f : ℕ → Option SignalKind) (from to t : ℕ) (ss : List Stretch) → f t ≡ None → AreStretchesTo f from to t ss → AreStretchesTo f from to (t + 1) ss
silent_one f from to t ss none h = elim (cases_lt t from) [
  | inl early ↦ outside f from to t ss (inl early) h
  | inr begun ↦ elim (cases_lt t to) [
    | inl within ↦ inside_after f from to t ss begun within (none_more f from t ss none (inside_before f from to t ss begun within h))
    | inr late ↦ outside f from to t ss (inr late) h
  ]
]

-- many such half bits
pub silent_many : (f : ℕ → Option SignalKind) (from to t n : ℕ) (ss : List Stretch) → ((i : ℕ) → i < n → f (t + i) ≡ None) → AreStretchesTo f from to t ss → AreStretchesTo f from to (t + n) ss
silent_many f from to t zero ss none h = let same : t ≡ t + 0 = omega arith in subst (λ u. AreStretchesTo f from to u ss) same h
silent_many f from to t (suc n) ss none h =
    let more : t + n + 1 ≡ t + suc n = omega arith in
    subst (λ u. AreStretchesTo f from to u ss) more (silent_one f from to (t + n) ss (none n (omega arith)) (silent_many f from to t n ss (λ i l. none i (omega (arith, l))) h))

-- no half bit before half bit t, where nothing is emitted in those of them that are in the window
pub nothing_yet : (f : ℕ → Option SignalKind) (from to t : ℕ) → ((u : ℕ) → from ≤ u → u < t → f u ≡ None) → AreStretchesTo f from to t []
nothing_yet f from to t none = record {
  each = tt;
  every = λ u l m some. some (none u l (omega (arith, l, m)));
  in_turn = tt;
}

-- what is done with the list in each case
pub first_added : (f : ℕ → Option SignalKind) (from t : ℕ) (kind : SignalKind) (old mid new : List Stretch) → old ≡ [] → mid ≡ old → new ≡ mid ++ one_half_bit t kind ∷ [] → from ≤ t → f t ≡ Some kind
    → AreStretches f from t old → AreStretches f from (t + 1) new
first_added f from t kind old mid new none same is l e h =
    subst (AreStretches f from (t + 1)) (sym (is ∙ ap (λ (ss : List Stretch). ss ++ one_half_bit t kind ∷ []) (same ∙ none)))
    (first_one f from t kind l e (subst (AreStretches f from t) none h))

pub next_added : (f : ℕ → Option SignalKind) (from t : ℕ) (kind : SignalKind) (last : Stretch) (old mid again new : List Stretch) → old ≡ mid ++ last ∷ [] → again ≡ mid ++ last ∷ []
    → new ≡ again ++ one_half_bit t kind ∷ [] → (last.end ≡ t → last.kind ≢ kind) → from ≤ t → f t ≡ Some kind → AreStretches f from t old → AreStretches f from (t + 1) new
next_added f from t kind last old mid again new was put is other l e h =
    subst (AreStretches f from (t + 1)) (sym (is ∙ ap (λ (ss : List Stretch). ss ++ one_half_bit t kind ∷ []) put))
    (next_one f from t kind mid last l e (subst (AreStretches f from t) was h) other)

pub longer_added : (f : ℕ → Option SignalKind) (from t : ℕ) (kind : SignalKind) (last : Stretch) (old mid new : List Stretch) → old ≡ mid ++ last ∷ []
    → new ≡ mid ++ longer_to last.start kind t ∷ [] → last.end ≡ t → last.kind ≡ kind → f t ≡ Some kind → AreStretches f from t old → AreStretches f from (t + 1) new
longer_added f from t kind last old mid new was is touches same e h =
    subst (AreStretches f from (t + 1)) (sym is) (last_longer f from t kind mid last e (subst (AreStretches f from t) was h) touches same)

-- what holds whatever the answer is
pub on_either : {A E P : Type 0} (r : Result A E) → P → OnOk r P
on_either (Ok x) h = h
on_either (Err e) h = tt
