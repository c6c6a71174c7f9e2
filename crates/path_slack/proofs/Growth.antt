-- Where the steps of one part of a sound layout that C names grow by x, the distance of two stations grows by x if
-- their path has such a step, and stays if not: a path has at most one step in a part.
use Rattle.std.proofs.Common.{◌≡◌, ◌≢◌, ◌⊎◌, refl, sym, ◌∙◌, ap, subst, inl, inr, ℕ, ◌+◌, List, [], ◌∷◌, Some, arith}
use Rattle.layout.specs.declared.lines.Layout.{Layout}
use Rattle.layout.specs.declared.ways.Attachment.{Attachment}
use Rattle.layout.specs.declared.ways.Attachment.TheVariants.{Station}
use Rattle.layout.specs.declared.ways.Way.{Way}
use Rattle.layout.specs.declared.ways.Way.TheVariants as way
use Rattle.layout.specs.Paths.{part_by, IsStep, other_way, IsWalk, step_length, walk_length, Path, IsPath, length_of, IsDistance}
use Rattle.layout.specs.Sound.{IsSound}
use Rattle.layout.proofs.Cuts.{same_tap, same_way, has_part, Avoids, leaves}
use Rattle.layout.proofs.PathsOverEdges.{other-other}
use Rattle.layout.proofs.WalksBack.{step_back}
use Rattle.layout.proofs.SoundTaps.{sound_cuts, sound_one_path}
use Rattle.path_slack.specs.Crossings.{IsCrossed}
use Rattle.path_slack.proofs.WalksJoined.{joined, crossed_turned}

-- layout m is l where the steps of a part that C names are x longer
pub record IsGrowth (l m : Layout) (x : ℕ) (v : Way) (part : ℕ) (C : Attachment → Attachment → Type 0) : Type 0 where
  pub parts : (w : Way) (t : Attachment) → part_by m w t ≡ part_by l w t
  pub decide : (a b : Attachment) → IsStep l v a b → C a b ⊎ (C a b → ⊥)
  pub on : (a b : Attachment) → C a b → part_by l v a ≡ Some part
  pub back : (a b : Attachment) → IsStep l v a b → C a b → C b a
  pub longer : (a b : Attachment) → IsStep l v a b → C a b → step_length m v a b ≡ step_length l v a b + x
  pub same : (a b : Attachment) → IsStep l v a b → (C a b → ⊥) → step_length m v a b ≡ step_length l v a b
  pub others : (a b : Attachment) → step_length m (other_way v) a b ≡ step_length l (other_way v) a b

apart_ways : (v : Way) → other_way v ≡ v → ⊥
apart_ways way.Cable e = cc
apart_ways way.Repeater e = cc

module _ (l m : Layout) (x : ℕ) (v : Way) (part : ℕ) (C : Attachment → Attachment → Type 0) (sound : IsSound l) (g : IsGrowth l m x v part C) where
  step_to : (w : Way) (a b : Attachment) → IsStep l w a b → IsStep m w a b
  step_to w a b s = record { different = s.different; part = s.part; from = g.parts w a ∙ s.from; to = g.parts w b ∙ s.to }

  step_from : (w : Way) (a b : Attachment) → IsStep m w a b → IsStep l w a b
  step_from w a b s = record { different = s.different; part = s.part; from = sym (g.parts w a) ∙ s.from; to = sym (g.parts w b) ∙ s.to }

  walk_to : (w : Way) (a : Attachment) (ts : List Attachment) (b : Attachment) → IsWalk l w a ts b → IsWalk m w a ts b
  walk_to w a [] b walk = walk
  walk_to w a (t ∷ ts) b walk = (step_to w a t walk.0, walk_to (other_way w) t ts b walk.1)

  walk_from : (w : Way) (a : Attachment) (ts : List Attachment) (b : Attachment) → IsWalk m w a ts b → IsWalk l w a ts b
  walk_from w a [] b walk = walk
  walk_from w a (t ∷ ts) b walk = (step_from w a t walk.0, walk_from (other_way w) t ts b walk.1)

  -- no step of the walk is one that C names
  abbrev NoneOver : Way → Attachment → List Attachment → Type 0
  NoneOver w c [] = Unit {0}
  NoneOver w c (t ∷ ts) = (w ≡ v → C c t → ⊥) × NoneOver (other_way w) t ts

  step_same : (w : Way) (a b : Attachment) → IsStep l w a b → (w ≡ v → C a b → ⊥) → step_length m w a b ≡ step_length l w a b
  step_same w a b step not =
      elim (same_way w v) [
        | inl e ↦ subst (λ (u : Way). step_length m u a b ≡ step_length l u a b) (sym e) (g.same a b (subst (λ (u : Way). IsStep l u a b) e step) (not e))
        | inr e ↦ subst (λ (u : Way). step_length m u a b ≡ step_length l u a b) (sym e) (g.others a b)
      ]

  none_same : (w : Way) (c : Attachment) (ts : List Attachment) (b : Attachment) → IsWalk l w c ts b → NoneOver w c ts → walk_length m w c ts ≡ walk_length l w c ts
  none_same w c [] b walk none = refl
  none_same w c (t ∷ ts) b walk none =
      ap (λ (n : ℕ). n + walk_length m (other_way w) t ts) (step_same w c t walk.0 none.0)
      ∙ ap (λ (n : ℕ). step_length l w c t + n) (none_same (other_way w) t ts b walk.1 none.1)

  -- after a step in a part the walk never comes back to the part
  leaves_part : (a t : Attachment) (ts : List Attachment) (b : Attachment) → IsWalk l v a (t ∷ ts) b → part_by l v a ≡ Some part → (e : Attachment) → part_by l v e ≡ Some part → Avoids e ts
  leaves_part a t ts b walk on e h =
      let there : part_by l v t ≡ Some part = walk.0.to ∙ sym walk.0.from ∙ on in
      elim (same_tap e t) [
        | inl same ↦ subst (λ (y : Attachment). Avoids y ts) (sym same) (leaves l (sound_cuts l sound) (other_way v) t ts b (has_part l v t part there) walk.1)
        | inr ne ↦
            let step : IsStep l v e t = record { different = ne; part = part; from = h; to = there } in
            (leaves l (sound_cuts l sound) v e (t ∷ ts) b (has_part l v e part h) (step, walk.1)).1
      ]

  none_over : (w : Way) (c : Attachment) (ts : List Attachment) (b : Attachment) → IsWalk l w c ts b → (w ≡ v → part_by l v c ≡ Some part → ⊥) → ((e : Attachment) → part_by l v e ≡ Some part → Avoids e ts) → NoneOver w c ts
  none_over w c [] b walk head avoid = tt
  none_over w c (t ∷ ts) b walk head avoid =
      (λ e over. head e (g.on c t over), none_over (other_way w) t ts b walk.1 (λ e h. (avoid t h).0 refl) (λ e h. (avoid e h).1))

  -- so it has no more such steps
  beyond : (a t : Attachment) (ts : List Attachment) (b : Attachment) → IsStep l v a t → C a t → IsWalk l (other_way v) t ts b → NoneOver (other_way v) t ts
  beyond a t ts b step over walk =
      none_over (other_way v) t ts b walk (λ e h. apart_ways v e) (leaves_part a t ts b (step, walk) (g.on a t over))

  -- a step that C names, and the walks from its ends
  record IsFound (a b : Attachment) : Type 0 where
    near : Attachment
    far : Attachment
    step : IsStep l v near far
    over : C near far
    rs : List Attachment
    us : List Attachment
    before : IsWalk l (other_way v) near rs a
    after : IsWalk l (other_way v) far us b

  found_first : (w : Way) (a b c t : Attachment) (rs ts : List Attachment) → w ≡ v → IsWalk l (other_way w) c rs a → IsStep l w c t → IsWalk l (other_way w) t ts b → C c t → IsFound a b
  found_first w a b c t rs ts e before step after over = record {
    near = c;
    far = t;
    step = subst (λ (u : Way). IsStep l u c t) e step;
    over = over;
    rs = rs;
    us = ts;
    before = subst (λ (u : Way). IsWalk l (other_way u) c rs a) e before;
    after = subst (λ (u : Way). IsWalk l (other_way u) t ts b) e after;
  }

  find : (w : Way) (a b c : Attachment) (rs ts : List Attachment) → IsWalk l (other_way w) c rs a → IsWalk l w c ts b → NoneOver w c ts ⊎ IsFound a b
  find w a b c rs [] before walk = inl tt
  find w a b c rs (t ∷ ts) before walk =
      let again : IsWalk l (other_way (other_way w)) t (c ∷ rs) a = subst (λ (u : Way). IsWalk l u t (c ∷ rs) a) (sym (other-other w)) (step_back l w c t walk.0, before) in
      let rest : NoneOver (other_way w) t ts ⊎ IsFound a b = find (other_way w) a b t (c ∷ rs) ts again walk.1 in
      elim (same_way w v) [
        | inl e ↦ elim (g.decide c t (subst (λ (u : Way). IsStep l u c t) e walk.0)) [
          | inl over ↦ inr (found_first w a b c t rs ts e before walk.0 walk.1 over)
          | inr not ↦ elim rest [ inl none ↦ inl ((λ q. not), none) | inr found ↦ inr found ]
        ]
        | inr e ↦ elim rest [ inl none ↦ inl ((λ q over. apart_ways v (sym e ∙ q)), none) | inr found ↦ inr found ]
      ]

  -- in m the found path is x longer
  module _ (a b : Attachment) (f : IsFound a b) where
    length_found : ℕ
    length_found = walk_length l (other_way v) f.near f.rs + step_length l v f.near f.far + walk_length l (other_way v) f.far f.us

    found_distance : IsDistance l a b length_found
    unfolding length_found
    found_distance = joined l v f.near f.far a b f.rs f.us f.step f.before f.after

    found_longer : IsDistance m a b (length_found + x)
    unfolding length_found
    found_longer =
        let first : walk_length m (other_way v) f.near f.rs ≡ walk_length l (other_way v) f.near f.rs =
        none_same (other_way v) f.near f.rs a f.before (beyond f.far f.near f.rs a (step_back l v f.near f.far f.step) (g.back f.near f.far f.step f.over) f.before) in
        let last : walk_length m (other_way v) f.far f.us ≡ walk_length l (other_way v) f.far f.us =
        none_same (other_way v) f.far f.us b f.after (beyond f.near f.far f.us b f.step f.over f.after) in
        let mid : step_length m v f.near f.far ≡ step_length l v f.near f.far + x = g.longer f.near f.far f.step f.over in
        let sum : walk_length m (other_way v) f.near f.rs + step_length m v f.near f.far + walk_length m (other_way v) f.far f.us ≡ walk_length l (other_way v) f.near f.rs + step_length l v f.near f.far + walk_length l (other_way v) f.far f.us + x = omega arith in
        subst (λ (n : ℕ). IsDistance m a b n) sum
        (joined m v f.near f.far a b f.rs f.us (step_to v f.near f.far f.step) (walk_to (other_way v) f.near f.rs a f.before) (walk_to (other_way v) f.far f.us b f.after))

  path_from : (a b : Attachment) (p : Path) → IsPath m a p b → IsPath l a p b
  path_from a b p leads = walk_from p.begins a p.taps b leads

  -- two taps have one distance in m too
  one_in_m : (a b : Attachment) → a ≢ b → (p q : ℕ) → IsDistance m a b p → IsDistance m a b q → p ≡ q
  one_in_m a b ne p q d e =
      sym d.long ∙ ap (λ (path : Path). length_of m a path) ((sound_one_path l sound).same a b ne d.path e.path (path_from a b d.path d.leads) (path_from a b e.path e.leads)) ∙ e.long

  crossed_found : (a b n : ℕ) → IsCrossed l v C a b n → IsFound (Station a) (Station b)
  crossed_found a b n h = record { near = h.near; far = h.far; step = h.step; over = h.over; rs = h.start.taps; us = h.finish.taps; before = h.start.leads; after = h.finish.leads }

  crossed_length : (a b n : ℕ) → (h : IsCrossed l v C a b n) → length_found (Station a) (Station b) (crossed_found a b n h) ≡ n
  unfolding length_found crossed_found
  crossed_length a b n h =
      let p : walk_length l (other_way v) h.near h.start.taps ≡ h.before = h.start.long in
      let q : walk_length l (other_way v) h.far h.finish.taps ≡ h.after = h.finish.long in
      let sum : h.before + step_length l v h.near h.far + h.after ≡ n = h.sum in
      omega arith

  -- a path that is crossed is as long, and x longer in m
  pub crossed_distance : (a b n : ℕ) → IsCrossed l v C a b n → IsDistance l (Station a) (Station b) n
  crossed_distance a b n h = subst (λ (k : ℕ). IsDistance l (Station a) (Station b) k) (crossed_length a b n h) (found_distance (Station a) (Station b) (crossed_found a b n h))

  pub crossed_longer : (a b n : ℕ) → IsCrossed l v C a b n → IsDistance m (Station a) (Station b) (n + x)
  crossed_longer a b n h = subst (λ (k : ℕ). IsDistance m (Station a) (Station b) (k + x)) (crossed_length a b n h) (found_longer (Station a) (Station b) (crossed_found a b n h))

  found_crossed : (a b : ℕ) → (f : IsFound (Station a) (Station b)) → IsCrossed l v C a b (length_found (Station a) (Station b) f)
  unfolding length_found
  found_crossed a b f = record {
    near = f.near;
    far = f.far;
    step = f.step;
    over = f.over;
    before = walk_length l (other_way v) f.near f.rs;
    after = walk_length l (other_way v) f.far f.us;
    start = record { taps = f.rs; leads = f.before; long = refl };
    finish = record { taps = f.us; leads = f.after; long = refl };
    sum = refl;
  }

  pub crossed_back : (a b n : ℕ) → IsCrossed l v C a b n → IsCrossed l v C b a n
  crossed_back a b n h = crossed_turned l v C g.back a b n h

  -- a distance in m: as in l, or x longer where the path is crossed
  pub record IsGrown (a b n : ℕ) : Type 0 where
    pub short : ℕ
    pub apart : IsDistance l (Station a) (Station b) short
    pub grown : (n ≡ short) ⊎ ((n ≡ short + x) × IsCrossed l v C a b short)

  pub grown : (a b n : ℕ) → a ≢ b → IsDistance m (Station a) (Station b) n → IsGrown a b n
  grown a b n ne d =
      let walk : IsWalk l d.path.begins (Station a) d.path.taps (Station b) = path_from (Station a) (Station b) d.path d.leads in
      elim (find d.path.begins (Station a) (Station b) (Station a) [] d.path.taps refl walk) [
        | inl none ↦ record {
          short = walk_length l d.path.begins (Station a) d.path.taps;
          apart = record { path = d.path; leads = walk; long = refl };
          grown = inl (sym d.long ∙ none_same d.path.begins (Station a) d.path.taps (Station b) walk none);
        }
        | inr f ↦ record {
          short = length_found (Station a) (Station b) f;
          apart = found_distance (Station a) (Station b) f;
          grown = inr (one_in_m (Station a) (Station b) (λ e. ne (cc)) n (length_found (Station a) (Station b) f + x) d (found_longer (Station a) (Station b) f), found_crossed a b f);
        }
      ]
