-- A walk leads back over the same taps, and is as long.
use Rattle.std.proofs.Common.{◌≡◌, refl, sym, ◌∙◌, ap, subst, ℕ, ◌+◌, List, [], ◌∷◌, Some, arith}
use Rattle.layout.specs.declared.lines.Layout.{Layout}
use Rattle.layout.specs.declared.ways.Attachment.{Attachment}
use Rattle.layout.specs.declared.ways.Attachment.TheVariants.{Station, Port}
use Rattle.layout.specs.declared.ways.Way.{Way}
use Rattle.layout.specs.declared.ways.Way.TheVariants as way
use Rattle.layout.specs.Paths.{part_by, IsStep, other_way, IsWalk, at_of, delay_of, step_length, walk_length, IsDistance}
use Rattle.mac_parameters.specs.Distances.{distance}
use Rattle.layout.proofs.PathsOverEdges.{other-other}
use Rattle.layout.proofs.Sides.{repeater_number}

pub step_back : (l : Layout) (w : Way) (a b : Attachment) → IsStep l w a b → IsStep l w b a
step_back l w a b s = record { different = λ e. s.different (sym e); part = s.part; from = s.to; to = s.from }

same_delay : (l : Layout) (a b : Attachment) (part : ℕ) → part_by l way.Repeater a ≡ Some part → part_by l way.Repeater b ≡ Some part → delay_of l a ≡ delay_of l b
same_delay l (Station k) b part h k' = absurd (cc)
same_delay l (Port r p) (Station j) part h k' = absurd (cc)
same_delay l (Port r p) (Port s q) part h k' =
    let same : r ≡ s = repeater_number l r p part h ∙ sym (repeater_number l s q part k') in
    rw same refl

distance_comm : (x y : ℕ) → distance x y ≡ distance y x
distance_comm x y = omega arith

pub step_length-back : (l : Layout) (w : Way) (a b : Attachment) → IsStep l w a b → step_length l w a b ≡ step_length l w b a
step_length-back l way.Cable a b s = distance_comm (at_of l a) (at_of l b)
step_length-back l way.Repeater a b s = same_delay l a b s.part s.from s.to

-- back from b over the taps that are left, and then over those that were before
pub back : (l : Layout) (w : Way) (a c : Attachment) (rs ts : List Attachment) (b : Attachment) (m n : ℕ) → IsWalk l (other_way w) c rs a → walk_length l (other_way w) c rs ≡ m → IsWalk l w c ts b → walk_length l w c ts ≡ n → IsDistance l b a (m + n)
back l w a c rs [] b m n before so_far walk long =
    let none : n ≡ 0 = sym long in
    let all : m ≡ m + n = omega arith in
    record {
      path = record { begins = other_way w; taps = rs };
      leads = subst (λ (x : Attachment). IsWalk l (other_way w) x rs a) walk before;
      long = subst (λ (x : Attachment). walk_length l (other_way w) x rs ≡ m + n) walk (so_far ∙ all);
    }
back l w a c rs (t ∷ ts) b m n before so_far walk long =
    let again : IsWalk l (other_way (other_way w)) t (c ∷ rs) a = subst (λ (u : Way). IsWalk l u t (c ∷ rs) a) (sym (other-other w)) (step_back l w c t walk.0, before) in
    let one : step_length l w c t ≡ step_length l w t c = step_length-back l w c t walk.0 in
    let more : walk_length l w t (c ∷ rs) ≡ step_length l w t c + m = ap (λ (x : ℕ). step_length l w t c + x) so_far in
    let over : walk_length l (other_way (other_way w)) t (c ∷ rs) ≡ step_length l w t c + m = subst (λ (u : Way). walk_length l u t (c ∷ rs) ≡ step_length l w t c + m) (sym (other-other w)) more in
    let rest : step_length l w c t + walk_length l (other_way w) t ts ≡ n = long in
    let sum : step_length l w t c + m + walk_length l (other_way w) t ts ≡ m + n = omega arith in
    subst (λ (x : ℕ). IsDistance l b a x) sum (back l (other_way w) a t (c ∷ rs) ts b (step_length l w t c + m) (walk_length l (other_way w) t ts) again over walk.1 refl)

pub distance_back : (l : Layout) (a b : Attachment) (n : ℕ) → IsDistance l a b n → IsDistance l b a n
distance_back l a b n d =
    let none : 0 + n ≡ n = omega arith in
    subst (λ (x : ℕ). IsDistance l b a x) none (back l d.path.begins a a [] d.path.taps b 0 n refl refl d.leads d.long)
