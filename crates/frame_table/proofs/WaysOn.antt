-- The ways from a station, step by step.
use Rattle.std.proofs.Common.{◌≡◌, ℕ, ◌+◌, ◌<◌, ◌==◌, cond, refl, sym, ap, ap₂, ◌∙◌, subst, inl, inr, List, [], ◌∷◌, ◌++◌, length, get_or, set, Option, Some, IfSome, arith, append_assoc, append-nil, eqb-true, length-set}
use Rattle.std.proofs.lemmas.Bool.{cases_Bool}
use Rattle.layout.specs.declared.lines.Layout.{Layout}
use Rattle.layout.specs.declared.ways.Attachment.{Attachment}
use Rattle.layout.specs.declared.ways.Attachment.TheVariants.{Station}
use Rattle.layout.specs.declared.ways.Way.{Way}
use Rattle.layout.specs.declared.ways.Way.TheVariants as way
use Rattle.layout.specs.Paths.{IsStep, IsWalk, other_way, step_length, walk_length}
use Rattle.path_checker.specs.Far.{IsStop}
use Rattle.path_checker.specs.declared.stops.Stop.{Stop}
use Rattle.frame_table.specs.Led.{AreLed, IsLed, IsRoute, gone_on, way_after}
use Rattle.frame_table.specs.Ways.{entries_on, entry_by}
use Rattle.frame_table.specs.declared.routes.WayIn.{WayIn}
use Rattle.frame_table.specs.declared.routes.Led.{Led}
use Rattle.frame_table.proofs.FoundLast.{set_at_either}

walk_on : (l : Layout) (w : Way) (a : Attachment) (ts : List Attachment) (b t : Attachment) → IsWalk l w a ts b → IsStep l (way_after w ts) b t → IsWalk l w a (ts ++ t ∷ []) t
walk_on l w a [] b t walk step = (subst (λ (x : Attachment). IsStep l w x t) (sym walk) step, refl)
walk_on l w a (s ∷ ss) b t walk step = (walk.0, walk_on l (other_way w) s ss b t walk.1 step)

way_on : (w : Way) (ts : List Attachment) (t : Attachment) → way_after w (ts ++ t ∷ []) ≡ other_way (way_after w ts)
way_on w [] t = refl
way_on w (s ∷ ss) t = way_on (other_way w) ss t

length_on : (l : Layout) (w : Way) (a : Attachment) (ts : List Attachment) (b t : Attachment) → IsWalk l w a ts b → walk_length l w a (ts ++ t ∷ []) ≡ walk_length l w a ts + step_length l (way_after w ts) b t
length_on l w a [] b t walk =
    let same : step_length l w a t ≡ step_length l w b t = ap (λ x. step_length l w x t) walk in
    omega (arith, same)
length_on l w a (s ∷ ss) b t walk =
    let more : walk_length l (other_way w) s (ss ++ t ∷ []) ≡ walk_length l (other_way w) s ss + step_length l (way_after (other_way w) ss) b t = length_on l (other_way w) s ss b t walk.1 in
    omega (arith, more)

entries_step : (l : Layout) (w : Way) (a : Attachment) (ts : List Attachment) (b t : Attachment) (n : ℕ) → IsWalk l w a ts b
    → entries_on l w a (ts ++ t ∷ []) n ≡ entries_on l w a ts n ++ entry_by (way_after w ts) b (n + walk_length l w a ts)
entries_step l w a [] b t n walk =
    let none : n + 0 ≡ n = omega arith in
    append-nil (entry_by w a n) ∙ ap₂ (entry_by w) walk (sym none)
entries_step l w a (s ∷ ss) b t n walk =
    let on : ℕ = n + step_length l w a s in
    let sum : on + walk_length l (other_way w) s ss ≡ n + (step_length l w a s + walk_length l (other_way w) s ss) = omega arith in
    ap (λ es. entry_by w a n ++ es) (entries_step l (other_way w) s ss b t on walk.1 ∙ ap (λ m. entries_on l (other_way w) s ss on ++ entry_by (way_after (other_way w) ss) b m) sum)
    ∙ sym (append_assoc (entry_by w a n) (entries_on l (other_way w) s ss on) (entry_by (way_after (other_way w) ss) b (n + (step_length l w a s + walk_length l (other_way w) s ss))))

-- a way goes on by a step
pub led_on : (l : Layout) (a : ℕ) (w : Way) (from : Led) (to : Stop) → IsLed l a w from → IsStop l to → IsStep l w from.stop.tap to.tap → IsLed l a (other_way w) (gone_on l w from to)
led_on l a w from to h stands step =
    let b : Attachment = from.stop.tap in
    let next : IsStep l (way_after way.Cable h.taps) b to.tap = subst (λ (v : Way). IsStep l v b to.tap) (sym h.next) step in
    let long : walk_length l way.Cable (Station a) (h.taps ++ to.tap ∷ []) ≡ from.length + step_length l w b to.tap =
    length_on l way.Cable (Station a) h.taps b to.tap h.leads ∙ ap₂ (λ n v. n + step_length l v b to.tap) h.long h.next in
    let from_start : 0 + walk_length l way.Cable (Station a) h.taps ≡ walk_length l way.Cable (Station a) h.taps = omega arith in
    let met : entries_on l way.Cable (Station a) (h.taps ++ to.tap ∷ []) 0 ≡ from.entries ++ entry_by w b from.length =
    entries_step l way.Cable (Station a) h.taps b to.tap 0 h.leads ∙ ap₂ (λ es n. es ++ entry_by (way_after way.Cable h.taps) b n) h.met (from_start ∙ h.long) ∙ ap (λ v. from.entries ++ entry_by v b from.length) h.next in
    record {
      stands = stands;
      taps = h.taps ++ to.tap ∷ [];
      leads = walk_on l way.Cable (Station a) h.taps b to.tap h.leads next;
      next = way_on way.Cable h.taps to.tap ∙ ap other_way h.next;
      long = long;
      met = met;
    }

-- a way begins where its station is
pub led_first : (l : Layout) (a : ℕ) (stop : Stop) (entries : List WayIn) → stop.tap ≡ Station a → IsStop l stop → entries ≡ [] → IsLed l a way.Cable (record { stop = stop; length = 0; entries = entries })
led_first l a stop entries is stands none = record { stands = stands; taps = []; leads = sym is; next = refl; long = refl; met = sym none }

-- one more way is found
pub found_more : (l : Layout) (a b : ℕ) (routes new : List (Option Led)) (led : Led) → AreLed l a routes → IsRoute l a b led → new ≡ set routes b (Some led) → AreLed l a new
found_more l a b routes new led before route is k d lt =
    let within : k < length routes = omega (arith, ap length is, length-set routes b (Some led)) in
    let at : get_or new k d ≡ cond (b == k) (Some led) (get_or routes k d) = ap (λ rs. get_or rs k d) is ∙ set_at_either routes b k (Some led) d within in
    elim (cases_Bool (b == k)) [
      | inl same ↦
          let here : get_or new k d ≡ Some led = at ∙ ap (λ t. cond t (Some led) (get_or routes k d)) same in
          subst (λ (o : Option Led). IfSome o (IsRoute l a k)) (sym here) (subst (λ (j : ℕ). IsRoute l a j led) (eqb-true b k same) route)
      | inr other ↦
          let here : get_or new k d ≡ get_or routes k d = at ∙ ap (λ t. cond t (Some led) (get_or routes k d)) other in
          subst (λ (o : Option Led). IfSome o (IsRoute l a k)) (sym here) (before k d within)
    ]
