-- A repeater of a plan as one of its parts: where it stands, and its parcels.
use Rattle.std.proofs.Common.{◌≡◌, ℕ, ◌+◌, ◌-◌, ◌*◌, ◌<◌, ◌≤◌, min, true, false, not, cond, ltb, List, [], ◌∷◌, ◌++◌, map, length, get_or, refl, sym, ap, ap₂, ◌∙◌, arith, append-nil, mul-le-mul_right}
use Rattle.std.proofs.lemmas.Bool.Decides.{nat_tests}
use Rattle.std.proofs.lemmas.Nat.{div-add-mod'}
use Rattle.std.proofs.lemmas.List.{get_or-map}
use Rattle.layout.specs.declared.lines.RepeaterLine.{RepeaterLine}
use Rattle.repeater_core.specs.Step.{RepeaterDevice, new_state}
use Rattle.network.specs.Net.{new_repeater}
use Rattle.manchester_line.specs.declared.Sym.TheVariants.{Idle}
use Rattle.load_plan.specs.declared.plan.Plan.{Plan}
use Rattle.network.specs.Outputs.{half_bits}
use Rattle.network.specs.Times.{decided}
use Rattle.net_parts.specs.declared.parcel.Parcel.{Parcel}
use Rattle.net_parts.specs.Windows.{lookahead, windows, time, size}
use Rattle.net_parts.specs.Machines.{span}
use Rattle.net_parts.specs.RepeaterParts.{RepeaterState, edges_at}
use Rattle.net_parts.specs.Standing.{arrives, port_hears, repeater_at}
use Rattle.net_parts.specs.Parts.{OfRepeater, is_segment_part, parts, part_at, edges_of_part}
use Rattle.net_parts.specs.Parcels.{true_symbols, true_parcel, next_stamp, arrived, refilled}
use Rattle.net_parts.specs.OutputsOfParts.{rows_of_part, captures_of_part, rows_handed_out, captures_handed_out}
use Rattle.net_parts.proofs.WindowCuts.{span_alike}
use Rattle.net_parts.proofs.WindowTimes.{some_lead, begins_in_run}
use Rattle.net_parts.proofs.RowsHandedOut.{parts_hand_out}
use Rattle.repeater_engine.specs.KeptRepeaters.{parcel_after, parcels_after, turned_to_segment}
use Rattle.repeater_engine.specs.RepeaterNumbers.{not_segment, is_one_part, edges_at_part, part_stands}

-- times of windows
module _ (plan : Plan) where
  abbrev L : ℕ
  L = lookahead plan.layout

  abbrev H : ℕ
  H = half_bits plan

  pub ends : (w : ℕ) → w < windows plan → time plan w + size plan w ≡ time plan (w + 1)
  ends w below = let b = begins_in_run plan w below in omega (arith, b)

  -- a window's first half bit is not far behind the run
  pub within_run : (w : ℕ) → w ≤ windows plan → w * L ≤ H + L
  within_run w below =
      let whole = div-add-mod' (H + L - 1) L in
      let more : w * L ≤ windows plan * L = mul-le-mul_right L below in
      omega (arith, whole, more)

map_alike : (f g : ℕ → Parcel) (es : List ℕ) → ((e : ℕ) → f e ≡ g e) → map f es ≡ map g es
map_alike f g [] h = refl
map_alike f g (e ∷ es) h = ap₂ ◌∷◌ (h e) (map_alike f g es h)

map_twice : (f : Parcel → Parcel) (g : ℕ → Parcel) (es : List ℕ) → map f (map g es) ≡ map (λ e. f (g e)) es
map_twice f g [] = refl
map_twice f g (e ∷ es) = ap (λ ps. f (g e) ∷ ps) (map_twice f g es)

module _ (plan : Plan) (u i : ℕ) (is : u ≡ length plan.layout.segments + i) (some : i < length plan.layout.repeaters) where
  kind : is_segment_part plan u ≡ false
  kind = not_segment plan u i is

  is_part : u < parts plan
  is_part = is_one_part plan u i is some

  edges_are : edges_of_part plan u ≡ edges_at plan.layout i
  edges_are = edges_at_part plan u i is

  part_is : (w : ℕ) → OfRepeater (repeater_at plan i (time plan w)) ≡ part_at plan u w
  part_is w = part_stands plan u i is w (repeater_at plan i (time plan w)) refl

  module _ (w t n : ℕ) (below : w < windows plan) (first : t ≡ time plan w) (many : n ≡ size plan w) where
    brings_heard : (e : ℕ) → true_parcel plan true w e ≡ parcel_after plan w t n 0 e
    unfolding true_symbols
    brings_heard e =
        let b = begins_in_run plan w below in
        let from : w * L plan ≡ t + 0 = omega (arith, b, first) in
        let count : size plan w ≡ n - 0 = omega (arith, many) in
        ap₂ (λ a m. let p : Parcel = record { edge = e; window = w; to_repeater = true; symbols = span (port_hears plan e) a m; spoiled = false } in p) from count

    -- its parcels have what its ports hear
    pub arrived_is : arrived plan u w ≡ parcels_after plan i w t n 0
    arrived_is =
        ap₂ (λ b es. map (true_parcel plan (not b) w) es) kind edges_are
        ∙ map_alike (true_parcel plan true w) (parcel_after plan w t n 0) (edges_at plan.layout i) brings_heard

    later : (e : ℕ) → span (decided plan e) t n ≡ true_symbols plan false e (w + 1)
    unfolding true_symbols
    later e =
        let b = begins_in_run plan w below in
        let s = some_lead plan in
        let next : (w + 1) * L plan ≡ w * L plan + L plan = omega arith in
        let from : t ≡ w * L plan = omega (arith, b, first) in
        let count : n ≡ min (L plan) (H plan + L plan - (w + 1) * L plan) = omega (arith, next, many, b) in
        ap₂ (span (decided plan e)) from count
        ∙ span_alike (decided plan e) (arrives plan (L plan) e) (w * L plan) ((w + 1) * L plan) (min (L plan) (H plan + L plan - (w + 1) * L plan)) (λ k h.
        let past : ltb ((w + 1) * L plan + k) (L plan) ≡ false = ge_ltb ((w + 1) * L plan + k) (L plan) (omega (arith, next)) in
        let back : (w + 1) * L plan + k - L plan ≡ w * L plan + k = omega (arith, next) in
        ap (decided plan e) (sym back) ∙ sym (ap (λ c. cond c Idle (decided plan e ((w + 1) * L plan + k - L plan))) past))
      where
        ge_ltb : (a b : ℕ) → b ≤ a → ltb a b ≡ false
        ge_ltb a b h = grind (arith, nat_tests)

    takes_decided : (e : ℕ) → turned_to_segment (w + 1) (parcel_after plan w t n n e) ≡ true_parcel plan false (w + 1) e
    takes_decided e =
        let none : n - n ≡ 0 = omega arith in
        ap (λ ss. let p : Parcel = record { edge = e; window = w + 1; to_repeater = false; symbols = ss; spoiled = false } in p) (
        ap (λ m. span (decided plan e) t n ++ span (port_hears plan e) (t + n) m) none
        ∙ append-nil (span (decided plan e) t n)
        ∙ later e)

    -- turned_to_segment, they have what the network decides for its ports
    pub refilled_is : map (turned_to_segment (w + 1)) (parcels_after plan i w t n n) ≡ refilled plan u w
    refilled_is =
        let es = edges_at plan.layout i in
        map_twice (turned_to_segment (w + 1)) (parcel_after plan w t n n) es
        ∙ map_alike (λ e. turned_to_segment (w + 1) (parcel_after plan w t n n e)) (true_parcel plan false (w + 1)) es takes_decided
        ∙ sym (ap₂ (λ b es. map (true_parcel plan b (next_stamp b w)) es) kind edges_are)

  -- its rows at the end are those of the run
  pub rows_out : (repeater_at plan i (time plan (windows plan))).rows ≡ rows_of_part plan u
  rows_out = ap (rows_handed_out plan u) (part_is (windows plan)) ∙ (parts_hand_out plan u is_part).0

  pub captures_out : captures_of_part plan u ≡ []
  captures_out = sym (parts_hand_out plan u is_part).1 ∙ sym (ap captures_handed_out (part_is (windows plan)))

-- a new repeater stands before half bit 0
pub at_first : (plan : Plan) (i : ℕ) (r : RepeaterLine) → i < length plan.layout.repeaters → r ≡ get_or plan.layout.repeaters i r →
    ◌≡◌ {A = RepeaterState} (record { t = 0; repeater = new_state (length r.ports) r.delay; rows = [] }) (repeater_at plan i (time plan 0))
at_first plan i r some is =
    let zero_is : 0 ≡ time plan 0 = omega arith in
    ap (λ x. let s : RepeaterState = record { t = 0; repeater = new_repeater x; rows = [] } in s) is
    ∙ ap (λ (x : RepeaterDevice). let s : RepeaterState = record { t = 0; repeater = x; rows = [] } in s) (sym (get_or-map new_repeater plan.layout.repeaters i r (new_state 0 0) some))
    ∙ ap (repeater_at plan i) zero_is
