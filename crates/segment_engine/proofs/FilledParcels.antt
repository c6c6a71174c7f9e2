-- The parcels of a window, with what the ports hear by lines in the place of what came in for them.
use Rattle.std.proofs.Common.{◌≡◌, ℕ, suc, ◌+◌, ◌-◌, ◌*◌, ◌<◌, ◌≤◌, false, All, List, [], ◌∷◌, ◌++◌, map, take, drop, length, length-append, get_or, sym, subst, ap, ap₂, ◌∙◌, arith, append_assoc}
use Rattle.std.proofs.lemmas.List.{get_or-map, length-map, same_lists, take-append-le, take_all}
use Rattle.manchester_line.specs.declared.Sym.{Sym}
use Rattle.load_plan.specs.declared.plan.Plan.{Plan}
use Rattle.net_parts.specs.Windows.{lookahead}
use Rattle.net_parts.specs.Machines.{span}
use Rattle.net_parts.specs.SegmentParts.{Wiring, wiring}
use Rattle.net_parts.specs.Standing.{arrives, port_hears}
use Rattle.net_parts.specs.declared.parcel.Parcel.{Parcel}
use Rattle.net_parts.proofs.RepeaterSteps.{length-span}
use Rattle.tap_lines.specs.TapLines.{TapLine, no_line, heard_by_lines, heard_for}
use Rattle.tap_lines.proofs.LinesAhead.{span_alike}
use Rattle.tap_lines.proofs.Spans.{span_two, drop-span}
use Rattle.segment_engine.specs.KnownLines.{KnowLines}
use Rattle.segment_engine.specs.PartStates.{half_filled}
use Rattle.segment_engine.specs.SteadyPieces.{with_piece_at}
use Rattle.segment_engine.proofs.LinesApart.{ports_from}

drop_two : {X : Type 0} (xs ys : List X) (m : ℕ) → drop (length xs + m) (xs ++ ys) ≡ drop m ys
drop_two [] ys m = let e : 0 + m ≡ m = omega arith in ap (λ k. drop k ys) e
drop_two (x ∷ xs) ys m = (let e : suc (length xs) + m ≡ suc (length xs + m) = omega arith in ap (λ k. drop k (x ∷ (xs ++ ys))) e) ∙ drop_two xs ys m

-- the symbols of a parcel with a piece more
filled_piece : (a b : ℕ → Sym) (u k m L : ℕ) (xs : List Sym) → k + m ≤ L → xs ≡ span a (u + k) m →
    let before = span a u k ++ span b (u + k) (L - k) in
    take k before ++ (xs ++ drop (k + length xs) before) ≡ span a u (k + m) ++ span b (u + (k + m)) (L - (k + m))
filled_piece a b u k m L xs fits is =
    let first = span a u k in
    let size = length-span a u k in
    let many : length xs ≡ m = ap length is ∙ length-span a (u + k) m in
    let second = span b (u + k) (L - k) in
    let skip : k + length xs ≡ length first + m = omega (arith, size, many) in
    let next : u + k + m ≡ u + (k + m) = omega arith in
    let left : L - k - m ≡ L - (k + m) = omega arith in
    let taken : take k (first ++ second) ≡ first = take-append-le k first second (omega (arith, size)) ∙ take_all k first (omega (arith, size)) in
    let dropped : drop (k + length xs) (first ++ second) ≡ span b (u + (k + m)) (L - (k + m)) =
    ap (λ i. drop i (first ++ second)) skip
    ∙ drop_two first second m
    ∙ drop-span b (u + k) (L - k) m (omega (arith, fits))
    ∙ ap₂ (span b) next left in
    ap₂ (λ x y. x ++ (xs ++ y)) taken dropped
    ∙ ap (λ x. first ++ (x ++ span b (u + (k + m)) (L - (k + m)))) is
    ∙ sym (append_assoc first (span a (u + k) m) (span b (u + (k + m)) (L - (k + m))))
    ∙ ap (λ x. x ++ span b (u + (k + m)) (L - (k + m))) (sym (span_two a u k m))

-- lines that are right below half bit `end`, and keep what reaches any tap from half bit t on
module _ (plan : Plan) (s t m end front : ℕ) (ls : List TapLine) (know : KnowLines plan (wiring plan.layout s) (lookahead plan.layout) end front ls)
    (upto : t + m ≡ end) (ahead : end ≤ front)
    (begun : (r : ℕ) → r < length ls → (get_or ls r no_line).base ≤ t - (get_or ls r no_line).backlog) where
  abbrev w : Wiring
  w = wiring plan.layout s

  abbrev L : ℕ
  L = lookahead plan.layout

  abbrev n : ℕ
  n = length w.stations

  pub parcels_after : (wd k : ℕ) (ps ps' : List Parcel) → t ≡ wd * L + k → k + m ≤ L →
      ps ≡ map (half_filled plan L wd k) w.edges → length ps' ≡ length ps →
      ((p : ℕ) (d : Parcel) → p < length ps' → get_or ps' p d ≡ with_piece_at k (heard_for L t m ls (n + p)) (get_or ps p d)) →
      ps' ≡ map (half_filled plan L wd (k + m)) w.edges
  parcels_after wd k ps ps' at fits were len filled =
      let z = length-map w.edges (half_filled plan L wd k) in
      let z' = length-map w.edges (half_filled plan L wd (k + m)) in
      let size : length ps ≡ length w.edges = ap length were ∙ z in
      same_lists ps' (map (half_filled plan L wd (k + m)) w.edges) (len ∙ size ∙ sym z') (λ p d l.
      let in_it : p < length w.edges = omega (arith, l, len, size) in
      let e = get_or w.edges p 0 in
      let xs = heard_for L t m ls (n + p) in
      let one : get_or ps p d ≡ half_filled plan L wd k e = ap (λ xs. get_or xs p d) were ∙ get_or-map (half_filled plan L wd k) w.edges p 0 d in_it in
      let by_lines : xs ≡ span (port_hears plan e) t m = span_alike (λ a. heard_by_lines L a ls (n + p)) (port_hears plan e) t t m (λ i c.
      sym (ports_from plan s end front ls know t (omega (arith, upto)) begun p (t + i) in_it (omega arith) (omega (arith, c, upto)) (omega (arith, c, upto, ahead)))) in
      let heard_so : xs ≡ span (port_hears plan e) (wd * L + k) m = by_lines ∙ ap (λ u. span (port_hears plan e) u m) at in
      let symbols = filled_piece (port_hears plan e) (arrives plan L e) (wd * L) k m L xs fits heard_so in
      filled p d l
      ∙ ap (with_piece_at k xs) one
      ∙ ap (λ ys. let q : Parcel = record { edge = e; window = wd; to_repeater = false; symbols = ys; spoiled = false } in q) symbols
      ∙ sym (get_or-map (half_filled plan L wd (k + m)) w.edges p 0 d in_it))

-- all parcels have a symbol for each of these half bits
pub parcels_long_for : (plan : Plan) (L w k m : ℕ) (es : List ℕ) (ps : List Parcel) → k + m ≤ L → ps ≡ map (half_filled plan L w k) es → All (λ p. k + m ≤ length p.symbols) ps
parcels_long_for plan L w k m es ps h is = λ i d l.
    let n = length-map es (half_filled plan L w k) in
    let size : length ps ≡ length es = ap length is ∙ n in
    let e = get_or es i 0 in
    let one : get_or ps i d ≡ half_filled plan L w k e = ap (λ xs. get_or xs i d) is ∙ get_or-map (half_filled plan L w k) es i 0 d (omega (arith, l, size)) in
    let a = span (port_hears plan e) (w * L) k in
    let b = span (arrives plan L e) (w * L + k) (L - k) in
    let x = length-span (port_hears plan e) (w * L) k in
    let y = length-span (arrives plan L e) (w * L + k) (L - k) in
    let sum = length-append a b in
    subst (λ (p : Parcel). k + m ≤ length p.symbols) (sym one) (omega (arith, x, y, sum, h))
