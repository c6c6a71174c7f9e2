use Rattle.std.proofs.Common.{◌≡◌, ℕ, ◌+◌, ◌-◌, List, map, take, drop, get_or, refl, sym, subst, ap, ◌∙◌, arith}
use Rattle.manchester_line.specs.declared.Sym.{Sym}
use Rattle.manchester_line.specs.declared.Sym.TheVariants.{Idle}
use Rattle.repeater_core.specs.declared.modes.Mode.{Mode}
use Rattle.repeater_core.specs.declared.modes.Mode.TheVariants.{Repeat}
use Rattle.repeater_core.specs.declared.modes.Mode.TheVariants as mode
use Rattle.repeater_core.specs.Classes.{IsSource}
use Rattle.net_parts.specs.declared.parcel.Parcel.{Parcel}
use Rattle.repeater_engine.specs.LeapedHalfBits.{rows_brought}
use Rattle.repeater_engine.proofs.ClassesOfRows.{column_of, column_past}
use Rattle.repeater_engine.proofs.parcels.repeated.Goals.{in-Repeat+else-n-parcels, in_default}
use Rattle.repeater_engine.proofs.parcels.repeated.Goals as goal

pub returns-then-n-parcels-clause-source : goal.returns-then-n-parcels-clause-source
returns-then-n-parcels-clause-source c =
    let parcel = c.index-parcels-n.result in
    let k = c.args.k in
    let m = c.args.m in
    let n = c.in-Repeat.n in
    let rows = rows_brought k m c.args.parcels.now in
    let piece = take (k + m - k) (drop k c.as_slice.result.now) in
    let here = c.requires.long n parcel c.if-n-parcels.true in
    let whole : k + m - k ≡ m = omega arith in
    let same = c.index-parcels-n.is in
    let at : take m (drop k (get_or c.args.parcels.now n parcel).symbols) ≡ piece =
    ap (λ (x : Parcel). take m (drop k x.symbols)) (sym same) ∙ ap (λ xs. take m (drop k xs)) (sym c.as_slice.ensures) ∙ ap (λ j. take j (drop k c.as_slice.result.now)) (sym whole) in
    let all : map (λ row. get_or row n Idle) rows ≡ piece = column_of c.args.parcels.now n k m parcel c.if-n-parcels.true here ∙ at in
    subst (λ (x : Mode). IsSource x piece rows) (sym c.in-Repeat.is) all

nothing_repeated : (m : Mode) (text : List Sym) (rows : List (List Sym)) → ((n i : ℕ) → m ≡ Repeat n i → map (λ row. get_or row n Idle) rows ≡ text) → IsSource m text rows
nothing_repeated mode.Idle text rows h = tt
nothing_repeated (mode.Repeat n i) text rows h = h n i refl
nothing_repeated (mode.Extend n i j) text rows h = tt
nothing_repeated (mode.RxClash n i) text rows h = tt
nothing_repeated (mode.TxClash i) text rows h = tt
nothing_repeated (mode.OnePort n i) text rows h = tt

pub returns-clause-source : goal.returns-clause-source
returns-clause-source c =
    let k = c.args.k in
    let m = c.args.m in
    let parcels = c.args.parcels.now in
    nothing_repeated c.args.mode c.idle_piece.result.now (rows_brought k m parcels) (λ n i e. elim c.match-mode.branch [
      | in-Repeat+else-n-parcels w ↦
          let port : w.in-Repeat.n ≡ n = cc (w.in-Repeat.is, e) in
          column_past parcels n k m (omega (arith, w.if-n-parcels.false, port)) ∙ sym c.idle_piece.ensures
      | in_default w ↦ absurd (w.in_default.not-Repeat n i e)
    ])
