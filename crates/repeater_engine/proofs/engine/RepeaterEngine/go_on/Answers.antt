use Rattle.std.proofs.Common.{◌≡◌, ℕ, ◌<◌, [], ◌∷◌, ◌++◌, length, set, get_or, sym, ap, ap₂, ◌∙◌, arith}
use Rattle.std.proofs.lemmas.List.{take-append-drop, take-set, drop-set}
use Rattle.manchester_line.specs.declared.Sym.{Sym}
use Rattle.manchester_line.specs.declared.Sym.TheVariants.{Idle}
use Rattle.net_parts.specs.declared.parcel.Parcel.{Parcel}
use Rattle.repeater_core.specs.Step.{decided_by}
use Rattle.net_parts.specs.RepeaterParts.{RepeaterState}
use Rattle.repeater_engine.specs.KeptRepeaters.{row_brought, with_piece, with_symbol}
use Rattle.repeater_engine.proofs.engine.RepeaterEngine.go_on.Goals as goal

set_is_piece : (k : ℕ) (s : Sym) (p : Parcel) → k < length p.symbols → with_symbol k s p ≡ with_piece k (s ∷ []) p
set_is_piece k s p h =
    let xs = p.symbols in
    ap (λ ss. let x : Parcel = record p { symbols = ss } in x)
    (sym (take-append-drop k (set xs k s)) ∙ ap₂ (λ ys zs. ys ++ zs) (take-set xs k s) (drop-set xs k s h))

pub returns-then-m-lt-FEWEST_AT_ONCE-clause-parcels : goal.returns-then-m-lt-FEWEST_AT_ONCE-clause-parcels
returns-then-m-lt-FEWEST_AT_ONCE-clause-parcels c = λ p d l.
    let old = get_or c.args.parcels.now p d in
    let in_it : p < length c.args.parcels.now = omega (arith, l, c.half_bit.auto.parcels) in
    let long : c.args.k < length old.symbols = omega (arith, c.requires.left, c.requires.long p d in_it) in
    c.half_bit.ensures.parcels p d l
    ∙ ap (λ (x : RepeaterState). with_symbol c.args.k (get_or (decided_by (row_brought c.args.k c.args.parcels.now) x.repeater) p Idle) old) c.ahead-m.ensures.state
    ∙ set_is_piece c.args.k (get_or (decided_by (row_brought c.args.k c.args.parcels.now) c.args.self.now.state.repeater) p Idle) old long
