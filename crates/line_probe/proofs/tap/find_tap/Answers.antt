use Rattle.std.proofs.Common.{◌≡◌, ℕ, List, arith, ap, sym, subst, ◌∙◌, get_or, length, inl, inr}
use Rattle.std.specs.Prelude.{slice_get}
use Rattle.layout.specs.declared.lines.RepeaterLine.{RepeaterLine}
use Rattle.layout.specs.declared.lines.StationLine.{StationLine}
use Rattle.line_probe.specs.Taps.{IsPortOf}
use Rattle.line_probe.proofs.TapWords.{none_at_all, none_so_far, station_names}
use Rattle.line_probe.proofs.tap.find_tap.Goals as goal

pub repeaters-preserved : goal.repeaters-preserved
repeaters-preserved c =
    none_so_far c.args.layout.now c.args.word.now c.repeaters.r c.index-repeaters-r.result c.repeaters.invariant
    (subst (λ (rs : List RepeaterLine). (port : ℕ) → IsPortOf (get_or rs c.repeaters.r c.index-repeaters-r.result) port c.args.word.now → ⊥) c.as_slice-repeaters.ensures
    (subst (λ (x : RepeaterLine). (port : ℕ) → IsPortOf x port c.args.word.now → ⊥) c.index-repeaters-r.is c.in_default-port_named.ensures.none))

pub returns-clause-none : goal.returns-clause-none
returns-clause-none c tap h =
    let all : length c.args.layout.now.repeaters ≡ length c.as_slice-repeaters.result.now = ap length (sym c.as_slice-repeaters.ensures) in
    elim h [
      | inl station ↦
          c.in_default.ensures.none tap.device
          (ap (λ (ss : List StationLine). slice_get (station_names ss) tap.device) c.as_slice-stations.ensures ∙ station.named)
      | inr port ↦ none_at_all c.args.layout.now c.args.word.now c.repeaters.r (omega (arith, all, c.repeaters-test.false)) c.repeaters.invariant tap port
    ]
