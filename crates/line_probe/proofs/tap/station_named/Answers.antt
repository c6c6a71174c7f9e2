use Rattle.std.proofs.Common.{◌≡◌, Some, arith, sym, ◌∙◌, inl, inr, length}
use Rattle.std.specs.Prelude.{slice_get}
use borrow.Author.Count.{below_more}
use Rattle.std.proofs.lemmas.Bool.{cases_lt}
use Rattle.line_probe.proofs.TapWords.{name_at, other_name_at, past_names, station_names}
use Rattle.line_probe.proofs.tap.station_named.Goals as goal

pub returns-then-eq-clause-some : goal.returns-then-eq-clause-some
returns-then-eq-clause-some c =
    name_at c.args.stations.now c.stations.k c.index-stations-k.result c.as_bytes.result.now c.args.word.now c.stations-test.true
    (c.as_bytes.ensures.value ∙ c.as_str.ensures) (sym c.eq.ensures ∙ c.if-eq.true)

pub stations-preserved : goal.stations-preserved
stations-preserved c =
    below_more (λ j. slice_get (station_names c.args.stations.now) j ≡ Some c.args.word.now → ⊥) c.stations.k c.stations.invariant
    (other_name_at c.args.stations.now c.stations.k c.index-stations-k.result c.as_bytes.result.now c.args.word.now c.stations-test.true
    (c.as_bytes.ensures.value ∙ c.as_str.ensures) (sym c.eq.ensures ∙ c.if-eq.false))

pub returns-clause-none : goal.returns-clause-none
returns-clause-none c k h =
    elim (cases_lt k (length c.args.stations.now)) [
      | inl within ↦ c.stations.invariant k (omega (arith, within, c.stations-test.false)) h
      | inr past ↦ past_names c.args.stations.now k c.args.word.now past h
    ]
