use Rattle.std.proofs.Common.{◌+◌, length, get_or, ap, ◌∙◌, subst, sym, arith}
use Rattle.std.proofs.lemmas.Result.{on_ok_weaker}
use Rattle.load_plan.proofs.PlansAreSound.{sound_of_plan}
use Rattle.frame_table.specs.Histories.{history}
use Rattle.frame_table.specs.Led.{AreLed}
use Rattle.frame_table.proofs.OneTable.{one_path}
use Rattle.frame_table.proofs.table.add_station.Goals as goal

pub routes_from-requires-clause-sound : goal.routes_from-requires-clause-sound
routes_from-requires-clause-sound c = sound_of_plan c.args.plan.now

pub returns : goal.returns
returns c =
    let plan = c.args.plan.now in
    let same = c.as_slice.ensures.value in
    on_ok_weaker c.add_frames.result
    (λ made lines paths s q told are happened s_is q_is.
    made lines paths s q
    (record {
      log = told;
      one = one_path plan;
      leads = are;
      led = subst (AreLed plan.layout c.args.a) (sym c.as_slice-2.ensures.value) c.in_ok-routes.ensures.led;
      count = ap length c.as_slice-2.ensures.value ∙ c.in_ok-routes.ensures.count;
      station = c.requires.station;
    })
    s_is q_is
    (λ k d low.
    ap (λ hs. get_or hs k d) same ∙ c.in_ok-histories.ensures.each k d (omega (arith, low, ap length same, c.in_ok-histories.ensures.count)) ∙ ap (history (k + 1)) happened))
    c.add_frames.ensures
