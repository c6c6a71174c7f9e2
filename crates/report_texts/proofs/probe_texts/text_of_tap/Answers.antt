use Rattle.std.proofs.Common.{get_or, ap, ◌∙◌, arith}
use Rattle.line_probe.specs.Heard.{heard_from}
use Rattle.line_probe.specs.RunTexts.{text_of_runs}
use Rattle.line_probe.specs.declared.tap.Tap.{Tap}
use Rattle.report_texts.specs.HeardTexts.{text_of_bursts}
use Rattle.report_texts.proofs.HeardLines.{heard_long, text_joined}
use Rattle.report_texts.proofs.probe_texts.text_of_tap.Goals as goal

pub bursts-requires : goal.bursts-requires
bursts-requires c =
    let h = c.requires.heard in
    let none : Tap = record { device = 0; port = 0 } in
    record {
      from = c.args.from;
      symbols = heard_from h.plan (get_or h.all c.args.tap none) c.args.from h.n;
      runs_of = c.in_ok-runs.ensures h.plan h.all h.n none h.are h.many;
      within = omega (arith, heard_long h.plan (get_or h.all c.args.tap none) c.args.from h.n, h.within);
    }

pub returns : goal.returns
returns c plan all n d is many =
    let right = c.in_ok-runs.ensures plan all n d is many in
    let symbols = heard_from plan (get_or all c.args.tap d) c.args.from n in
    record {
      runs = c.in_ok-runs.runs;
      right = right;
      is = text_joined c.new-text.result c.add_tap.new.text c.add_runs.new.text c.add_bursts.new.text _ (text_of_runs c.as_slice.result.now) (text_of_bursts c.as_slice-2.result.now) _ _ c.new-text.ensures c.in_ok-add_tap.ensures c.in_ok-add_runs.ensures c.in_ok-add_bursts.ensures
          (ap text_of_runs c.as_slice.ensures) (ap text_of_bursts (c.as_slice-2.ensures ∙ c.in_ok-bursts.ensures.exact c.args.from symbols right));
    }
