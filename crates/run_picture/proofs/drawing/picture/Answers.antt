use Rattle.std.proofs.Common.{length, sym, ap, ◌∙◌}
use Rattle.run_picture.specs.Lanes.{page_of}
use Rattle.run_picture.specs.Sizes.{first_top}
use Rattle.run_picture.specs.declared.lanes.Page.{Page}
use Rattle.run_picture.proofs.BandsSoFar.{length-bands_from}
use Rattle.run_picture.proofs.WholeTexts.{whole_text}
use Rattle.run_picture.proofs.drawing.picture.Goals as goal

pub add_front-requires-clause-bands : goal.add_front-requires-clause-bands
add_front-requires-clause-bands c =
    sym (length-bands_from c.args.layout.now first_top 0 c.args.layout.now.segments)
    ∙ sym (ap (λ (page : Page). length page.bands) c.in_ok-page.ensures) ∙ sym (ap length c.as_slice-bands.ensures)

pub returns : goal.returns
returns c =
    record {
      text = whole_text (page_of c.args.layout.now) _ _ (record { from = c.args.from; to = c.args.to }) c.args.layout.now c.args.lines.now _ _ _ _ _
          c.in_ok-page.ensures c.as_slice-bands.ensures c.as_slice-rows.ensures c.new-text.ensures c.in_ok-add_front.ensures c.in_ok-add_marks.ensures c.in_ok-extend.ensures.ok;
    }
