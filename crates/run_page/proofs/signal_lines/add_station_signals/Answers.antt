use Rattle.std.proofs.Common.{[], ◌∙◌}
use Rattle.std.proofs.lemmas.List.{get_or_read}
use Rattle.layout.specs.declared.ways.Attachment.TheVariants.{Station}
use Rattle.run_page.proofs.TapLines.{tap_added}
use Rattle.run_page.proofs.signal_lines.add_station_signals.Goals as goal

pub lists-preserved : goal.lists-preserved
lists-preserved c =
    tap_added c.args.layout.now Station c.args.lists.now c.lists.k c.as_slice.result.now _ c.lists.text c.add_tap_signals.new.text c.lists-test.true
    (c.as_slice.ensures ∙ get_or_read c.args.lists.now c.lists.k c.index-lists-k.result c.lists-test.true c.index-lists-k.is [])
    c.in_ok-add_tap_signals.ensures c.lists.invariant
