use Rattle.layout_file.proofs.TablesOfArrays.{stranger-keys}
use Rattle.layout_file.proofs.tree.has_stranger.Goals as goal

pub loop-key-init : goal.loop-key-init
loop-key-init c =
    rw (c.into_iter-key-iterator.ensures.into_iter_gives, c.keys-key-items.ensures.rest)
    (tt, tt, stranger-keys c.args.rules.now c.args.table.now.entries)
