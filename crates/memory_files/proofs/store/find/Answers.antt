use Rattle.std.proofs.Common.{◌≡◌, true}
use Rattle.std.specs.Prelude.{bytes_eq}
use Rattle.memory_files.proofs.FoundFiles.{placed}
use Rattle.memory_files.proofs.store.find.Goals as goal

pub returns-then-eq : goal.returns-then-eq
returns-then-eq c =
    let same : bytes_eq c.index-files-i.result.name c.args.name.now ≡ true = rw (← c.as_str.ensures, ← c.eq.ensures) c.if-eq.true in
    placed c.args.name.now c.args.files.now c.loop-i.i c.index-files-i.result c.loop-i-test.true
    (rw (← c.index-files-i.is) same)
    c.loop-i.invariant.0 c.loop-i.invariant.1
