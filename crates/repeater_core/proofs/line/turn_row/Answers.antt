use Rattle.std.proofs.Common.{◌≡◌, ℕ, ◌+◌, ◌<◌, List, length, take, drop, set, get_or, sym, ap, ◌∙◌, arith}
use Rattle.std.proofs.lemmas.Grind.{common_steps}
use Rattle.manchester_line.specs.declared.Sym.{Sym}
use Rattle.manchester_line.specs.declared.Sym.TheVariants.{Idle}
use Rattle.repeater_core.proofs.PutRow.{put_one, leave_rest}
use Rattle.repeater_core.proofs.line.turn_row.Goals as goal

same_at : (i : ℕ) (old new : List Sym) → drop i new ≡ drop i old → get_or new i Idle ≡ get_or old i Idle
same_at i old new e =
    let a : get_or (drop i new) 0 Idle ≡ get_or new i Idle = grind (arith, common_steps) in
    let b : get_or (drop i old) 0 Idle ≡ get_or old i Idle = grind (arith, common_steps) in
    sym a ∙ ap (λ xs. get_or xs 0 Idle) e ∙ b

take_one : (h k : ℕ) (old new es : List Sym) → h + k < length old → k < length es → drop (h + k) new ≡ drop (h + k) old → take k es ≡ take k (drop h old)
    → take (k + 1) (set es k (get_or new (h + k) Idle)) ≡ take (k + 1) (drop h old)
take_one h k old new es l m e f =
    let at = same_at (h + k) old new e in grind (arith, common_steps)

pub loop-k-preserved : goal.loop-k-preserved
loop-k-preserved c =
    let h = c.args.head in
    let k = c.loop-k.k in
    let old = c.args.slots.now in
    let new = c.loop-k.slots in
    let ds = c.args.decided.now in
    let es = c.loop-k.emits in
    let i = c.loop-k.invariant in
    record {
      before = put_one h k old new ds (omega arith) (omega arith) i.before;
      behind = leave_rest h k old new (get_or ds k Idle) i.behind;
      out = take_one h k old new es (omega arith) (omega arith) i.behind i.out;
    }
