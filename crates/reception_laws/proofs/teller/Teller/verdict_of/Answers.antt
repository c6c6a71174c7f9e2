use Rattle.std.proofs.Common.{◌≡◌, ◌+◌, ◌∙◌, List, take, length, ap, sym, subst, arith, rules}
use Rattle.std.proofs.lemmas.List.{with_items_is}
use Rattle.std.specs.Vec.{with_items}
use Rattle.manchester_line.specs.declared.Sym.{Sym}
use Rattle.reception_laws.specs.LateReceptions.{IsVerdictFor}
use Rattle.reception_laws.proofs.teller.Teller.verdict_of.Goals as goal

pub invariant_of-self-clause-room : goal.invariant_of-self-clause-room
invariant_of-self-clause-room c =
    ap length (with_items_is c.args.self.now.text c.put_aside.new.text (search rules)) ∙ c.put_aside.ensures.len ∙ ap length c.deref_mut.ensures.value ∙ c.args.self.now.room

pub invariant_of-self-clause-told : goal.invariant_of-self-clause-told
invariant_of-self-clause-told c =
    let text = c.args.text.now in
    let P : List Sym → Type 0 = λ xs. IsVerdictFor c.args.lose c.args.most xs c.read-self.result in
    let from_first : length text ≡ 0 + length text = omega arith in
    let kept : take (length text) (with_items c.args.self.now.text c.put_aside.new.text).items ≡ text =
    ap (take (length text)) (with_items_is c.args.self.now.text c.put_aside.new.text (search rules)) ∙ ap (λ n. take n c.put_aside.new.text) from_first ∙ c.put_aside.ensures.text in
    subst P (sym kept) c.read-self.ensures
