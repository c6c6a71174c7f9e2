use Rattle.std.proofs.Common.{◌≡◌, ℕ, ◌+◌, ◌<◌, ◌≤◌, inl, inr, true, List, set, take, length, length-take-le, get_or, get_or-set_same, length-set, sym, subst, ap, ◌∙◌, arith, rules}
use Rattle.std.proofs.lemmas.List.{get_or-set_other, get_or-take, get_or_default, same_lists}
use Rattle.std.proofs.lemmas.Bool.{cases_lt}
use Rattle.manchester_line.specs.declared.Sym.{Sym}
use Rattle.manchester_line.specs.declared.Sym.TheVariants.{Idle}
use Rattle.manchester_line.specs.Line.{is_signal}
use Rattle.mac_transmit.specs.Sender.{symbol_of}
use Rattle.net_parts.specs.Machines.{span}
use Rattle.net_parts.proofs.RepeaterSteps.{length-span, get_or-span}
use Rattle.segment_engine.proofs.sendings.write_sending.Goals as goal

first_as : (f : ℕ → Sym) (xs : List Sym) (n : ℕ) → n ≤ length xs → ((i : ℕ) → i < n → get_or xs i Idle ≡ f i) → take n xs ≡ span f 0 n
first_as f xs n h all =
    let size = length-take-le n xs h in
    same_lists (take n xs) (span f 0 n) (size ∙ sym (length-span f 0 n)) (λ i d l.
    let in_it : i < n = omega (arith, l, size) in
    let place : i ≡ 0 + i = omega arith in
    get_or-take n xs i d in_it
    ∙ get_or_default xs i d Idle (omega (arith, in_it, h))
    ∙ all i in_it
    ∙ ap f place
    ∙ sym (get_or-span f 0 n i d in_it))

pub loop-j-preserved : goal.loop-j-preserved
loop-j-preserved c =
    let j = c.loop-j.j in
    let xs = c.loop-j.piece in
    let s = c.symbol_at-s.result in
    let inv = c.loop-j.invariant in
    let test = c.loop-j-test.true in
    let len = inv.len in
    let h : j < length xs = omega (arith, test, len) in
    let is : s ≡ symbol_of c.args.octets.now c.args.hit (c.args.p + j) = c.symbol_at-s.ensures.symbol in
    let signal : c.is_signal.result ≡ true = search rules in
    record {
      len = length-set xs j s ∙ inv.len;
      text = λ i l. elim (cases_lt i j) [
        | inl before ↦ get_or-set_other xs j i s Idle (λ e. omega (arith, e, before)) ∙ inv.text i before
        | inr now ↦
            let e : j ≡ i = omega (arith, l, now) in
            subst (λ z. get_or (set xs j s) z Idle ≡ symbol_of c.args.octets.now c.args.hit (c.args.p + z)) e (get_or-set_same xs j s Idle h ∙ is)
      ];
      signal = λ i l. elim (cases_lt i j) [
        | inl before ↦ inv.signal i before
        | inr now ↦
            let e : j ≡ i = omega (arith, l, now) in
            subst (λ z. is_signal (symbol_of c.args.octets.now c.args.hit (c.args.p + z)) ≡ true) e (ap is_signal (sym is) ∙ sym c.is_signal.ensures ∙ signal)
      ];
    }

pub returns-then-not-is_signal-clause-text : goal.returns-then-not-is_signal-clause-text
returns-then-not-is_signal-clause-text c =
    let inv = c.loop-j.invariant in
    let len = inv.len in
    let test = c.loop-j-test.true in
    first_as (λ i. symbol_of c.args.octets.now c.args.hit (c.args.p + i)) c.loop-j.piece c.loop-j.j (omega (arith, len, test)) inv.text

pub returns-clause-text : goal.returns-clause-text
returns-clause-text c =
    let inv = c.loop-j.invariant in
    let len = inv.len in
    let test = c.loop-j-test.false in
    first_as (λ i. symbol_of c.args.octets.now c.args.hit (c.args.p + i)) c.loop-j.piece (length c.loop-j.piece) (omega arith) (λ i l. inv.text i (omega (arith, l, len, test)))
