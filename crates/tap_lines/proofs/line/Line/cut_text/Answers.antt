use Rattle.std.proofs.Common.{◌≡◌, ℕ, ◌<◌, ◌≤◌, ◌+◌, ◌-◌, ◌++◌, min, get_or, length, length-take-le, take, replicate, subst, sym, ap, ◌∙◌, arith, rules}
use Rattle.std.proofs.lemmas.List.{append-nil, get_or-take}
use Rattle.manchester_line.specs.declared.Sym.TheVariants.{Idle}
use Rattle.manchester_line.specs.Line.{is_signal}
use Rattle.tap_lines.specs.Signals.{EndsInSignals}
use Rattle.tap_lines.specs.TapLines.{TapLine, line_cut}
use Rattle.tap_lines.proofs.EndsOfSignals.{ends_cut, ends_in_one, written_is, idle_rest, take_take, text_cut}
use Rattle.tap_lines.proofs.line.Line.cut_text.Goals as goal

pub overflow_sub-lost : goal.overflow_sub-lost
overflow_sub-lost c =
    let x = c.self.inside in
    let within : x.written + x.quiet ≤ length x.buffer.items = search rules in
    let ends : EndsInSignals x.loud (take x.written x.buffer.items) = search rules in
    let written = written_is x.buffer.items c.args.self.now.symbols x.written x.quiet x.loud within ends (ap (λ (l : TapLine). l.symbols) c.self.view_is) in
    let less : c.args.kept < x.written = let few = c.requires in omega (arith, few, written) in
    omega (arith, less)

pub invariant_of-self : goal.invariant_of-self
invariant_of-self c =
    let x = c.self.inside in
    let within : x.written + x.quiet ≤ length x.buffer.items = search rules in
    let ends : EndsInSignals x.loud (take x.written x.buffer.items) = search rules in
    let written = written_is x.buffer.items c.args.self.now.symbols x.written x.quiet x.loud within ends (ap (λ (l : TapLine). l.symbols) c.self.view_is) in
    let less : c.args.kept < x.written = let few = c.requires in omega (arith, few, written) in
    let loud = c.if-lost-self.true in
    (omega (arith, less, within), ends_cut x.buffer.items x.written c.args.kept x.loud (omega (arith, within)) (omega (arith, less)) loud ends)

pub slice_bounds-end_of_signals-end : goal.slice_bounds-end_of_signals-end
slice_bounds-end_of_signals-end c =
    let x = c.self.inside in
    let within : x.written + x.quiet ≤ length x.buffer.items = search rules in
    let ends : EndsInSignals x.loud (take x.written x.buffer.items) = search rules in
    let written = written_is x.buffer.items c.args.self.now.symbols x.written x.quiet x.loud within ends (ap (λ (l : TapLine). l.symbols) c.self.view_is) in
    let less : c.args.kept < x.written = let few = c.requires in omega (arith, few, written) in
    let len = c.deref.ensures.len in
    sym (length-take-le c.args.kept c.deref.result.now (omega (arith, less, within, len)))

pub invariant_of-self-else-lost-self : goal.invariant_of-self-else-lost-self
invariant_of-self-else-lost-self c =
    let x = c.self.inside in
    let k = c.args.kept in
    let e = c.end_of_signals-end.result in
    let within : x.written + x.quiet ≤ length x.buffer.items = search rules in
    let ends : EndsInSignals x.loud (take x.written x.buffer.items) = search rules in
    let written = written_is x.buffer.items c.args.self.now.symbols x.written x.quiet x.loud within ends (ap (λ (l : TapLine). l.symbols) c.self.view_is) in
    let less : c.args.kept < x.written = let few = c.requires in omega (arith, few, written) in
    let value : c.deref.result.now ≡ x.buffer.items = c.deref.ensures.value in
    let size : length (take k c.deref.result.now) ≡ k = ap (λ ys. length (take k ys)) value ∙ length-take-le k x.buffer.items (omega (arith, less, within)) in
    let few : e ≤ k = let w = c.end_of_signals-end.ensures.within in omega (arith, w, size) in
    let one : c.min-self-inside.result ≡ min e 1 = c.min-self-inside.ensures in (
      omega (arith, few, less, within),
      subst (λ n. EndsInSignals n (take e x.buffer.items)) (sym one) (ends_in_one x.buffer.items e (omega (arith, few, less, within)) (λ some.
          ap is_signal (sym (get_or-take k x.buffer.items (e - 1) Idle (omega (arith, few, some))) ∙ ap (λ ys. get_or (take k ys) (e - 1) Idle) (sym value))
          ∙ c.end_of_signals-end.ensures.signal some)),
    )

pub returns-then-lost-self : goal.returns-then-lost-self
returns-then-lost-self c =
    let x = c.self.inside in
    let k = c.args.kept in
    let within : x.written + x.quiet ≤ length x.buffer.items = search rules in
    let ends : EndsInSignals x.loud (take x.written x.buffer.items) = search rules in
    let written = written_is x.buffer.items c.args.self.now.symbols x.written x.quiet x.loud within ends (ap (λ (l : TapLine). l.symbols) c.self.view_is) in
    let less : k < x.written = let few = c.requires in omega (arith, few, written) in
    text_cut x.at x.delay x.backlog x.base x.buffer.items x.written x.quiet k k 0 within less (omega arith) (append-nil (take k x.buffer.items))
    ∙ ap (λ (l : TapLine). line_cut (l.base + k) l) c.self.view_is

pub returns-else-lost-self : goal.returns-else-lost-self
returns-else-lost-self c =
    let x = c.self.inside in
    let k = c.args.kept in
    let e = c.end_of_signals-end.result in
    let items = x.buffer.items in
    let within : x.written + x.quiet ≤ length items = search rules in
    let ends : EndsInSignals x.loud (take x.written items) = search rules in
    let written = written_is items c.args.self.now.symbols x.written x.quiet x.loud within ends (ap (λ (l : TapLine). l.symbols) c.self.view_is) in
    let less : k < x.written = let few = c.requires in omega (arith, few, written) in
    let value : c.deref.result.now ≡ items = c.deref.ensures.value in
    let size : length (take k items) ≡ k = length-take-le k items (omega (arith, less, within)) in
    let few : e ≤ k = let w = c.end_of_signals-end.ensures.within in let s = ap (λ ys. length (take k ys)) value in omega (arith, w, s, size) in
    let idle = subst (λ ys. (i : ℕ) → e ≤ i → i < length (take k ys) → get_or (take k ys) i Idle ≡ Idle) value c.end_of_signals-end.ensures.idle in
    let rest : take e items ++ replicate (k - e) Idle ≡ take k items =
    ap (λ ys. ys ++ replicate (k - e) Idle) (sym (take_take items k e few)) ∙ idle_rest (take k items) e (k - e) (omega (arith, few, size)) idle in
    text_cut x.at x.delay x.backlog x.base items x.written x.quiet k e (k - e) within less (omega (arith, few)) rest
    ∙ ap (λ (l : TapLine). line_cut (l.base + k) l) c.self.view_is
