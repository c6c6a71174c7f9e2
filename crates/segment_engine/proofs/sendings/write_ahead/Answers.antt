use Rattle.std.proofs.Common.{◌≡◌, ℕ, ◌+◌, ◌-◌, ◌<◌, false, None, List, length, min, subst, ap, arith, rules}
use Rattle.std.proofs.lemmas.List.{get_or_past}
use Rattle.manchester_line.specs.Line.{is_signal, line}
use Rattle.manchester_line.specs.declared.Sym.TheVariants.{Idle}
use Rattle.mac_transmit.specs.Sender.{line_at, line_length, symbol_of}
use Rattle.segment_engine.proofs.sendings.write_ahead.Goals as goal

-- behind the line text there is Idle
silent_behind : (octets : List ℕ) (p n len : ℕ) → n ≡ min (line_length octets - p) len → n < len → is_signal (line_at octets (p + n)) ≡ false
unfolding line_at line_length
silent_behind octets p n len e l = ap is_signal (get_or_past (line octets) (p + n) Idle (omega (arith, e, l)))

pub returns-then-is_none-clause-longest : goal.returns-then-is_none-clause-longest
returns-then-is_none-clause-longest c = λ l.
    let none : None ≡ c.args.hit = search rules in
    subst (λ h. is_signal (symbol_of c.args.octets.now h (c.args.p + c.write_whole.result)) ≡ false) none
    (silent_behind c.args.octets.now c.args.p c.write_whole.result (length c.args.piece.now) c.write_whole.ensures.count l)
