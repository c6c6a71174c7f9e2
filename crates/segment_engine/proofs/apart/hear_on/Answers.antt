use Rattle.std.proofs.Common.{◌≡◌, ◌≢◌, ℕ, All, true, false, List, IfSome, length, sym, subst, ◌∙◌, arith, rules}
use Rattle.manchester_line.specs.declared.Sym.{Sym}
use Rattle.manchester_line.specs.declared.Sym.TheVariants.{Idle}
use Rattle.mac_receive.specs.KeptReceiver.{Hears}
use Rattle.mac_receive.specs.Receiver.{receiver_after}
use Rattle.net_parts.proofs.RepeaterSteps.{length-span}
use Rattle.tap_lines.specs.TapLines.{IsOnlySource, heard_by_lines, heard_for}
use Rattle.tap_lines.specs.TapLists.{AreIdleButFor}
use Rattle.segment_engine.proofs.SteadyReceivers.{idle_piece, signal_piece}
use Rattle.segment_engine.proofs.apart.hear_on.Goals as goal

pub only_from-source-requires : goal.only_from-source-requires
only_from-source-requires c = subst (λ v. AreIdleButFor v c.args.lines.now c.args.late.now.taps) (sym c.saturating_sub.ensures) c.requires.late

pub piece_of-requires-clause-source : goal.piece_of-requires-clause-source
piece_of-requires-clause-source c =
    subst (λ v. IfSome c.only_from-source.result (IsOnlySource v c.args.lines.now)) c.saturating_sub.ensures c.only_from-source.ensures.only

pub hear_listed-requires : goal.hear_listed-requires
hear_listed-requires c =
    let last = c.requires.in_time in
    record {
      listed = record {
        tap = c.requires.tap;
        reach = c.requires.reach;
        loud = c.requires.late;
        in_time = omega (arith, last);
      };
    }

pub take-requires-clause-signal : goal.take-requires-clause-signal
take-requires-clause-signal c =
    let f = λ (u : ℕ). heard_by_lines c.args.lookahead u c.args.lines.now c.args.p in
    let n = length c.args.piece.now in
    let carrier : c.args.carrier ≡ true = search rules in
    let is : c.in-Some.heard.now ≡ heard_for c.args.lookahead c.args.t n c.args.lines.now c.args.p = search rules in
    subst (All (λ s. s ≢ Idle)) (sym is) (signal_piece f c.args.t n (λ j l. c.requires.steady j l ∙ carrier))

pub take-requires-in_default-clause-signal : goal.take-requires-in_default-clause-signal
take-requires-in_default-clause-signal c =
    let f = λ (u : ℕ). heard_by_lines c.args.lookahead u c.args.lines.now c.args.p in
    let n = length c.args.piece.now in
    let carrier : c.args.carrier ≡ true = search rules in
    subst (All (λ s. s ≢ Idle)) (sym c.hear_listed.ensures) (signal_piece f c.args.t n (λ j l. c.requires.steady j l ∙ carrier))

pub returns-then-sending-clause-state : goal.returns-then-sending-clause-state
returns-then-sending-clause-state c = λ r h.
    let f = λ (u : ℕ). heard_by_lines c.args.lookahead u c.args.lines.now c.args.p in
    let n = length c.args.piece.now in
    let hs = heard_for c.args.lookahead c.args.t n c.args.lines.now c.args.p in
    let sending : c.args.sending ≡ true = search rules in
    subst (λ b. Hears (receiver_after r hs b) c.leap_sending.new.self) (sym sending) (c.leap_sending.ensures.state r hs (length-span f c.args.t n) h)

pub returns-then-not-carrier-clause-state : goal.returns-then-not-carrier-clause-state
returns-then-not-carrier-clause-state c = λ r h.
    let f = λ (u : ℕ). heard_by_lines c.args.lookahead u c.args.lines.now c.args.p in
    let n = length c.args.piece.now in
    let sending : c.args.sending ≡ false = search rules in
    let carrier : c.args.carrier ≡ false = search rules in
    let is = idle_piece f c.args.t n (λ j l. c.requires.steady j l ∙ carrier) in
    subst (λ b. Hears (receiver_after r (heard_for c.args.lookahead c.args.t n c.args.lines.now c.args.p) b) c.leap_quiet.new.self) (sym sending)
    (subst (λ (hs : List Sym). Hears (receiver_after r hs false) c.leap_quiet.new.self) (sym is) (c.leap_quiet.ensures.state r h))

pub returns-then-is_deaf-clause-state : goal.returns-then-is_deaf-clause-state
returns-then-is_deaf-clause-state c = λ r h.
    let f = λ (u : ℕ). heard_by_lines c.args.lookahead u c.args.lines.now c.args.p in
    let n = length c.args.piece.now in
    let hs = heard_for c.args.lookahead c.args.t n c.args.lines.now c.args.p in
    let sending : c.args.sending ≡ false = search rules in
    let carrier : c.args.carrier ≡ true = search rules in
    let signal = signal_piece f c.args.t n (λ j l. c.requires.steady j l ∙ carrier) in
    subst (λ b. Hears (receiver_after r hs b) c.leap_deaf.new.self) (sym sending) (c.leap_deaf.ensures.state r hs signal (length-span f c.args.t n) h)
