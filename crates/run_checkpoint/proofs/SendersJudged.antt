-- The lines of senders and of ports: those of a state have no fault, and lines without a fault are those of a state.
use Rattle.std.proofs.Common.{◌≡◌, ℕ, ◌+◌, Bool, List, [], ◌∷◌, ◌++◌, length, Ok, refl, sym, ap, ◌∙◌, arith, append_assoc, append-nil}
use Rattle.frame_layout.specs.declared.queue.Ready.{Ready}
use Rattle.layout.specs.declared.lines.StationLine.{StationLine}
use Rattle.mac_transmit.specs.declared.state.SenderState.{SenderState}
use Rattle.port_partition.specs.Guard.{Guard}
use Rattle.run_checkpoint.specs.Judging.{judged_guards, judged_line, judged_senders}
use Rattle.run_checkpoint.specs.LineForms.{guard_form, sender_form}
use Rattle.run_checkpoint.specs.Places.{NamedPort}
use Rattle.run_checkpoint.specs.Ranges.{is_guard_in, is_sender_in}
use Rattle.run_checkpoint.specs.States.{AreGuardsOf, AreSendersOf, lines_of_guards, lines_of_senders}
use Rattle.run_checkpoint.proofs.GuardsRead.{guard_again, guard_in_range, guard_keeps, guard_text}
use Rattle.run_checkpoint.proofs.SenderLines.{sender_again}
use Rattle.run_checkpoint.proofs.SendersFound.{sender_in_range, sender_keeps, sender_text}
use Rattle.run_checkpoint.proofs.Judgements.{line_again, line_ok, same_ok, then_ok}

pub senders_again : (n : ℕ) (told : List SenderState) (stations : List StationLine) (queues : List (List Ready)) (ss : List SenderState) (more : List (List ℕ)) → length queues ≡ length stations → AreSendersOf queues ss
    → judged_senders n told stations queues (lines_of_senders stations ss ++ more) ≡ Ok (told ++ ss, more)
senders_again n told [] [] [] more many h = ap (λ (x : List SenderState). Ok (x, more)) (sym (append-nil told))
senders_again n told (st ∷ sts) (q ∷ qs) (s ∷ ss) more many h =
    let k = sender_keeps q s h.0 h.1 in
    rw (line_again n (sender_form st.name _) (is_sender_in (length q)) s (sender_again st.name s k.1) k.0)
    (senders_again (n + 1) (told ++ s ∷ []) sts qs ss more (omega (arith, many)) h.2 ∙ ap (λ (x : List SenderState). Ok (x, more)) (append_assoc told (s ∷ []) ss))
senders_again n told [] (q ∷ qs) ss more many h = absurd (omega (arith, many))
senders_again n told (st ∷ sts) [] ss more many h = absurd (omega (arith, many))
senders_again n told [] [] (s ∷ ss) more many h = absurd h
senders_again n told (st ∷ sts) (q ∷ qs) [] more many h = absurd h

-- senders that were told
pub record AreToldSenders (told : List SenderState) (stations : List StationLine) (queues : List (List Ready)) (lines : List (List ℕ)) (r : List SenderState × List (List ℕ)) : Type 0 where
  pub more : List SenderState
  pub all : r.0 ≡ told ++ more
  pub states : AreSendersOf queues more
  pub text : lines ≡ lines_of_senders stations more ++ r.1

pub senders_found : (n : ℕ) (told : List SenderState) (stations : List StationLine) (queues : List (List Ready)) (lines : List (List ℕ)) (r : List SenderState × List (List ℕ)) → length queues ≡ length stations
    → judged_senders n told stations queues lines ≡ Ok r → AreToldSenders told stations queues lines r
senders_found n told [] [] lines r many h =
    let e = same_ok (told, lines) r h in
    record { more = []; all = sym (ap (λ (p : List SenderState × List (List ℕ)). p.0) e) ∙ sym (append-nil told); states = tt; text = ap (λ (p : List SenderState × List (List ℕ)). p.1) e }
senders_found n told (st ∷ sts) (q ∷ qs) [] r many h = cc h
senders_found n told (st ∷ sts) (q ∷ qs) (line ∷ lines) r many h =
    let t = then_ok (judged_line n (sender_form st.name line) (is_sender_in (length q))) _ r h in
    let l = line_ok n (sender_form st.name line) (is_sender_in (length q)) t.0 t.1 in
    let k = sender_in_range q t.0 l.1 in
    let ih = senders_found (n + 1) (told ++ t.0 ∷ []) sts qs lines r (omega (arith, many)) t.2 in
    record {
      more = t.0 ∷ ih.more;
      all = ih.all ∙ append_assoc told (t.0 ∷ []) ih.more;
      states = (k.0, k.1, ih.states);
      text = rw (← ih.text, ← sender_text st.name line t.0 l.0 k.2) refl;
    }
senders_found n told [] (q ∷ qs) lines r many h = absurd (omega (arith, many))
senders_found n told (st ∷ sts) [] lines r many h = absurd (omega (arith, many))

pub guards_again : (n : ℕ) (gs₀ : List Guard) (rs₀ : List ℕ) (ports : List NamedPort) (gs : List Guard) (rs : List ℕ) (more : List (List ℕ)) → AreGuardsOf ports gs rs
    → judged_guards n gs₀ rs₀ ports (lines_of_guards ports gs rs ++ more) ≡ Ok (gs₀ ++ gs, rs₀ ++ rs, more)
guards_again n gs₀ rs₀ [] [] [] more h = rw (append-nil gs₀, append-nil rs₀) refl
guards_again n gs₀ rs₀ (p ∷ ps) (g ∷ gs) (r ∷ rs) more h =
    let k = guard_keeps g r h.0 h.1 in
    rw (line_again n (guard_form p.name p.port _) (λ (y : Guard × ℕ). is_guard_in y.0 y.1) (g, r) (guard_again p.name p.port g r k.1) k.0)
    (guards_again (n + 1) (gs₀ ++ g ∷ []) (rs₀ ++ r ∷ []) ps gs rs more h.2 ∙ rw (append_assoc gs₀ (g ∷ []) gs, append_assoc rs₀ (r ∷ []) rs) refl)
guards_again n gs₀ rs₀ [] [] (r ∷ rs) more h = absurd h
guards_again n gs₀ rs₀ [] (g ∷ gs) [] more h = absurd h
guards_again n gs₀ rs₀ [] (g ∷ gs) (r ∷ rs) more h = absurd h
guards_again n gs₀ rs₀ (p ∷ ps) [] [] more h = absurd h
guards_again n gs₀ rs₀ (p ∷ ps) [] (r ∷ rs) more h = absurd h
guards_again n gs₀ rs₀ (p ∷ ps) (g ∷ gs) [] more h = absurd h

-- guards that were told
pub record AreToldGuards (gs₀ : List Guard) (rs₀ : List ℕ) (ports : List NamedPort) (lines : List (List ℕ)) (r : List Guard × List ℕ × List (List ℕ)) : Type 0 where
  pub gs : List Guard
  pub rs : List ℕ
  pub guards : r.0 ≡ gs₀ ++ gs
  pub rests : r.1 ≡ rs₀ ++ rs
  pub states : AreGuardsOf ports gs rs
  pub text : lines ≡ lines_of_guards ports gs rs ++ r.2

pub guards_found : (n : ℕ) (gs₀ : List Guard) (rs₀ : List ℕ) (ports : List NamedPort) (lines : List (List ℕ)) (r : List Guard × List ℕ × List (List ℕ))
    → judged_guards n gs₀ rs₀ ports lines ≡ Ok r → AreToldGuards gs₀ rs₀ ports lines r
guards_found n gs₀ rs₀ [] lines r h =
    let e = same_ok (gs₀, rs₀, lines) r h in
    record {
      gs = [];
      rs = [];
      guards = sym (ap (λ (p : List Guard × List ℕ × List (List ℕ)). p.0) e) ∙ sym (append-nil gs₀);
      rests = sym (ap (λ (p : List Guard × List ℕ × List (List ℕ)). p.1) e) ∙ sym (append-nil rs₀);
      states = tt;
      text = ap (λ (p : List Guard × List ℕ × List (List ℕ)). p.2) e;
    }
guards_found n gs₀ rs₀ (p ∷ ps) [] r h = cc h
guards_found n gs₀ rs₀ (p ∷ ps) (line ∷ lines) r h =
    let keeps : Guard × ℕ → Bool = λ y. is_guard_in y.0 y.1 in
    let t = then_ok (judged_line n (guard_form p.name p.port line) keeps) _ r h in
    let l = line_ok n (guard_form p.name p.port line) keeps t.0 t.1 in
    let k = guard_in_range t.0.0 t.0.1 l.1 in
    let ih = guards_found (n + 1) (gs₀ ++ t.0.0 ∷ []) (rs₀ ++ t.0.1 ∷ []) ps lines r t.2 in
    record {
      gs = t.0.0 ∷ ih.gs;
      rs = t.0.1 ∷ ih.rs;
      guards = ih.guards ∙ append_assoc gs₀ (t.0.0 ∷ []) ih.gs;
      rests = ih.rests ∙ append_assoc rs₀ (t.0.1 ∷ []) ih.rs;
      states = (k.0, k.1, ih.states);
      text = rw (← ih.text, ← guard_text p.name p.port line t.0 l.0 k.2) refl;
    }
