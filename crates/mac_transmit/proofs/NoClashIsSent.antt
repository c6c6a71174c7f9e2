-- No clash is sent.
use Rattle.std.proofs.Common.{◌≢◌, ℕ, ◌-◌, ◌*◌, Bool, Option, Some, None, ltb, List, length, sym, subst, inl, inr, arith}
use Rattle.std.proofs.lemmas.Bool.{cond_both, cases_lt}
use Rattle.mac_parameters.specs.Parameters.{half_bits_an_octet, preamble_length}
use Rattle.manchester_line.specs.declared.Sym.TheVariants.{Clash}
use Rattle.manchester_line.specs.Line.{jam_at}
use Rattle.manchester_line.proofs.Levels.{jam_level, level_at}
use Rattle.manchester_line.proofs.Places.{line_at_preamble, line_at_octet, line_past}
use Rattle.mac_transmit.specs.Sender.{line_at, symbol_of, jam_start, hit_at, symbol_emitted}
use Rattle.mac_transmit.specs.declared.phase.Phase.{Phase}
use Rattle.mac_transmit.specs.declared.phase.Phase.TheVariants.{Rest, Waiting, Sending, Backoff}

line_clear : (octets : List ℕ) (p : ℕ) → line_at octets p ≢ Clash
unfolding line_at
line_clear octets p =
    elim (cases_lt p preamble_length) [
      | inl low ↦ (level_at _ _ _ (line_at_preamble octets p low)).1
      | inr high ↦
          elim (cases_lt (p - preamble_length) (half_bits_an_octet * length octets)) [
            | inl few ↦ (level_at _ _ _ (line_at_octet octets p (p - preamble_length) high (omega arith) few)).1
            | inr past ↦ subst (λ s. s ≢ Clash) (sym (line_past octets p (omega arith))) (λ e. cc)
          ]
    ]

pub symbol_clear : (octets : List ℕ) (hit : Option ℕ) (p : ℕ) → symbol_of octets hit p ≢ Clash
symbol_clear octets None p = line_clear octets p
symbol_clear octets (Some hit) p = cond_both (ltb p (jam_start hit)) (line_at octets p) (jam_at (p - jam_start hit)) (λ s. s ≢ Clash) (λ _. line_clear octets p) (λ _. (jam_level (p - jam_start hit)).1)

pub emitted_clear : (octets : List ℕ) (t : ℕ) (p : Phase) (c : Bool) → symbol_emitted octets t p c ≢ Clash
unfolding symbol_emitted
emitted_clear octets t Rest c = λ e. cc
emitted_clear octets t Waiting c = λ e. cc
emitted_clear octets t (Sending start hit) c = symbol_clear octets (hit_at hit c (t - start)) (t - start)
emitted_clear octets t (Backoff until) c = λ e. cc
