-- A decoder that is given at once what isn't lost of a piece is as if it had been given it half bit by half bit.
use Rattle.std.proofs.Common.{◌≡◌, ℕ, zero, suc, ◌+◌, ◌-◌, ◌*◌, ◌<◌, inl, inr, Bool, List, [], ◌∷◌, length, drop, refl, sym, ap, ◌∙◌, arith}
use Rattle.std.specs.Prelude.{if◌then◌else◌}
use Rattle.std.proofs.lemmas.Bool.{cases_lt, le-leb, lt-leb}
use Rattle.std.proofs.Math.Seq.{drop-nil}
use Rattle.std.proofs.Math.Dec.{eqb-suc-zero}
use Rattle.manchester_line.specs.declared.Sym.{Sym}
use Rattle.manchester_line.specs.Decoding.{Decoding, new_decoding, pushed, all_pushed}
use Rattle.mac_parameters.specs.Parameters.{half_bits_a_bit}
use Rattle.mac_receive.specs.KeptReceiver.{fresh, decoder_fed_all}

-- the decoder of a reception that has begun goes on
fresh_begun : (n : ℕ) (d : Decoding) → 0 < n → fresh n d ≡ d
fresh_begun zero d p = absurd (omega (arith, p))
fresh_begun (suc m) d p = ap (λ t. if t then new_decoding else d) (eqb-suc-zero m)

-- one half bit, before a piece of which all that isn't lost is pushed
fed_step : (lose n : ℕ) (d e : Decoding) (s : Sym) (ss : List Sym) → fresh n d ≡ e → ((x : Decoding) → decoder_fed_all lose (n + 1) x ss ≡ all_pushed x (drop (half_bits_a_bit * lose - (n + 1)) ss)) →
    decoder_fed_all lose n d (s ∷ ss) ≡ all_pushed e (drop (half_bits_a_bit * lose - n) (s ∷ ss))
fed_step lose n d e s ss f rest =
    let more : Bool → Decoding = λ t. if t then pushed (fresh n d) s else fresh n d in
    elim (cases_lt n (half_bits_a_bit * lose)) [
      | inl low ↦
          let one : suc (half_bits_a_bit * lose - (n + 1)) ≡ half_bits_a_bit * lose - n = omega (arith, low) in
          ap (λ x. decoder_fed_all lose (n + 1) x ss) (ap more (lt-leb (half_bits_a_bit * lose) n low) ∙ f)
          ∙ rest e
          ∙ ap (λ k. all_pushed e (drop k (s ∷ ss))) one
      | inr high ↦
          let none : half_bits_a_bit * lose - (n + 1) ≡ 0 = omega (arith, high) in
          let same : 0 ≡ half_bits_a_bit * lose - n = omega (arith, high) in
          ap (λ x. decoder_fed_all lose (n + 1) x ss) (ap more (le-leb (half_bits_a_bit * lose) n high) ∙ ap (λ x. pushed x s) f)
          ∙ rest (pushed e s)
          ∙ ap (λ k. all_pushed (pushed e s) (drop k ss)) none
          ∙ ap (λ k. all_pushed e (drop k (s ∷ ss))) same
    ]

fed_begun : (lose n : ℕ) (d : Decoding) (xs : List Sym) → 0 < n → decoder_fed_all lose n d xs ≡ all_pushed d (drop (half_bits_a_bit * lose - n) xs)
fed_begun lose n d [] p = ap (all_pushed d) (sym (drop-nil {A = Sym} (half_bits_a_bit * lose - n)))
fed_begun lose n d (s ∷ ss) p = fed_step lose n d d s ss (fresh_begun n d p) (λ x. fed_begun lose (n + 1) x ss (omega arith))

-- a piece, after n half bits of its reception
pub fed_whole : (lose n : ℕ) (d : Decoding) (xs : List Sym) → 0 < length xs → decoder_fed_all lose n d xs ≡ all_pushed (fresh n d) (drop (half_bits_a_bit * lose - n) xs)
fed_whole lose n d [] p = absurd (omega (arith, p))
fed_whole lose n d (s ∷ ss) p = fed_step lose n d (fresh n d) s ss refl (λ x. fed_begun lose (n + 1) x ss (omega arith))
