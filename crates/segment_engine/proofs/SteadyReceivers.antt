-- What a receiver hears of a piece that is all a signal, or all Idle.
use Rattle.std.proofs.Common.{◌≡◌, ◌≢◌, ℕ, zero, suc, ◌+◌, ◌<◌, ◌∷◌, All, true, false, replicate, get_or, refl, sym, ap, ap₂, ◌∙◌, arith}
use Rattle.std.proofs.lemmas.List.{length-replicate, get_or-replicate}
use Rattle.std.proofs.lemmas.Bool.{false≢true}
use Rattle.manchester_line.specs.declared.Sym.{Sym}
use Rattle.manchester_line.specs.declared.Sym.TheVariants.{Idle}
use Rattle.manchester_line.specs.Line.{is_signal}
use Rattle.mac_transmit.specs.Calm.{AllHeardAs}
use Rattle.net_parts.specs.Machines.{span}
use Rattle.net_parts.proofs.RepeaterSteps.{length-span, get_or-span}
use Rattle.tap_lines.proofs.HeardClasses.{idle_symbol}

pub span_same : {X : Type 0} (f : ℕ → X) (k n : ℕ) (x : X) → ((i : ℕ) → i < n → f (k + i) ≡ x) → span f k n ≡ replicate n x
span_same f k zero x h = refl
span_same f k (suc n) x h =
    ap₂ ◌∷◌ ((let z : k ≡ k + 0 = omega arith in ap f z) ∙ h 0 (omega arith))
    (span_same f (suc k) n x (λ i l. (let z : suc k + i ≡ k + suc i = omega arith in ap f z) ∙ h (suc i) (omega (arith, l))))

pub all_idle : (n : ℕ) → AllHeardAs false (replicate n Idle)
all_idle n = λ i d c. let size = length-replicate n Idle in ap is_signal (get_or-replicate n i Idle d (omega (arith, c, size)))

pub idle_piece : (f : ℕ → Sym) (t n : ℕ) → ((j : ℕ) → j < n → is_signal (f (t + j)) ≡ false) → span f t n ≡ replicate n Idle
idle_piece f t n h = span_same f t n Idle (λ j l. idle_symbol (f (t + j)) (h j l))

not_idle : (s : Sym) → is_signal s ≡ true → s ≢ Idle
not_idle s h e = false≢true (sym (ap is_signal e) ∙ h)

pub signal_piece : (f : ℕ → Sym) (t n : ℕ) → ((j : ℕ) → j < n → is_signal (f (t + j)) ≡ true) → All (λ s. s ≢ Idle) (span f t n)
signal_piece f t n h = λ i d l.
    let size = length-span f t n in
    let in_it = (let e : i < n = omega (arith, l, size) in e) in
    not_idle (get_or (span f t n) i d) (ap is_signal (get_or-span f t n i d in_it) ∙ h i in_it)
