-- Steady half bits stay steady when some of them are over, and for all rows of their classes.
use Rattle.std.proofs.Common.{◌≡◌, ℕ, zero, suc, ◌+◌, ◌<◌, Bool, List, [], ◌∷◌, length, map, sym, ◌∙◌, arith}
use Rattle.std.specs.Fn.{iterate}
use Rattle.manchester_line.specs.declared.Sym.{Sym}
use Rattle.manchester_line.specs.Line.{is_signal}
use Rattle.repeater_core.specs.Step.{RepeaterDevice, after, emitted_by, decided_by}
use Rattle.repeater_core.specs.Steady.{IsSteadyStep}
use Rattle.repeater_core.specs.Classes.{class_of, after_rows, SteadinessLasts}
use Rattle.repeater_core.proofs.SteadyRows.{Like, like_self, step_like, after_like, OfClasses}

-- another row of the same classes
row_steady : (n k : ℕ) (hears row : List Sym) (emitting deciding : List Bool) (r x : RepeaterDevice) → Like r x → map class_of row ≡ map class_of hears
    → ((j : ℕ) → j < n → IsSteadyStep hears emitting deciding (iterate (after hears) j r)) → k < n → IsSteadyStep row emitting deciding (iterate (after row) k x)
row_steady n zero hears row emitting deciding r x y e s l = step_like hears row emitting deciding r x y e (s 0 l)
row_steady zero (suc k) hears row emitting deciding r x y e s l = absurd (omega arith)
row_steady (suc n) (suc k) hears row emitting deciding r x y e s l =
    row_steady n k hears row emitting deciding (after hears r) (after row x) (after_like hears row emitting deciding r x y e (s 0 (omega arith))) e (λ j m. s (suc j) (omega arith)) (omega arith)

-- what is left of them
rest_steady : (rows : List (List Sym)) (n : ℕ) (hears row : List Sym) (emitting deciding : List Bool) (r x : RepeaterDevice) → Like r x → OfClasses hears rows → map class_of row ≡ map class_of hears
    → ((j : ℕ) → j < length rows + n → IsSteadyStep hears emitting deciding (iterate (after hears) j r)) → (k : ℕ) → k < n → IsSteadyStep row emitting deciding (iterate (after row) k (after_rows rows x))
rest_steady [] n hears row emitting deciding r x y a e s k l = row_steady n k hears row emitting deciding r x y e (λ j m. s j (omega arith)) l
rest_steady (heard ∷ rows) n hears row emitting deciding r x y a e s k l =
    rest_steady rows n hears row emitting deciding (after hears r) (after heard x) (after_like hears heard emitting deciding r x y a.0 (s 0 (omega arith))) a.1 e (λ j m. s (suc j) (omega arith)) k l

pub lasts : SteadinessLasts
lasts hears row rows r n a e s = λ k l.
    let steps = rest_steady rows n hears row (map is_signal (emitted_by r)) (map is_signal (decided_by hears r)) r r (like_self r) a e s in
    let first = steps 0 (omega arith) in
    let here = steps k l in
    record {
      mode = here.mode;
      emits = here.emits ∙ sym first.emits;
      decides = here.decides ∙ sym first.decides;
      none_closes = here.none_closes;
      none_opens = here.none_opens;
      none_halted = here.none_halted;
    }
