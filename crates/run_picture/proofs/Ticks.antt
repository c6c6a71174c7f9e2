-- The axis as far as its ticks are written.
use Rattle.std.proofs.Common.{◌≡◌, ℕ, suc, ◌+◌, ◌-◌, ◌<◌, List, ◌++◌, sym, ap, ◌∙◌, arith, append_assoc}
use Rattle.std.specs.List.{range_with_len}
use Rattle.run_picture.specs.Axis.{tick_at, ticks}
use Rattle.run_picture.specs.declared.window.Window.{Window}

-- one half bit more
pub more_ticks : (w : Window) (height step t : ℕ) (text new whole : List ℕ) → t < w.to + 1 → new ≡ text ++ tick_at w height step t
    → text ++ ticks w height step (range_with_len t (w.to + 1 - t)) ≡ whole
    → new ++ ticks w height step (range_with_len (t + 1) (w.to + 1 - (t + 1))) ≡ whole
more_ticks w height step t text new whole before is h =
    let left : w.to + 1 - t ≡ suc (w.to + 1 - (t + 1)) = omega arith in
    let rest : List ℕ = ticks w height step (range_with_len (t + 1) (w.to + 1 - (t + 1))) in
    ap (λ (xs : List ℕ). xs ++ rest) is ∙ append_assoc text (tick_at w height step t) rest
    ∙ sym (ap (λ (n : ℕ). text ++ ticks w height step (range_with_len t n)) left) ∙ h
