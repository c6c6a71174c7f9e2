-- What a tap emits, the others of its segment hear.
use Rattle.std.proofs.Common.{◌≡◌, ◌≢◌, refl, sym, ◌∙◌, ap, ap₂, subst, ℕ, zero, suc, ◌+◌, ◌<◌, true, cond, eqb, not, ◌&&◌, List, [], ◌∷◌, length, get_or, Some, option_map, unwrap_or, arith}
use Rattle.std.proofs.lemmas.Bool.{cond-true, eq-eqb, ne_eqb}
use Rattle.std.proofs.lemmas.Option.{same_Some}
use Rattle.manchester_line.specs.declared.Sym.{Sym}
use Rattle.manchester_line.specs.declared.Sym.TheVariants.{Idle, Hi, Lo, Clash}
use Rattle.manchester_line.specs.Line.{mix_of}
use Rattle.mac_parameters.specs.Distances.{distance}
use Rattle.layout.specs.declared.lines.Layout.{Layout}
use Rattle.layout.specs.declared.lines.PortLine.{PortLine}
use Rattle.layout.specs.declared.ways.Attachment.{Attachment}
use Rattle.layout.specs.declared.ways.Way.TheVariants as way
use Rattle.layout.specs.Paths.{place, IsTap, part_by, at_of, step_length}
use Rattle.layout.proofs.Cuts.{has_part}
use Rattle.network.specs.Attempts.{tap_number}
use Rattle.network.specs.Signals.{CablesCarry}
use Rattle.network.specs.Hearing.{heard_of}
use Rattle.layout.specs.Taps.{taps_of}
use Rattle.network.specs.Times.{emitted, earlier}
use Rattle.network.proofs.AbsoluteTimes.{earlier_at, heard_is}
use Rattle.network.proofs.TapNumbers.{tap_below, tap_read, taps_differ}

-- a mix is not Idle where one part is not
mix_left : (a b : Sym) → a ≢ Idle → mix_of a b ≢ Idle
mix_left Idle b h = absurd (h refl)
mix_left Hi Idle h = h
mix_left Hi Hi h = λ e. cc
mix_left Hi Lo h = λ e. cc
mix_left Hi Clash h = λ e. cc
mix_left Lo Idle h = h
mix_left Lo Hi h = λ e. cc
mix_left Lo Lo h = λ e. cc
mix_left Lo Clash h = λ e. cc
mix_left Clash Idle h = h
mix_left Clash Hi h = h
mix_left Clash Lo h = h
mix_left Clash Clash h = h

mix_right : (a b : Sym) → b ≢ Idle → mix_of a b ≢ Idle
mix_right Idle b h = h
mix_right Hi b h = mix_left Hi b (λ e. cc)
mix_right Lo b h = mix_left Lo b (λ e. cc)
mix_right Clash b h = mix_left Clash b (λ e. cc)

-- a tap hears something where another of its segment told it something
heard_busy : (told : ℕ → ℕ → Sym) (p : ℕ) (here d : PortLine) (q : ℕ) (xs : List PortLine) (i m : ℕ) → i < length xs → m ≡ q + i → m ≢ p → (get_or xs i d).segment ≡ here.segment
    → told (distance here.at (get_or xs i d).at) m ≢ Idle → heard_of told p here q xs ≢ Idle
heard_busy told p here d q [] i m l e ne on h = absurd (omega arith)
heard_busy told p here d q (x ∷ xs) zero m l e ne on h =
    let now = told (distance here.at x.at) q in
    let counts = eqb x.segment here.segment && not (eqb q p) in
    let same : m ≡ q = omega arith in
    let is : counts ≡ true = ap₂ (λ b c. b && not c) (eq-eqb x.segment here.segment on) (ne_eqb q p (λ f. ne (same ∙ f))) in
    let busy : now ≢ Idle = subst (λ k. told (distance here.at x.at) k ≢ Idle) same h in
    mix_left (cond counts now Idle) (heard_of told p here (q + 1) xs) (subst (λ s. s ≢ Idle) (sym (cond-true counts now Idle is)) busy)
heard_busy told p here d q (x ∷ xs) (suc i) m l e ne on h =
    mix_right (cond (eqb x.segment here.segment && not (eqb q p)) (told (distance here.at x.at) q) Idle) (heard_of told p here (q + 1) xs)
    (heard_busy told p here d (q + 1) xs i m (omega arith) (omega arith) ne on h)

segment_is : (l : Layout) (t : Attachment) (x : PortLine) (part : ℕ) → place l t ≡ Some x → part_by l way.Cable t ≡ Some part → x.segment ≡ part
segment_is l t x part h on = same_Some x.segment part (sym (ap (option_map (λ (y : PortLine). y.segment)) h) ∙ on)

at_is : (l : Layout) (t : Attachment) (x : PortLine) → place l t ≡ Some x → at_of l t ≡ x.at
at_is l t x h = ap (λ o. unwrap_or (option_map (λ (y : PortLine). y.at) o) 0) h

either_way : (x y : ℕ) → distance x y ≡ distance y x
either_way x y = omega arith

pub carries : CablesCarry
carries plan a b t step h =
    let l = plan.layout in
    let tap_a : IsTap l a = has_part l way.Cable a step.part step.from in
    let tap_b : IsTap l b = has_part l way.Cable b step.part step.to in
    let x = tap_a.0 in
    let y = tap_b.0 in
    let p = tap_number l a in
    let q = tap_number l b in
    let all = taps_of l in
    let away = step_length l way.Cable a b in
    let told : ℕ → ℕ → Sym = λ back k. earlier (emitted plan k) (t + away) back in
    let here : get_or all q y ≡ y = tap_read l b y y tap_b.1 in
    let there : get_or all p y ≡ x = tap_read l a x y tap_a.1 in
    let differ : p ≢ q = λ e. step.different (taps_differ l a b x y tap_a.1 tap_b.1 e) in
    let on : (get_or all p y).segment ≡ (get_or all q y).segment =
    ap (λ (z : PortLine). z.segment) there ∙ segment_is l a x step.part tap_a.1 step.from ∙ sym (segment_is l b y step.part tap_b.1 step.to) ∙ sym (ap (λ (z : PortLine). z.segment) here) in
    let far : distance (get_or all q y).at (get_or all p y).at ≡ away =
    ap₂ (λ (u v : PortLine). distance u.at v.at) here there ∙ either_way y.at x.at ∙ sym (ap₂ distance (at_is l a x tap_a.1) (at_is l b y tap_b.1)) in
    let says : told (distance (get_or all q y).at (get_or all p y).at) p ≡ emitted plan p t = ap (λ back. told back p) far ∙ earlier_at (emitted plan p) t away in
    let busy : told (distance (get_or all q y).at (get_or all p y).at) p ≢ Idle = subst (λ s. s ≢ Idle) (sym says) h in
    subst (λ s. s ≢ Idle) (sym (heard_is plan (t + away) q y (tap_below l b y tap_b.1)))
    (heard_busy told q (get_or all q y) y 0 all p p (tap_below l a x tap_a.1) (omega arith) differ on busy)
