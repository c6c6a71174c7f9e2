-- The flags of ports as the bits of a number.
use Rattle.std.proofs.Common.{◌≡◌, ℕ, zero, suc, ◌+◌, ◌*◌, ◌/◌, ◌%◌, ◌^◌, Bool, true, false, eqb, List, [], ◌∷◌, ◌++◌, map, length, refl, sym, ap, ap₂, ◌∙◌, arith, append_assoc}
use Rattle.std.proofs.lemmas.Grind.{common_steps}
use Rattle.std.proofs.lemmas.List.{length-map, map-append, append-nil}
use Rattle.collision_log.specs.declared.row.Row.{Row}
use Rattle.collision_log.specs.declared.row.Body.{Body}
use Rattle.collision_log.specs.declared.row.Body.TheVariants.{Clash, Closed, Opened, Halted}
use Rattle.manchester_line.specs.declared.Sym.{Sym}
use Rattle.port_partition.specs.declared.guard.GuardEvent.{GuardEvent}
use Rattle.port_partition.specs.declared.guard.GuardEvent.TheVariants as event
use Rattle.repeater_core.specs.declared.repeater.RepeaterEvents.{RepeaterEvents}
use Rattle.repeater_core.specs.Step.{RepeaterDevice, mask_from, is_closing, is_opening, chosen, guard_events, emitted_by, decided_by, clash_begins, closed_mask, opened_mask, halted_mask}
use Rattle.repeater_core.specs.Counts.{Choice}
use Rattle.port_partition.specs.Guard.{Guard}
use Rattle.network.specs.Rows.{rows_of_bodies, repeater_bodies, port_bodies, guard_bodies, happened, told_bodies, bits_bodies}

twice : (p : ℕ) → 2 ^ (p + 1) ≡ 2 * 2 ^ p
twice p = grind (arith, common_steps)

-- the flags one place higher
mask-higher : (p : ℕ) (bs : List Bool) → mask_from (p + 1) bs ≡ 2 * mask_from p bs
mask-higher p [] = refl
mask-higher p (true ∷ bs) = let higher = mask-higher (p + 1) bs in let two = twice p in omega (arith, higher, two)
mask-higher p (false ∷ bs) = let higher = mask-higher (p + 1) bs in omega (arith, higher)

first_bit : (b : Bool) (bs : List Bool) → eqb (mask_from 0 (b ∷ bs) % 2) 1 ≡ b
first_bit true bs = let higher = mask-higher 0 bs in let odd : (1 + mask_from 1 bs) % 2 ≡ 1 = omega (arith, higher) in ap (λ n. eqb n 1) odd
first_bit false bs = let higher = mask-higher 0 bs in let even : (0 + mask_from 1 bs) % 2 ≡ 0 = omega (arith, higher) in ap (λ n. eqb n 1) even

other_bits : (b : Bool) (bs : List Bool) → mask_from 0 (b ∷ bs) / 2 ≡ mask_from 0 bs
other_bits true bs = let higher = mask-higher 0 bs in omega (arith, higher)
other_bits false bs = let higher = mask-higher 0 bs in omega (arith, higher)

guard_bits : (port : ℕ) (e : GuardEvent) (rest : List Body) → happened (is_closing e) (Closed port) ++ (happened (is_opening e) (Opened port) ++ rest) ≡ guard_bodies port e ++ rest
guard_bits port event.None rest = refl
guard_bits port event.Closed rest = refl
guard_bits port event.Opened rest = refl

-- what the bits say happens
bits_are : (port : ℕ) (hs : List Bool) (es : List GuardEvent) → length hs ≡ length es →
    bits_bodies port (length es) (mask_from 0 (map is_closing es)) (mask_from 0 (map is_opening es)) (mask_from 0 hs) ≡ port_bodies port hs es
bits_are port [] [] l = refl
bits_are port [] (e ∷ es) l = absurd (omega arith)
bits_are port (h ∷ hs) [] l = absurd (omega arith)
bits_are port (h ∷ hs) (e ∷ es) l =
    let n = length es in
    let cs = map is_closing es in
    let os = map is_opening es in
    let at : Bool → Bool → Bool → List Body → List Body = λ x y z rest. happened x (Halted port) ++ (happened y (Closed port) ++ (happened z (Opened port) ++ rest)) in
    let c = mask_from 0 (is_closing e ∷ cs) in
    let o = mask_from 0 (is_opening e ∷ os) in
    let t = mask_from 0 (h ∷ hs) in
    ap (λ x. at x (eqb (c % 2) 1) (eqb (o % 2) 1) (bits_bodies (port + 1) n (c / 2) (o / 2) (t / 2))) (first_bit h hs)
    ∙ ap (λ y. at h y (eqb (o % 2) 1) (bits_bodies (port + 1) n (c / 2) (o / 2) (t / 2))) (first_bit (is_closing e) cs)
    ∙ ap (λ z. at h (is_closing e) z (bits_bodies (port + 1) n (c / 2) (o / 2) (t / 2))) (first_bit (is_opening e) os)
    ∙ ap (λ m. at h (is_closing e) (is_opening e) (bits_bodies (port + 1) n m (o / 2) (t / 2))) (other_bits (is_closing e) cs)
    ∙ ap (λ m. at h (is_closing e) (is_opening e) (bits_bodies (port + 1) n (mask_from 0 cs) m (t / 2))) (other_bits (is_opening e) os)
    ∙ ap (λ m. at h (is_closing e) (is_opening e) (bits_bodies (port + 1) n (mask_from 0 cs) (mask_from 0 os) m)) (other_bits h hs)
    ∙ ap (at h (is_closing e) (is_opening e)) (bits_are (port + 1) hs es (omega arith))
    ∙ ap (λ rest. happened h (Halted port) ++ rest) (guard_bits port e (port_bodies (port + 1) hs es))

-- what the answer of a repeater says happens
pub told_are : (heard : List Sym) (r : RepeaterDevice) (ports : ℕ) (e : RepeaterEvents) → ports ≡ length (guard_events r.guards heard (emitted_by r)) → length (chosen heard r) ≡ ports →
    e.clash ≡ clash_begins heard r → e.closed ≡ closed_mask heard r → e.opened ≡ opened_mask heard r → e.halted ≡ halted_mask heard r → told_bodies ports e ≡ repeater_bodies heard r
told_are heard r ports e np nc clash closed opened halted =
    let hs = map (λ (c : Choice). c.halted) (chosen heard r) in
    let es = guard_events r.guards heard (emitted_by r) in
    let bits : bits_bodies 1 ports e.closed e.opened e.halted ≡ bits_bodies 1 (length es) (mask_from 0 (map is_closing es)) (mask_from 0 (map is_opening es)) (mask_from 0 hs) =
    ap (λ n. bits_bodies 1 n e.closed e.opened e.halted) np
    ∙ ap (λ m. bits_bodies 1 (length es) m e.opened e.halted) closed
    ∙ ap (λ m. bits_bodies 1 (length es) (closed_mask heard r) m e.halted) opened
    ∙ ap (λ m. bits_bodies 1 (length es) (closed_mask heard r) (opened_mask heard r) m) halted in
    ap₂ (λ b rest. happened b Clash ++ rest) clash (bits ∙ bits_are 1 hs es (length-map (chosen heard r) (λ (c : Choice). c.halted) ∙ nc ∙ np))

length-guard_events : (gs : List Guard) (hs es : List Sym) → length hs ≡ length gs → length es ≡ length gs → length (guard_events gs hs es) ≡ length gs
length-guard_events [] hs es lh le = refl
length-guard_events (g ∷ gs) [] es lh le = absurd (omega arith)
length-guard_events (g ∷ gs) (h ∷ hs) [] lh le = absurd (omega arith)
length-guard_events (g ∷ gs) (h ∷ hs) (e ∷ es) lh le = ap suc (length-guard_events gs hs es (omega arith) (omega arith))

-- the same for a repeater whose ports heard, emitted and decided these symbols
pub step_told : (heard emitted decided : List Sym) (r : RepeaterDevice) (ports : ℕ) (e : RepeaterEvents) → length heard ≡ ports → length emitted ≡ ports → length decided ≡ ports → length r.guards ≡ ports →
    emitted ≡ emitted_by r → decided ≡ decided_by heard r →
    e.clash ≡ clash_begins heard r → e.closed ≡ closed_mask heard r → e.opened ≡ opened_mask heard r → e.halted ≡ halted_mask heard r → told_bodies ports e ≡ repeater_bodies heard r
step_told heard emitted decided r ports e lh le ld lg ee ed clash closed opened halted =
    told_are heard r ports e (sym (length-guard_events r.guards heard (emitted_by r) (lh ∙ sym lg) (ap length (sym ee) ∙ le ∙ sym lg) ∙ lg)) (sym (length-map (chosen heard r) (λ (c : Choice). c.symbol)) ∙ ap length (sym ed) ∙ ld) clash closed opened halted

-- where all flags are off, nothing happens at the ports
pub no_bits : (port n : ℕ) → bits_bodies port n 0 0 0 ≡ []
no_bits port zero = refl
no_bits port (suc n) = no_bits (port + 1) n

-- one port more
pub bits_more : (port n : ℕ) (c o h : ℕ) → bits_bodies port (suc n) c o h ≡ bits_bodies port 1 c o h ++ bits_bodies (port + 1) n (c / 2) (o / 2) (h / 2)
bits_more port n c o h =
    let a = happened (eqb (h % 2) 1) (Halted port) in
    let b = happened (eqb (c % 2) 1) (Closed port) in
    let d = happened (eqb (o % 2) 1) (Opened port) in
    let rest = bits_bodies (port + 1) n (c / 2) (o / 2) (h / 2) in
    let nothing : d ++ [] ≡ d = append-nil d in
    sym (append_assoc a (b ++ (d ++ [])) rest ∙ ap (λ xs. a ++ xs) (append_assoc b (d ++ []) rest ∙ ap (λ xs. b ++ (xs ++ rest)) nothing))

-- its rows within those of all ports
pub rows_more : (t k port left n : ℕ) (c o h : ℕ) (rows more : List Row) → left ≡ suc n → more ≡ rows ++ rows_of_bodies t k (bits_bodies port 1 c o h) →
    more ++ rows_of_bodies t k (bits_bodies (port + 1) n (c / 2) (o / 2) (h / 2)) ≡ rows ++ rows_of_bodies t k (bits_bodies port left c o h)
rows_more t k port left n c o h rows more e is =
    let row : Body → Row = λ body. record { t = t; device = k; body = body } in
    let rest = bits_bodies (port + 1) n (c / 2) (o / 2) (h / 2) in
    ap (λ xs. xs ++ map row rest) is
    ∙ append_assoc rows (map row (bits_bodies port 1 c o h)) (map row rest)
    ∙ ap (λ xs. rows ++ xs) (sym (map-append row (bits_bodies port 1 c o h) rest) ∙ ap (map row) (sym (bits_more port n c o h) ∙ ap (λ m. bits_bodies port m c o h) (sym e)))

-- nothing happens at the ports of a repeater whose flags are all off
pub rows_none : (t k ports : ℕ) (e : RepeaterEvents) (rows more : List Row) → e.closed ≡ 0 → e.opened ≡ 0 → e.halted ≡ 0 → more ≡ rows ++ rows_of_bodies t k (happened e.clash Clash) → more ≡ rows ++ rows_of_bodies t k (told_bodies ports e)
rows_none t k ports e rows more ec eo eh is =
    let none : bits_bodies 1 ports e.closed e.opened e.halted ≡ [] = ap (λ m. bits_bodies 1 ports m e.opened e.halted) ec ∙ ap (λ m. bits_bodies 1 ports 0 m e.halted) eo ∙ ap (bits_bodies 1 ports 0 0) eh ∙ no_bits 1 ports in
    is ∙ ap (λ bs. rows ++ rows_of_bodies t k bs) (sym (append-nil (happened e.clash Clash)) ∙ ap (λ bs. happened e.clash Clash ++ bs) (sym none))
