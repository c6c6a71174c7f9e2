-- The taps of a plan's layout are those of its network as it is stepped, and hear what they hear there.
use Rattle.std.proofs.Common.{◌≡◌, ℕ, zero, suc, ◌+◌, ◌-◌, ◌<◌, inl, inr, List, [], ◌∷◌, map, take, drop, length, get_or, refl, ap, ◌∙◌, arith}
use Rattle.std.proofs.lemmas.Bool.{lt-ltb, le-ltb}
use Rattle.std.proofs.lemmas.List.Sums.{sum_by-cons}
use Rattle.manchester_line.specs.declared.Sym.{Sym}
use Rattle.manchester_line.specs.declared.Sym.TheVariants.{Idle}
use Rattle.layout.specs.declared.lines.RepeaterLine.{RepeaterLine}
use Rattle.load_plan.specs.declared.plan.Plan.{Plan}
use Rattle.repeater_core.specs.Step.{RepeaterDevice, new_state}
use Rattle.network.specs.Attempts.{port_number}
use Rattle.network.specs.Net.{Net, heard_in, net, ports_of}
use Rattle.network.proofs.DelayLines.{LinesUp}
use Rattle.network.proofs.StationAttempts.{shape_of}
use Rattle.net_step.specs.KeptNet.{IsKeptTap, KeptNet, Stands, kept_tap_number}
use Rattle.line_probe.specs.Heard.{tap_heard}
use Rattle.line_probe.specs.Taps.{HasTap, no_repeater, tap_number_of}
use Rattle.line_probe.specs.declared.tap.Tap.{Tap}

lined_many : (ls : List RepeaterLine) (rs : List RepeaterDevice) (h : List (List Sym)) → LinesUp ls rs h → length rs ≡ length ls
lined_many [] [] h up = refl
lined_many [] (r ∷ rs) h up = absurd up
lined_many (l ∷ ls) [] h up = absurd up
lined_many (l ∷ ls) (r ∷ rs) h up = ap suc (lined_many ls rs (map (drop (length l.ports)) h) up.1)

-- a repeater has as many guards as its row of the layout has ports
lined_ports : (ls : List RepeaterLine) (rs : List RepeaterDevice) (h : List (List Sym)) (k : ℕ) → LinesUp ls rs h → k < length ls →
    length (get_or rs k (new_state 0 0)).guards ≡ length (get_or ls k no_repeater).ports
lined_ports [] rs h k up lt = absurd (omega arith)
lined_ports (l ∷ ls) [] h k up lt = absurd up
lined_ports (l ∷ ls) (r ∷ rs) h zero up lt = up.0.guards
lined_ports (l ∷ ls) (r ∷ rs) h (suc k) up lt = lined_ports ls rs (map (drop (length l.ports)) h) k up.1 (omega arith)

-- the number of a port among all ports
lined_number : (ls : List RepeaterLine) (rs : List RepeaterDevice) (h : List (List Sym)) (k p : ℕ) → LinesUp ls rs h → k < length ls → ports_of (take k rs) + p ≡ port_number ls k p
lined_number [] rs h k p up lt = absurd (omega arith)
lined_number (l ∷ ls) [] h k p up lt = absurd up
lined_number (l ∷ ls) (r ∷ rs) h zero p up lt = omega arith
lined_number (l ∷ ls) (r ∷ rs) h (suc k) p up lt =
    let more : ports_of (r ∷ take k rs) ≡ length r.guards + ports_of (take k rs) = sum_by-cons (λ (x : RepeaterDevice). length x.guards) r (take k rs) in
    let rest = lined_number ls rs (map (drop (length l.ports)) h) k p up.1 (omega arith) in
    omega (arith, more, rest, up.0.guards)

-- a tap of the layout is one of what is kept
pub tap_is_kept : (plan : Plan) (t : ℕ) (k : KeptNet) (tap : Tap) → Stands (net plan t) k → HasTap plan.layout tap → IsKeptTap k tap.device tap.port
tap_is_kept plan t k tap stands has =
    let n = net plan t in
    let shape = shape_of plan t in
    let senders : length k.senders ≡ length plan.layout.stations = ap length stands.senders ∙ shape.senders in
    let many : length k.repeaters ≡ length plan.layout.repeaters = ap length stands.repeaters ∙ lined_many plan.layout.repeaters n.repeaters n.decided shape.lines in
    elim has [
      | inl station ↦ inl (omega (arith, station.0, senders), station.1)
      | inr port ↦
          let same : tap.device - length k.senders ≡ tap.device - length plan.layout.stations = ap (λ m. tap.device - m) senders in
          let guards : length (get_or k.repeaters (tap.device - length k.senders) (new_state 0 0)).guards ≡ length (get_or plan.layout.repeaters (tap.device - length plan.layout.stations) no_repeater).ports =
          ap (λ i. length (get_or k.repeaters i (new_state 0 0)).guards) same
          ∙ ap (λ (rs : List RepeaterDevice). length (get_or rs (tap.device - length plan.layout.stations) (new_state 0 0)).guards) stands.repeaters
          ∙ lined_ports plan.layout.repeaters n.repeaters n.decided (tap.device - length plan.layout.stations) shape.lines port.1 in
          inr (omega (arith, port.0, senders), omega (arith, port.1, same, many), omega (arith, port.2, guards))
    ]

-- its number among all taps is the same
number_is : (plan : Plan) (t : ℕ) (tap : Tap) → HasTap plan.layout tap → kept_tap_number (length (net plan t).senders) (net plan t).repeaters tap.device tap.port ≡ tap_number_of plan.layout tap
number_is plan t tap has =
    let n = net plan t in
    let shape = shape_of plan t in
    let stations = length plan.layout.stations in
    let senders : length n.senders ≡ stations = shape.senders in
    ap (λ m. kept_tap_number m n.repeaters tap.device tap.port) senders
    ∙ elim has [
      | inl station ↦ rw (lt-ltb tap.device stations station.0) refl
      | inr port ↦
          let number : ports_of (take (tap.device - stations) n.repeaters) + tap.port ≡ port_number plan.layout.repeaters (tap.device - stations) tap.port =
          lined_number plan.layout.repeaters n.repeaters n.decided (tap.device - stations) tap.port shape.lines port.1 in
          rw (le-ltb tap.device stations port.0) (omega (arith, number))
    ]

-- what a kept tap hears
pub tap_hears : (plan : Plan) (t : ℕ) (k : KeptNet) (tap : Tap) (s : Sym) → Stands (net plan t) k → HasTap plan.layout tap
    → ((n : Net) → Stands n k → s ≡ get_or (heard_in n) (kept_tap_number (length n.senders) n.repeaters tap.device tap.port) Idle)
    → s ≡ tap_heard plan t tap
tap_hears plan t k tap s stands has says = says (net plan t) stands ∙ ap (λ q. get_or (heard_in (net plan t)) q Idle) (number_is plan t tap has)
