-- One port more of a repeater.
use Rattle.std.proofs.Common.{◌≡◌, ℕ, ◌+◌, List, [], ◌∷◌, ◌++◌, map, ap, sym, ◌∙◌, arith, refl, append_assoc}
use Rattle.std.proofs.lemmas.List.{map_push}
use Rattle.std.proofs.lemmas.List.FromFn.{map-range_with_len_more}
use Rattle.run_checkpoint.specs.Places.{NamedPort, ports_named}
use Rattle.run_checkpoint.specs.PortNames.{named_port}
use Rattle.run_checkpoint.specs.declared.places.PortName.{PortName}

pub port_pushed : (new old : List PortName) (start : List NamedPort) (name : List ℕ) (p : ℕ) (x : PortName) → new ≡ old ++ x ∷ [] → x.name.now ≡ name → x.port ≡ p + 1
    → map named_port old ≡ start ++ ports_named name p → map named_port new ≡ start ++ ports_named name (p + 1)
port_pushed new old start name p x pushed is number so_far =
    let f : ℕ → NamedPort = λ k. record { name = name; port = k + 1 } in
    let this : named_port x ≡ f p = rw (is, number) refl in
    ap (map named_port) pushed ∙ map_push named_port old x ∙ rw (so_far, this) (append_assoc start (ports_named name p) (f p ∷ []) ∙ ap (λ ps. start ++ ps) (sym (map-range_with_len_more f 0 p p (omega arith))))
