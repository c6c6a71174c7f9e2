-- Room for the rows of ports, port by port.
use Rattle.std.proofs.Common.{◌≡◌, ℕ, suc, ◌+◌, ◌/◌, length, length-append, sym, ap, ◌∙◌}
use Rattle.network.specs.Rows.{bits_bodies}
use Rattle.network.proofs.PortFlags.{bits_more}

-- the rows of the first port and those of the others
pub bits_split : (port left n c o h c' o' h' : ℕ) → left ≡ suc n → c' ≡ c / 2 → o' ≡ o / 2 → h' ≡ h / 2 →
    length (bits_bodies port left c o h) ≡ length (bits_bodies port 1 c o h) + length (bits_bodies (port + 1) n c' o' h')
bits_split port left n c o h c' o' h' e ec eo eh =
    ap (λ m. length (bits_bodies port m c o h)) e
    ∙ ap length (bits_more port n c o h)
    ∙ length-append (bits_bodies port 1 c o h) (bits_bodies (port + 1) n (c / 2) (o / 2) (h / 2))
    ∙ ap (λ m. length (bits_bodies port 1 c o h) + length (bits_bodies (port + 1) n m (o / 2) (h / 2))) (sym ec)
    ∙ ap (λ m. length (bits_bodies port 1 c o h) + length (bits_bodies (port + 1) n c' m (h / 2))) (sym eo)
    ∙ ap (λ m. length (bits_bodies port 1 c o h) + length (bits_bodies (port + 1) n c' o' m)) (sym eh)
