use Rattle.std.proofs.Common.{ℕ, List, ◌++◌, ◌∙◌, ap, codes}
use Rattle.std.proofs.lemmas.Result.{on_ok_weaker}
use Rattle.run_picture.specs.Head.{style, style_of_sendings, style_of_signs, style_of_words}
use Rattle.run_picture.proofs.PiecesJoined.{one_by_one, style_joined}
use Rattle.run_picture.proofs.head.add_style.Goals as goal

pub returns : goal.returns
unfolding style style_of_words style_of_sendings style_of_signs
returns c =
    on_ok_weaker c.add_pieces.result
    (λ e. one_by_one _ _ _ e ∙ ap (λ (xs : List ℕ). c.args.text.now ++ xs) (style_joined
    (codes "<style>svg{height:auto}text{font-family:sans-serif;font-size:1450px;fill:#222222}") (codes ".name,.segment{font-family:monospace}.segment{font-weight:bold}.long{font-size:1000px}") (codes ".name,.place,.axis{text-anchor:end}.place,.word{font-size:1200px;fill:#555555}") (codes ".tick,.axis{font-size:1300px}.tick{text-anchor:middle}") (codes ".lane{stroke:#999999;stroke-width:60}.line{stroke:#dddddd;stroke-width:60}") (codes ".wave,.front{fill:none;stroke:#555555;stroke-width:90}.wave{clip-path:url(#plot)}") (codes ".sent{fill:url(#sent);stroke:#1b5e9b;stroke-width:80}") (codes ".collided{fill:url(#collided);stroke:#a02020;stroke-width:80}") (codes ".given_up{fill:url(#given_up);stroke:#4a2070;stroke-width:80}") (codes ".cut{fill:url(#cut);stroke:#444444;stroke-width:80}") (codes ".hit{fill:#111111;stroke:#ffffff;stroke-width:60}.received{fill:#2e8b3d;stroke:#ffffff;stroke-width:60}") (codes ".dropped{fill:none;stroke:#a02020;stroke-width:200}.clash{fill:#f0a000;stroke:#663c00;stroke-width:70}") (codes ".closed{fill:#111111;stroke:#111111;stroke-width:120}") (codes ".opened{fill:#ffffff;stroke:#111111;stroke-width:120}") (codes ".halted{fill:#8a4fc0;stroke:#111111;stroke-width:100}</style>\n")))
    c.add_pieces.ensures
