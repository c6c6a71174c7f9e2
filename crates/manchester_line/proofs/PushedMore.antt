-- One half bit more, after those that a decoder was given.
use Rattle.std.proofs.Common.{◌≡◌, List, [], ◌∷◌, ◌++◌, refl, sym, ap, ◌∙◌}
use Rattle.manchester_line.specs.declared.Sym.{Sym}
use Rattle.manchester_line.specs.Decoding.{Decoding, new_decoding, pushed, all_pushed}

pub all_pushed_more : (halves : List Sym) (d : Decoding) (s : Sym) → all_pushed d (halves ++ s ∷ []) ≡ pushed (all_pushed d halves) s
all_pushed_more [] d s = refl
all_pushed_more (a ∷ rest) d s = all_pushed_more rest (pushed d a) s

pub decodes_next : (halves : List Sym) (d e : Decoding) (s : Sym) → d ≡ all_pushed new_decoding halves → e ≡ pushed d s → e ≡ all_pushed new_decoding (halves ++ s ∷ [])
decodes_next halves d e s h m = m ∙ ap (λ x. pushed x s) h ∙ sym (all_pushed_more halves new_decoding s)
