-- A line of the log without its line feed.
use Rattle.std.proofs.Common.{◌≡◌, ℕ, ◌+◌, ◌-◌, ◌≤◌, List, [], ◌∷◌, ◌++◌, length, take, codes, refl, sym, ap, ◌∙◌, arith, length-append}
use Rattle.std.proofs.lemmas.List.{length-take-le, take-take, take_at}
use Rattle.log_meter.specs.Lines.{entry_text}
use Rattle.log_meter.specs.declared.line.LogLine.{LogLine}
use Rattle.run_picture.specs.Marks.{title_of}

-- a line of the log is its title and a line feed
pub line_is_title : (line : LogLine) → entry_text line ≡ title_of line ++ codes "\n"
unfolding title_of
line_is_title line = refl

-- the front of a room holds a title and one octet more
pub title_len : (room title : List ℕ) (n z : ℕ) → n ≤ length room → take n room ≡ title ++ z ∷ [] → n ≡ length title + 1
title_len room title n z h e = omega (arith, length-take-le n room h, ap length e, length-append title (z ∷ []))

pub title_taken : (room title : List ℕ) (n z : ℕ) → n ≤ length room → take n room ≡ title ++ z ∷ [] → take (n - 1) room ≡ title
title_taken room title n z h e =
    let len : n ≡ length title + 1 = title_len room title n z h e in
    sym (take-take (n - 1) n room (omega arith)) ∙ ap (take (n - 1)) e ∙ take_at title (z ∷ []) (n - 1) (omega arith)
