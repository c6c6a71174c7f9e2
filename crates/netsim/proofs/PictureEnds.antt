-- The end of a picture, from what was read and what was written.
use Rattle.std.proofs.Common.{◌≡◌, ℕ, ◌<◌, ◌≤◌, ◌^◌, Option, Ok, List, [], ◌∷◌, ◌++◌, length, length-append, append_assoc, ap, ap₂, sym, subst, ◌∙◌, inl, inr, arith}
use Rattle.std.specs.Prelude.{None, codes}
use Rattle.log_meter.proofs.WholeLines.{bare_line}
use Rattle.layout.specs.declared.lines.Layout.{Layout}
use Rattle.log_meter.specs.Lines.{entry_text}
use Rattle.log_meter.specs.Logs.{log_text}
use Rattle.log_meter.specs.declared.line.LogLine.{LogLine}
use Rattle.outside.specs.Files.{Files}
use Rattle.run_endings.specs.declared.endings.Ending.{Ending}
use Rattle.run_endings.specs.declared.endings.Ending.TheVariants as ending
use Rattle.run_endings.specs.Endings.{HasOnlyRead, IsEarly, IsJudged, IsText}
use Rattle.program_endings.specs.Endings.{IsDrawnEnd, IsPictureEnd, IsStrangeEnd, IsUnmetered}
use Rattle.program_endings.specs.Meters.{HasLog}
use Rattle.run_picture.specs.Pictures.{picture_of}
use Rattle.run_picture.specs.Strangers.{first_stranger}
use Rattle.run_endings.specs.Moments.{Moment}
use Rattle.run_forms.proofs.RunEnds.{rose-before, said_before, text_before}

-- the layout could not be read
pub picture-early : (layout log : List ℕ) (from to : ℕ) (before after : Moment) (e : Ending) → after.held ≡ before.held → IsEarly layout before after e → IsPictureEnd layout log from to before after e
picture-early layout log from to before after e held early = (held, inl early)

pub unmetered_before : (log : List ℕ) (before mid after : Moment) (e : Ending) → HasOnlyRead before mid → IsUnmetered log mid after e → IsUnmetered log before after e
unmetered_before log before mid after ending.Read read said =
    (elim said.0 [ inl absent ↦ inl (rw read.held at absent) | inr rose ↦ inr (rose-before before.reads mid.reads after.reads read.reads rose) ], said_before _ before mid after read said.1)
unmetered_before log before mid after ending.Memory read said = rw read.written at said
unmetered_before log before mid after ending.Log read said = (said.0, rw read.held at said.1, said_before _ before mid after read said.2)
unmetered_before log before mid after _ read said = absurd said

-- the log could not be read
pub picture-unlogged : (layout log : List ℕ) (from to : ℕ) (network : Layout) (before mid after : Moment) (e : Ending) → HasOnlyRead before mid → IsJudged layout before.held (Ok network) → after.held ≡ mid.held → IsUnmetered log mid after e
    → IsPictureEnd layout log from to before after e
picture-unlogged layout log from to network before mid after e read judged held said =
    (held ∙ read.held, inr (inl (record { network = network; judged = judged; said = unmetered_before log before mid after e read said })))

pub log_before : (log : List ℕ) (held now : Option Files) (lines : List LogLine) → now ≡ held → HasLog log now lines → HasLog log held lines
log_before log held now lines is has = rw is at has

strange_before : (network : Layout) (lines : List LogLine) (before mid after : Moment) (e : Ending) → HasOnlyRead before mid → IsStrangeEnd network lines mid after e → IsStrangeEnd network lines before after e
strange_before network lines before mid after ending.Stranger read h = (h.0, h.1, said_before _ before mid after read h.2)
strange_before network lines before mid after ending.Memory read h = rw read.written at h
strange_before network lines before mid after _ read h = absurd h

drawn_before : (network : Layout) (lines : List LogLine) (from to : ℕ) (before mid after : Moment) (e : Ending) → HasOnlyRead before mid → IsDrawnEnd network lines from to mid after e → IsDrawnEnd network lines from to before after e
drawn_before network lines from to before mid after e read h =
    elim h [
      | inl strange ↦ inl (strange_before network lines before mid after e read strange)
      | inr drawn ↦ inr (record { known = drawn.known; text = text_before (picture_of network lines from to) before mid after e read.written read.faults drawn.text })
    ]

-- the lines were drawn, or one of them names what the layout lacks
pub picture-drawn : (layout log : List ℕ) (from to : ℕ) (network : Layout) (lines : List LogLine) (before aimed mid after : Moment) (e : Ending) → HasOnlyRead before aimed → HasOnlyRead before mid → IsJudged layout before.held (Ok network)
    → HasLog log aimed.held lines → after.held ≡ mid.held → IsDrawnEnd network lines from to mid after e → IsPictureEnd layout log from to before after e
picture-drawn layout log from to network lines before aimed mid after e first read judged has held drawn = (
  held ∙ read.held,
  inr (inr (record { network = network; judged = judged; lines = lines; read = log_before log before.held aimed.held lines first.held has; drawn = drawn_before network lines from to before mid after e read drawn })),
)

-- this text, which is the picture of the lines, was written, or a front of it
pub lines_pictured : (network : Layout) (lines : List LogLine) (from to first last : ℕ) (before after : Moment) (e : Ending) (text : List ℕ) → None ≡ first_stranger network lines → text ≡ picture_of network lines first last → first ≡ from → last ≡ to
    → IsText text before after e → IsDrawnEnd network lines from to before after e
lines_pictured network lines from to first last before after e text known is begins ends told =
    inr (record { known = sym known; text = subst (λ octets. IsText octets before after e) (is ∙ ap₂ (picture_of network lines) begins ends) told })

-- a line and its line feed, before more octets
fed_onto : (l : LogLine) (more : List ℕ) → entry_text l ++ more ≡ bare_line l ++ 10 ∷ more
fed_onto l more = append_assoc (bare_line l) (codes "\n") more

-- a log has no more lines than octets
pub lines_long : (lines : List LogLine) → length lines ≤ length (log_text lines)
lines_long [] = omega arith
lines_long (l ∷ ls) = omega (arith, ap length (fed_onto l (log_text ls)), length-append (bare_line l) (10 ∷ log_text ls), lines_long ls)

pub lines_few : (log : List ℕ) (held : Option Files) (lines : List LogLine) → HasLog log held lines → length lines < 2 ^ 32
lines_few log held lines has = omega (arith, lines_long lines, ap length has.log_of.text, has.few)
