-- The end of a probe, from what was read and what was written.
use Rattle.std.proofs.Common.{◌≡◌, ℕ, ◌≤◌, Ok, List, sym, subst, ◌∙◌, inl, inr}
use Rattle.layout.specs.declared.lines.Layout.{Layout}
use Rattle.line_probe.specs.declared.tap.Tap.{Tap}
use Rattle.load_plan.specs.declared.plan.Plan.{Plan}
use Rattle.run_endings.specs.declared.endings.Ending.{Ending}
use Rattle.run_endings.specs.declared.endings.Ending.TheVariants as ending
use Rattle.run_endings.specs.Endings.{HasOnlyRead, IsEarly, IsJudged, IsText, IsUnloadedSaid, IsWriteFailure}
use Rattle.program_endings.specs.ProbeEnds.{AreTapsTold, IsAimEnd, IsProbeEnd}
use Rattle.run_endings.specs.Moments.{Moment}
use Rattle.program_words.specs.declared.words.Report.{Report}
use Rattle.program_endings.specs.Probes.{AreTapsOf, half_bits_of}
use Rattle.run_endings.specs.Runs.{IsPlanOf}
use Rattle.run_endings.specs.Writing.{IsCutShort}
use Rattle.run_forms.proofs.RunEnds.{rose-before, said_before, text_before, unloaded_before}

-- the layout could not be read
pub probe-early : (told : Report) (layout : List ℕ) (from to : ℕ) (taps : List (List ℕ)) (before after : Moment) (e : Ending) → after.held ≡ before.held → IsEarly layout before after e → IsProbeEnd told layout from to taps before after e
probe-early told layout from to taps before after e held early = (held, inl early)

aim_before : (told : Report) (network : Layout) (to : ℕ) (taps : List (List ℕ)) (before mid after : Moment) (e : Ending) → HasOnlyRead before mid → IsAimEnd told network to taps mid after e → IsAimEnd told network to taps before after e
aim_before told network to taps before mid after ending.Probe read h = (h.0, h.1, said_before _ before mid after read h.2)
aim_before told network to taps before mid after ending.Memory read h = rw read.written at h
aim_before told network to taps before mid after _ read h = absurd h

-- what it aims at isn't there
pub probe-missed : (told : Report) (layout : List ℕ) (from to : ℕ) (taps : List (List ℕ)) (network : Layout) (before mid after : Moment) (e : Ending) → HasOnlyRead before mid → IsJudged layout before.held (Ok network) → after.held ≡ mid.held
    → IsAimEnd told network to taps mid after e → IsProbeEnd told layout from to taps before after e
probe-missed told layout from to taps network before mid after e read judged held missed =
    (held ∙ read.held, inr (inl (record { network = network; judged = judged; missed = aim_before told network to taps before mid after e read missed })))

-- the loads could not be read
pub probe-unloaded : (told : Report) (layout : List ℕ) (from to : ℕ) (words : List (List ℕ)) (network : Layout) (taps : List Tap) (before mid after : Moment) (e : Ending) → HasOnlyRead before mid → IsJudged layout before.held (Ok network)
    → AreTapsOf network words taps → to ≤ half_bits_of network → after.held ≡ mid.held → IsUnloadedSaid network mid after e → IsProbeEnd told layout from to words before after e
probe-unloaded told layout from to words network taps before mid after e read judged named within held said = (
  held ∙ read.held,
  inr (inr (inl (record { network = network; judged = judged; aim = record { taps = taps; named = named; within = within }; said = unloaded_before network before mid after e read said }))),
)

-- the taps were told
pub probe-told : (told : Report) (layout : List ℕ) (from to : ℕ) (words : List (List ℕ)) (network : Layout) (plan : Plan) (taps : List Tap) (before mid after : Moment) (e : Ending) → HasOnlyRead before mid → IsJudged layout before.held (Ok network)
    → IsPlanOf before.held network plan → AreTapsOf network words taps → to ≤ half_bits_of network → after.held ≡ mid.held
    → AreTapsTold told plan from to words taps mid after e → IsProbeEnd told layout from to words before after e
probe-told told layout from to words network plan taps before mid after e read judged planned named within held texts_told = (
  held ∙ read.held,
  elim texts_told [
    | inl unmade ↦ inl (early_memory e unmade.0 (unmade.1 ∙ read.written))
    | inr texts ↦ inr (inr (inr (record {
      text = texts.0;
      right = record {
        plan = plan;
        planned = record { network = network; judged = judged; is = planned };
        taps = taps;
        named = subst (λ (n : Layout). AreTapsOf n words taps) (sym planned.layout) named;
        within = subst (λ (n : Layout). to ≤ half_bits_of n) (sym planned.layout) within;
        lines = texts.1;
      };
      written = text_before texts.0 before mid after e read.written read.faults texts.2;
    })))
  ],
)
  where
    early_memory : (e : Ending) → e ≡ ending.Memory → after.written ≡ before.written → IsEarly layout before after e
    early_memory e is silent = subst (λ (a : Ending). IsEarly layout before after a) (sym is) silent

-- a text that wasn't written whole was cut short
pub cut_by : (text : List ℕ) (before after : Moment) (e : Ending) → IsText text before after e → IsWriteFailure e → IsCutShort text before.written after.written
cut_by text before after ending.Done told failed = elim failed [ inl a ↦ absurd (cc) | inr b ↦ absurd (cc) ]
cut_by text before after ending.Write told failed = told.0
cut_by text before after ending.Memory told failed = told
cut_by text before after _ told failed = absurd told

-- a whole text is cut short where a part of it wasn't written whole
pub cut_with : (whole text : List ℕ) (before mid after : Moment) (e : Ending) → IsCutShort whole before.written after.written → before.faults ≤ mid.faults → IsText text mid after e → IsWriteFailure e → IsText whole before after e
cut_with whole text before mid after ending.Done cut le told failed = elim failed [ inl a ↦ absurd (cc) | inr b ↦ absurd (cc) ]
cut_with whole text before mid after ending.Write cut le told failed = (cut, rose-before before.faults mid.faults after.faults le told.1)
cut_with whole text before mid after ending.Memory cut le told failed = cut
cut_with whole text before mid after _ cut le told failed = absurd told
