-- What a leap over steady half bits makes of a repeater, told by what its calls give. r is the repeater as it is kept,
-- and s the same one as the contract names it.
use Rattle.std.proofs.Common.{◌≡◌, ℕ, ◌-◌, ◌<◌, List, length, map, get_or, sym, ap, ap₂, subst, ◌∙◌}
use Rattle.std.specs.Fn.{iterate}
use Rattle.manchester_line.specs.declared.Sym.{Sym}
use Rattle.manchester_line.specs.declared.Sym.TheVariants.{Idle}
use Rattle.manchester_line.specs.Line.{is_signal}
use Rattle.port_partition.specs.Guard.{Guard}
use Rattle.repeater_core.specs.declared.modes.Mode.{Mode}
use Rattle.repeater_core.specs.Counts.{Count, Choice, choices_from}
use Rattle.repeater_core.specs.Delayed.{Delayed, oldest}
use Rattle.repeater_core.specs.Step.{RepeaterDevice, IsState, after, emitted_by, decided_by}
use Rattle.repeater_core.specs.Steady.{mode_on, IsSteady, sent_text, texted, kinds_of, at_each, guard_by, count_by, line_later, HaveNoEvents, AreSentFor}
use Rattle.repeater_core.specs.Classes.{after_rows, texts_after, line_with, IsOfSource, AreHeardAs}
use Rattle.repeater_core.proofs.SteadyMost.{last_emitted, last_decided}
use Rattle.repeater_core.proofs.SteadyState.{first_decided, have_no_events, are_sent, texts_are, leapt, state_later}
use Rattle.repeater_core.proofs.SteadyRows.{state_is, later_state, leapt_classes, texts_alike}

-- what may be taken for granted: r is a repeater, hears a symbol for each port, and its next n half bits are steady
pub record MayLeap (n : ℕ) (hears : List Sym) (r : RepeaterDevice) : Type 0 where
  pub state : IsState r
  pub ports : length hears ≡ length r.guards
  pub steady : IsSteady hears r n

pub may_leap : (n : ℕ) (hears : List Sym) (r s : RepeaterDevice) → r ≡ s → IsState r → length hears ≡ length s.guards → IsSteady hears s n → MayLeap n hears r
may_leap n hears r s e h l steady = record {
  state = h;
  ports = l ∙ ap (λ (r : RepeaterDevice). length r.guards) (sym e);
  steady = subst (λ r. IsSteady hears r n) (sym e) steady;
}

-- what the first half bit emits and decides
pub no_event_heard : (n : ℕ) (hears es : List Sym) (gs : List Guard) (r : RepeaterDevice) → MayLeap n hears r → es ≡ emitted_by r → gs ≡ r.guards → HaveNoEvents n hears es gs
no_event_heard n hears es gs r may emits guards =
    subst (λ gs. HaveNoEvents n hears es gs) (sym guards)
    (subst (λ es. HaveNoEvents n hears es r.guards) (sym emits) (have_no_events n r hears may.state may.ports may.steady))

pub decided_first : (n : ℕ) (hears ds : List Sym) (m : Mode) (cs : List Count) (r : RepeaterDevice) → MayLeap n hears r → 0 < n
    → ds ≡ map (λ c. c.symbol) (choices_from m hears 0 cs) → m ≡ mode_on r.mode → cs ≡ r.counts → ds ≡ decided_by hears r
decided_first n hears ds m cs r may some decides mode counts =
    decides ∙ ap₂ (λ m cs. map (λ (c : Choice). c.symbol) (choices_from m hears 0 cs)) mode counts ∙ first_decided n r hears may.steady some

pub sent_all_along : (n : ℕ) (hears ds : List Sym) (cs : List Count) (r : RepeaterDevice) → MayLeap n hears r → 0 < n → ds ≡ decided_by hears r → cs ≡ r.counts → AreSentFor n ds cs
sent_all_along n hears ds cs r may some decided counts =
    subst (λ cs. AreSentFor n ds cs) (sym counts)
    (subst (λ ds. AreSentFor n ds r.counts) (sym decided) (are_sent n r hears may.state some may.steady))

pub texts_all_along : (n : ℕ) (hears ds : List Sym) (r : RepeaterDevice) → MayLeap n hears r → ds ≡ decided_by hears r
    → (k : ℕ) → k < n → map is_signal (texted (map is_signal ds) (sent_text (mode_on (iterate mode_on k r.mode)) hears)) ≡ map is_signal ds
texts_all_along n hears ds r may decided =
    subst (λ ds. (k : ℕ) → k < n → map is_signal (texted (map is_signal ds) (sent_text (mode_on (iterate mode_on k r.mode)) hears)) ≡ map is_signal ds) (sym decided)
    (texts_are n r hears may.steady)

-- each text leaves the signals where they are
pub texts_keep : (hears heard ds : List Sym) (r s : RepeaterDevice) → r ≡ s → MayLeap (length heard) hears r → 0 < length heard → IsOfSource s.mode hears heard → ds ≡ decided_by hears r
    → (k : ℕ) → k < length heard → map is_signal (texted (map is_signal ds) (get_or (texts_after r.mode heard) k Idle)) ≡ map is_signal ds
texts_keep hears heard ds r s same may some source decided =
    let here = subst (λ (r : RepeaterDevice). IsOfSource r.mode hears heard) (sym same) source in
    subst (λ ds. (k : ℕ) → k < length heard → map is_signal (texted (map is_signal ds) (get_or (texts_after r.mode heard) k Idle)) ≡ map is_signal ds) (sym decided)
    (texts_alike hears heard r may.state may.ports some here may.steady)

-- the guards and the counts after n half bits alike
guards_told : (n : ℕ) (hears es : List Sym) (gs gs' : List Guard) (r : RepeaterDevice) → es ≡ emitted_by r → gs ≡ r.guards
    → gs' ≡ at_each (λ x g. iterate (guard_by x) n g) (kinds_of hears (map is_signal es)) gs
    → gs' ≡ at_each (λ x g. iterate (guard_by x) n g) (kinds_of hears (map is_signal (emitted_by r))) r.guards
guards_told n hears es gs gs' r emits guards later =
    later ∙ ap₂ (λ es gs. at_each (λ x g. iterate (guard_by x) n g) (kinds_of hears (map is_signal es)) gs) emits guards

counts_told : (n : ℕ) (hears ds : List Sym) (cs cs' : List Count) (r : RepeaterDevice) → ds ≡ decided_by hears r → cs ≡ r.counts
    → cs' ≡ at_each (λ x c. iterate (count_by x) n c) (map is_signal ds) cs
    → cs' ≡ at_each (λ x c. iterate (count_by x) n c) (map is_signal (decided_by hears r)) r.counts
counts_told n hears ds cs cs' r decided counts later =
    later ∙ ap₂ (λ ds cs. at_each (λ x c. iterate (count_by x) n c) (map is_signal ds) cs) decided counts

-- the repeater after the leap is one, and the one that the contract names: its half bits emit es and decide ds as the
-- first
pub steady_leap : (n : ℕ) (hears es ds : List Sym) (r s : RepeaterDevice) (m : Mode) (gs gs' : List Guard) (cs cs' : List Count) (line : Delayed) → r ≡ s → MayLeap n hears r
    → es ≡ emitted_by r → ds ≡ decided_by hears r → gs ≡ r.guards → cs ≡ r.counts
    → m ≡ iterate mode_on n r.mode → gs' ≡ at_each (λ x g. iterate (guard_by x) n g) (kinds_of hears (map is_signal es)) gs
    → cs' ≡ at_each (λ x c. iterate (count_by x) n c) (map is_signal ds) cs → line ≡ line_later hears (map is_signal ds) n r.mode r.line
    → IsState (record { mode = m; guards = gs'; counts = cs'; line = line }) × (◌≡◌ {A = RepeaterDevice} (record { mode = m; guards = gs'; counts = cs'; line = line }) (iterate (after hears) n s))
steady_leap n hears es ds r s m gs gs' cs cs' line same may emits decided guards counts mode guards_later counts_later line_is =
    let is =
    leapt n r hears m gs' cs' line may.state may.ports may.steady mode
    (guards_told n hears es gs gs' r emits guards guards_later) (counts_told n hears ds cs cs' r decided counts counts_later)
    (line_is ∙ ap (λ ds. line_later hears (map is_signal ds) n r.mode r.line) decided) in
    (subst IsState (sym is) (state_later n r hears may.state may.ports), is ∙ ap (iterate (after hears) n) same)

pub class_leap : (hears heard es ds : List Sym) (r s : RepeaterDevice) (m : Mode) (gs gs' : List Guard) (cs cs' : List Count) (line : Delayed) → r ≡ s → MayLeap (length heard) hears r → 0 < length heard
    → IsOfSource s.mode hears heard → es ≡ emitted_by r → ds ≡ decided_by hears r → gs ≡ r.guards → cs ≡ r.counts
    → m ≡ iterate mode_on (length heard) r.mode → gs' ≡ at_each (λ x g. iterate (guard_by x) (length heard) g) (kinds_of hears (map is_signal es)) gs
    → cs' ≡ at_each (λ x c. iterate (count_by x) (length heard) c) (map is_signal ds) cs → line ≡ line_with (map is_signal ds) (texts_after r.mode heard) r.line
    → IsState (record { mode = m; guards = gs'; counts = cs'; line = line })
    × ((rows : List (List Sym)) → AreHeardAs hears s.mode heard rows → ◌≡◌ {A = RepeaterDevice} (record { mode = m; guards = gs'; counts = cs'; line = line }) (after_rows rows s))
class_leap hears heard es ds r s m gs gs' cs cs' line same may some source emits decided guards counts mode guards_later counts_later line_is =
    let is =
    leapt_classes hears heard r m gs' cs' line may.state may.ports mode
    (guards_told (length heard) hears es gs gs' r emits guards guards_later) (counts_told (length heard) hears ds cs cs' r decided counts counts_later)
    (line_is ∙ ap (λ ds. line_with (map is_signal ds) (texts_after r.mode heard) r.line) decided) in
    let source_here = subst (λ (r : RepeaterDevice). IsOfSource r.mode hears heard) (sym same) source in (
      subst IsState (sym is) (later_state hears heard r may.state may.ports some source_here may.steady),
      λ rows told. is ∙ state_is rows hears heard r may.steady (subst (λ (r : RepeaterDevice). AreHeardAs hears r.mode heard rows) (sym same) told) ∙ ap (after_rows rows) same,
    )

-- what the last of them emits and decides
pub emitted_last : (n : ℕ) (hears ds out : List Sym) (r s : RepeaterDevice) → r ≡ s → MayLeap n hears r → 0 < n → ds ≡ decided_by hears r
    → out ≡ oldest (line_later hears (map is_signal ds) (n - 1) r.mode r.line) → out ≡ emitted_by (iterate (after hears) (n - 1) s)
emitted_last n hears ds out r s same may some decided e =
    e ∙ ap (λ ds. oldest (line_later hears (map is_signal ds) (n - 1) r.mode r.line)) decided
    ∙ sym (last_emitted n r hears may.steady some) ∙ ap (λ r. emitted_by (iterate (after hears) (n - 1) r)) same

pub decided_last : (n : ℕ) (hears ds out : List Sym) (r s : RepeaterDevice) → r ≡ s → MayLeap n hears r → 0 < n → ds ≡ decided_by hears r
    → out ≡ texted (map is_signal ds) (sent_text (iterate mode_on n r.mode) hears) → out ≡ decided_by hears (iterate (after hears) (n - 1) s)
decided_last n hears ds out r s same may some decided e =
    e ∙ ap (λ ds. texted (map is_signal ds) (sent_text (iterate mode_on n r.mode) hears)) decided
    ∙ sym (last_decided n r hears may.steady some) ∙ ap (λ r. decided_by hears (iterate (after hears) (n - 1) r)) same
