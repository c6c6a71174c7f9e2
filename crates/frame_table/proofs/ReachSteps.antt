-- Whom a frame reached, station by station.
use Rattle.std.proofs.Common.{◌≡◌, ◌≢◌, ℕ, suc, ◌+◌, ◌<◌, ◌==◌, ◌&&◌, nat_lt, cond, not, Bool, true, false, refl, sym, ap, ap₂, ◌∙◌, subst, inl, inr, List, [], ◌∷◌, ◌++◌, length, Option, None, Some, count_by, filter, append-nil, arith, eqb-true, eq-eqb}
use Rattle.std.specs.List.{list_all}
use Rattle.std.proofs.lemmas.Bool.{cases_Bool}
use Rattle.std.proofs.lemmas.List.Elements.{filter-append}
use Rattle.layout.specs.Joined.{counted_up}
use Rattle.layout.specs.Paths.{IsPath, IsWalk, Path, length_of, place, step_length}
use Rattle.layout.specs.declared.lines.Layout.{Layout}
use Rattle.layout.specs.declared.lines.PortLine.{PortLine}
use Rattle.layout.specs.declared.ways.Attachment.{Attachment}
use Rattle.layout.specs.declared.ways.Attachment.TheVariants.{Station, Port}
use Rattle.layout.specs.declared.ways.Way.{Way}
use Rattle.layout.specs.declared.ways.Way.TheVariants as way
use Rattle.layout.proofs.Cuts.{mapped}
use Rattle.log_meter.specs.declared.line.LogLine.{LogLine}
use Rattle.frame_table.specs.Devices.{events_of}
use Rattle.frame_table.specs.Led.{IsRoute}
use Rattle.frame_table.specs.Ports.{is_open}
use Rattle.frame_table.specs.Reached.{is_entered, is_missed, is_reached, others, reach_among, reach_of, was_sent}
use Rattle.frame_table.specs.Receptions.{has_received, receptions_of}
use Rattle.frame_table.specs.Told.{AreKnown, IsToldByLines, is_entered_by, is_reached_by, receptions_at, with_station}
use Rattle.frame_table.specs.Ways.{entries_on_path, entries_on}
use Rattle.frame_table.specs.declared.history.End.{End}
use Rattle.frame_table.specs.declared.reach.Reach.{Reach}
use Rattle.frame_table.specs.declared.routes.Led.{Led}
use Rattle.frame_table.specs.declared.told.ToldByLog.{ToldByLog}
use Rattle.frame_table.proofs.FoundLast.{count_push_yes, count_push_no}
use Rattle.frame_table.proofs.ReceptionsFound.{among_permuted}

-- ---- the other stations, one more

others_next : (a b : ℕ) → others a (b + 1) ≡ others a b ++ filter (λ x. not (x == a)) (b ∷ [])
others_next a b =
    let next : b + 1 ≡ suc b = omega arith in
    ap (others a) next ∙ filter-append (λ x. not (x == a)) (counted_up b) (b ∷ [])

pub others_same : (a b : ℕ) → (b == a) ≡ true → others a (b + 1) ≡ others a b
others_same a b same =
    let none : filter (λ x. not (x == a)) (b ∷ []) ≡ [] = rw same refl in
    others_next a b ∙ ap (λ xs. others a b ++ xs) none ∙ append-nil (others a b)

pub others_more : (a b : ℕ) → (b == a) ≡ false → others a (b + 1) ≡ others a b ++ b ∷ []
others_more a b other =
    let one : filter (λ x. not (x == a)) (b ∷ []) ≡ b ∷ [] = rw other refl in
    others_next a b ∙ ap (λ xs. others a b ++ xs) one

-- ---- what is kept of a way and of a port is what the log tells

entered_same : (l : Layout) (lines : List LogLine) (told : ToldByLog) (t : ℕ) (w : Way) (a : Attachment) (ts : List Attachment) (b : Attachment) (n : ℕ) → IsToldByLines l lines told → IsWalk l w a ts b
    → list_all (is_entered_by told t) (entries_on l w a ts n) ≡ list_all (is_entered l lines t) (entries_on l w a ts n)
entered_same l lines told t w a [] b n h walk = refl
entered_same l lines told t way.Cable a (s ∷ ss) b n h walk = entered_same l lines told t way.Repeater s ss b (n + step_length l way.Cable a s) h walk.1
entered_same l lines told t way.Repeater (Station k) (s ∷ ss) b n h walk = entered_same l lines told t way.Cable s ss b (n + step_length l way.Repeater (Station k) s) h walk.1
entered_same l lines told t way.Repeater (Port r p) (s ∷ ss) b n h walk =
    let placed : (line : PortLine) × (place l (Port r p) ≡ Some line) = mapped (λ _. r) (place l (Port r p)) walk.0.part walk.0.from in
    ap₂ (λ x y. x && y) (ap (is_open (t + n)) (h.ports r p placed.0 placed.1)) (entered_same l lines told t way.Cable s ss b (n + step_length l way.Repeater (Port r p) s) h walk.1)

module _ (l : Layout) (lines : List LogLine) (paths : ℕ → ℕ → Path) (told : ToldByLog) (a : ℕ) (routes : List (Option Led)) (known : AreKnown l lines paths told a routes) where
  path_same : (b : ℕ) (route : Led) (far : IsRoute l a b route) → b < length l.stations → (a ≡ b → ⊥) → ◌≡◌ {A = Path} (record { begins = way.Cable; taps = far.is.taps }) (paths a b)
  path_same b route far low differ =
      let taps_differ : Station a ≢ Station b = λ e. let same : a ≡ b = cc in differ same in
      let leads : IsPath l (Station a) (record { begins = way.Cable; taps = far.is.taps }) (Station b) = subst (λ (x : Attachment). IsWalk l way.Cable (Station a) far.is.taps x) far.to far.is.leads in
      known.one.same (Station a) (Station b) taps_differ (record { begins = way.Cable; taps = far.is.taps }) (paths a b) leads (known.leads a b known.station low differ)

  pub length_same : (b : ℕ) (route : Led) → IsRoute l a b route → b < length l.stations → (a ≡ b → ⊥) → route.length ≡ length_of l (Station a) (paths a b)
  length_same b route far low differ = sym far.is.long ∙ ap (length_of l (Station a)) (path_same b route far low differ)

  pub reached_same : (octets t b : ℕ) (route : Led) → IsRoute l a b route → b < length l.stations → (a ≡ b → ⊥) → is_reached_by told octets t b route ≡ is_reached l lines octets t a b (paths a b)
  reached_same octets t b route far low differ =
      let heard : has_received (t + route.length) octets (receptions_at told.receptions.items b) ≡ has_received (t + length_of l (Station a) (paths a b)) octets (receptions_of (events_of l b lines)) =
      among_permuted (t + route.length) octets (receptions_of (events_of l b lines)) (receptions_at told.receptions.items b) (known.log.receptions b low).same
      ∙ ap (λ n. has_received (t + n) octets (receptions_of (events_of l b lines))) (length_same b route far low differ) in
      let open_all : list_all (is_entered_by told t) route.entries ≡ list_all (is_entered l lines t) (entries_on_path l (Station a) (paths a b)) =
      ap (list_all (is_entered_by told t)) (sym far.is.met)
      ∙ entered_same l lines told t way.Cable (Station a) far.is.taps route.stop.tap 0 known.log far.is.leads
      ∙ ap (λ p. list_all (is_entered l lines t) (entries_on_path l (Station a) p)) (path_same b route far low differ) in
      ap₂ (λ x y. x && y) heard open_all

-- ---- one more station

same_reach : (a b c d : ℕ) → a ≡ b → c ≡ d → ◌≡◌ {A = Reach} (record { reached = a; missed = c }) (record { reached = b; missed = d })
same_reach a b c d p q = rw (p, q) refl

not_missed : (x b : Bool) → b ≡ true → (x && not b) ≡ false
not_missed true b e = rw e refl
not_missed false b e = refl

missed_if : (x b : Bool) → b ≡ false → (x && not b) ≡ x
missed_if true b e = rw e refl
missed_if false b e = refl

-- station a itself does not count
pub reach_skips : (half_bits : ℕ) (l : Layout) (paths : ℕ → ℕ → Path) (lines : List LogLine) (octets t a b : ℕ) → b ≡ a → reach_among half_bits l paths lines octets t a (b + 1) ≡ reach_among half_bits l paths lines octets t a b
reach_skips half_bits l paths lines octets t a b same =
    let e : others a (b + 1) ≡ others a b = others_same a b (eq-eqb b a same) in
    same_reach _ _ _ _ (ap (count_by (λ x. is_reached l lines octets t a x (paths a x))) e) (ap (count_by (λ x. is_missed half_bits l lines octets t a x (paths a x))) e)

-- another one counts, by whether it was reached and whether the frame's end came to it in time
counts_more : (half_bits : ℕ) (l : Layout) (paths : ℕ → ℕ → Path) (lines : List LogLine) (told : ToldByLog) (octets t a b : ℕ) (route : Led) → (b == a) ≡ false
    → is_reached_by told octets t b route ≡ is_reached l lines octets t a b (paths a b) → route.length ≡ length_of l (Station a) (paths a b)
    → with_station told half_bits octets t b route (reach_among half_bits l paths lines octets t a b) ≡ reach_among half_bits l paths lines octets t a (b + 1)
counts_more half_bits l paths lines told octets t a b route apart reached long =
    let f : ℕ → Bool = λ x. is_reached l lines octets t a x (paths a x) in
    let g : ℕ → Bool = λ x. is_missed half_bits l lines octets t a x (paths a x) in
    let e : others a (b + 1) ≡ others a b ++ b ∷ [] = others_more a b apart in
    let late : nat_lt (t + route.length) half_bits ≡ nat_lt (t + length_of l (Station a) (paths a b)) half_bits = ap (λ n. nat_lt (t + n) half_bits) long in
    elim (cases_Bool (is_reached_by told octets t b route)) [
      | inl so ↦
          let got : f b ≡ true = sym reached ∙ so in
          let gone : g b ≡ false = not_missed (nat_lt (t + length_of l (Station a) (paths a b)) half_bits) (f b) got in
          rw so (same_reach _ _ _ _ (sym (ap (count_by f) e ∙ count_push_yes f (others a b) b got)) (sym (ap (count_by g) e ∙ count_push_no g (others a b) b gone)))
      | inr not_so ↦
          let lost : f b ≡ false = sym reached ∙ not_so in
          let if_late : g b ≡ nat_lt (t + route.length) half_bits = missed_if (nat_lt (t + length_of l (Station a) (paths a b)) half_bits) (f b) lost ∙ sym late in
          rw not_so (elim (cases_Bool (nat_lt (t + route.length) half_bits)) [
            | inl in_time ↦ rw in_time (same_reach _ _ _ _ (sym (ap (count_by f) e ∙ count_push_no f (others a b) b lost)) (sym (ap (count_by g) e ∙ count_push_yes g (others a b) b (if_late ∙ in_time))))
            | inr past ↦ rw past (same_reach _ _ _ _ (sym (ap (count_by f) e ∙ count_push_no f (others a b) b lost)) (sym (ap (count_by g) e ∙ count_push_no g (others a b) b (if_late ∙ past))))
          ])
    ]

-- where two numbers differ, the test says so
apart_of : (a b : ℕ) → (b ≡ a → ⊥) → (b == a) ≡ false
apart_of a b differ = elim (cases_Bool (b == a)) [ inl same ↦ absurd (differ (eqb-true b a same)) | inr other ↦ other ]

pub reach_more : (half_bits : ℕ) (l : Layout) (lines : List LogLine) (paths : ℕ → ℕ → Path) (told : ToldByLog) (a : ℕ) (routes : List (Option Led)) (octets t b : ℕ) (route : Led) (before : Reach) → AreKnown l lines paths told a routes
    → b < length routes → (b ≡ a → ⊥) → IsRoute l a b route → before ≡ reach_among half_bits l paths lines octets t a b
    → with_station told half_bits octets t b route before ≡ reach_among half_bits l paths lines octets t a (b + 1)
reach_more half_bits l lines paths told a routes octets t b route before known low differ far before_is =
    let within : b < length l.stations = omega (arith, known.count) in
    let other : a ≡ b → ⊥ = λ e. differ (sym e) in
    ap (with_station told half_bits octets t b route) before_is
    ∙ counts_more half_bits l paths lines told octets t a b route (apart_of a b differ) (reached_same l lines paths told a routes known octets t b route far within other) (length_same l lines paths told a routes known b route far within other)

-- what is told of a frame that was sent
pub sent_reach : (half_bits : ℕ) (l : Layout) (paths : ℕ → ℕ → Path) (lines : List LogLine) (octets a n : ℕ) (end : Option End) (e : End) (reach : Reach) → end ≡ Some e → was_sent e.outcome ≡ true → n ≡ length l.stations
    → reach ≡ reach_among half_bits l paths lines octets e.t a n → ◌≡◌ {A = Option Reach} (Some reach) (reach_of half_bits l paths lines octets a end)
sent_reach half_bits l paths lines octets a n end e reach is sent count told =
    let all : reach ≡ reach_among half_bits l paths lines octets e.t a (length l.stations) = told ∙ ap (reach_among half_bits l paths lines octets e.t a) count in
    let so : reach_of half_bits l paths lines octets a (Some e) ≡ Some (reach_among half_bits l paths lines octets e.t a (length l.stations)) =
    ap (λ (b : Bool). cond b (Some (reach_among half_bits l paths lines octets e.t a (length l.stations))) None) sent in
    ap (λ (r : Reach). Some r) all ∙ sym so ∙ sym (ap (reach_of half_bits l paths lines octets a) is)
