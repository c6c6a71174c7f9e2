-- A repeater's step keeps what is asked of a state, and obeys the laws.
use Rattle.std.proofs.Common.{◌≡◌, ◌≢◌, ℕ, zero, suc, ◌+◌, ◌-◌, ◌*◌, ◌<◌, ◌≤◌, true, false, eqb, List, [], ◌∷◌, ◌++◌, length, map, take, drop, get_or, replicate, refl, sym, ap, ap₂, subst, ◌∙◌, arith, length-append, length-drop, mul-le-mul_right}
use Rattle.std.proofs.lemmas.Bool.Decides.{nat_tests}
use Rattle.std.proofs.lemmas.List.{get_or-map, length-map, length-replicate}
use Rattle.std.proofs.lemmas.List.Elements.{All-append, All-drop, All-take, All-replicate}
use Rattle.mac_parameters.specs.Parameters.{fragment_extension, jabber_limit}
use Rattle.repeater_core.specs.Limits.{counts_end}
use Rattle.mac_parameters.specs.Parameters.{greatest_delay}
use Rattle.mac_parameters.specs.Parameters.{most_ports}
use Rattle.manchester_line.specs.declared.Sym.{Sym}
use Rattle.manchester_line.specs.declared.Sym.TheVariants as sy
use Rattle.port_partition.specs.Guard.{Guard, new_guard}
use Rattle.repeater_core.specs.declared.modes.Mode.{Mode}
use Rattle.repeater_core.specs.declared.modes.Mode.TheVariants.{Idle, Repeat, Extend, RxClash, TxClash, OnePort}
use Rattle.repeater_core.specs.declared.modes.Activity.{Activity}
use Rattle.repeater_core.specs.Modes.{IsMode, count_of, jams_of, activity_from, mode_after, wish_of}
use Rattle.repeater_core.specs.Counts.{Count, Choice, choice, choice_awake, choices_from, resting_count}
use Rattle.repeater_core.specs.Delayed.{Delayed, moved_on}
use Rattle.repeater_core.specs.Laws.{HasNoClash, SendsNothing, IsLongFor, count_at, AreLong, RestWithoutOutput, Repeats, EndsLong}
use Rattle.repeater_core.specs.Step.{RepeaterDevice, IsState, guards_after, mode_next, chosen, SignalsAreRepeated}
use Rattle.repeater_core.proofs.SendsToOthers.{choose, IsWishFor, wish_is, IsRepeatable, repeatable, hears_as, Has, active, mode_sends, sends_to_others}
use Rattle.repeater_core.proofs.OutputIsLong.{output_is_long}

-- what a port makes of a wish
no_clash_awake : (s : Sym) (c : Count) → s ≢ sy.Clash → (choice_awake s c).symbol ≢ sy.Clash
no_clash_awake sy.Idle c h = λ e. cc
no_clash_awake sy.Hi c h = choose (λ (x : Choice). x.symbol ≢ sy.Clash) (eqb c.run jabber_limit) _ _ (λ _ e. cc) (λ _. h)
no_clash_awake sy.Lo c h = choose (λ (x : Choice). x.symbol ≢ sy.Clash) (eqb c.run jabber_limit) _ _ (λ _ e. cc) (λ _. h)
no_clash_awake sy.Clash c h = absurd (h refl)

no_clash_choice : (s : Sym) (c : Count) → s ≢ sy.Clash → (choice s c).symbol ≢ sy.Clash
no_clash_choice s c h = choose (λ (x : Choice). x.symbol ≢ sy.Clash) (eqb c.rest 0) (choice_awake s c) _ (λ _. no_clash_awake s c h) (λ _ e. cc)

busy_awake : (s : Sym) (c : Count) → s ≢ sy.Idle → (choice_awake s c).rests ≡ false → (choice_awake s c).symbol ≢ sy.Idle
busy_awake sy.Idle c h = absurd (h refl)
busy_awake sy.Hi c h = choose (λ (x : Choice). x.rests ≡ false → x.symbol ≢ sy.Idle) (eqb c.run jabber_limit) _ _ (λ _ r. absurd (cc)) (λ _ _. h)
busy_awake sy.Lo c h = choose (λ (x : Choice). x.rests ≡ false → x.symbol ≢ sy.Idle) (eqb c.run jabber_limit) _ _ (λ _ r. absurd (cc)) (λ _ _. h)
busy_awake sy.Clash c h = choose (λ (x : Choice). x.rests ≡ false → x.symbol ≢ sy.Idle) (eqb c.run jabber_limit) _ _ (λ _ r. absurd (cc)) (λ _ _. h)

busy_choice : (s : Sym) (c : Count) → s ≢ sy.Idle → (choice s c).rests ≡ false → (choice s c).symbol ≢ sy.Idle
busy_choice s c h = choose (λ (x : Choice). x.rests ≡ false → x.symbol ≢ sy.Idle) (eqb c.rest 0) (choice_awake s c) _ (λ _. busy_awake s c h) (λ _ r. absurd (cc))

-- the output is as long as the mode tells, unless it comes right after a rest
abbrev KeepsLong : Mode → ℕ → Choice → Type 0
KeepsLong mode q x = x.count.after_rest ≡ false → IsLongFor mode q x.count.run

abbrev LongBefore : Mode → ℕ → Count → Type 0
LongBefore mode q c = (SendsNothing mode q → IsLongFor mode q 0) × (c.after_rest ≡ false → ¬ SendsNothing mode q → IsLongFor mode q (c.run + 1))

keeps_awake : (mode : Mode) (q : ℕ) (s : Sym) (c : Count) → IsWishFor mode q s → LongBefore mode q c → KeepsLong mode q (choice_awake s c)
keeps_awake mode q sy.Idle c w h = λ _. h.0 (w.nothing refl)
keeps_awake mode q sy.Hi c w h = choose (KeepsLong mode q) (eqb c.run jabber_limit) _ _ (λ _ r. absurd (cc)) (λ _ r. h.1 r (w.something (λ e. cc)))
keeps_awake mode q sy.Lo c w h = choose (KeepsLong mode q) (eqb c.run jabber_limit) _ _ (λ _ r. absurd (cc)) (λ _ r. h.1 r (w.something (λ e. cc)))
keeps_awake mode q sy.Clash c w h = absurd (w.no_clash refl)

keeps : (mode : Mode) (q : ℕ) (s : Sym) (c : Count) → IsWishFor mode q s → LongBefore mode q c → KeepsLong mode q (choice s c)
keeps mode q s c w h = choose (KeepsLong mode q) (eqb c.rest 0) (choice_awake s c) _ (λ _. keeps_awake mode q s c w h) (λ _ r. absurd (cc))

pub fresh_long : (mode : Mode) (q : ℕ) → SendsNothing mode q → IsLongFor mode q 0
fresh_long Idle q h = refl
fresh_long (Repeat n i) q h = (λ _. refl, λ d. absurd (d h))
fresh_long (Extend n i j) q h = (λ _. refl, λ d. absurd (d h))
fresh_long (RxClash n i) q h = (λ _. refl, λ d. absurd (d h))
fresh_long (TxClash i) q h = absurd h
fresh_long (OnePort n i) q h = (λ _. refl, λ d. absurd (d h))

-- an output that ends
abbrev StopsLong : Count → Choice → Type 0
StopsLong c x = x.symbol ≡ sy.Idle → fragment_extension ≤ c.run

stops_awake : (mode : Mode) (q : ℕ) (s : Sym) (c : Count) → IsWishFor mode q s → (SendsNothing mode q → fragment_extension ≤ c.run) → StopsLong c (choice_awake s c)
stops_awake mode q sy.Idle c w h = λ _. h (w.nothing refl)
stops_awake mode q sy.Hi c w h = choose (StopsLong c) (eqb c.run jabber_limit) _ _ (λ full _. many c.run full) (λ _ e. absurd (cc))
  where
    many : (n : ℕ) → eqb n jabber_limit ≡ true → fragment_extension ≤ n
    many n e = grind (arith, nat_tests)
stops_awake mode q sy.Lo c w h = choose (StopsLong c) (eqb c.run jabber_limit) _ _ (λ full _. many c.run full) (λ _ e. absurd (cc))
  where
    many : (n : ℕ) → eqb n jabber_limit ≡ true → fragment_extension ≤ n
    many n e = grind (arith, nat_tests)
stops_awake mode q sy.Clash c w h = absurd (w.no_clash refl)

stops : (mode : Mode) (q : ℕ) (s : Sym) (c : Count) → IsWishFor mode q s → (SendsNothing mode q → fragment_extension ≤ c.run) → c.rest ≡ 0 → StopsLong c (choice s c)
stops mode q s c w h z = choose (StopsLong c) (eqb c.rest 0) (choice_awake s c) _ (λ _. stops_awake mode q s c w h) (λ e. absurd (let f : eqb c.rest 0 ≡ true = grind (arith, nat_tests) in let no : true ≡ false = sym f ∙ e in cc))

-- the ports one by one
pub length_choices : (mode : Mode) (ss : List Sym) (k : ℕ) (cs : List Count) → length (choices_from mode ss k cs) ≡ length cs
length_choices mode ss k [] = refl
length_choices mode ss k (c ∷ cs) = ap suc (length_choices mode ss (k + 1) cs)

pub length_chosen : (hears : List Sym) (r : RepeaterDevice) → length (chosen hears r) ≡ length r.counts
unfolding chosen
length_chosen hears r = length_choices (mode_next hears r) hears 0 r.counts

pub choice_of : (mode : Mode) (ss : List Sym) (k q : ℕ) (cs : List Count) (x : Choice) → q < length cs → get_or (choices_from mode ss k cs) q x ≡ choice (wish_of mode ss (k + q)) (count_at cs q)
choice_of mode ss k q [] x l = absurd (omega arith)
choice_of mode ss k zero (c ∷ cs) x l = let e : k ≡ k + 0 = omega arith in ap (λ n. choice (wish_of mode ss n) c) e
choice_of mode ss k (suc q) (c ∷ cs) x l = choice_of mode ss (k + 1) q cs x (omega arith) ∙ (let e : k + 1 + q ≡ k + suc q = omega arith in ap (λ n. choice (wish_of mode ss n) (count_at cs q)) e)

-- a field of the choices at port q
pub at_port : {A : Type 0} (f : Choice → A) (mode : Mode) (ss : List Sym) (cs : List Count) (q : ℕ) (d : A) → q < length cs → get_or (map f (choices_from mode ss 0 cs)) q d ≡ f (choice (wish_of mode ss q) (count_at cs q))
at_port f mode ss cs q d l =
    let m : q < length (choices_from mode ss 0 cs) = (let e = length_choices mode ss 0 cs in omega (arith, e)) in
    let x = choice sy.Idle (resting_count 0) in
    let e : 0 + q ≡ q = omega arith in
    get_or-map f (choices_from mode ss 0 cs) q x d m ∙ ap f (choice_of mode ss 0 q cs x l) ∙ ap (λ n. f (choice (wish_of mode ss n) (count_at cs q))) e

-- the mode's counts
count_mode : (mode : Mode) (a : Activity) → IsMode mode → IsMode (mode_after mode a)
count_mode mode a h = record { count_below = below mode a h; jams_within = within mode a h }
  where
    below : (mode : Mode) (a : Activity) → IsMode mode → count_of (mode_after mode a) < counts_end
    below mode a h = grind (arith, nat_tests)

    within : (mode : Mode) (a : Activity) → IsMode mode → jams_of (mode_after mode a) ≤ count_of (mode_after mode a)
    within mode a h = grind (arith, nat_tests)

-- the guards
pub length_guards : (gs : List Guard) (hs es : List Sym) → length hs ≡ length gs → length es ≡ length gs → length (guards_after gs hs es) ≡ length gs
length_guards [] hs es l m = refl
length_guards (g ∷ gs) [] es l m = absurd (omega arith)
length_guards (g ∷ gs) (h ∷ hs) [] l m = absurd (omega arith)
length_guards (g ∷ gs) (h ∷ hs) (e ∷ es) l m = ap suc (length_guards gs hs es (omega arith) (omega arith))

-- the line
rows_fit : (d n k : ℕ) → 1 ≤ d → k ≡ d * n → k - n + n ≡ d * n
rows_fit d n k h e = let m : 1 * n ≤ d * n = mul-le-mul_right n h in omega (arith, m, e)

line_kept : (line before : Delayed) (decided : List Sym) (n : ℕ) → line ≡ moved_on decided before → before.ports ≡ n → length decided ≡ n → 1 ≤ before.delay → length before.rows ≡ before.delay * n → HasNoClash before.rows → HasNoClash decided
    → (line.ports ≡ n) × (line.delay ≡ before.delay) × (length line.rows ≡ before.delay * n) × HasNoClash line.rows
line_kept line before decided n is p l d r c e =
    let len : length (drop before.ports before.rows ++ decided) ≡ before.delay * n =
    length-append (drop before.ports before.rows) decided ∙ (let m = length-drop before.ports before.rows in let f = rows_fit before.delay n (length before.rows) d r in omega (arith, m, l, p, f)) in
    subst (λ (x : Delayed). (x.ports ≡ n) × (x.delay ≡ before.delay) × (length x.rows ≡ before.delay * n) × HasNoClash x.rows) (sym is)
    (p, refl, len, All-append (λ s. s ≢ sy.Clash) (drop before.ports before.rows) decided (All-drop (λ s. s ≢ sy.Clash) before.ports before.rows c) e)

-- the choices
no_clash_decided : (mode : Mode) (ss : List Sym) (cs : List Count) → IsRepeatable ss mode → HasNoClash (map (λ c. c.symbol) (choices_from mode ss 0 cs))
no_clash_decided mode ss cs f = λ k d l.
    let m : k < length cs = (let e = length-map (choices_from mode ss 0 cs) (λ (c : Choice). c.symbol) in let g = length_choices mode ss 0 cs in omega (arith, e, g)) in
    subst (λ s. s ≢ sy.Clash) (sym (at_port (λ c. c.symbol) mode ss cs k d m)) (no_clash_choice (wish_of mode ss k) (count_at cs k) (wish_is ss mode k f).no_clash)

long_kept : (mode : Mode) (a : Activity) (ss : List Sym) (cs : List Count) → IsRepeatable ss (mode_after mode a) → AreLong mode cs → AreLong (mode_after mode a) (map (λ c. c.count) (choices_from (mode_after mode a) ss 0 cs))
long_kept mode a ss cs f h = λ q l.
    let m : q < length cs = (let e = length-map (choices_from (mode_after mode a) ss 0 cs) (λ (c : Choice). c.count) in let g = length_choices (mode_after mode a) ss 0 cs in omega (arith, e, g)) in
    subst (λ (c : Count). c.after_rest ≡ false → IsLongFor (mode_after mode a) q c.run) (sym (at_port (λ c. c.count) (mode_after mode a) ss cs q (resting_count 0) m))
    (keeps (mode_after mode a) q (wish_of (mode_after mode a) ss q) (count_at cs q) (wish_is ss (mode_after mode a) q f)
    (fresh_long (mode_after mode a) q, λ r n. (output_is_long mode a q (count_at cs q).run (h q m r)).1 n))

no_output_awake : (s : Sym) (c : Count) → 0 < (choice_awake s c).count.rest → (choice_awake s c).count.run ≡ 0
no_output_awake sy.Idle c = λ h. refl
no_output_awake sy.Hi c = choose (λ (x : Choice). 0 < x.count.rest → x.count.run ≡ 0) (eqb c.run jabber_limit) _ _ (λ _ h. refl) (λ _ h. absurd (omega arith))
no_output_awake sy.Lo c = choose (λ (x : Choice). 0 < x.count.rest → x.count.run ≡ 0) (eqb c.run jabber_limit) _ _ (λ _ h. refl) (λ _ h. absurd (omega arith))
no_output_awake sy.Clash c = choose (λ (x : Choice). 0 < x.count.rest → x.count.run ≡ 0) (eqb c.run jabber_limit) _ _ (λ _ h. refl) (λ _ h. absurd (omega arith))

no_output_choice : (s : Sym) (c : Count) → 0 < (choice s c).count.rest → (choice s c).count.run ≡ 0
no_output_choice s c = choose (λ (x : Choice). 0 < x.count.rest → x.count.run ≡ 0) (eqb c.rest 0) (choice_awake s c) _ (λ _. no_output_awake s c) (λ _ h. refl)

no_output_kept : (mode : Mode) (ss : List Sym) (k : ℕ) (cs : List Count) (q : ℕ) → 0 < (count_at (map (λ c. c.count) (choices_from mode ss k cs)) q).rest → (count_at (map (λ c. c.count) (choices_from mode ss k cs)) q).run ≡ 0
no_output_kept mode ss k [] q = λ h. refl
no_output_kept mode ss k (c ∷ cs) zero = no_output_choice (wish_of mode ss k) c
no_output_kept mode ss k (c ∷ cs) (suc q) = no_output_kept mode ss (k + 1) cs q

-- a step from its parts
pub step_state : (mode : Mode) (guards : List Guard) (counts : List Count) (line : Delayed) (ss : List Sym) (r : RepeaterDevice)
    → mode ≡ mode_after r.mode (activity_from 0 r.guards ss) → length guards ≡ length r.guards → counts ≡ map (λ c. c.count) (choices_from mode ss 0 r.counts)
    → line ≡ moved_on (map (λ c. c.symbol) (choices_from mode ss 0 r.counts)) r.line → IsState r
    → IsState (record { mode = mode; guards = guards; counts = counts; line = line })
step_state mode guards counts line ss r m g c e h =
    let a = activity_from 0 r.guards ss in
    let f : IsRepeatable ss mode = subst (IsRepeatable ss) (sym m) (repeatable ss r.mode a (hears_as 0 r.guards ss)) in
    let choices = choices_from mode ss 0 r.counts in
    let n : length choices ≡ length r.guards = length_choices mode ss 0 r.counts ∙ h.counts_len in
    let kept = line_kept line r.line (map (λ c. c.symbol) choices) (length r.guards) e h.line_ports (length-map choices (λ c. c.symbol) ∙ n) h.some_delay h.rows_len h.no_clash (no_clash_decided mode ss r.counts f) in
    let delay : line.delay ≡ r.line.delay = kept.1 in
    record {
      two_ports = subst (λ n. 2 ≤ n) (sym g) h.two_ports;
      ports_at_most = subst (λ n. n ≤ most_ports) (sym g) h.ports_at_most;
      counts_len = ap length c ∙ length-map choices (λ c. c.count) ∙ n ∙ sym g;
      line_ports = kept.0 ∙ sym g;
      some_delay = subst (λ n. 1 ≤ n) (sym delay) h.some_delay;
      delay_at_most = subst (λ n. n ≤ greatest_delay) (sym delay) h.delay_at_most;
      rows_len = kept.2 ∙ ap₂ ◌*◌ (sym delay) (sym g);
      mode_counts = subst IsMode (sym m) (count_mode r.mode a h.mode_counts);
      no_clash = kept.3;
      long = subst (AreLong mode) (sym c) (subst (λ x. AreLong x (map (λ c. c.count) (choices_from x ss 0 r.counts))) (sym m) (long_kept r.mode a ss r.counts (repeatable ss r.mode a (hears_as 0 r.guards ss)) h.long));
      rest_without_output = subst RestWithoutOutput (sym c) (no_output_kept mode ss 0 r.counts);
    }

-- the laws
pub repeats : (gs : List Guard) (ss : List Sym) (mode : Mode) (cs : List Count) → length ss ≡ length gs
    → Repeats (map (λ g. g.closed) gs) ss (map (λ c. c.rests) (choices_from (mode_after mode (activity_from 0 gs ss)) ss 0 cs)) (map (λ c. c.symbol) (choices_from (mode_after mode (activity_from 0 gs ss)) ss 0 cs))
repeats gs ss mode cs len = λ p q lp lq d o h r.
    let a = activity_from 0 gs ss in
    let after' = mode_after mode a in
    let choices = choices_from after' ss 0 cs in
    let lg : p < length gs = (let e = length-map gs (λ (g : Guard). g.closed) in omega (arith, e)) in
    let lc : q < length cs = (let e = length-map choices (λ (c : Choice). c.symbol) in let g = length_choices after' ss 0 cs in omega (arith, e, g)) in
    let open' : (get_or gs p new_guard).closed ≡ false = sym (get_or-map (λ (g : Guard). g.closed) gs p new_guard true lg) ∙ o in
    let has : Has p a = subst (λ n. Has n a) {x = 0 + p} {y = p} (omega arith) (active 0 gs ss p new_guard lg (omega arith) open' h) in
    let sends = sends_to_others after' p q (mode_sends mode p a has) d in
    let wish = wish_is ss after' q (repeatable ss mode a (hears_as 0 gs ss)) in
    subst (λ s. s ≢ sy.Idle) (sym (at_port (λ c. c.symbol) after' ss cs q sy.Idle lc))
    (busy_choice (wish_of after' ss q) (count_at cs q) (λ e. sends (wish.nothing e)) (sym (at_port (λ c. c.rests) after' ss cs q true lc) ∙ r))

pub signals : SignalsAreRepeated
unfolding chosen mode_next
signals r hears len = repeats r.guards hears r.mode r.counts len

no_rest : (rest run : ℕ) → (0 < rest → run ≡ 0) → 0 < run → rest ≡ 0
no_rest zero run f h = refl
no_rest (suc n) run f h = let z : run ≡ 0 = f (omega arith) in absurd (omega arith)

pub ends_long : (mode : Mode) (gs : List Guard) (ss : List Sym) (cs : List Count) → AreLong mode cs → RestWithoutOutput cs
    → EndsLong cs (map (λ c. c.symbol) (choices_from (mode_after mode (activity_from 0 gs ss)) ss 0 cs))
ends_long mode gs ss cs h z = λ q l r pos e.
    let a = activity_from 0 gs ss in
    let after' = mode_after mode a in
    let wish = wish_is ss after' q (repeatable ss mode a (hears_as 0 gs ss)) in
    stops after' q (wish_of after' ss q) (count_at cs q) wish (λ n. ((output_is_long mode a q (count_at cs q).run (h q l r)).0 n).0 pos) (no_rest (count_at cs q).rest (count_at cs q).run (z q) pos)
    (sym (at_port (λ c. c.symbol) after' ss cs q sy.Idle l) ∙ e)

pub no_clash : (mode : Mode) (gs : List Guard) (ss : List Sym) (cs : List Count) → HasNoClash (map (λ c. c.symbol) (choices_from (mode_after mode (activity_from 0 gs ss)) ss 0 cs))
no_clash mode gs ss cs = no_clash_decided (mode_after mode (activity_from 0 gs ss)) ss cs (repeatable ss mode (activity_from 0 gs ss) (hears_as 0 gs ss))

pub no_clash_emitted : (n : ℕ) (rows : List Sym) → HasNoClash rows → HasNoClash (take n rows)
no_clash_emitted n rows h = All-take (λ s. s ≢ sy.Clash) n rows h

-- where a repeater goes on
no_output_at_first : (rests : List ℕ) (q : ℕ) → (count_at (map resting_count rests) q).run ≡ 0
no_output_at_first [] q = refl
no_output_at_first (x ∷ xs) zero = refl
no_output_at_first (x ∷ xs) (suc q) = no_output_at_first xs q

pub resumed_state : (guards : List Guard) (counts : List Count) (line : Delayed) (rests : List ℕ) (delay : ℕ)
    → 2 ≤ length guards → length guards ≤ most_ports → length rests ≡ length guards → 1 ≤ delay → delay ≤ greatest_delay
    → counts ≡ map resting_count rests → line ≡ record { ports = length guards; delay = delay; rows = replicate (delay * length guards) sy.Idle }
    → IsState (record { mode = Idle; guards = guards; counts = counts; line = line })
resumed_state guards counts line rests delay two most len some few c e =
    subst (λ x. IsState (record { mode = Idle; guards = guards; counts = x; line = line })) (sym c)
    (subst (λ x. IsState (record { mode = Idle; guards = guards; counts = map resting_count rests; line = x })) (sym e) (record {
      two_ports = two;
      ports_at_most = most;
      counts_len = length-map rests resting_count ∙ len;
      line_ports = refl;
      some_delay = some;
      delay_at_most = few;
      rows_len = length-replicate (delay * length guards) sy.Idle;
      mode_counts = record { count_below = omega arith; jams_within = omega arith };
      no_clash = All-replicate (λ s. s ≢ sy.Clash) (delay * length guards) sy.Idle (λ x. cc);
      long = λ q l a. no_output_at_first rests q;
      rest_without_output = λ q h. no_output_at_first rests q;
    }))
