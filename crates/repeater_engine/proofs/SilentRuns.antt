-- Runs of a repeater over half bits in which every port hears Idle and nothing happens.
use Rattle.std.proofs.Common.{◌≡◌, ℕ, zero, suc, ◌+◌, ◌*◌, ◌/◌, ◌<◌, ◌≤◌, min, All, Bool, true, false, List, [], ◌∷◌, ◌++◌, map, length, replicate, get_or, refl, sym, subst, ap, ap₂, ◌∙◌, arith, append-nil, mul-le-mul_right}
use Rattle.std.specs.Fn.{iterate}
use Rattle.std.proofs.lemmas.List.{get_or-map}
use Rattle.std.proofs.lemmas.Nat.{pow_pos, div-add-mod'}
use Rattle.manchester_line.specs.declared.Sym.{Sym}
use Rattle.manchester_line.specs.declared.Sym.TheVariants.{Idle}
use Rattle.collision_log.specs.declared.row.Body.TheVariants.{Clash, Halted}
use Rattle.collision_log.specs.declared.row.Row.{Row}
use Rattle.load_plan.specs.declared.plan.Plan.{Plan}
use Rattle.port_partition.specs.declared.guard.GuardEvent.{GuardEvent}
use Rattle.port_partition.specs.declared.guard.GuardEvent.TheVariants as event
use Rattle.repeater_core.specs.Calm.{silent_symbols, silent_step, IsUneventful, IsCalm}
use Rattle.repeater_core.specs.Counts.{Choice}
use Rattle.repeater_core.specs.Step.{RepeaterDevice, after, chosen, decided_by, emitted_by, guard_events, is_closing, is_opening, mask_from}
use Rattle.network.specs.Rows.{happened, guard_bodies, port_bodies, repeater_bodies, rows_of_bodies}
use Rattle.network.specs.Times.{decided}
use Rattle.net_parts.specs.RepeaterParts.{RepeaterState, repeater_step, edges_before, edges_in, edges_at}
use Rattle.net_parts.specs.Standing.{port_hears, repeater_state, repeater_at}
use Rattle.net_parts.specs.Parts.{edges_of_part}
use Rattle.net_parts.specs.Windows.{lookahead, time, windows}
use Rattle.net_parts.proofs.NetworkFacts.{repeater_facts}
use Rattle.net_parts.proofs.RepeaterSteps.{length-span, repeaters_go_on}
use Rattle.net_parts.proofs.WindowTimes.{begins_in_run}
use Rattle.repeater_engine.specs.CalmWindows.{PortsHearIdle, AreDecidedIdle}
use Rattle.repeater_engine.specs.RepeaterNumbers.{edges_at_part}

-- nothing happens where no flag is set
flag_off : (p : ℕ) (b : Bool) (bs : List Bool) → mask_from p (b ∷ bs) ≡ 0 → b ≡ false
flag_off p true bs h = absurd (let some = pow_pos p in omega (arith, some, h))
flag_off p false bs h = refl

flags_off : (p : ℕ) (b : Bool) (bs : List Bool) → mask_from p (b ∷ bs) ≡ 0 → mask_from (p + 1) bs ≡ 0
flags_off p true bs h = omega (arith, h)
flags_off p false bs h = omega (arith, h)

no_guard_body : (port : ℕ) (e : GuardEvent) → is_closing e ≡ false → is_opening e ≡ false → guard_bodies port e ≡ []
no_guard_body port event.None c o = refl
no_guard_body port event.Closed c o = absurd (let both : true ≡ false = c in cc)
no_guard_body port event.Opened c o = absurd (let both : true ≡ false = o in cc)

no_port_bodies : (p port : ℕ) (hs : List Bool) (es : List GuardEvent) → mask_from p hs ≡ 0 → mask_from p (map is_closing es) ≡ 0 → mask_from p (map is_opening es) ≡ 0 → port_bodies port hs es ≡ []
no_port_bodies p port [] es h c o = refl
no_port_bodies p port (x ∷ hs) [] h c o = refl
no_port_bodies p port (x ∷ hs) (e ∷ es) h c o =
    ap₂ (λ (b : Bool) xs. happened b (Halted port) ++ (xs ++ port_bodies (port + 1) hs es)) (flag_off p x hs h)
    (no_guard_body port e (flag_off p (is_closing e) (map is_closing es) c) (flag_off p (is_opening e) (map is_opening es) o))
    ∙ no_port_bodies (p + 1) (port + 1) hs es (flags_off p x hs h) (flags_off p (is_closing e) (map is_closing es) c) (flags_off p (is_opening e) (map is_opening es) o)

no_bodies : (r : RepeaterDevice) → IsUneventful r → repeater_bodies (silent_symbols r) r ≡ []
no_bodies r u =
    ap₂ (λ (b : Bool) xs. happened b Clash ++ xs) u.no_clash
    (no_port_bodies 0 1 (map (λ (c : Choice). c.halted) (chosen (silent_symbols r) r)) (guard_events r.guards (silent_symbols r) (emitted_by r)) u.none_halted u.none_closes u.none_opens)

-- calm for fewer half bits
pub calm_for_fewer : (m n : ℕ) (r : RepeaterDevice) → m ≤ n → IsCalm r n → IsCalm r m
calm_for_fewer m n r h c = record { at_most = let most = c.at_most in omega (arith, most, h); uneventful = λ k l. c.uneventful k (omega (arith, l, h)) }

map_idle : (f : ℕ → Sym) (es : List ℕ) → ((p : ℕ) → p < length es → f (get_or es p 0) ≡ Idle) → map f es ≡ replicate (length es) Idle
map_idle f [] h = refl
map_idle f (e ∷ es) h = ap₂ ◌∷◌ (h 0 (omega arith)) (map_idle f es (λ p l. h (suc p) (omega (arith, l))))

idle_at : (xs : List Sym) (p : ℕ) → All (λ s. s ≡ Idle) xs → get_or xs p Idle ≡ Idle
idle_at [] p all = refl
idle_at (x ∷ xs) zero all = all 0 Idle (omega arith)
idle_at (x ∷ xs) (suc p) all = idle_at xs p (λ k d l. all (suc k) d (omega (arith, l)))

same_state : {t t' : ℕ} {r r' : RepeaterDevice} {ws ws' : List Row} → t ≡ t' → r ≡ r' → ws ≡ ws' → ◌≡◌ {A = RepeaterState} (record { t = t; repeater = r; rows = ws }) (record { t = t'; repeater = r'; rows = ws' })
same_state et er ew = λ i. record { t = et i; repeater = er i; rows = ew i }

module _ (plan : Plan) (i : ℕ) (some : i < length plan.layout.repeaters) where
  abbrev es : List ℕ
  es = edges_at plan.layout i

  abbrev device : ℕ
  device = length plan.layout.stations + i

  hears : (t : ℕ) → ((p : ℕ) → p < length es → port_hears plan (get_or es p 0) t ≡ Idle) → map (λ e. port_hears plan e t) es ≡ silent_symbols (repeater_state plan i t)
  hears t idle =
      map_idle (λ e. port_hears plan e t) es idle
      ∙ ap (λ n. replicate n Idle) (length-span (λ (e : ℕ). e) (edges_before plan.layout.repeaters i) (edges_in plan.layout.repeaters i) ∙ sym ((repeater_facts plan).guards i t some))

  one_later : (t : ℕ) (r : RepeaterDevice) → repeater_state plan i t ≡ r → IsUneventful r → ((p : ℕ) → p < length es → port_hears plan (get_or es p 0) t ≡ Idle)
      → repeater_at plan i (suc t) ≡ record { t = suc t; repeater = silent_step r; rows = (repeater_at plan i t).rows }
  unfolding silent_step
  one_later t r is u idle =
      let s = repeater_at plan i t in
      let q = repeater_state plan i t in
      let more : t + 1 ≡ suc t = omega arith in
      sym (repeaters_go_on plan i t some).0
      ∙ ap (λ row. repeater_step device row s) (hears t idle)
      ∙ same_state more (ap (λ x. after (silent_symbols x) x) is)
      (ap (λ x. s.rows ++ rows_of_bodies t device (repeater_bodies (silent_symbols x) x)) is ∙ ap (λ bs. s.rows ++ rows_of_bodies t device bs) (no_bodies r u) ∙ append-nil s.rows)

  decided_now : (t : ℕ) (r : RepeaterDevice) → repeater_state plan i t ≡ r → IsUneventful r → ((p : ℕ) → p < length es → port_hears plan (get_or es p 0) t ≡ Idle)
      → (p : ℕ) → p < length es → decided plan (get_or es p 0) t ≡ Idle
  decided_now t r is u idle p h =
      let q = repeater_state plan i t in
      sym (get_or-map (λ e. decided plan e t) es p 0 Idle h)
      ∙ ap (λ xs. get_or xs p Idle) (sym (repeaters_go_on plan i t some).1)
      ∙ ap (λ row. get_or (decided_by row q) p Idle) (hears t idle)
      ∙ ap (λ x. get_or (decided_by (silent_symbols x) x) p Idle) is
      ∙ idle_at (decided_by (silent_symbols r) r) p u.decides

  later : (m t : ℕ) (r : RepeaterDevice) → repeater_state plan i t ≡ r → ((k : ℕ) → k < m → IsUneventful (iterate silent_step k r)) → PortsHearIdle plan es t m
      → repeater_at plan i (t + m) ≡ record { t = t + m; repeater = iterate silent_step m r; rows = (repeater_at plan i t).rows }
  later zero t r is u idle =
      let same : t + 0 ≡ t = omega arith in
      ap (repeater_at plan i) same ∙ same_state (sym same) is refl
  later (suc m) t r is u idle =
      let one = one_later t r is (u 0 (omega arith)) (λ p h. (let z : t ≡ t + 0 = omega arith in ap (port_hears plan (get_or es p 0)) z) ∙ idle p 0 h (omega arith)) in
      let next : repeater_state plan i (suc t) ≡ silent_step r = ap (λ (s : RepeaterState). s.repeater) one in
      let n : suc t + m ≡ t + suc m = omega arith in
      ap (repeater_at plan i) (sym n)
      ∙ later m (suc t) (silent_step r) next (λ k h. u (suc k) (omega (arith, h))) (λ p j h l. (let z : suc t + j ≡ t + suc j = omega arith in ap (port_hears plan (get_or es p 0)) z) ∙ idle p (suc j) h (omega (arith, l)))
      ∙ same_state n refl (ap (λ (s : RepeaterState). s.rows) one)

  -- it stands that many half bits later
  pub stands_later : (m t : ℕ) → IsCalm (repeater_state plan i t) m → PortsHearIdle plan es t m
      → repeater_at plan i (t + m) ≡ record { t = t + m; repeater = iterate silent_step m (repeater_state plan i t); rows = (repeater_at plan i t).rows }
  stands_later m t calm idle = later m t (repeater_state plan i t) refl calm.uneventful idle

  -- and decides nothing but Idle
  pub decides_idle : (m t : ℕ) → IsCalm (repeater_state plan i t) m → PortsHearIdle plan es t m → AreDecidedIdle plan es t m
  decides_idle m t calm idle p j h l =
      let r = repeater_state plan i t in
      let there = later j t r refl (λ k k'. calm.uneventful k (omega (arith, k', l))) (λ q k h' l'. idle q k h' (omega (arith, l', l))) in
      decided_now (t + j) (iterate silent_step j r) (ap (λ (s : RepeaterState). s.repeater) there) (calm.uneventful j l) (λ q h'. idle q j h' l) p h

-- windows of calm have no more half bits than it lasts
pub windows_within : (n c L : ℕ) → n ≤ c / L → n * L ≤ c
windows_within n c L few =
    let whole = div-add-mod' c L in
    let more : n * L ≤ c / L * L = mul-le-mul_right L few in
    omega (arith, whole, more)

pub least_of_two : (r d m : ℕ) → r ≡ min d m → r ≤ d
least_of_two r d m is = omega (arith, is)

-- the repeater of a part that stands at a window
module _ (plan : Plan) (u i w : ℕ) (is : u ≡ length plan.layout.segments + i) (some : i < length plan.layout.repeaters) (below : w < windows plan) (s : RepeaterState) (stands : s ≡ repeater_at plan i (time plan w)) where
  abbrev L : ℕ
  L = lookahead plan.layout

  starts : time plan w ≡ w * L
  starts = let b = begins_in_run plan w below in omega (arith, b)

  stands_here : s ≡ repeater_at plan i (w * L)
  stands_here = stands ∙ ap (repeater_at plan i) starts

  pub part_decides : (n : ℕ) → IsCalm s.repeater n → PortsHearIdle plan (edges_of_part plan u) (w * L) n → AreDecidedIdle plan (edges_of_part plan u) (w * L) n
  part_decides n calm =
      let here : IsCalm (repeater_state plan i (w * L)) n = subst (λ (x : RepeaterState). IsCalm x.repeater n) stands_here calm in
      subst (λ xs. PortsHearIdle plan xs (w * L) n → AreDecidedIdle plan xs (w * L) n) (sym (edges_at_part plan u i is)) (decides_idle plan i some n (w * L) here)

  pub part_later : (count m : ℕ) (s' : RepeaterState) → w + count < windows plan → m ≡ count * L → IsCalm s.repeater (count * L) → PortsHearIdle plan (edges_of_part plan u) (w * L) (count * L)
      → s' ≡ record { t = s.t + m; repeater = iterate silent_step m s.repeater; rows = s.rows } → s' ≡ repeater_at plan i (time plan (w + count))
  part_later count m s' last many calm idle is' =
      let b = begins_in_run plan (w + count) last in
      let all : (w + count) * L ≡ w * L + count * L = omega arith in
      let ends : w * L + count * L ≡ time plan (w + count) = omega (arith, b, all) in
      let here : IsCalm (repeater_state plan i (w * L)) (count * L) = subst (λ (x : RepeaterState). IsCalm x.repeater (count * L)) stands_here calm in
      let hear = subst (λ xs. PortsHearIdle plan xs (w * L) (count * L)) (edges_at_part plan u i is) idle in
      is'
      ∙ ap₂ (λ (n : ℕ) (x : RepeaterState). let y : RepeaterState = record { t = x.t + n; repeater = iterate silent_step n x.repeater; rows = x.rows } in y) many stands_here
      ∙ sym (stands_later plan i some (count * L) (w * L) here hear)
      ∙ ap (repeater_at plan i) ends
