-- A repeater stands in the network, half bit by half bit.
use Rattle.std.proofs.Common.{◌≡◌, ℕ, zero, suc, ◌+◌, ◌-◌, ◌<◌, ◌≤◌, true, false, ◌||◌, List, [], ◌∷◌, ◌++◌, map, take, drop, length, length-append, length-take-le, length-drop, get_or, get_or-take, get_or-drop, drop-drop, Option, refl, sym, ap, ap₂, ◌∙◌, arith}
use Rattle.std.specs.List.{flat_map}
use Rattle.std.proofs.lemmas.List.{length-map, get_or-map, get_or_append_left, get_or-append_right, same_lists, get_or_default}
use Rattle.std.proofs.lemmas.Bool.{eq-eqb, ne_eqb}
use Rattle.manchester_line.specs.declared.Sym.{Sym}
use Rattle.manchester_line.specs.declared.Sym.TheVariants.{Idle}
use Rattle.collision_log.specs.declared.row.Body.{Body}
use Rattle.collision_log.specs.declared.row.Row.{Row}
use Rattle.layout.specs.declared.lines.RepeaterLine.{RepeaterLine}
use Rattle.load_plan.specs.declared.plan.Plan.{Plan}
use Rattle.mac_transmit.specs.Sender.{SendOutcome}
use Rattle.mac_receive.specs.Receiver.{Reception}
use Rattle.repeater_core.specs.Counts.{Choice}
use Rattle.repeater_core.specs.Step.{RepeaterDevice, new_state, after, chosen, decided_by}
use Rattle.repeater_core.proofs.Lawful.{length_chosen}
use Rattle.network.specs.Net.{net, each_repeater, heard_in, ports_hear, sendings_in, receptions_in}
use Rattle.network.specs.Rows.{repeater_bodies, row_of, rows_of, rows_of_bodies, repeater_rows}
use Rattle.network.specs.Times.{decided}
use Rattle.net_parts.specs.Machines.{span}
use Rattle.net_parts.specs.RepeaterParts.{RepeaterState, repeater_step, edges_before, edges_in, edges_at}
use Rattle.net_parts.specs.Standing.{port_hears, repeater_state, repeater_at, is_one_of}
use Rattle.net_parts.proofs.NetworkFacts.{StationFacts, station_facts}
use Rattle.net_parts.proofs.NetworkFacts.{RepeaterFacts, repeater_facts}
use Rattle.net_parts.specs.PartLaws.{RepeatersGoOn}
use Rattle.net_parts.proofs.DeviceSteps.{time_is}
use Rattle.net_parts.proofs.StationRows.{filter-two, append_none, of_devices, kept_rows, none_at, dropped}

each_at : {X : Type 0} (f : List Sym → RepeaterDevice → X) (hs : List Sym) (rs : List RepeaterDevice) (ls : List RepeaterLine) (i : ℕ) (d : X) (r0 : RepeaterDevice) → i < length rs → length rs ≡ length ls →
    ((j : ℕ) → j < length rs → length (get_or rs j r0).guards ≡ edges_in ls j) → get_or (each_repeater f hs rs) i d ≡ f (take (edges_in ls i) (drop (edges_before ls i) hs)) (get_or rs i r0)
each_at f hs [] ls i d r0 h e g = absurd (omega arith)
each_at f hs (r ∷ rs) [] i d r0 h e g = absurd (omega arith)
each_at f hs (r ∷ rs) (l ∷ ls) zero d r0 h e g = let n : length r.guards ≡ length l.ports = g 0 (omega arith) in ap (λ m. f (take m hs) r) n
each_at f hs (r ∷ rs) (l ∷ ls) (suc i) d r0 h e g =
    let n : length r.guards ≡ length l.ports = g 0 (omega arith) in
    each_at f (drop (length r.guards) hs) rs ls i d r0 (omega arith) (omega arith) (λ j l. g (suc j) (omega arith))
    ∙ ap (λ xs. f (take (edges_in ls i) xs) (get_or rs i r0)) (drop-drop (edges_before ls i) (length r.guards) hs ∙ ap (λ m. drop (m + edges_before ls i) hs) n)

pub length-each : {X : Type 0} (f : List Sym → RepeaterDevice → X) (hs : List Sym) (rs : List RepeaterDevice) → length (each_repeater f hs rs) ≡ length rs
length-each f hs [] = refl
length-each f hs (r ∷ rs) = ap suc (length-each f (drop (length r.guards) hs) rs)

edges_within : (ls : List RepeaterLine) (i : ℕ) → i < length ls → edges_before ls i + edges_in ls i ≤ length (flat_map (λ (r : RepeaterLine). r.ports) ls)
edges_within [] i h = absurd (omega arith)
edges_within (l ∷ ls) zero h = let sum = length-append l.ports (flat_map (λ (r : RepeaterLine). r.ports) ls) in omega (arith, sum)
edges_within (l ∷ ls) (suc i) h = let sum = length-append l.ports (flat_map (λ (r : RepeaterLine). r.ports) ls) in let rest = edges_within ls i (omega arith) in omega (arith, sum, rest)

length-decided : (hs : List Sym) (r : RepeaterDevice) → length (decided_by hs r) ≡ length r.counts
unfolding chosen
length-decided hs r = length-map (chosen hs r) (λ (c : Choice). c.symbol) ∙ length_chosen hs r

-- port p of repeater i among all
decided_at : (hs : List Sym) (rs : List RepeaterDevice) (ls : List RepeaterLine) (i p : ℕ) (r0 : RepeaterDevice) → i < length rs → length rs ≡ length ls → p < edges_in ls i →
    ((j : ℕ) → j < length rs → length (get_or rs j r0).guards ≡ edges_in ls j) → ((j : ℕ) → j < length rs → length (get_or rs j r0).counts ≡ edges_in ls j) →
    get_or (flat_map (λ (symbols : List Sym). symbols) (each_repeater decided_by hs rs)) (edges_before ls i + p) Idle ≡ get_or (decided_by (take (edges_in ls i) (drop (edges_before ls i) hs)) (get_or rs i r0)) p Idle
decided_at hs [] ls i p r0 h e l g c = absurd (omega arith)
decided_at hs (r ∷ rs) [] i p r0 h e l g c = absurd (omega arith)
decided_at hs (r ∷ rs) (x ∷ ls) zero p r0 h e l g c =
    let n : length r.guards ≡ length x.ports = g 0 (omega arith) in
    let m : length r.counts ≡ length x.ports = c 0 (omega arith) in
    let here = decided_by (take (length r.guards) hs) r in
    let rest = flat_map (λ (symbols : List Sym). symbols) (each_repeater decided_by (drop (length r.guards) hs) rs) in
    let size : length here ≡ length r.counts = length-decided (take (length r.guards) hs) r in
    let z : 0 + p ≡ p = omega arith in
    ap (λ j. get_or (here ++ rest) j Idle) z ∙ get_or_append_left here rest Idle p (omega (arith, size, m)) ∙ ap (λ k. get_or (decided_by (take k hs) r) p Idle) n
decided_at hs (r ∷ rs) (x ∷ ls) (suc i) p r0 h e l g c =
    let n : length r.guards ≡ length x.ports = g 0 (omega arith) in
    let m : length r.counts ≡ length x.ports = c 0 (omega arith) in
    let here = decided_by (take (length r.guards) hs) r in
    let rest = flat_map (λ (symbols : List Sym). symbols) (each_repeater decided_by (drop (length r.guards) hs) rs) in
    let size : length here ≡ length r.counts = length-decided (take (length r.guards) hs) r in
    let z : length x.ports + edges_before ls i + p - length x.ports ≡ edges_before ls i + p = omega arith in
    get_or-append_right here rest (length x.ports) (length x.ports + edges_before ls i + p) Idle (size ∙ m) (omega arith)
    ∙ ap (λ j. get_or rest j Idle) z
    ∙ decided_at (drop (length r.guards) hs) rs ls i p r0 (omega arith) (omega arith) l (λ j k. g (suc j) (omega arith)) (λ j k. c (suc j) (omega arith))
    ∙ ap (λ xs. get_or (decided_by (take (edges_in ls i) xs) (get_or rs i r0)) p Idle) (drop-drop (edges_before ls i) (length r.guards) hs ∙ ap (λ k. drop (k + edges_before ls i) hs) n)

pub length-span : {X : Type 0} (f : ℕ → X) (k n : ℕ) → length (span f k n) ≡ n
length-span f k zero = refl
length-span f k (suc n) = ap suc (length-span f (suc k) n)

pub get_or-span : {X : Type 0} (f : ℕ → X) (k n i : ℕ) (d : X) → i < n → get_or (span f k n) i d ≡ f (k + i)
get_or-span f k zero i d h = absurd (omega arith)
get_or-span f k (suc n) zero d h = let e : k ≡ k + 0 = omega arith in ap f e
get_or-span f k (suc n) (suc i) d h = get_or-span f (suc k) n i d (omega arith) ∙ (let e : suc k + i ≡ k + suc i = omega arith in ap f e)

-- a piece of a list, element by element
piece_is : (xs : List Sym) (f : ℕ → Sym) (k n : ℕ) → k + n ≤ length xs → ((e : ℕ) → get_or xs e Idle ≡ f e) → take n (drop k xs) ≡ map f (span (λ e. e) k n)
piece_is xs f k n h same =
    let rest = length-drop k xs in
    let size : length (take n (drop k xs)) ≡ n = length-take-le n (drop k xs) (omega (arith, rest)) in
    let other : length (map f (span (λ e. e) k n)) ≡ n = length-map (span (λ e. e) k n) f ∙ length-span (λ e. e) k n in
    same_lists (take n (drop k xs)) (map f (span (λ e. e) k n)) (size ∙ sym other) (λ i d l.
    let m : i < n = omega (arith, l, size) in
    let in_it : i < length (span (λ (e : ℕ). e) k n) = omega (arith, m, length-span (λ (e : ℕ). e) k n) in
    at d i m ∙ sym (get_or-map f (span (λ e. e) k n) i 0 d in_it ∙ ap f (get_or-span (λ e. e) k n i 0 m)))
  where
    at : (d : Sym) (i : ℕ) → i < n → get_or (take n (drop k xs)) i d ≡ f (k + i)
    at d i m = get_or-take n (drop k xs) i d m ∙ get_or-drop k xs i d ∙ get_or_default xs (k + i) d Idle (omega arith) ∙ same (k + i)

no_stations : (k t j : ℕ) (es rs : List (Option Body)) → j + length es ≤ k → of_devices (k ∷ []) (rows_of t j es rs) ≡ []
no_stations k t j [] rs h = refl
no_stations k t j (e ∷ es) [] h = refl
no_stations k t j (e ∷ es) (r ∷ rs) h =
    let p = λ (row : Row). is_one_of row.device (k ∷ []) in
    let other : is_one_of j (k ∷ []) ≡ false = ap (λ b. b || false) (ne_eqb j k (λ z. omega (arith, z))) in
    filter-two p (row_of t j e ++ row_of t j r) (rows_of t (j + 1) es rs)
    ∙ ap₂ (λ a b. a ++ b) (filter-two p (row_of t j e) (row_of t j r) ∙ ap₂ (λ a b. a ++ b) (dropped (k ∷ []) t j e other) (dropped (k ∷ []) t j r other)) (no_stations k t (j + 1) es rs (omega arith))

beyond_it : (k t j : ℕ) (all : List (List Body)) → k < j → of_devices (k ∷ []) (repeater_rows t j all) ≡ []
beyond_it k t j [] h = refl
beyond_it k t j (bodies ∷ all) h =
    let other : is_one_of j (k ∷ []) ≡ false = ap (λ b. b || false) (ne_eqb j k (λ z. omega (arith, z))) in
    filter-two (λ (row : Row). is_one_of row.device (k ∷ [])) (rows_of_bodies t j bodies) (repeater_rows t (j + 1) all)
    ∙ ap₂ (λ a b. a ++ b) (none_at (k ∷ []) t j bodies other) (beyond_it k t (j + 1) all (omega arith))

its_rows : (k t j i : ℕ) (all : List (List Body)) → i < length all → k ≡ j + i → of_devices (k ∷ []) (repeater_rows t j all) ≡ rows_of_bodies t k (get_or all i [])
its_rows k t j i [] h e = absurd (omega arith)
its_rows k t j zero (bodies ∷ all) h e =
    let same : j ≡ k = omega arith in
    let it : is_one_of j (k ∷ []) ≡ true = ap (λ b. b || false) (eq-eqb j k same) in
    filter-two (λ (row : Row). is_one_of row.device (k ∷ [])) (rows_of_bodies t j bodies) (repeater_rows t (j + 1) all)
    ∙ ap₂ (λ a b. a ++ b) (kept_rows (k ∷ []) t j bodies it ∙ ap (λ m. rows_of_bodies t m bodies) same) (beyond_it k t (j + 1) all (omega arith))
    ∙ append_none _
its_rows k t j (suc i) (bodies ∷ all) h e =
    let other : is_one_of j (k ∷ []) ≡ false = ap (λ b. b || false) (ne_eqb j k (λ z. omega (arith, z))) in
    filter-two (λ (row : Row). is_one_of row.device (k ∷ [])) (rows_of_bodies t j bodies) (repeater_rows t (j + 1) all)
    ∙ ap₂ (λ a b. a ++ b) (none_at (k ∷ []) t j bodies other) (its_rows k t (j + 1) i all (omega arith) (omega arith))

same_repeater : {t t' : ℕ} {r r' : RepeaterDevice} {ws ws' : List Row} → t ≡ t' → r ≡ r' → ws ≡ ws' → ◌≡◌ {A = RepeaterState} (record { t = t; repeater = r; rows = ws }) (record { t = t'; repeater = r'; rows = ws' })
same_repeater et er ew = λ i. record { t = et i; repeater = er i; rows = ew i }

module _ (plan : Plan) (facts : StationFacts plan) (ports : RepeaterFacts plan) (i t : ℕ) (some : i < length plan.layout.repeaters) where
  abbrev ls : List RepeaterLine
  ls = plan.layout.repeaters

  abbrev hs : List Sym
  hs = ports_hear (net plan t)

  abbrev device : ℕ
  device = length plan.layout.stations + i

  in_net : (j : ℕ) → j < length (net plan t).repeaters → j < length ls
  in_net j h = let n = ports.many t in omega (arith, h, n)

  ears : take (edges_in ls i) (drop (edges_before ls i) hs) ≡ map (λ e. port_hears plan e t) (edges_at plan.layout i)
  ears =
      let all = ports.hear_all t in
      let within = edges_within ls i some in
      let senders = facts.senders t in
      piece_is hs (λ e. port_hears plan e t) (edges_before ls i) (edges_in ls i) (omega (arith, all, within))
      (λ e. get_or-drop (length (net plan t).senders) (heard_in (net plan t)) e Idle ∙ ap (λ m. get_or (heard_in (net plan t)) (m + e) Idle) senders)

  each_is : {X : Type 0} (f : List Sym → RepeaterDevice → X) (d : X) → get_or (each_repeater f hs (net plan t).repeaters) i d ≡ f (map (λ e. port_hears plan e t) (edges_at plan.layout i)) (repeater_state plan i t)
  each_is f d =
      let n = ports.many t in
      each_at f hs (net plan t).repeaters ls i d (new_state 0 0) (omega (arith, n, some)) n (λ j h. ports.guards j t (in_net j h)) ∙ ap (λ xs. f xs (repeater_state plan i t)) ears

  pub repeater_steps : repeater_step device (map (λ e. port_hears plan e t) (edges_at plan.layout i)) (repeater_at plan i t) ≡ repeater_at plan i (suc t)
  repeater_steps =
      let n = net plan t in
      let es = map (λ (o : SendOutcome). o.event) (sendings_in n) in
      let rs = map (λ (r : Reception). r.event) (receptions_in n) in
      let all = each_repeater repeater_bodies hs n.repeaters in
      let p = λ (row : Row). is_one_of row.device (device ∷ []) in
      let count = ports.many t in
      let size = length-each repeater_bodies hs n.repeaters in
      let sent_all : length es ≡ length plan.layout.stations = length-map (sendings_in n) (λ (o : SendOutcome). o.event) ∙ facts.send_all t in
      same_repeater (omega arith) (sym (each_is after (new_state 0 0)))
      (sym (
      ap (λ v. of_devices (device ∷ []) (n.rows ++ (rows_of v 0 es rs ++ repeater_rows v (length n.senders) all))) (time_is plan t)
      ∙ ap (λ m. of_devices (device ∷ []) (n.rows ++ (rows_of t 0 es rs ++ repeater_rows t m all))) (facts.senders t)
      ∙ filter-two p n.rows (rows_of t 0 es rs ++ repeater_rows t (length plan.layout.stations) all)
      ∙ ap (λ zs. of_devices (device ∷ []) n.rows ++ zs) (
      filter-two p (rows_of t 0 es rs) (repeater_rows t (length plan.layout.stations) all)
      ∙ ap₂ (λ a b. a ++ b) (no_stations device t 0 es rs (omega (arith, sent_all))) (its_rows device t (length plan.layout.stations) i all (omega (arith, size, count, some)) refl ∙ ap (rows_of_bodies t device) (each_is repeater_bodies [])))))

  pub repeater_gives : decided_by (map (λ e. port_hears plan e t) (edges_at plan.layout i)) (repeater_state plan i t) ≡ map (λ e. decided plan e t) (edges_at plan.layout i)
  repeater_gives =
      let heard_so = map (λ e. port_hears plan e t) (edges_at plan.layout i) in
      let r = repeater_state plan i t in
      let n = ports.many t in
      let size : length (decided_by heard_so r) ≡ edges_in ls i = length-decided heard_so r ∙ ports.counts i t some in
      let other : length (map (λ e. decided plan e t) (edges_at plan.layout i)) ≡ edges_in ls i = length-map (edges_at plan.layout i) (λ e. decided plan e t) ∙ length-span (λ e. e) (edges_before ls i) (edges_in ls i) in
      same_lists (decided_by heard_so r) (map (λ e. decided plan e t) (edges_at plan.layout i)) (size ∙ sym other) (λ p d l.
      let m : p < edges_in ls i = omega (arith, l, size) in
      let in_it : p < length (edges_at plan.layout i) = omega (arith, m, length-span (λ (e : ℕ). e) (edges_before ls i) (edges_in ls i)) in
      get_or_default (decided_by heard_so r) p d Idle l
      ∙ ap (λ xs. get_or (decided_by xs r) p Idle) (sym ears)
      ∙ sym (decided_at hs (net plan t).repeaters ls i p (new_state 0 0) (omega (arith, n, some)) n m (λ j h. ports.guards j t (in_net j h)) (λ j h. ports.counts j t (in_net j h)))
      ∙ sym (get_or-map (λ e. decided plan e t) (edges_at plan.layout i) p 0 d in_it ∙ ap (λ e. decided plan e t) (get_or-span (λ e. e) (edges_before ls i) (edges_in ls i) p 0 m)))

pub repeaters_go_on : RepeatersGoOn
repeaters_go_on plan i t some =
    (repeater_steps plan (station_facts plan) (repeater_facts plan) i t some, repeater_gives plan (station_facts plan) (repeater_facts plan) i t some)
