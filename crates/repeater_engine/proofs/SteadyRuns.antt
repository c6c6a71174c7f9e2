-- Runs of a repeater over half bits in which nothing happens but counts: its state, what is decided in them, its rows
-- and the room for more of them.
use Rattle.std.proofs.Common.{◌≡◌, ℕ, zero, suc, ◌+◌, ◌-◌, ◌*◌, ◌<◌, ◌≤◌, Bool, true, false, not, cond, ◌&&◌, List, [], ◌∷◌, ◌++◌, map, length, get_or, replicate, refl, sym, ap, ap₂, ◌∙◌, arith, append-nil}
use Rattle.std.specs.List.{AllByRecursion}
use Rattle.std.proofs.lemmas.List.{length-map}
use Rattle.manchester_line.specs.declared.Sym.{Sym}
use Rattle.manchester_line.specs.declared.Sym.TheVariants.{Idle}
use Rattle.manchester_line.specs.Line.{is_signal}
use Rattle.collision_log.specs.declared.row.Row.{Row}
use Rattle.repeater_core.specs.declared.modes.Mode.{Mode}
use Rattle.repeater_core.specs.declared.modes.Mode.TheVariants as mode
use Rattle.repeater_core.specs.declared.repeater.RepeaterEvents.{RepeaterEvents}
use Rattle.repeater_core.specs.Classes.{after_rows, AreSteadyRows, DecideTexts}
use Rattle.repeater_core.specs.Counts.{Choice}
use Rattle.repeater_core.specs.Modes.{is_tx_clash}
use Rattle.repeater_core.specs.Steady.{IsSteadyStep, mode_on, texted}
use Rattle.repeater_core.specs.Step.{RepeaterDevice, after, chosen, emitted_by, clash_begins, guard_events}
use Rattle.repeater_core.proofs.Lawful.{length_chosen}
use Rattle.network.specs.Rows.{rows_of_bodies, repeater_bodies}
use Rattle.network.proofs.PortFlags.{told_are, no_bits}
use Rattle.net_parts.specs.RepeaterParts.{RepeaterState, repeater_step}
use Rattle.repeater_engine.specs.KeptRepeaters.{piece_of}
use Rattle.repeater_engine.specs.LeapedHalfBits.{made_of}
use Rattle.repeater_engine.specs.RowWaits.{rows_apart, waits, row_places, HasRowRoom}
use Rattle.repeater_engine.proofs.RowsApart.{length-guards_after, length-guard_events, rows_pay}

no_clash : (m : Mode) → is_tx_clash (mode_on m) && not (is_tx_clash m) ≡ false
no_clash mode.Idle = refl
no_clash (mode.Repeat n i) = refl
no_clash (mode.Extend n i j) = refl
no_clash (mode.RxClash n i) = refl
no_clash (mode.TxClash i) = refl
no_clash (mode.OnePort n i) = refl

-- a repeater of so many ports
pub record HasPorts (ports : ℕ) (r : RepeaterDevice) : Type 0 where
  pub guards : length r.guards ≡ ports
  pub counts : length r.counts ≡ ports

module _ (ports : ℕ) (emitting deciding : List Bool) (wide : length emitting ≡ ports) where
  module _ (row : List Sym) (r : RepeaterDevice) (has : HasPorts ports r) (heard : length row ≡ ports) (steady : IsSteadyStep row emitting deciding r) where
    emitted : length (emitted_by r) ≡ ports
    emitted = sym (length-map (emitted_by r) is_signal) ∙ ap length steady.emits ∙ wide

    -- nothing is logged in a steady half bit
    no_bodies : repeater_bodies row r ≡ []
    no_bodies =
        let none : RepeaterEvents = record { clash = false; closed = 0; opened = 0; halted = 0 } in
        let events : ports ≡ length (guard_events r.guards row (emitted_by r)) = sym (length-guard_events r.guards row (emitted_by r) (heard ∙ sym has.guards) (emitted ∙ sym has.guards) ∙ has.guards) in
        let clash : false ≡ clash_begins row r = sym (ap (λ m. is_tx_clash m && not (is_tx_clash r.mode)) steady.mode ∙ no_clash r.mode) in
        sym (told_are row r ports none events (length_chosen row r ∙ has.counts) clash (sym steady.none_closes) (sym steady.none_opens) (sym steady.none_halted)) ∙ no_bits 1 ports

    next_ports : HasPorts ports (after row r)
    next_ports = record {
      guards = length-guards_after r.guards row (emitted_by r) (heard ∙ sym has.guards) (emitted ∙ sym has.guards) ∙ has.guards;
      counts = length-map (chosen row r) (λ (c : Choice). c.count) ∙ length_chosen row r ∙ has.counts;
    }

    wait_falls : waits r ≤ waits (after row r) + row_places ports
    wait_falls =
        let g = has.guards in
        let pays = rows_pay row r (heard ∙ sym g) (emitted ∙ sym g) (has.counts ∙ sym g) in
        let places : row_places (length r.guards) ≡ row_places ports = ap row_places g in
        omega (arith, pays, places)

  -- it has as many ports after them
  pub ports_last : (rows : List (List Sym)) (r : RepeaterDevice) → HasPorts ports r → AllByRecursion (λ row. length row ≡ ports) rows → AreSteadyRows rows emitting deciding r → HasPorts ports (after_rows rows r)
  ports_last [] r has long steady = has
  ports_last (row ∷ rest) r has long steady = ports_last rest (after row r) (next_ports row r has long.0 (steady 0 (omega arith))) long.1 (λ k h. steady (suc k) (omega arith))

  -- the state after them: its rows are as they were
  pub steady_run : (device : ℕ) (rows : List (List Sym)) (s : RepeaterState) → HasPorts ports s.repeater → AllByRecursion (λ row. length row ≡ ports) rows → AreSteadyRows rows emitting deciding s.repeater →
      (made_of device rows s).state ≡ record { t = s.t + length rows; repeater = after_rows rows s.repeater; rows = s.rows }
  steady_run device [] s has long steady =
      let same : s.t ≡ s.t + 0 = omega arith in
      ap (λ u. let x : RepeaterState = record { t = u; repeater = s.repeater; rows = s.rows } in x) same
  steady_run device (row ∷ rest) s has long steady =
      let first = steady 0 (omega arith) in
      let none = no_bodies row s.repeater has long.0 first in
      let next = repeater_step device row s in
      let time : next.t + length rest ≡ s.t + suc (length rest) = omega arith in
      let kept : next.rows ≡ s.rows = ap (λ bs. s.rows ++ rows_of_bodies s.t device bs) none ∙ append-nil s.rows in
      steady_run device rest next (next_ports row s.repeater has long.0 first) long.1 (λ k h. steady (suc k) (omega arith))
      ∙ ap₂ (λ (u : ℕ) (ws : List Row). let x : RepeaterState = record { t = u; repeater = after_rows rest next.repeater; rows = ws } in x) time kept

  waits_fall : (rows : List (List Sym)) (r : RepeaterDevice) → HasPorts ports r → AllByRecursion (λ row. length row ≡ ports) rows → AreSteadyRows rows emitting deciding r →
      waits r ≤ waits (after_rows rows r) + length rows * row_places ports
  waits_fall [] r has long steady = omega arith
  waits_fall (row ∷ rest) r has long steady =
      let first = steady 0 (omega arith) in
      let falls = wait_falls row r has long.0 first in
      let later = waits_fall rest (after row r) (next_ports row r has long.0 first) long.1 (λ k h. steady (suc k) (omega arith)) in
      one_more (length rest) (row_places ports) (waits r) (waits (after row r)) (waits (after_rows rest (after row r))) falls later
    where
      one_more : (j p w v x : ℕ) → w ≤ v + p → v ≤ x + j * p → w ≤ x + suc j * p
      one_more j p w v x a b = let more : suc j * p ≡ p + j * p = (let s : suc j ≡ j + 1 = omega arith in ap (λ n. n * p) s ∙ omega arith) in omega (arith, more)

  -- the room for rows serves the half bits that are left
  pub room_lasts : (rows : List (List Sym)) (r : RepeaterDevice) → HasPorts ports r → AllByRecursion (λ row. length row ≡ ports) rows → AreSteadyRows rows emitting deciding r →
      (left later room : ℕ) → left ≡ later + length rows → HasRowRoom ports left room r → HasRowRoom ports later room (after_rows rows r)
  room_lasts rows r has long steady left later room e h =
      let fall = waits_fall rows r has long steady in
      lasts (row_places ports) left later (length rows) room (waits r) (waits (after_rows rows r)) e h fall
    where
      lasts : (p left later m room w v : ℕ) → left ≡ later + m → p * (left + (rows_apart - 1)) < rows_apart * (room + 1) + w → w ≤ v + m * p → p * (later + (rows_apart - 1)) < rows_apart * (room + 1) + v
      lasts p left later m room w v e h k = let more : p * left ≡ p * later + m * p = ap (λ n. p * n) e ∙ omega arith in omega (arith, more)

-- what is decided in them
pub decided_run : (device : ℕ) (rows : List (List Sym)) (deciding : List Bool) (texts : List Sym) (s : RepeaterState) → length texts ≡ length rows → DecideTexts rows deciding texts s.repeater →
    (made_of device rows s).rows ≡ map (texted deciding) texts
decided_run device [] deciding [] s e h = refl
decided_run device [] deciding (t ∷ ts) s e h = absurd (omega arith)
decided_run device (row ∷ rest) deciding [] s e h = absurd (omega arith)
decided_run device (row ∷ rest) deciding (t ∷ ts) s e h =
    ap₂ ◌∷◌ (h 0 (omega arith)) (decided_run device rest deciding ts (repeater_step device row s) (omega arith) (λ k l. h (suc k) (omega arith)))

text_at : (deciding : List Bool) (p : ℕ) (text : Sym) → get_or (texted deciding text) p Idle ≡ cond (get_or deciding p false) text Idle
text_at [] p text = refl
text_at (b ∷ bs) zero text = refl
text_at (b ∷ bs) (suc p) text = text_at bs p text

sent_piece : (texts : List Sym) → map (λ (t : Sym). t) texts ≡ texts
sent_piece [] = refl
sent_piece (t ∷ ts) = ap (λ xs. t ∷ xs) (sent_piece ts)

idle_piece : (texts : List Sym) → map (λ (t : Sym). Idle) texts ≡ replicate (length texts) Idle
idle_piece [] = refl
idle_piece (t ∷ ts) = ap (λ xs. Idle ∷ xs) (idle_piece ts)

piece_is : (b : Bool) (texts : List Sym) → map (λ t. cond b t Idle) texts ≡ piece_of b texts
piece_is true texts = sent_piece texts
piece_is false texts = idle_piece texts

texts_at : (deciding : List Bool) (p : ℕ) (texts : List Sym) → map (λ row. get_or row p Idle) (map (texted deciding) texts) ≡ map (λ t. cond (get_or deciding p false) t Idle) texts
texts_at deciding p [] = refl
texts_at deciding p (t ∷ ts) = ap₂ ◌∷◌ (text_at deciding p t) (texts_at deciding p ts)

-- what is decided for port p in them
pub piece_decided : (deciding : List Bool) (p : ℕ) (texts : List Sym) → map (λ row. get_or row p Idle) (map (texted deciding) texts) ≡ piece_of (get_or deciding p false) texts
piece_decided deciding p texts = texts_at deciding p texts ∙ piece_is (get_or deciding p false) texts

-- whether port p is sent a signal
pub signal_at : (xs : List Sym) (p : ℕ) → get_or (map is_signal xs) p false ≡ is_signal (get_or xs p Idle)
signal_at [] p = refl
signal_at (x ∷ xs) zero = refl
signal_at (x ∷ xs) (suc p) = signal_at xs p
