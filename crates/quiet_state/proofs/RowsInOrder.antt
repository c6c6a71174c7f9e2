-- The rows of a network are in the order of a log.
use Rattle.std.proofs.Common.{◌≡◌, ℕ, zero, suc, ◌+◌, ◌<◌, inl, All, List, ◌++◌, map, length, sym, subst, ◌∙◌, arith}
use Rattle.std.proofs.lemmas.List.{length-map}
use Rattle.std.proofs.lemmas.List.Elements.{All-append}
use Rattle.collision_log.specs.declared.row.Row.{Row}
use Rattle.collision_log.specs.Merged.{IsNotAfter, IsLogOrder}
use Rattle.load_plan.specs.declared.plan.Plan.{Plan}
use Rattle.mac_transmit.specs.Sender.{SendOutcome}
use Rattle.mac_receive.specs.Receiver.{Reception}
use Rattle.network.specs.Net.{net, rows_in, each_repeater, ports_hear, sendings_in, receptions_in}
use Rattle.network.specs.Rows.{rows_of, repeater_rows, repeater_bodies}
use Rattle.network.proofs.StationAttempts.{shape_of, many_sendings}
use Rattle.network.proofs.SortedRows.{Between, IsSorted, pairs_append, in_order, stations_sorted, repeaters_sorted}
use Rattle.quiet_state.proofs.QuietNets.{time_is}

-- rows before half bit t
record AreBefore (t : ℕ) (rs : List Row) : Type 0 where
  before : All (λ r. r.t < t) rs
  order : IsLogOrder rs

more_rows : (t n : ℕ) (old now : List Row) → AreBefore t old → IsSorted t 0 n now → AreBefore (suc t) (old ++ now)
more_rows t n old now l s = record {
  before = All-append (λ (r : Row). r.t < suc t) old now
      (λ i d m. let x = l.before i d m in omega (arith, x))
      (λ i d m. let x = (s.between i d m).time in omega (arith, x));
  order = pairs_append IsNotAfter (λ (r : Row). r.t < t) (Between t 0 n) old now l.order s.order l.before s.between (λ x y p q. inl (let b = q.time in omega (arith, p, b)));
}

now_in_order : (plan : Plan) (t : ℕ) → IsSorted t 0 (length plan.layout.stations + length (each_repeater repeater_bodies (ports_hear (net plan t)) (net plan t).repeaters)) (rows_in (net plan t))
now_in_order plan t =
    let n = net plan t in
    let s = length plan.layout.stations in
    let es = map (λ (o : SendOutcome). o.event) (sendings_in n) in
    let rs = map (λ (r : Reception). r.event) (receptions_in n) in
    let all = each_repeater repeater_bodies (ports_hear n) n.repeaters in
    let high = s + length all in
    let sent_all : length es ≡ s = length-map (sendings_in n) (λ (o : SendOutcome). o.event) ∙ many_sendings plan t in
    subst (λ v. IsSorted t 0 high (rows_of v 0 es rs ++ repeater_rows v (length n.senders) all)) (sym (time_is plan t))
    (subst (λ m. IsSorted t 0 high (rows_of t 0 es rs ++ repeater_rows t m all)) (sym (shape_of plan t).senders)
    (in_order t 0 s high (rows_of t 0 es rs) (repeater_rows t s all) (stations_sorted t 0 s es rs (omega (arith, sent_all))) (repeaters_sorted t s high all (omega arith)) (omega arith) (omega arith)))

logged : (plan : Plan) (t : ℕ) → AreBefore t (net plan t).rows
logged plan zero = record { before = λ i d m. absurd (omega arith); order = λ i j d l m. absurd (omega arith) }
logged plan (suc t) = more_rows t _ (net plan t).rows (rows_in (net plan t)) (logged plan t) (now_in_order plan t)

pub rows_before : (plan : Plan) (t : ℕ) → All (λ r. r.t < t) (net plan t).rows
rows_before plan t = (logged plan t).before

pub rows_in_order : (plan : Plan) (t : ℕ) → IsLogOrder (net plan t).rows
rows_in_order plan t = (logged plan t).order
