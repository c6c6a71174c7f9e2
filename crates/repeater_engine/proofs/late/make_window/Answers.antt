use Rattle.std.proofs.Common.{◌≡◌, ◌+◌, List, length, sym, subst, ap, ◌∙◌, arith}
use Rattle.std.proofs.lemmas.List.{length-map}
use Rattle.manchester_line.specs.declared.Sym.{Sym}
use Rattle.net_parts.specs.Machines.{Ran}
use Rattle.net_parts.specs.RepeaterParts.{RepeaterState, edges_at}
use Rattle.net_parts.specs.Standing.{repeater_at}
use Rattle.repeater_engine.specs.KeptRepeaters.{parcel_after}
use Rattle.repeater_engine.specs.LeapedHalfBits.{made_of, rows_brought, HaveRows}
use Rattle.repeater_engine.proofs.RepeaterWindows.{guards_of}
use Rattle.repeater_engine.proofs.LeapedHalfBits.{made_is, rows_are, parcels_leap, all_reach}
use Rattle.repeater_engine.proofs.late.make_window.Goals as goal

pub go_on-k-requires-clause-many : goal.go_on-k-requires-clause-many
go_on-k-requires-clause-many c =
    let plan = c.args.plan.now.value in
    let t = c.args.engine.now.state.t in
    let inv = c.loop-k.invariant in
    ap length inv.parcels
    ∙ length-map (edges_at plan.layout c.args.repeater) (parcel_after plan c.args.window t c.args.n c.loop-k.k)
    ∙ sym (guards_of plan c.args.repeater (t + c.loop-k.k) c.loop-k.engine.state c.requires.repeater inv.stands)

pub go_on-k-requires-clause-long : goal.go_on-k-requires-clause-long
go_on-k-requires-clause-long c =
    all_reach c.args.plan.now.value c.args.repeater c.args.window c.args.engine.now.state.t c.args.n c.loop-k.k c.loop-k.parcels c.loop-k.invariant.within c.loop-k.invariant.parcels

pub loop-k-preserved : goal.loop-k-preserved
loop-k-preserved c =
    let plan = c.args.plan.now.value in
    let i = c.args.repeater in
    let w = c.args.window in
    let n = c.args.n in
    let t = c.args.engine.now.state.t in
    let k = c.loop-k.k in
    let m = c.go_on-k.result in
    let inv = c.loop-k.invariant in
    let made = c.go_on-k.ensures in
    let s = c.loop-k.engine.state in
    let device = c.loop-k.engine.device in
    let old = c.loop-k.parcels in
    let rows = ap (rows_brought k m) inv.parcels ∙ rows_are plan i w t n k m made.within in
    let all = ap (λ (rs : List (List Sym)). made_of device rs s) rows ∙ made_is plan i device (t + k) m s c.requires.repeater (inv.device ∙ c.requires.device) inv.stands in
    let next : t + k + m ≡ t + (k + m) = omega arith in
    record {
      within = made.within;
      device = made.device ∙ inv.device;
      stands = made.state ∙ ap (λ (r : Ran RepeaterState). r.state) all ∙ ap (repeater_at plan i) next;
      room = made.room;
      parcels = parcels_leap plan i w t n k m made.within old c.go_on-k.new.parcels inv.parcels c.go_on-k.auto.parcels (subst (λ (rs : List (List Sym)). HaveRows k rs old c.go_on-k.new.parcels) (ap (λ (r : Ran RepeaterState). r.rows) all) made.parcels);
    }
