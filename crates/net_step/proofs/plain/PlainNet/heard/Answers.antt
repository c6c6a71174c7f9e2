use Rattle.std.proofs.Common.{List, length, get_or, sym, subst, ap₂, ◌∙◌, rules}
use Rattle.manchester_line.specs.declared.Sym.{Sym}
use Rattle.manchester_line.specs.declared.Sym.TheVariants.{Idle}
use Rattle.mac_transmit.specs.Sender.{Sender}
use Rattle.repeater_core.specs.Step.{RepeaterDevice}
use Rattle.net_step.specs.KeptNet.{kept_tap_number, Stands}
use Rattle.net_step.proofs.StandsForNet.{heard_alike}
use Rattle.net_step.proofs.WholeNet.{tap_is_numbered, tap_in_places, place_in_wires, local_in_wire, hears_at}
use Rattle.net_step.proofs.plain.PlainNet.heard.Goals as goal

pub index-place-requires : goal.index-place-requires
index-place-requires c =
    let tap = tap_is_numbered _ _ c.args.device c.args.port c.tap_number-tap.result c.len-stations.result c.deref.result.now c.self.view_is c.requires (search rules) c.deref.ensures.value c.tap_number-tap.ensures in
    let inside = tap_in_places _ _ _ _ _ _ _ _ _ c.self.invariant _ _ _ tap in
    search rules

pub index-requires : goal.index-requires
index-requires c =
    let tap = tap_is_numbered _ _ c.args.device c.args.port c.tap_number-tap.result c.len-stations.result c.deref.result.now c.self.view_is c.requires (search rules) c.deref.ensures.value c.tap_number-tap.ensures in
    let inside = place_in_wires _ _ _ _ _ _ _ _ _ c.self.invariant _ _ _ tap c.index-place.result.now c.index-place.ensures in
    search rules

pub heard-requires : goal.heard-requires
heard-requires c =
    let tap = tap_is_numbered _ _ c.args.device c.args.port c.tap_number-tap.result c.len-stations.result c.deref.result.now c.self.view_is c.requires (search rules) c.deref.ensures.value c.tap_number-tap.ensures in
    local_in_wire _ _ _ _ _ _ _ _ _ c.self.invariant _ _ _ tap c.index-place.result.now c.index.result.now c.index-place.ensures c.index.ensures

pub returns : goal.returns
returns c = λ n st.
    let tap = tap_is_numbered _ _ c.args.device c.args.port c.tap_number-tap.result c.len-stations.result c.deref.result.now c.self.view_is c.requires (search rules) c.deref.ensures.value c.tap_number-tap.ensures in
    let stands = subst (Stands n) (sym c.self.view_is) st in
    let meant = ap₂ (λ (ss : List Sender) (rs : List RepeaterDevice). kept_tap_number (length ss) rs c.args.device c.args.port) stands.senders stands.repeaters in
    c.heard.ensures
    ∙ hears_at _ _ _ _ _ _ _ _ _ c.self.invariant _ _ _ tap c.index-place.result.now c.index.result.now c.index-place.ensures c.index.ensures
    ∙ ap₂ (λ (hs : List Sym) m. get_or hs m Idle) (heard_alike n _ stands) (tap.number ∙ meant)
