use Rattle.std.proofs.Common.{ap, length, sym, ◌∙◌}
use Rattle.std.proofs.lemmas.List.{length-map}
use Rattle.load_plan.proofs.PlansAreSound.{sound_of_plan}
use Rattle.run_checkpoint.specs.PortNames.{named_port}
use Rattle.run_checkpoint.proofs.StateLengths.{as_many_guards, as_many_senders}
use Rattle.run_checkpoint.proofs.writing.state_text.Goals as goal

pub all_ports-requires : goal.all_ports-requires
all_ports-requires c = sound_of_plan c.args.plan.now

pub add_senders-requires : goal.add_senders-requires
add_senders-requires c =
    ap length c.as_slice-stations.ensures ∙ (sym c.args.plan.now.queued ∙ (as_many_senders c.args.plan.now.queues c.args.state.now.senders c.requires.senders ∙ ap length (sym c.as_slice.ensures)))

pub add_guards-requires-clause-guards : goal.add_guards-requires-clause-guards
add_guards-requires-clause-guards c =
    ap length c.as_slice-2.ensures.value
    ∙ (sym (length-map c.in_ok-ports.ports.items named_port) ∙ (ap length c.in_ok-ports.ensures ∙ ((as_many_guards _ _ _ c.requires.guards).0 ∙ ap length (sym c.as_slice-3.ensures))))

pub add_guards-requires-clause-rests : goal.add_guards-requires-clause-rests
add_guards-requires-clause-rests c =
    ap length c.as_slice-2.ensures.value
    ∙ (sym (length-map c.in_ok-ports.ports.items named_port) ∙ (ap length c.in_ok-ports.ensures ∙ ((as_many_guards _ _ _ c.requires.guards).1 ∙ ap length (sym c.as_slice-4.ensures))))

pub add_entries-requires : goal.add_entries-requires
add_entries-requires c = sound_of_plan c.args.plan.now
