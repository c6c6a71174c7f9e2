use Rattle.segment_engine.proofs.StationRoom.{event_covered, receiver_covered, station_left}
use Rattle.segment_engine.proofs.stations.step_station.Goals as goal

pub log_event-requires : goal.log_event-requires
log_event-requires c = record {
  room = event_covered c.args.sender.now c.args.heard c.args.receiver.now c.step-step.result.event c.args.room.now c.step-step.ensures.event c.requires.room;
}

pub receive-requires-clause-room : goal.receive-requires-clause-room
receive-requires-clause-room c =
    receiver_covered c.args.sender.now c.args.heard c.args.receiver.now c.step-step.result.event c.args.room.now c.log_event.new.room c.step-step.ensures.event c.log_event.ensures.room c.requires.room

pub returns-clause-left : goal.returns-clause-left
returns-clause-left c = λ n other h.
    station_left n other c.args.sender.now c.step-step.new.self c.args.heard c.args.receiver.now c.receive.new.self c.step-step.result.event c.args.room.now c.log_event.new.room c.receive.new.room
    c.step-step.ensures.state c.step-step.ensures.event c.log_event.ensures.room c.receive.ensures.left h
