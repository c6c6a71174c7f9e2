pub mod EndsOfEdges
mod DutyPlaces
