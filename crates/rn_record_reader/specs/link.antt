pub mod CalledAhead
pub mod DueAhead
pub mod FiringsAhead
pub mod LinesAhead
pub mod MarksAhead
pub mod NodesAhead
pub mod PrintsAhead
pub mod RunsAhead
