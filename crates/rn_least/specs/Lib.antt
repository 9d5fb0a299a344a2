pub mod Laws
pub mod LeastRuns
