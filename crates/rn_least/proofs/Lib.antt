pub mod LeastRuns
pub mod OneRun
