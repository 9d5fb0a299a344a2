pub mod CountingLemmas
mod LineLemmas
mod Repeating
mod Writing
