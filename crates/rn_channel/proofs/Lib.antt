mod CallsBelow
mod LeastHeights
mod LevelLemmas
mod ListLemmas
mod NetLemmas
