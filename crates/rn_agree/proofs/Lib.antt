mod AgreeLemmas
mod EachLemmas
mod FitNodes
mod LinkLemmas
mod PathLemmas
mod PartsAgree
