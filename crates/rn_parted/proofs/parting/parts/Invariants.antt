use Rattle.std.proofs.Common.{◌≡◌, true, drop}
use Rattle.std.specs.List.{list_all}
use Rattle.rn_parted.specs.Parting.{ask_at_most_one, askers_at}
use Rattle.rn_parted.proofs.parting.parts.Given as goal

abbrev pub invariant-loop-transition : goal.invariant-loop-transition
invariant-loop-transition l =
    list_all (λ t. ask_at_most_one t (askers_at t l.place)) (drop l.transition-index l.transition-items)
    ≡ true →
    list_all (λ t. ask_at_most_one t (askers_at t l.place)) l.transition-items ≡ true
