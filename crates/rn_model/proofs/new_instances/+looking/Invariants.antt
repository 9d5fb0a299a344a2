use Rattle.std.proofs.Common.{◌≡◌, drop, map}
use Rattle.std.specs.List.{list_any}
use Rattle.rn_model.specs.SoundTokens.{holds_new}
use Rattle.rn_model.proofs.new_instances.+looking.Given as goal

abbrev pub invariant-any_holds_new-loop-value : goal.invariant-any_holds_new-loop-value
invariant-any_holds_new-loop-value l = list_any (λ h. h) (map holds_new (drop l.value-index l.values)) ≡ list_any (λ h. h) (map holds_new l.values)
