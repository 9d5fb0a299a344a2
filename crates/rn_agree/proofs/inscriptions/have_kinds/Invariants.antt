use Rattle.std.proofs.Common.{ℕ, drop}
use Rattle.std.specs.Prelude.{◌↔◌}
use Rattle.std.specs.List.{AllZip}
use Rattle.rn_value.specs.Kinds.{HasKind}
use Rattle.rn_value.specs.declared.value.Value.{Value}
use Rattle.rn_model.specs.Systems.{var_kind_in}
use Rattle.rn_agree.proofs.inscriptions.have_kinds.Given as goal

abbrev pub invariant-loop-k : goal.invariant-loop-k
invariant-loop-k l =
    let Fits : ℕ → Value → Type 0 = λ x v. HasKind v (var_kind_in l.net x) in
    AllZip Fits (drop l.k l.vars) (drop l.k l.values) ↔ AllZip Fits l.vars l.values
