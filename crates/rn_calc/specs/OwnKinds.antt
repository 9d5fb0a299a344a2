-- The kinds of a node's values.
use Rattle.std.specs.List.{AllZip}
use Rattle.rn_value.specs.Kinds.{HasKind}
use Rattle.rn_model.specs.declared.system.System.{System}
use Rattle.rn_model.specs.declared.binding.Node.{Node}
use Rattle.rn_model.specs.Systems.{transition_of, var_kind}

-- each value of a node has its variable's kind
abbrev pub HaveOwnKinds : System → Node → Type 0
HaveOwnKinds system node =
    AllZip (λ x v. HasKind v (var_kind system node.net x))
    (transition_of system node).vars node.values
