-- None of the nets so far is `main`.
use Rattle.std.proofs.Common.{◌≡◌, drop}
use Rattle.std.specs.Prelude.{codes}
use Rattle.std.specs.List.{list_any}
use Rattle.rn_declared.specs.Names.{same_name}
use Rattle.rn_rules.proofs.nets.has_main.Given as goal

abbrev pub invariant-loop-net : goal.invariant-loop-net
invariant-loop-net l =
    list_any (λ net. same_name net.name.text (codes "main")) (drop l.net-index l.nets)
    ≡ list_any (λ net. same_name net.name.text (codes "main")) l.nets
