use Rattle.std.proofs.Common.{◌≡◌, drop, map}
use Rattle.rn_model.specs.Firing.{renamed_value}
use Rattle.rn_model.specs.NodeText.{all_given_text}
use Rattle.rn_window.specs.Windows.{after}
use Rattle.rn_spell.proofs.nodes.put_all_given.Given as goal

-- what is written so far and the values to come are all
abbrev pub invariant-loop-i : goal.invariant-loop-i
invariant-loop-i g l =
    after l.window (all_given_text (g.N.Naming.names l.naming) l.net (drop l.i l.vars) (map (λ v. renamed_value v (g.N.Naming.renamed l.naming)) (drop l.i l.values)))
    ≡ after l.initial.window (all_given_text (g.N.Naming.names l.naming) l.net l.vars (map (λ v. renamed_value v (g.N.Naming.renamed l.naming)) l.values))
