use Rattle.std.proofs.Common.{◌≡◌, drop}
use Rattle.std.specs.List.{flat_map}
use Rattle.rn_value.specs.Text.{inst_text}
use Rattle.rn_window.specs.Windows.{after}
use Rattle.rn_spell.proofs.Pieces.{comma_and}
use Rattle.rn_spell.proofs.values.+text.Given as goal

abbrev pub invariant-put_all-loop-value : goal.invariant-put_all-loop-value
invariant-put_all-loop-value g l =
    after l.window (flat_map (comma_and (λ i. inst_text (g.N.Naming.names l.naming) (g.N.Naming.renamed l.naming i))) (drop l.value-index l.others))
    ≡ after l.initial.window (flat_map (comma_and (λ i. inst_text (g.N.Naming.names l.naming) (g.N.Naming.renamed l.naming i))) l.others)
