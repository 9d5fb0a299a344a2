-- Nothing is left at the end.
use Rattle.std.proofs.Common.{ap, sym, ◌∙◌, arith}
use Rattle.std.specs.Prelude.{flat_map}
use Rattle.rn_value.specs.Text.{escaped}
use Rattle.rn_window.specs.Windows.{after}
use Rattle.rn_window.proofs.Windows.{nothing}
use Rattle.rn_spell.proofs.Slices.{no_elements}
use Rattle.rn_spell.proofs.values.put_text.Goals as goal

pub returns : goal.returns
returns c =
    let none = no_elements c.loop-rest.rest.now (omega (arith, c.loop-rest-test.false)) in
    sym (nothing c.loop-rest.window) ∙ ap (λ l. after c.loop-rest.window (flat_map escaped l)) (sym none)
    ∙ c.loop-rest.invariant
