-- The number of a name is below how many names there are.
use Rattle.std.proofs.Common.{◌∙◌, sym, subst, length, ◌<◌, ◌^◌, arith}
use Rattle.rn_numbered.proofs.NumberLemmas.{all_texts}
use Rattle.rn_numbered.proofs.NumberLemmas.{number_below}
use Rattle.rn_numbered.proofs.numbers.NameNumbers.number.Goals as goal

pub overflow_cast-result : goal.overflow_cast-result
overflow_cast-result c =
    let names = all_texts c.self.inside.names.keys in
    let below = number_below 0 _ names c.args.name.now
    (sym (c.self.invariant c.args.name.now) ∙ sym c.number.ensures ∙ c.in-Some.is) in
    let few : length names < 2 ^ 32 = subst (λ xs. length xs < 2 ^ 32) (sym c.self.view_is) c.requires in
    omega (arith, below, few)
