use Rattle.std.proofs.Common.{[], sym, subst}
use Rattle.std.specs.Prelude.{◌↔◌, IsTrue, unwrap_or}
use Rattle.std.specs.Option.{option_copied}
use Rattle.rn_model.specs.Lists.{IsWithin}
use Rattle.rn_arcs.proofs.CountLemmas.{only_nothing}
use Rattle.rn_arcs.proofs.holding.has_all_in.Goals as goal

pub returns-in-None : goal.returns-in-None
returns-in-None c =
    subst (λ bag. IsTrue c.is_empty.result
    ↔ IsWithin c.args.sorted.now (unwrap_or (option_copied bag) [])) (sym c.in-None.is)
    (only_nothing c.is_empty.result c.args.sorted.now c.is_empty.ensures)

pub returns-in-Some : goal.returns-in-Some
returns-in-Some c =
    subst (λ bag. IsTrue c.has_all.result
    ↔ IsWithin c.args.sorted.now (unwrap_or (option_copied bag) [])) (sym c.in-Some.is)
    c.has_all.ensures
