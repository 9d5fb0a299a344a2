use Rattle.std.proofs.Common.{◌≡◌, sym, ap, ◌∙◌}
use Rattle.std.specs.Prelude.{nat_eq}
use Rattle.std.specs.List.{list_any}
use Rattle.rn_holders.proofs.HoldingLemmas.{contains_decides}
use Rattle.rn_holders.proofs.backwards.refers.Goals as goal

pub returns : goal.returns
returns c =
    let number = c.args.number in
    let numbers = c.in_ok-numbers.numbers.items in
    let is : c.contains.result ≡ list_any (λ y. nat_eq y number) numbers =
    c.contains.ensures.value ∙ ap (list_any (λ y. nat_eq y number)) c.as_slice.ensures.value in
    let decides = contains_decides numbers number in
    let are = c.in_ok-numbers.ensures number in (
      λ yes. are.0 (decides.0 (sym is ∙ yes)),
      λ refers. is ∙ decides.1 (are.1 refers),
    )
