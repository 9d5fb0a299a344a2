use Rattle.std.proofs.Common.{◌≡◌, map, ap, ◌∙◌}
use Rattle.std.specs.Prelude.{flat_map}
use Rattle.std.proofs.lemmas.Result.{IfOk-weaker}
use Rattle.rn_model.specs.Firing.{made_by, named, renamed_node}
use Rattle.rn_model.specs.Numbers.{key_of, numbered_by}
use Rattle.rn_model.proofs.NumberedInstances.{named_by_numbers}
use Rattle.rn_model.proofs.numbers.named.Goals as goal

pub returns : goal.returns
returns c =
    let system = c.args.system.now in
    let b = c.args.binding.now in
    let next = c.args.next in
    let made = c.in_ok-made.made.items in
    let numbers = c.in_ok-numbers.numbers in
    let keys = c.in_ok-made.ensures ∙ ap (λ nodes. map key_of (flat_map (made_by system) nodes)) c.as_slice.ensures in
    IfOk-weaker c.named_by.result (λ n. n.nodes ≡ map (renamed_node (numbered_by numbers)) b.nodes) (λ n. n ≡ named system b next)
    (λ n nodes. named_by_numbers system b next made numbers n keys c.in_ok-numbers.ensures nodes) c.named_by.ensures
