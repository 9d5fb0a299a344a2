-- All that were found, one after another.
use Rattle.std.proofs.Common.{◌≡◌, ◌++◌, map, rules, ap, ◌∙◌, length, sym}
use Rattle.std.specs.Vec.Iter.{into_iter_items, into_iter_len}
use Rattle.std.proofs.lemmas.List.{map-id}
use Rattle.std.proofs.lemmas.Iterator.Adapters.{YieldsList-from_vec}
use Rattle.std.proofs.lemmas.Iterator.Consumers.{YieldsList-end}
use Rattle.rn_binding.specs.link.Applications.{application_of}
use Rattle.rn_binding.specs.link.Parts.{item_of}
use Rattle.rn_binding.proofs.PuttingParts.{as_item, computed_put}
use Rattle.rn_binding.proofs.parts.put_computed.Goals as goal

pub returns : goal.returns
returns c =
    let gives : into_iter_items c.into_iter-application-iterator.result
    ≡ c.in_ok-found.found.items = search rules in
    let many : into_iter_len c.into_iter-application-iterator.result
    ≡ length c.in_ok-found.found.items = search rules in
    let all = YieldsList-end (YieldsList-from_vec c.in_ok-found.found.items gives many)
    c.loop-application.yielded c.loop-application.application-iterator
    c.loop-application.yielded_by c.next.result c.next.new.self c.in-None.is
    c.next.ensures.steps in
    computed_put c.args.node.now c.args.transition.now
    (map application_of c.in_ok-found.found.items) (map item_of c.args.parts.now.items)
    (map item_of c.loop-application.parts.items) c.in_ok-found.ensures
    (c.loop-application.invariant
    ∙ ap (λ xs. map item_of c.args.parts.now.items
    ++ map (as_item c.args.node.now) (map application_of xs))
    (sym (map-id c.loop-application.yielded) ∙ all.0))
