-- Each net has its numbers, and all are made, one after another.
use Rattle.std.proofs.Common.{◌≡◌, ◌∙◌, rules, ap, map, length}
use Rattle.std.specs.Vec.Iter.{into_iter_items, into_iter_len}
use Rattle.rn_numbering.specs.link.Making.{HasNetNumbers, net_by}
use Rattle.rn_numbered.specs.link.NumbersFound.{channel_by}
use Rattle.rn_numbering.proofs.GivenLemmas.{all_given, each_given}
use Rattle.rn_numbering.proofs.numbering.nets_of.Goals as goal

pub net_of-requires-clause-declared : goal.net_of-requires-clause-declared
net_of-requires-clause-declared c =
    let gives : into_iter_items c.into_iter-net-iterator.result ≡ c.args.nets.items = search rules in
    let many : into_iter_len c.into_iter-net-iterator.result ≡ length c.args.nets.items = search rules in
    each_given HasNetNumbers c.into_iter-net-iterator.result c.loop-net.net-iterator c.next.new.self
    c.next.result c.in-Some.net c.args.nets.items gives many c.loop-net.yielded c.loop-net.yielded_by
    c.in-Some.is c.next.ensures.steps c.requires.declared

pub returns : goal.returns
returns c =
    let gives : into_iter_items c.into_iter-net-iterator.result ≡ c.args.nets.items = search rules in
    let many : into_iter_len c.into_iter-net-iterator.result ≡ length c.args.nets.items = search rules in
    c.from_vec.ensures
    ∙ c.loop-net.invariant
    ∙ ap (map (net_by c.args.names.now (channel_by c.args.channels.now)))
    (all_given c.into_iter-net-iterator.result c.loop-net.net-iterator c.next.new.self c.next.result
    c.args.nets.items gives many c.loop-net.yielded c.loop-net.yielded_by c.in-None.is
    c.next.ensures.steps)
