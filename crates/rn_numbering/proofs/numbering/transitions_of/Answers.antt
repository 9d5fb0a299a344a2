-- All transitions, one after another.
use Rattle.std.proofs.Common.{◌≡◌, ◌∙◌, rules, ap, length}
use Rattle.std.specs.Vec.Iter.{into_iter_items, into_iter_len}
use Rattle.rn_numbered.specs.link.NumbersFound.{numbers_by}
use Rattle.rn_numbering.specs.link.Making.{transitions_by}
use Rattle.rn_numbering.proofs.GivenLemmas.{all_given}
use Rattle.rn_numbering.proofs.numbering.transitions_of.Goals as goal

pub returns : goal.returns
returns c =
    let gives : into_iter_items c.into_iter-t-iterator.result ≡ c.args.transitions.items = search rules in
    let many : into_iter_len c.into_iter-t-iterator.result ≡ length c.args.transitions.items = search rules in
    c.from_vec.ensures
    ∙ c.loop-t.invariant
    ∙ ap (transitions_by (numbers_by c.args.tables.now) c.args.count)
    (all_given c.into_iter-t-iterator.result c.loop-t.t-iterator c.next.new.self c.next.result
    c.args.transitions.items gives many c.loop-t.yielded c.loop-t.yielded_by c.in-None.is
    c.next.ensures.steps)
