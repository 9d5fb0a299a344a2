-- By the item that was tried.
use Rattle.rn_model.specs.Derivation.{items_of}
use Rattle.rn_binding.specs.link.Parts.{item_of}
use Rattle.rn_binding.proofs.Later.{not_yet, part_there, tried_is_later}
use Rattle.rn_binding.proofs.propagating.comes_in.Goals as goal

pub bring-requires-clause-item : goal.bring-requires-clause-item
bring-requires-clause-item c =
    part_there c.args.graph.parts.now (items_of c.args.graph.subject.system.now c.args.graph.subject.binding.now) c.args.i
    c.in-Some.part.now c.requires.items c.in-Some.ensures.lookup.3.0 c.in-Some.ensures.lookup.1

pub returns-in_default : goal.returns-in_default
returns-in_default c =
    not_yet c.args.graph.subject.system.now c.args.graph.subject.binding.now c.args.growing.now c.requires.followed

pub returns : goal.returns
returns c =
    tried_is_later c.args.graph.subject.system.now c.args.graph.subject.binding.now c.args.growing.now
    (item_of c.in-Some.part.now) c.bring.new.growing c.bring.result c.bring.ensures.brings
    c.bring.ensures.followed
