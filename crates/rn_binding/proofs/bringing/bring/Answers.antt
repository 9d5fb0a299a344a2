-- By the form of the item.
use Rattle.std.proofs.Common.{sym, subst}
use Rattle.std.specs.Prelude.{Contains}
use Rattle.std.proofs.lemmas.Result.{IfOk-weaker}
use Rattle.rn_model.specs.Derivation.{entry, items_of}
use Rattle.rn_growing.proofs.SoundItems.{items_sound}
use Rattle.rn_binding.specs.link.Parts.{item_of}
use Rattle.rn_binding.specs.link.Passing.{BringsItem}
use Rattle.rn_binding.proofs.bringing.bring.Goals as goal

pub bring_entry-requires-clause-item : goal.bring_entry-requires-clause-item
bring_entry-requires-clause-item c =
    items_sound c.args.subject.system.now c.args.subject.binding.now (entry c.in-Entry.node.now)
    (subst (λ p. Contains (items_of c.args.subject.system.now c.args.subject.binding.now) (item_of p))
    c.in-Entry.is c.requires.item)

pub returns-in-Entry-clause-brings : goal.returns-in-Entry-clause-brings
returns-in-Entry-clause-brings c =
    IfOk-weaker _ _ _ (λ yes brings. subst (λ p. BringsItem c.args.subject.system.now
    c.args.subject.binding.now c.args.growing.now (item_of p) c.bring_entry.new.growing yes)
    (sym c.in-Entry.is) brings) c.bring_entry.ensures.brings

pub returns-in-Computed-clause-brings : goal.returns-in-Computed-clause-brings
returns-in-Computed-clause-brings c =
    IfOk-weaker _ _ _ (λ yes brings. subst (λ p. BringsItem c.args.subject.system.now
    c.args.subject.binding.now c.args.growing.now (item_of p) c.bring_computed.new.growing yes)
    (sym c.in-Computed.is) brings) c.bring_computed.ensures.brings
