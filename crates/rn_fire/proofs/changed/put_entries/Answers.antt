use Rattle.std.proofs.Common.{subst, arith}
use Rattle.std.proofs.lemmas.List.{take_all}
use Rattle.rn_fire.specs.link.Changed.{EntryHasNodeOn, Gets, OneHas}
use Rattle.rn_fire.proofs.ChangedLemmas.{none_yet, one_more}
use Rattle.rn_fire.proofs.changed.put_entries.Goals as goal

pub loop-entry-init : goal.loop-entry-init
loop-entry-init c = none_yet EntryHasNodeOn c.args.entries.now c.args.changed.now.items

pub loop-entry-preserved : goal.loop-entry-preserved
loop-entry-preserved c =
    one_more EntryHasNodeOn c.args.entries.now c.loop-entry.entry-index c.entry-item.result
    c.args.changed.now.items c.loop-entry.changed.items c.put_entry.new.changed.items
    c.loop-entry-test.true c.entry-item.is c.loop-entry.invariant c.in_ok-put_entry.ensures

pub returns : goal.returns
returns c =
    subst
    (λ es. Gets (OneHas EntryHasNodeOn es) c.args.changed.now.items c.loop-entry.changed.items)
    (take_all c.loop-entry.entry-index c.args.entries.now
    (omega (arith, c.loop-entry-test.false)))
    c.loop-entry.invariant
