use Rattle.std.proofs.Common.{sym, subst}
use Rattle.std.specs.Prelude.{OnOk}
use Rattle.rn_fire.specs.link.Changed.{EntryHasNodeOn, Gets}
use Rattle.rn_fire.proofs.changed.put_entry.Goals as goal

pub returns-in-Fire : goal.returns-in-Fire
returns-in-Fire c =
    subst
    (λ e. OnOk c.put_binding.result
    (Gets (EntryHasNodeOn e) c.args.changed.now.items c.put_binding.new.changed.items))
    (sym c.in-Fire.is) c.put_binding.ensures
