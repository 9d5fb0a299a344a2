-- The first slots and their keys are left.
use Rattle.std.proofs.Common.{◌≡◌, take, rules, subst, sym}
use Rattle.rn_growing.specs.link.Indexed.{AreIndexed}
use Rattle.rn_growing.proofs.KeySteps.{slots_taken}
use Rattle.rn_growing.proofs.slots.Slots.truncate.Goals as goal

pub invariant_of-self : goal.invariant_of-self
invariant_of-self c =
    let slots : c.truncate-2.new.self.items ≡ take c.args.to c.self.inside.slots.items =
    search rules in
    let keys : c.truncate.new.self ≡ take c.args.to c.self.inside.keys = search rules in
    subst (λ ss. AreIndexed ss c.truncate.new.self) (sym slots)
    (subst (AreIndexed (take c.args.to c.self.inside.slots.items)) (sym keys)
    (slots_taken c.self.inside.slots.items c.self.inside.keys c.args.to c.self.invariant))
