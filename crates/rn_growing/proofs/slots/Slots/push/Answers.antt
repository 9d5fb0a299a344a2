-- The slot comes behind with its key.
use Rattle.std.proofs.Common.{◌≡◌, ◌++◌, ◌∷◌, [], rules, subst, sym}
use Rattle.rn_growing.specs.link.Indexed.{AreIndexed}
use Rattle.rn_growing.specs.link.Keys.{slot_key}
use Rattle.rn_growing.specs.link.Layouts.{id_of}
use Rattle.std.specs.Prelude.{None}
use Rattle.rn_growing.proofs.KeySteps.{slot_pushed}
use Rattle.rn_growing.proofs.slots.Slots.push.Goals as goal

pub invariant_of-self-2 : goal.invariant_of-self-2
invariant_of-self-2 c =
    let slots : c.push-2.new.self.items ≡ c.self.inside.slots.items ++ c.args.slot ∷ [] =
    search rules in
    let keys : c.push.new.self ≡ c.self.inside.keys ++ slot_key c.args.slot ∷ [] =
    search rules in
    subst (λ ss. AreIndexed ss c.push.new.self) (sym slots)
    (subst (AreIndexed (c.self.inside.slots.items ++ c.args.slot ∷ [])) (sym keys)
    (slot_pushed c.self.inside.slots.items c.self.inside.keys c.args.slot c.self.invariant
    (subst (λ ss. id_of ss c.args.slot.path c.args.slot.unknown ≡ None) (sym c.self.view_is)
    c.requires)))
