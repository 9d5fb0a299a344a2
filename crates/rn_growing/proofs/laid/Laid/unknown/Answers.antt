use Rattle.std.proofs.Common.{◌≡◌, ◌++◌, [], ◌∷◌, length, rules}
use Rattle.std.specs.Prelude.{None, Some}
use Rattle.rn_term.specs.declared.term.Term.TheVariants as T
use Rattle.rn_term.specs.Stores.{with_term}
use Rattle.rn_growing.specs.link.Laid.{Builds}
use Rattle.rn_growing.specs.link.Layouts.{IsLaidIn, asked, id_of}
use Rattle.rn_growing.proofs.LaidSteps.{old_unknown_answer, new_unknown_answer, new_slot}
use Rattle.rn_growing.proofs.laid.Laid.unknown.Goals as goal
use Rattle.rn_growing.proofs.laid.Laid.unknown.Goals.{In_ok-push-in-None}

both : (c : In_ok-push-in-None) →
    IsLaidIn (id_of c.push.new.self) c.new_var.new.self × Builds c.args.self.now
    (λ a. Some (asked a c.args.path.now c.args.unknown))
    (record { store = c.new_var.new.self; slots = c.push.new.self }) c.in_ok-id-in-None.id
both c =
    let none : id_of c.self.inside.slots c.args.path.now c.args.unknown ≡ None =
    search rules in
    let is : c.in_ok-id-in-None.id ≡ length c.self.inside.store.terms = search rules in
    let stored : c.new_var.new.self ≡ with_term c.self.inside.store T.Free = search rules in
    let slotted : c.push.new.self ≡ c.self.inside.slots ++ new_slot c.args.path.now
    c.args.unknown c.in_ok-id-in-None.id ∷ [] = search rules in
    new_unknown_answer c.self.inside.store c.new_var.new.self c.self.inside.slots
    c.push.new.self c.args.self.now c.args.path.now c.args.unknown c.in_ok-id-in-None.id
    c.self.view_is c.mark-kept.ensures.kept c.self.invariant none is stored slotted

pub invariant_of-self-in-None : goal.invariant_of-self-in-None
invariant_of-self-in-None c = (both c).0

pub returns-in-Some-clause-built : goal.returns-in-Some-clause-built
returns-in-Some-clause-built c =
    let at : id_of c.self.inside.slots c.args.path.now c.args.unknown ≡ Some c.in-Some.id =
    search rules in
    old_unknown_answer c.self.inside.store c.self.inside.slots c.args.self.now
    c.args.path.now c.args.unknown c.in-Some.id c.self.view_is c.self.invariant at

pub returns-in_ok-push-in-None-clause-built : goal.returns-in_ok-push-in-None-clause-built
returns-in_ok-push-in-None-clause-built c = (both c).1
