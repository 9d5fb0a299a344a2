use Rattle.std.proofs.Common.{◌<◌, length, subst, sym}
use Rattle.std.specs.Prelude.{All}
use Rattle.rn_term.specs.declared.term.Term.TheVariants as T
use Rattle.rn_value.specs.declared.value.Value.TheVariants as Value
use Rattle.rn_growing.proofs.LaidSteps.{made_answer}
use Rattle.rn_growing.proofs.laid.Laid.list.Goals as goal

pub returns-clause-made : goal.returns-clause-made
returns-clause-made c =
    let within : All (λ id. id < length c.self.inside.store.terms) c.args.ids =
    subst (λ old. All (λ id. id < length old.store.terms) c.args.ids) (sym c.self.view_is)
    c.requires.within in
    made_answer c.add.result c.self.inside.store c.add.new.self c.self.inside.slots
    c.args.self.now (T.List c.args.ids) (λ vs. Value.List vs) c.args.ids c.self.view_is
    c.mark-kept.ensures.kept c.self.invariant within c.requires.within
    (λ vs v. (λ e. e, λ e. e)) c.add.ensures.id c.add.ensures.added
