use Rattle.std.proofs.Common.{rules, ◌<◌, arith, subst}
use Rattle.rn_term.specs.link.Kept.{level_of}
use Rattle.rn_term.specs.Occurring.{IsFree, Occurs}
use Rattle.rn_term.proofs.LevelLemmas.{level_of_occurring}
use Rattle.rn_term.proofs.store.Store.is_above.Goals as goal

pub returns : goal.returns
returns c = record {
  apart = λ yes.
      let less : level_of c.self.inside.levels.items c.args.var
      < level_of c.self.inside.levels.items c.args.id = search rules in
      subst (λ s. IsFree s c.args.var → ¬ Occurs s c.args.var c.args.id) c.self.view_is
      (λ free occurs.
      let low = level_of_occurring _ c.self.inside.levels.items c.self.inside.flags.items
      c.self.invariant.sound c.self.invariant.flagged c.self.invariant.leveled c.args.var c.args.id
      free.variable occurs in
      let no : ⊥ = omega (arith, low, less) in no);
}
