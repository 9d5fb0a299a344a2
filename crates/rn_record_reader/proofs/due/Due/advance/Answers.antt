-- One step goes, or its next one comes.
use Rattle.std.proofs.Common.{◌≡◌, ◌∙◌, ◌∷◌, ◌++◌, [], cond, drop, sym, ap, refl, rules}
use Rattle.rn_record_reader.specs.link.DueAhead.{numbers, later}
use Rattle.rn_record_reader.proofs.DueLemmas.{advanced, popped_rest}
use Rattle.rn_record_reader.proofs.due.Due.advance.Goals as goal

pub returns-then-level-gt0 : goal.returns-then-level-gt0
returns-then-level-gt0 c =
    let levels = c.args.self.now.levels.items in
    let was : c.loop-level.self.levels.items ≡ c.pop.new.self.items ++ c.in-Some.level ∷ [] = search rules in
    advanced c.loop-level.self.levels.items c.pop.new.self.items c.push.new.self.items c.in-Some.level _ c.loop-level.self.done
    was c.if-level-gt0.true refl refl c.in_ok-push.ensures.items c.loop-level.invariant.1
    ∙ c.loop-level.invariant.0
    ∙ sym (ap (λ d. drop 1 (cond d [] (numbers levels ∷ later [] levels))) c.requires)

pub loop-level-preserved : goal.loop-level-preserved
loop-level-preserved c =
    let was : c.loop-level.self.levels.items ≡ c.pop.new.self.items ++ c.in-Some.level ∷ [] = search rules in (
      popped_rest c.loop-level.self.levels.items c.pop.new.self.items c.in-Some.level was c.if-level-gt0.false
          ∙ c.loop-level.invariant.0,
      c.loop-level.invariant.1,
    )
