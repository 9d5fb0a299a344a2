-- No run goes on from where nothing is enabled, so nothing was added.
use Rattle.rn_fire.proofs.StateLemmas.{going_on, still_dead}
use Rattle.rn_fire.proofs.state.SimState.commit_none.Goals as goal

pub end-requires-clause-true_end : goal.end-requires-clause-true_end
end-requires-clause-true_end c = (
  still_dead c.args.self.now c.args.seen c.has_ended.ensures.state c.requires.dead,
  c.requires.below (going_on c.args.self.now.ended (λ some.
      let e = c.if-has_ended.ensures.ended.1 some in let no : ⊥ = cc in no)),
)
