use Rattle.std.proofs.Common.{[], length, sym, ap, ◌∙◌}
use Rattle.std.proofs.lemmas.List.{append-nil}
use Rattle.rn_bag.specs.link.Pools.{lists_in}
use Rattle.rn_bag.proofs.TagLemmas.{pushed_in, if_pushed}
use Rattle.rn_bag.proofs.pool.Pool.push.Goals.{in-None, in-Some}
use Rattle.rn_bag.proofs.pool.Pool.push.Goals as goal

pub returns-clause-pushed : goal.returns-clause-pushed
returns-clause-pushed c =
    if_pushed _ _ c.push_to.result
    (λ p. elim c.match-self.branch [
      | in-None w ↦ pushed_in c.self.inside.base _ c.self.inside.own.items _ _ c.args.self.now c.args.at c.match-self.shared c.args.len c.args.value c.self.view_is
          (ap (λ s. s.base) w.self-inside-is) (ap (λ s. s.own.items) w.self-inside-is)
          (w.shared-is ∙ sym (ap (λ b. length (lists_in b [])) w.in-None.is)) c.if-at-shared.false p
      | in-Some w ↦ pushed_in c.self.inside.base _ c.self.inside.own.items _ _ c.args.self.now c.args.at c.match-self.shared c.args.len c.args.value c.self.view_is
          (ap (λ s. s.base) w.self-inside-is) (ap (λ s. s.own.items) w.self-inside-is)
          (w.shared-is ∙ ap length (w.as_slice.ensures ∙ w.get.ensures ∙ sym (append-nil w.in-Some.lists)) ∙ sym (ap (λ b. length (lists_in b [])) w.in-Some.is)) c.if-at-shared.false p
    ])
    c.push_to.ensures.pushed
