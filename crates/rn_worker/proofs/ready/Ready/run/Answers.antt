-- What the passes brought back is so of the state that was closed.
use Rattle.std.proofs.Common.{◌≡◌, ◌<◌, ◌+◌, length, sym, ap, ◌∙◌, subst, map, get_or, arith}
use Rattle.rn_model.specs.Markings.{initial_marking}
use Rattle.rn_desk.specs.Numbered.{EachAt}
use Rattle.rn_desk.specs.Entries.{StartsWith}
use Rattle.rn_desk.specs.Passes.{IsBack, mine, seen}
use Rattle.rn_fire.specs.declared.setup.Setup.{Setup}
use Rattle.rn_fire.specs.States.{State, IsState, logged}
use Rattle.rn_worker.specs.declared.posts.Post.{Post}
use Rattle.rn_worker.specs.Ends.{AreOfWorkers, IsTallyOf}
use Rattle.rn_worker.proofs.Elements.{EachAt-map, get_or-map_at, length-of_map, one_of, written_back}
use Rattle.rn_worker.proofs.SeenEntries.{then_ended}
use Rattle.rn_worker.proofs.Tallying.{few_workers, own_count}
use Rattle.rn_worker.proofs.ready.Ready.run.Goals as goal

pub close-state-requires-clause-passes : goal.close-state-requires-clause-passes
close-state-requires-clause-passes g c =
    let ps = c.all_work.new.posts in
    let kept = c.all_work.auto.posts in
    let whole = c.self.inside.posts.ok.0 in
    let back : c.parted-passes.result.0.items ≡ map (λ p. p.pass) ps = c.parted-passes.ensures.passes ∙ ap (map (λ p. p.pass)) (written_back ps _ _ (omega (arith, kept, whole))) in
    subst (EachAt (IsBack (λ s. s.setup) c.self.inside.desk)) (sym back)
    (EachAt-map (λ p. p.pass) (IsBack (λ s. s.setup) c.self.inside.desk) ps (λ k x n. (c.all_work.ensures k x n).back))

pub returns-clause-ended : goal.returns-clause-ended
returns-clause-ended g c = λ none.
    let ps = c.all_work.new.posts in
    let kept = c.all_work.auto.posts in
    let whole = c.self.inside.posts.ok.0 in
    let back : c.parted-passes.result.0.items ≡ map (λ p. p.pass) ps = c.parted-passes.ensures.passes ∙ ap (map (λ p. p.pass)) (written_back ps _ _ (omega (arith, kept, whole))) in
    let few : length c.parted-passes.result.0.items ≡ length ps = ap length back ∙ length-of_map (λ p. p.pass) ps in
    let count = c.self.invariant.count in
    let some = c.self.invariant.few.0 in
    let n : 0 < length ps = omega (arith, kept, whole, count, some) in
    let x : Post = one_of ps 0 n in
    let p = (get_or ps 0 x).pass in
    let here : get_or c.parted-passes.result.0.items 0 p ≡ p = ap (λ l. get_or l 0 p) back ∙ get_or-map_at (λ q. q.pass) ps 0 p x n in
    let s : State = c.close-state.result.state in
    let own = c.close-state.ensures.passes 0 p (omega (arith, few, n)) in
    let begins : StartsWith (logged s) (seen p) = subst (λ q. StartsWith (logged s) (seen q)) here own.0 in
    then_ended s (seen p) begins (c.all_work.ensures 0 x n).ended none

pub returns-clause-tallies : goal.returns-clause-tallies
returns-clause-tallies g c =
    let ps = c.all_work.new.posts in
    let kept = c.all_work.auto.posts in
    let whole = c.self.inside.posts.ok.0 in
    let same = written_back ps _ _ (omega (arith, kept, whole)) in
    let back : c.parted-passes.result.0.items ≡ map (λ p. p.pass) ps = c.parted-passes.ensures.passes ∙ ap (map (λ p. p.pass)) same in
    let counted : c.parted-passes.result.1.items ≡ map (λ p. p.tally) ps = c.parted-passes.ensures.tallies ∙ ap (map (λ p. p.tally)) same in
    let few : length c.parted-passes.result.0.items ≡ length ps = ap length back ∙ length-of_map (λ p. p.pass) ps in
    let s : State = c.close-state.result.state in
    subst (λ (x : Setup). EachAt (IsTallyOf s.fired x.options.sweep_every) c.from_vec.result) c.self.view_is
    (subst (EachAt (IsTallyOf s.fired c.self.inside.options.sweep_every)) (sym (c.from_vec.ensures ∙ counted))
    (EachAt-map (λ p. p.tally) (IsTallyOf s.fired c.self.inside.options.sweep_every) ps (λ k x n.
    let done = c.all_work.ensures k x n in
    let p = (get_or ps k x).pass in
    let here : get_or c.parted-passes.result.0.items k p ≡ p = ap (λ l. get_or l k p) back ∙ get_or-map_at (λ q. q.pass) ps k p x n in
    let own = c.close-state.ensures.passes k p (omega (arith, few, n)) in (
      done.worker,
      done.fired ∙ ap length (sym (own.1 ∙ ap mine here)) ∙ own_count (k + 1) (λ e. let never : ⊥ = omega (arith, e) in never) s.fired s.ended,
      done.swept,
    ))))

pub returns-clause-workers : goal.returns-clause-workers
returns-clause-workers g c =
    let s : State = c.close-state.result.state in
    let is : IsState s = c.length-length.ensures.state in
    let seats = c.self.invariant.seats in
    subst (λ (x : Setup). AreOfWorkers x.options.workers s.fired) c.self.view_is
    (few_workers c.self.inside.options.workers s.setup.system s.setup.options.depth (initial_marking s.setup.system) s.fired s.ended is.log.run
    (λ n above. c.close-state.ensures.others n (omega (arith, seats, above))))
