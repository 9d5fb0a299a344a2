use Rattle.std.proofs.Common.{rules, ◌≡◌, ◌≤◌, ◌++◌, ◌∷◌, ◌↔◌, [], take, subst, sym, refl}
use Rattle.std.proofs.Common.{le_trans, arith}
use Rattle.rn_choices.specs.Waiting.{at_turn, Waits, Stand, StandBelow, weight}
use Rattle.rn_choices.proofs.GoingBack.{past_choice, by_choice, prefix_kept, stand_below, joined}
use Rattle.rn_choices.proofs.GoingBack.{less_to_try}
use Rattle.rn_choices.proofs.searching.go_back.Goals as goal

pub returns-in-Some-made-clause-left : goal.returns-in-Some-made-clause-left
returns-in-Some-made-clause-left g c =
    let grows = g.G.Grows in
    let leads = grows.leads c.args.problem.now in
    let offers = grows.offers c.args.problem.now in
    let allows = grows.allows c.args.problem.now in
    let ds = grows.decisions c.args.problem.now c.loop-choice.state in
    let after = grows.decisions c.args.problem.now c.try_choice.new.state in
    let choice = c.in-Some.choice in
    let turn = c.in-Some-made.turn in
    let set : StandBelow offers allows ds (choice ∷ c.pop.new.self)
    = subst (λ cs. StandBelow offers allows ds cs) c.in-Some.ensures c.loop-choice.invariant.set in
    let made : after ≡ take choice.mark ds
    ++ at_turn offers (take choice.mark ds) choice turn ∷ [] = search rules in
    let prefix = prefix_kept choice.mark ds _ after set.0.0 made in
    let here = rw c.in-Some-made.is at c.in_ok-made.ensures.left in
    λ s. rw (c.in_ok-push.ensures, c.spend.ensures) (joined
    (subst (λ cs. Waits leads offers
    (grows.decisions c.args.problem.now c.args.state.now) c.args.choices.now s
    ↔ Waits leads offers ds cs s)
    c.in-Some.ensures (c.loop-choice.invariant.left s))
    (by_choice leads offers ds after choice turn c.pop.new.self s prefix (here s)))

pub returns-in-Some-made-clause-load : goal.returns-in-Some-made-clause-load
returns-in-Some-made-clause-load g c =
    let grows = g.G.Grows in
    let offers = grows.offers c.args.problem.now in
    let allows = grows.allows c.args.problem.now in
    let room = grows.room c.args.problem.now in
    let ds = grows.decisions c.args.problem.now c.loop-choice.state in
    let after = grows.decisions c.args.problem.now c.try_choice.new.state in
    let choice = c.in-Some.choice in
    let turn = c.in-Some-made.turn in
    let set : StandBelow offers allows ds (choice ∷ c.pop.new.self)
    = subst (λ cs. StandBelow offers allows ds cs) c.in-Some.ensures c.loop-choice.invariant.set in
    let made = rw c.in-Some-made.is at c.in_ok-made.ensures.made in
    let deeper = (rw c.in-Some-made.is at c.in_ok-made.ensures.room) refl in
    let prefix = prefix_kept choice.mark ds _ after set.0.0 made.2 in
    let less = less_to_try room ds after choice turn c.pop.new.self prefix made.0 made.1 deeper in
    let begun : weight room ds (choice ∷ c.pop.new.self) ≤ weight room
    (grows.decisions c.args.problem.now c.args.state.now) c.args.choices.now
    = subst (λ cs. weight room ds cs ≤ weight room
    (grows.decisions c.args.problem.now c.args.state.now) c.args.choices.now)
    c.in-Some.ensures c.loop-choice.invariant.weight in
    λ live. rw (c.in_ok-push.ensures, c.spend.ensures) (le_trans less begun)

pub loop-choice-preserved : goal.loop-choice-preserved
loop-choice-preserved g c =
    let grows = g.G.Grows in
    let leads = grows.leads c.args.problem.now in
    let offers = grows.offers c.args.problem.now in
    let allows = grows.allows c.args.problem.now in
    let room = grows.room c.args.problem.now in
    let ds = grows.decisions c.args.problem.now c.loop-choice.state in
    let after = grows.decisions c.args.problem.now c.try_choice.new.state in
    let choice = c.in-Some.choice in
    let set : StandBelow offers allows ds (choice ∷ c.pop.new.self)
    = subst (λ cs. StandBelow offers allows ds cs) c.in-Some.ensures c.loop-choice.invariant.set in
    let back : after ≡ take choice.mark ds = search rules in
    let none = rw c.in_default-made.is at c.in_ok-made.ensures.left in
    let weighs : weight room ds (choice ∷ c.pop.new.self) ≤ weight room
    (grows.decisions c.args.problem.now c.args.state.now) c.args.choices.now
    = subst (λ cs. weight room ds cs ≤ weight room
    (grows.decisions c.args.problem.now c.args.state.now) c.args.choices.now)
    c.in-Some.ensures c.loop-choice.invariant.weight in
    let less : weight room (take choice.mark ds) c.pop.new.self ≤ weight room
    (grows.decisions c.args.problem.now c.args.state.now) c.args.choices.now
    = omega arith in
    rw c.spend.ensures (record {
      stands = c.in_ok-made.ensures.stands;
      set = stand_below offers allows after c.pop.new.self
          (subst (λ l. Stand offers allows l c.pop.new.self) (sym back) set.1);
      left = λ s. joined
          (subst (λ cs. Waits leads offers
          (grows.decisions c.args.problem.now c.args.state.now) c.args.choices.now s
          ↔ Waits leads offers ds cs s)
          c.in-Some.ensures (c.loop-choice.invariant.left s))
          (past_choice leads offers ds after choice c.pop.new.self s back (none s));
      weight = subst (λ l. weight room l c.pop.new.self ≤ weight room
          (grows.decisions c.args.problem.now c.args.state.now) c.args.choices.now)
          (sym back) less;
    })
