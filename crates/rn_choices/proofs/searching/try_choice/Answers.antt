use Rattle.std.proofs.Common.{rules, ◌≡◌, ℕ, ◌+◌, ◌-◌, ◌<◌, ◌≤◌, ◌++◌, ◌∷◌, ◌∙◌, [], take, arith}
use Rattle.std.proofs.Common.{subst}
use Rattle.std.proofs.Math.Seq.{take-length}
use Rattle.rn_choices.specs.Turns.{turned}
use Rattle.rn_choices.specs.Waiting.{at_turn}
use Rattle.rn_choices.specs.Leading.{NoneLeads}
use Rattle.rn_choices.proofs.Trying.{one_made, later, all_tried, passed_over, still}
use Rattle.rn_choices.proofs.Turning.{turned_within}
use Rattle.rn_choices.proofs.searching.try_choice.Goals as goal

pub returns-then-branch-clause-left : goal.returns-then-branch-clause-left
returns-then-branch-clause-left g c =
    let grows = g.G.Grows in
    let choice = c.args.choice in
    let turn = c.loop-turn.turn in
    let before = take choice.mark (grows.decisions c.args.problem.now c.args.state.now) in
    let here : grows.decisions c.args.problem.now c.undo.new.self ≡ before
    = c.undo.ensures.taken_back ∙ c.loop-turn.invariant.kept in
    let made : grows.decisions c.args.problem.now c.push.new.self
    ≡ before ++ at_turn (grows.offers c.args.problem.now) before choice turn ∷ []
    = search rules in
    let begun = c.loop-turn.invariant.begun in
    λ s. one_made (grows.leads c.args.problem.now)
    (grows.offers c.args.problem.now) before _ choice turn s begun c.loop-turn-test.true made
    (c.loop-turn.invariant.left s)

pub turn_after-turn-requires-clause-alternative : goal.turn_after-turn-requires-clause-alternative
turn_after-turn-requires-clause-alternative g c =
    let choice = c.args.choice in
    let within = turned_within choice.first choice.of c.loop-turn.turn c.requires.met.1
    c.loop-turn-test.true in
    let is = c.turn_round-alternative.ensures in
    omega (arith, within, is)

-- those that lead to none are passed
pub loop-turn-preserved-then-vain-gt0 : goal.loop-turn-preserved-then-vain-gt0
loop-turn-preserved-then-vain-gt0 g c =
    let grows = g.G.Grows in
    let leads = grows.leads c.args.problem.now in
    let offers = grows.offers c.args.problem.now in
    let choice = c.args.choice in
    let turn = c.loop-turn.turn in
    let ds = grows.decisions c.args.problem.now c.args.state.now in
    let before = take choice.mark ds in
    let mid = grows.decisions c.args.problem.now c.undo.new.self in
    let here : mid ≡ before = c.undo.ensures.taken_back ∙ c.loop-turn.invariant.kept in
    let prefix = still choice.mark ds mid mid c.requires.met.0 here (take-length mid) in
    let is : c.turn_round-alternative.result ≡ turned choice.first choice.of turn =
    c.turn_round-alternative.ensures in
    let later = c.turn_after-turn.ensures.later in
    let begun = c.loop-turn.invariant.begun in
    record {
      begun = omega (arith, later, begun);
      stands = c.undo.ensures.stands;
      within = prefix.0;
      kept = prefix.1;
      left = λ s w. passed_over leads offers before choice turn c.turn_after-turn.result
          c.vain_from-vain.result s c.turn_after-turn.ensures.passed
          (subst (λ a. c.turn_after-turn.result ≤ turn + (choice.of - a)) is
          c.turn_after-turn.ensures.last)
          (subst (λ b. (a : ℕ) → b ≤ a → a < b + c.vain_from-vain.result →
          NoneLeads leads (before ++ offers before choice.site a ∷ [])) is
          (subst (λ es. (a : ℕ) → c.turn_round-alternative.result ≤ a →
          a < c.turn_round-alternative.result + c.vain_from-vain.result →
          NoneLeads leads (es ++ offers es choice.site a ∷ [])) here c.vain_from-vain.ensures))
          (c.loop-turn.invariant.left s w);
    }

pub loop-turn-preserved : goal.loop-turn-preserved
loop-turn-preserved g c =
    let grows = g.G.Grows in
    let leads = grows.leads c.args.problem.now in
    let choice = c.args.choice in
    let turn = c.loop-turn.turn in
    let before = take choice.mark (grows.decisions c.args.problem.now c.args.state.now) in
    let here : grows.decisions c.args.problem.now c.undo.new.self ≡ before
    = c.undo.ensures.taken_back ∙ c.loop-turn.invariant.kept in
    let none : NoneLeads leads (before
    ++ at_turn (grows.offers c.args.problem.now) before choice turn ∷ []) = search rules in
    let prefix =
    still choice.mark (grows.decisions c.args.problem.now c.args.state.now)
    (grows.decisions c.args.problem.now c.undo.new.self)
    (grows.decisions c.args.problem.now c.push.new.self) c.requires.met.0 here
    c.in_ok-push.ensures.kept in
    record {
      begun = let begun = c.loop-turn.invariant.begun in omega (arith, begun);
      stands = c.in_ok-push.ensures.stands;
      within = prefix.0;
      kept = prefix.1;
      left = λ s w. later leads (grows.offers c.args.problem.now) before
          (record choice { tried = turn }) s none (c.loop-turn.invariant.left s w);
    }

pub returns-clause-left : goal.returns-clause-left
returns-clause-left g c =
    let grows = g.G.Grows in
    λ s. (
      λ w. all_tried (grows.leads c.args.problem.now) (grows.offers c.args.problem.now) _
          (record c.args.choice { tried = c.loop-turn.turn }) s
          (omega arith) (c.loop-turn.invariant.left s w),
      λ no. absurd no,
    )
