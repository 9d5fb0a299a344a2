-- By what the calls give over the binding with the numbers of its new instances.
use Rattle.std.proofs.Common.{◌≡◌, map, ap, sym, subst, ◌∙◌}
use Rattle.std.specs.Prelude.{All, IfSome, Some, flat_map}
use Rattle.rn_value.specs.declared.value.InstRef.TheVariants.{Old}
use Rattle.rn_model.specs.Bindings.{IsNodeOf}
use Rattle.rn_model.specs.declared.binding.Binding.{Binding}
use Rattle.rn_model.specs.Demands.{cleared_at, taken_at}
use Rattle.rn_model.specs.Firing.{Effects, Made, all_effects, creations_of}
use Rattle.rn_acts.specs.Acted.{ArePut}
use Rattle.rn_calc.specs.OwnKinds.{HaveOwnKinds}
use Rattle.rn_acts.proofs.NumberingLemmas.{kinds_kept, nodes_kept}
use Rattle.rn_moves.specs.Moves.{AreMovesOf}
use Rattle.rn_moves.proofs.FiringMoves.{both_ok, made_low, moves_are}
use Rattle.rn_moves.proofs.moving.moves_of.Goals as goal

pub act-requires-clause-nodes : goal.act-requires-clause-nodes
act-requires-clause-nodes c =
    subst (λ b. All (IsNodeOf c.args.system.now) b.nodes) (sym c.in_ok-numbered.ensures)
    (nodes_kept c.args.system.now c.args.binding.now c.args.next c.requires.moves.nodes)

pub act-requires-clause-kinds : goal.act-requires-clause-kinds
act-requires-clause-kinds c =
    subst (λ b. All (HaveOwnKinds c.args.system.now) b.nodes) (sym c.in_ok-numbered.ensures)
    (kinds_kept c.args.system.now c.args.binding.now c.args.next c.requires.moves.kinds)

pub change_of-requires-clause-nodes : goal.change_of-requires-clause-nodes
change_of-requires-clause-nodes c =
    subst (λ b. All (IsNodeOf c.args.system.now) b.nodes) (sym c.in_ok-numbered.ensures)
    (nodes_kept c.args.system.now c.args.binding.now c.args.next c.requires.moves.nodes)

pub change_of-requires-clause-kinds : goal.change_of-requires-clause-kinds
change_of-requires-clause-kinds c =
    subst (λ b. All (HaveOwnKinds c.args.system.now) b.nodes) (sym c.in_ok-numbered.ensures)
    (kinds_kept c.args.system.now c.args.binding.now c.args.next c.requires.moves.kinds)

pub tokens_of-requires-clause-numbers : goal.tokens_of-requires-clause-numbers
tokens_of-requires-clause-numbers c =
    let system = c.args.system.now in
    made_low system c.args.binding.now c.args.next c.args.step c.in_ok-change.change
    c.in-Some.acted.put c.requires.moves (c.in_ok-change.ensures.made
    ∙ ap (λ b. map (λ (m : Made). m.net) (creations_of system b)) c.in_ok-numbered.ensures)

pub returns : goal.returns
returns c =
    let system = c.args.system.now in
    let b = c.args.binding.now in
    let next = c.args.next in
    let step = c.args.step in
    let change = c.in_ok-change.change in
    let put = c.in-Some.acted.put in
    let same = c.in_ok-numbered.ensures in
    let put_by_all = subst (λ o. IfSome o (λ a. (fx : Effects) →
    all_effects system step c.in_ok-numbered.numbered.nodes ≡ Some fx → ArePut system fx a.put))
    c.in-Some.is c.in_ok-acted.ensures.put in
    both_ok _ _ (AreMovesOf system next step b) c.tokens_of.result c.tokens_of.ensures.taken
    c.tokens_of.ensures.put (λ moves gone come.
    moves_are system b next step change put c.requires.moves
    (c.in_ok-change.ensures.made ∙ ap (λ b. map (λ (m : Made). m.net) (creations_of system b)) same)
    (λ n place. c.in_ok-change.ensures.taken n place ∙ ap (λ b. taken_at system b (Old n) place) same)
    (λ n place. c.in_ok-change.ensures.cleared n place
    ∙ ap (λ b. flat_map (λ vs. vs) (cleared_at system b (Old n) place)) same)
    c.in_ok-change.ensures.put
    (put_by_all c.requires.moves.acts
    (ap (λ (b : Binding). all_effects system step b.nodes) same ∙ c.requires.moves.are)) moves gone come)
