-- One of the tokens with that first part.
use Rattle.std.proofs.Common.{◌≡◌, ◌<◌, ◌≤◌, ◌-◌, ℕ, true, refl, subst}
use Rattle.std.specs.Prelude.{Some, slice_get}
use Rattle.rn_bag.specs.Cuts.{has_first}
use Rattle.rn_value.specs.declared.value.Value.{Value}
use Rattle.rn_search.specs.Points.{node_of, tokens_of}
use Rattle.rn_search.specs.declared.point.Point.TheVariants as P
use Rattle.rn_looking.proofs.LookSteps.{goes_on_among}
use Rattle.rn_looking.proofs.TokenLooks.{chooses_first}
use Rattle.rn_looking.proofs.arcs.with_first.Goals as goal

pub returns : goal.returns
returns c =
    let range = c.range_of_first-range.result in
    let exact = subst (λ ds. (i : ℕ) (w : Value) → slice_get (tokens_of c.args.at.problem.now
    (node_of c.args.at.problem.now ds c.args.at.node) c.args.k) i ≡ Some w →
    has_first c.args.part.now w ≡ true → (range.start ≤ i) × (i < range.end))
    c.decisions-decisions.ensures
    (λ i w at begins. (c.range_of_first-range.ensures.exact i w at).0 begins) in
    goes_on_among c.args.at.problem.now c.args.at.growing.now.decisions
    (P.Token c.args.at.node c.args.k range.start) (range.end - range.start) c.among.result
    (λ first. chooses_first c.args.at.problem.now c.args.at.growing.now c.args.at.node
    c.args.at.head.now c.args.at.transition.now c.requires.at c.args.k c.requires.token
    c.args.part.now range.start range.end (range.end - range.start) first c.requires.known exact refl) c.among.ensures
