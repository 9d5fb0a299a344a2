-- A guard that is tried at a token meets no value of a wrong kind.
use Rattle.std.proofs.Common.{◌≡◌, ℕ, true, ◌∷◌, sym, ap, ◌∙◌, subst}
use Rattle.std.specs.Prelude.{Some, slice_get, Contains}
use Rattle.rn_value.specs.Kinds.{HasKind}
use Rattle.rn_value.specs.declared.value.Value.{Value}
use Rattle.rn_model.specs.declared.expr.Cond.{Cond}
use Rattle.rn_model.specs.declared.expr.Expr.TheVariants as E
use Rattle.rn_model.specs.declared.system.Transition.{Transition}
use Rattle.rn_model.specs.Derivation.{finds_token}
use Rattle.rn_model.specs.Evaluation.{Env}
use Rattle.rn_model.specs.Good.{Good}
use Rattle.rn_calc.specs.FitComparisons.{ComparisonsAreFit}
use Rattle.rn_growing.specs.declared.decision.Head.{Head}
use Rattle.rn_growing.specs.Decisions.{transition_in}
use Rattle.rn_growing.specs.Grown.{Grown}
use Rattle.rn_growing.proofs.Growth.{at_in}
use Rattle.rn_search.specs.Problems.{HasFitTokens}
use Rattle.rn_search.specs.Sought.{Sought}
use Rattle.rn_looking.specs.Branches.{IsBranchOf, IsLookedAt}
use Rattle.rn_looking.specs.NodeKinds.{IsKindedNode, kinds_at}
use Rattle.rn_looking.proofs.KindedNodes.{kinded_node, token_of_kind}
use Rattle.rn_looking.proofs.KindedValues.{comparisons_fit, forced_kinds, one_before, read_kinds}
use Rattle.rn_branch.specs.declared.offer.Offer.{Offer}
use Rattle.rn_branch.specs.declared.testing.Test.{Test}
use Rattle.rn_branch.specs.Offers.{IsOffer}
use Rattle.rn_branch.specs.Testing.{IsTest}

pub trial_fits : (g : Grown) (head : Head) (t : Transition) (x : ℕ) (v : Value) (test : Test)
    (guard : Cond) → IsKindedNode g head t → HasKind v (kinds_at g head x) →
    t ≡ transition_in g.system head → slice_get t.guards test.guard ≡ Some guard →
    IsTest g head x test → (env : Env) → env.pairs ≡ (x, v) ∷ test.others.items →
    ComparisonsAreFit env guard
trial_fits g head t x v test guard node has of at is_test env pairs =
    let there : slice_get (transition_in g.system head).guards test.guard ≡ Some guard =
    ap (λ (u : Transition). slice_get u.guards test.guard) (sym of) ∙ at in
    let others = is_test guard there in
    comparisons_fit (kinds_at g head) env guard
    (read_kinds (kinds_at g head) env ((x, v) ∷ test.others.items) pairs
    (one_before (kinds_at g head) x v test.others.items has
    (forced_kinds g head test.others.items node.forces others.forced)))
    (node.guards guard (at_in t.guards test.guard guard at))

-- the token of an alternative, and the node that it is of
module _ (sought : Sought) (g : Grown) (branch : IsBranchOf sought g) (good : Good sought.system)
    (fit : HasFitTokens sought.system sought.marking) (node k i : ℕ) (o : Offer)
    (offer : IsOffer sought g.decisions node k i o) where
  looked : IsLookedAt sought g node o.head.now o.transition.now
  looked = record {
    branch = branch;
    good = good;
    tokens = fit;
    caller = offer.caller;
    at = offer.entry;
    transition = offer.within;
  }

  pub offer_kinded : IsKindedNode g o.head.now o.transition.now
  offer_kinded = kinded_node sought g node o.head.now o.transition.now looked

  pub offer_of_kind : (x : ℕ) → finds_token o.arc.now.kind ≡ true →
      o.arc.now.inscription ≡ E.Var x → HasKind o.token.now (kinds_at g o.head.now x)
  offer_of_kind x token is =
      token_of_kind sought g node o.head.now o.transition.now looked o.arc.now x o.token.now
      (at_in o.transition.now.arcs k o.arc.now offer.there) token is
      (subst (λ ts. Contains ts o.token.now) offer.all (at_in o.held.now i o.token.now offer.at))
