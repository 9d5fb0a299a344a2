-- By what is known of the token.
use Rattle.std.proofs.Common.{◌≡◌, ◌+◌, ◌∙◌, sym, subst, rules}
use Rattle.std.specs.Prelude.{IsTrue}
use Rattle.std.proofs.lemmas.Result.{IfOk-weaker}
use Rattle.rn_search.specs.declared.point.Point.TheVariants as P
use Rattle.rn_branch.specs.Offers.{IsOffer, NoneLeadBy}
use Rattle.rn_branch.specs.Testing.{FailsGuard}
use Rattle.rn_branch.proofs.TrialKinds.{offer_kinded, offer_of_kind}
use Rattle.rn_branch.proofs.VainTokens.{failing_is_vain, taken_up_is_vain}
use Rattle.rn_branch.proofs.trying.is_vain_token.Goals as goal

pub returns-then-branch-clause-vain : goal.returns-then-branch-clause-vain
returns-then-branch-clause-vain c told =
    let p = c.args.problem.now in
    let offer = c.in-Some-offer_at.offer in
    let index : c.in-Some.index ≡ c.args.tried.from + c.args.tried.a = search rules in
    let is : IsOffer p c.args.growing.now.decisions c.args.tried.node c.args.tried.k
    (c.args.tried.from + c.args.tried.a) offer =
    subst (λ i. IsOffer p c.args.growing.now.decisions c.args.tried.node c.args.tried.k i offer) index
    (subst (λ ds. IsOffer p ds c.args.tried.node c.args.tried.k c.in-Some.index offer) c.decisions.ensures
    (rw c.in-Some-offer_at.is at c.offer_at.ensures)) in
    taken_up_is_vain p c.args.growing.now c.requires.branch c.args.tried.node c.args.tried.k c.args.tried.from
    c.args.tried.a offer is c.requires.allows
    (c.in_ok-is_taken_up.ensures.up c.if-branch.true)

pub returns-clause-vain : goal.returns-clause-vain
returns-clause-vain c =
    let p = c.args.problem.now in
    let g = c.args.growing.now in
    let offer = c.in-Some-offer_at.offer in
    let index : c.in-Some.index ≡ c.args.tried.from + c.args.tried.a = search rules in
    let is : IsOffer p g.decisions c.args.tried.node c.args.tried.k (c.args.tried.from + c.args.tried.a) offer =
    subst (λ i. IsOffer p g.decisions c.args.tried.node c.args.tried.k i offer) index
    (subst (λ ds. IsOffer p ds c.args.tried.node c.args.tried.k c.in-Some.index offer) c.decisions.ensures
    (rw c.in-Some-offer_at.is at c.offer_at.ensures)) in
    IfOk-weaker c.fails_kept.result (λ answer. IsTrue answer → FailsGuard g offer c.in-Var.var)
    (λ answer. IsTrue answer → NoneLeadBy p g.decisions
    (P.Token c.args.tried.node c.args.tried.k c.args.tried.from) c.args.tried.a)
    (λ answer fails told.
    failing_is_vain p g c.requires.branch c.args.tried.node c.args.tried.k c.args.tried.from c.args.tried.a offer is
    c.requires.allows c.in-Var.var c.in-Var.is c.system.ensures.good c.table.ensures.tokens
    (fails told)) c.fails_kept.ensures

pub fails_kept-requires-clause-node : goal.fails_kept-requires-clause-node
fails_kept-requires-clause-node c =
    let p = c.args.problem.now in
    let offer = c.in-Some-offer_at.offer in
    let is : IsOffer p c.args.growing.now.decisions c.args.tried.node c.args.tried.k
    c.in-Some.index offer =
    subst (λ ds. IsOffer p ds c.args.tried.node c.args.tried.k c.in-Some.index offer) c.decisions.ensures
    (rw c.in-Some-offer_at.is at c.offer_at.ensures) in
    offer_kinded p c.args.growing.now c.requires.branch c.system.ensures.good c.table.ensures.tokens
    c.args.tried.node c.args.tried.k c.in-Some.index offer is

pub fails_kept-requires-clause-token : goal.fails_kept-requires-clause-token
fails_kept-requires-clause-token c =
    let p = c.args.problem.now in
    let offer = c.in-Some-offer_at.offer in
    let is : IsOffer p c.args.growing.now.decisions c.args.tried.node c.args.tried.k
    c.in-Some.index offer =
    subst (λ ds. IsOffer p ds c.args.tried.node c.args.tried.k c.in-Some.index offer) c.decisions.ensures
    (rw c.in-Some-offer_at.is at c.offer_at.ensures) in
    offer_of_kind p c.args.growing.now c.requires.branch c.system.ensures.good c.table.ensures.tokens
    c.args.tried.node c.args.tried.k c.in-Some.index offer is c.in-Var.var
    (sym c.finds_token.ensures ∙ c.if-not-finds_token.false) c.in-Var.is
