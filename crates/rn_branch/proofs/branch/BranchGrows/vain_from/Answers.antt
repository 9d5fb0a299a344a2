-- By the tokens that are repeats, or lack a part.
use Rattle.std.proofs.Common.{◌∙◌, sym, subst}
use Rattle.rn_growing.specs.Grown.{Grown}
use Rattle.rn_looking.specs.Branches.{IsBranchOf}
use Rattle.rn_branch.specs.Offers.{NoneLeadBy}
use Rattle.rn_branch.proofs.branch.BranchGrows.vain_from.Goals as goal

pub repeats_at-repeats-requires : goal.repeats_at-repeats-requires
repeats_at-repeats-requires c =
    subst (IsBranchOf c.args.problem.now) (sym (c.growing-growing.ensures ∙ c.self.view_is)) c.requires

pub lacking_at-requires : goal.lacking_at-requires
lacking_at-requires c =
    subst (IsBranchOf c.args.problem.now) (sym (c.growing-growing.ensures ∙ c.self.view_is)) c.requires

pub returns-then-repeats-gt0 : goal.returns-then-repeats-gt0
returns-then-repeats-gt0 c a from below =
    subst (λ (g : Grown). NoneLeadBy c.args.problem.now g.decisions c.args.site a)
    (c.growing-growing.ensures ∙ c.self.view_is) (c.repeats_at-repeats.ensures a from below)

pub returns : goal.returns
returns c a from below =
    subst (λ (g : Grown). NoneLeadBy c.args.problem.now g.decisions c.args.site a)
    (c.growing-growing.ensures ∙ c.self.view_is) (c.lacking_at.ensures a from below)
