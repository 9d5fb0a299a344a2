-- By what the look comes to.
use Rattle.std.proofs.Common.{◌≡◌, ◌∙◌, ◌<◌, ap, length, sym, subst, rules}
use Rattle.rn_choices.specs.Leading.{Says}
use Rattle.rn_choices.specs.declared.next.Next.{Next}
use Rattle.rn_choices.specs.declared.next.Next.TheVariants as N
use Rattle.rn_search.specs.declared.point.Point.{Point}
use Rattle.rn_search.specs.Sought.{Sought, Leads}
use Rattle.rn_search.specs.Points.{offers}
use Rattle.rn_search.specs.Allowing.{Allows}
use Rattle.rn_growing.specs.Grown.{Grown}
use Rattle.rn_branch.specs.GoingOn.{IsAtEnd}
use Rattle.rn_looking.specs.Branches.{IsBranchOf}
use Rattle.rn_looking.specs.Looks.{Looked}
use Rattle.rn_branch.specs.GoingOn.{IsNextOf, IsSameButFirst}
use Rattle.rn_looking.specs.Things.{IsOfEntries}
use Rattle.rn_looking.specs.declared.look.Look.{Look}
use Rattle.rn_looking.specs.declared.look.Look.TheVariants.{Done, Waits, Goes}
use Rattle.rn_branch.proofs.BranchSteps.{branch_inside, next_done, next_first, next_goes, next_stuck}
use Rattle.rn_branch.proofs.branch.BranchGrows.next.Goals as goal

module _ (sought : Sought) (inside self : Grown) (view : inside ≡ self)
    (stands : IsBranchOf sought self) (some : 0 < length inside.decisions) where
  abbrev SaysOf : Next Point → Type 0
  SaysOf next = Says (Leads sought) (offers sought) (Allows sought) (IsAtEnd sought self)
      self.decisions next

  next_by : (look : Look) (next : Next Point) → Looked sought inside.decisions
      (IsOfEntries inside.decisions (length inside.decisions)) look → IsNextOf look next →
      SaysOf next
  next_by Done next looked is =
      subst SaysOf (sym is) (next_done sought inside self view stands some looked)
  next_by Waits next looked is =
      subst SaysOf (sym is) (next_stuck sought inside self view stands some looked)
  next_by (Goes goes count) next looked is =
      subst SaysOf (sym is) (next_goes sought inside self view stands goes count looked)

  same_says : (next told : Next Point) → IsSameButFirst next told → SaysOf next → SaysOf told
  same_says N.Done told is says = subst SaysOf (sym is) says
  same_says N.Stuck told is says = subst SaysOf (sym is) says
  same_says (N.Forced site) told is says = subst SaysOf (sym is) says
  same_says (N.Choose site of first) told (begin, is) says = subst SaysOf (sym is) says

pub look-requires : goal.look-requires
look-requires c =
    branch_inside c.args.problem.now c.self.inside.growing c.args.self.now c.self.view_is
    c.requires

pub returns-then-mark-eq0-clause-says : goal.returns-then-mark-eq0-clause-says
returns-then-mark-eq0-clause-says c =
    let none : length c.self.inside.growing.decisions ≡ 0 = search rules in
    next_first c.args.problem.now c.self.inside.growing c.args.self.now c.self.view_is c.requires
    c.start-start.ensures.starts none

pub returns-clause-stands : goal.returns-clause-stands
returns-clause-stands c =
    subst (IsBranchOf c.args.problem.now) (sym (c.look.ensures.same ∙ c.self.view_is)) c.requires

pub returns-clause-same : goal.returns-clause-same
returns-clause-same c = ap (λ (g : Grown). g.decisions) (c.look.ensures.same ∙ c.self.view_is)

pub returns-clause-says : goal.returns-clause-says
returns-clause-says c =
    let p = c.args.problem.now in
    let self = c.args.self.now in
    let some : 0 < length c.self.inside.growing.decisions = search rules in
    subst (λ g. Says (Leads p) (offers p) (Allows p) (IsAtEnd p g) self.decisions c.begun.result)
    (sym (c.look.ensures.same ∙ c.self.view_is))
    (same_says p c.self.inside.growing self c.self.view_is c.requires some c.next_of.result
    c.begun.result c.begun.ensures
    (next_by p c.self.inside.growing self c.self.view_is c.requires some
    c.in_ok-look.look c.next_of.result c.in_ok-look.ensures.looked c.next_of.ensures))
