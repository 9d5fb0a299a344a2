use Rattle.std.proofs.Common.{subst, sym}
use Rattle.std.specs.Prelude.{IsTrue, Option}
use Rattle.std.proofs.lemmas.Result.{IfOk-weaker}
use Rattle.std.proofs.Common.{◌≡◌, ℕ}
use Rattle.rn_model.specs.declared.system.System.{System}
use Rattle.rn_model.specs.declared.binding.Binding.{Binding}
use Rattle.rn_model.specs.Markings.{Marking}
use Rattle.rn_search.specs.Missing.{MayStart}
use Rattle.rn_search.specs.Sought.{Sought, StartsAt}
use Rattle.rn_finder.specs.First.{IsFirstOf}
use Rattle.rn_finder.specs.Starting.{start_of}
use Rattle.rn_finder.proofs.KeptStarts.{kept_may_start, none_unless_may}
use Rattle.rn_finder.proofs.first.first_from.Goals as goal

pub returns-then-not-may_start : goal.returns-then-not-may_start
returns-then-not-may_start c =
    none_unless_may c.args.marked.system.now c.args.marked.table.now.marking c.args.marked.depth
    c.args.inst.now c.args.transition c.requires.kept
    (λ may. let starts : IsTrue c.may_start.result = c.may_start.ensures.1 may in
    let no : ⊥ = cc in no)

pub problem_at-requires-clause-starts : goal.problem_at-requires-clause-starts
problem_at-requires-clause-starts c =
    let system = c.args.marked.system.now in
    let m = c.args.marked.table.now.marking in
    let i = c.args.inst.now in
    subst (λ n. MayStart system m (start_of n c.net.result c.args.transition))
    (sym c.number.ensures)
    (subst (λ n. MayStart system m (start_of i.number n c.args.transition)) (sym c.net.ensures)
    (kept_may_start system m i c.args.transition c.requires.kept c.requires.there
    (c.may_start.ensures.0 c.if-not-may_start.false).0))

module _ (system : System) (m : Marking) (depth number net n k t : ℕ) (sought : Sought)
    (is : sought ≡ record { system = system; marking = m; depth = depth; start = start_of n k t })
    (of_number : n ≡ number) (of_net : k ≡ net) where
  -- what is said of the search is said of the start
  of_start : (first : Option Binding) →
      IsFirstOf sought.system sought.marking sought.depth (λ b. StartsAt b sought.start) first →
      IsFirstOf system m depth (λ b. StartsAt b (start_of number net t)) first
  of_start first so =
      subst (λ i. IsFirstOf system m depth (λ b. StartsAt b (start_of i net t)) first) of_number
      (subst (λ i. IsFirstOf system m depth (λ b. StartsAt b (start_of n i t)) first) of_net
      (subst
      (λ (p : Sought). IsFirstOf p.system p.marking p.depth (λ b. StartsAt b p.start) first) is so))

pub returns : goal.returns
returns c =
    IfOk-weaker c.first_sought.result _ _
    (of_start c.args.marked.system.now c.args.marked.table.now.marking c.args.marked.depth
    c.args.inst.now.number c.args.inst.now.net c.number.result c.net.result c.args.transition
    c.in_ok-sought.sought c.in_ok-sought.ensures c.number.ensures c.net.ensures)
    c.first_sought.ensures
