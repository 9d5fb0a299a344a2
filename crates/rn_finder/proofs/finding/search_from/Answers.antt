use Rattle.std.proofs.Common.{subst, sym, ap}
use Rattle.std.specs.Prelude.{IfOk, IfSome, IfNone}
use Rattle.rn_model.specs.Enabling.{Enabled}
use Rattle.rn_search.specs.Missing.{MayStart}
use Rattle.rn_search.specs.Sought.{Sought}
use Rattle.rn_finder.specs.Starting.{IsNoStart, start_of}
use Rattle.rn_finder.proofs.Branches.{ended_enabled, ended_none, opened_at}
use Rattle.rn_finder.proofs.KeptStarts.{kept_may_start}
use Rattle.rn_finder.proofs.finding.search_from.Goals as goal

pub problem_at-requires-clause-starts : goal.problem_at-requires-clause-starts
problem_at-requires-clause-starts g c =
    let system = c.args.marked.system.now in
    let m = c.args.marked.table.now.marking in
    let i = c.args.start.inst.now in
    subst (λ n. MayStart system m (start_of n c.net.result c.args.start.transition))
    (sym c.number.ensures)
    (subst (λ n. MayStart system m (start_of i.number n c.args.start.transition)) (sym c.net.ensures)
    (kept_may_start system m i c.args.start.transition c.requires.kept c.requires.there
    c.requires.uplink))

pub find_while-found-requires : goal.find_while-found-requires
find_while-found-requires g c =
    opened_at c.in_ok-problem.problem c.args.marked.system.now c.open-branch.result
    (sym (ap (λ (p : Sought). p.system) c.in_ok-problem.ensures)) c.open-branch.ensures

pub returns-clause-found : goal.returns-clause-found
returns-clause-found g c =
    let ended = c.find_while-found.result in
    subst
    (λ (p : Sought). IfOk ended (λ found. IfSome found (λ b. Enabled p.system p.marking b p.depth)))
    c.in_ok-problem.ensures
    (ended_enabled c.in_ok-problem.problem ended c.find_while-found.ensures.found)

pub returns-clause-none : goal.returns-clause-none
returns-clause-none g c =
    let system = c.args.marked.system.now in
    let m = c.args.marked.table.now.marking in
    let depth = c.args.marked.depth in
    let ended = c.find_while-found.result in
    subst
    (λ n. IfOk ended (λ found. IfNone found
    (IsNoStart system m depth (start_of n c.args.start.inst.now.net c.args.start.transition))))
    c.number.ensures
    (subst
    (λ n. IfOk ended (λ found. IfNone found
    (IsNoStart system m depth (start_of c.number.result n c.args.start.transition))))
    c.net.ensures
    (subst
    (λ (p : Sought). IfOk ended (λ found. IfNone found
    (IsNoStart p.system p.marking p.depth p.start)))
    c.in_ok-problem.ensures
    (ended_none c.in_ok-problem.problem ended c.find_while-found.ensures.none)))
