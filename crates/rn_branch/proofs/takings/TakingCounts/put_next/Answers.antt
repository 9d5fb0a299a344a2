-- By what the next decision takes.
use Rattle.std.proofs.Common.{◌≡◌, ◌≤◌, ◌+◌, length, get_or, subst, rules}
use Rattle.rn_branch.proofs.KeptTakings.{next_kept, none_kept, same_kept}
use Rattle.rn_branch.proofs.takings.TakingCounts.put_next.Goals as goal

pub returns-in_err-put-in-Some-clause-takings : goal.returns-in_err-put-in-Some-clause-takings
returns-in_err-put-in-Some-clause-takings c =
    same_kept c.args.system.now c.args.decisions.now c.args.self.now c.requires.takings
    c.put.new.self c.in_err-put-in-Some.ensures.err

pub returns-in_err-put-in-None-clause-takings : goal.returns-in_err-put-in-None-clause-takings
returns-in_err-put-in-None-clause-takings c =
    same_kept c.args.system.now c.args.decisions.now c.args.self.now c.requires.takings
    c.put-in-None.new.self c.in_err-put-in-None.ensures.err

pub returns-in_ok-put-in-Some-clause-takings : goal.returns-in_ok-put-in-Some-clause-takings
returns-in_ok-put-in-Some-clause-takings c =
    let t = c.args.self.now in
    let ds = c.args.decisions.now in
    let d = c.index-decisions-i.result in
    let taking = c.in-Some.taking in
    let few : c.saturating_add.result ≤ c.times-times.result + 1 = search rules in
    let all : c.len-i.result ≡ length t.counts.items = search rules in
    let here = subst (λ i. d ≡ get_or ds i d) all c.index-decisions-i.is in
    next_kept c.args.system.now ds t c.requires.takings c.put.new.self d taking.inst.now
    taking.place taking.token.now c.times-times.result c.saturating_add.result
    c.in_ok-put-in-Some.ensures.put few c.requires.next here c.in-Some.ensures
    c.times-times.ensures

pub returns-in_ok-put-in-None-clause-takings : goal.returns-in_ok-put-in-None-clause-takings
returns-in_ok-put-in-None-clause-takings c =
    let t = c.args.self.now in
    let ds = c.args.decisions.now in
    let d = c.index-decisions-i.result in
    let all : c.len-i.result ≡ length t.counts.items = search rules in
    let here = subst (λ i. d ≡ get_or ds i d) all c.index-decisions-i.is in
    none_kept c.args.system.now ds t c.requires.takings c.put-in-None.new.self d
    c.in_ok-put-in-None.ensures.put c.requires.next here
