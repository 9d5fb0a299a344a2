-- By what is kept of that decision.
use Rattle.std.proofs.Common.{◌≡◌, ◌<◌, length, get_or, subst}
use Rattle.rn_growing.proofs.Growth.{stands_at}
use Rattle.rn_branch.proofs.KeptTakings.{kept_so_far}
use Rattle.rn_branch.proofs.takings.TakingCounts.times_up_to.Goals as goal

pub returns-then-takes_it : goal.returns-then-takes_it
returns-then-takes_it c =
    let t = c.args.self.now in
    let ds = c.args.decisions.now in
    let i = c.args.i in
    let n = c.in-Some.times.now in
    let d = c.in-Some-get.decision.now in
    let taking = c.args.taking.now in
    let kept = c.in-Some.ensures.lookup in
    let found = c.in-Some-get.ensures.lookup in
    let below : i < length t.counts.items =
    subst (λ ns. i < length ns) c.deref.ensures.value kept.3.0 in
    let here : n ≡ get_or t.counts.items i n =
    subst (λ ns. n ≡ get_or ns i n) c.deref.ensures.value kept.1 in
    kept_so_far c.args.system.now ds t i n d taking.inst.now taking.place taking.token.now
    c.requires (stands_at t.counts.items i n below here) (stands_at ds i d found.3.0 found.1)
    (c.takes_it.ensures c.if-takes_it.true)
