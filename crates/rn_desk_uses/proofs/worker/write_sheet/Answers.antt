use Rattle.std.proofs.Common.{◌≡◌, List, length, sym, ap, ◌∙◌, subst, map, get_or, arith}
use Rattle.rn_desk.specs.Numbered.{EachAt}
use Rattle.rn_desk.specs.Passes.{IsBack, mine}
use Rattle.rn_desk_uses.specs.declared.sheet.Line.{Line}
use Rattle.rn_desk_uses.specs.Posts.{FiredBy}
use Rattle.rn_desk_uses.proofs.Elements.{written_back, length-of_map, get_or-map_at, EachAt-map}
use Rattle.rn_desk_uses.proofs.worker.write_sheet.Goals as goal

pub close-state-requires-clause-passes : goal.close-state-requires-clause-passes
close-state-requires-clause-passes g c = let ps = c.all_work.new.posts in let kept = c.all_work.auto.posts in let whole = c.in_ok-posts.posts.ok.0 in
    let back : c.in_ok-passes.passes.items ≡ map (λ p. p.pass) ps = c.in_ok-passes.ensures.passes ∙ ap (map (λ p. p.pass)) (written_back ps _ _ (omega (arith, kept, whole))) in
    subst (EachAt (IsBack (λ s. s.title) c.in_ok-desk.desk)) (sym back) (EachAt-map (λ p. p.pass) (IsBack (λ s. s.title) c.in_ok-desk.desk) ps (λ k x n. (c.all_work.ensures k x n).0))

pub returns-clause-count : goal.returns-clause-count
returns-clause-count g c = let ps = c.all_work.new.posts in let kept = c.all_work.auto.posts in let whole = c.in_ok-posts.posts.ok.0 in
    let counted : c.in_ok-passes.tallies.items ≡ map (λ p. p.tally) ps = c.in_ok-passes.ensures.tallies ∙ ap (map (λ p. p.tally)) (written_back ps _ _ (omega (arith, kept, whole))) in
    let all = c.in_ok-passes.tallies.ok.0 in let seats = c.in_ok-desk.ensures.seats.1 in let posts = c.in_ok-posts.ensures.0 in
    let many : length c.in_ok-passes.tallies.items ≡ length ps = ap length counted ∙ length-of_map (λ p. p.tally) ps in omega (arith, all, many, kept, whole, seats, posts)

pub returns-clause-tallies : goal.returns-clause-tallies
returns-clause-tallies g c = let ps = c.all_work.new.posts in let kept = c.all_work.auto.posts in let whole = c.in_ok-posts.posts.ok.0 in
    let same = written_back ps _ _ (omega (arith, kept, whole)) in
    let back : c.in_ok-passes.passes.items ≡ map (λ p. p.pass) ps = c.in_ok-passes.ensures.passes ∙ ap (map (λ p. p.pass)) same in
    let counted : c.in_ok-passes.tallies.items ≡ map (λ p. p.tally) ps = c.in_ok-passes.ensures.tallies ∙ ap (map (λ p. p.tally)) same in
    let lines : List Line = c.close-state.result.state.lines.items in
    let few : length c.in_ok-passes.passes.items ≡ length ps = ap length back ∙ length-of_map (λ p. p.pass) ps in
    subst (EachAt (FiredBy lines c.args.rounds)) (sym counted) (EachAt-map (λ p. p.tally) (FiredBy lines c.args.rounds) ps (λ k x n. let done = c.all_work.ensures k x n in let p = (get_or ps k x).pass in
    let here : get_or c.in_ok-passes.passes.items k p ≡ p = ap (λ l. get_or l k p) back ∙ get_or-map_at (λ q. q.pass) ps k p x n in
    let own = c.close-state.ensures.passes k p (omega (arith, few, n)) in (done.1, done.2 ∙ ap length (sym (own.1 ∙ ap mine here)), done.3)))
