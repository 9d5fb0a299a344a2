use Rattle.std.proofs.Common.{[], ◌∷◌, ◌+◌, ◌++◌, ◌≡◌, take, add-one, sym, ap, ◌∙◌, subst, arith}
use Rattle.std.proofs.lemmas.List.{append-nil, append_assoc, take_all}
use Rattle.rn_parted.specs.link.Walks.{HasComeTo}
use Rattle.rn_parted.proofs.CutLemmas.{got_within, stands_at, take_more}
use Rattle.rn_parted.proofs.walking.settle_all.Goals as goal

pub loop-token-init : goal.loop-token-init
loop-token-init c = record {
  within = c.requires.within;
  come = λ other before stay come.
      subst (λ ts. HasComeTo c.args.walk.site.marked.system.now other
      c.args.walk.site.marked.table.now.marking c.args.walk.site.marked.depth
      c.args.walk.site.instance c.args.walk.site.place c.args.cursor ts
      c.args.shares.now.items) (sym (append-nil before)) come;
}

pub settle_next-requires-clause-there : goal.settle_next-requires-clause-there
settle_next-requires-clause-there c =
    c.requires.there c.token-item.result
    (got_within c.args.tokens.now c.loop-token.token-index c.token-item.result
    (stands_at c.args.tokens.now c.loop-token.token-index c.token-item.result
    c.loop-token-test.true c.token-item.is))

pub loop-token-preserved : goal.loop-token-preserved
loop-token-preserved c =
    let tokens = c.args.tokens.now in
    let i = c.loop-token.token-index in
    let v = c.token-item.result in
    let more : take (i + 1) tokens ≡ take i tokens ++ v ∷ [] =
    ap (λ k. take k tokens) (add-one i)
    ∙ take_more tokens i v (stands_at tokens i v c.loop-token-test.true c.token-item.is) in
    record {
      within = c.in_ok-end.ensures.within;
      come = λ other before stay come.
          subst (λ ts. HasComeTo c.args.walk.site.marked.system.now other
          c.args.walk.site.marked.table.now.marking c.args.walk.site.marked.depth
          c.args.walk.site.instance c.args.walk.site.place
          c.in_ok-end.end ts c.settle_next.new.shares.items)
          (append_assoc before (take i tokens) (v ∷ []) ∙ ap (λ ts. before ++ ts) (sym more))
          (c.in_ok-end.ensures.come other (before ++ take i tokens) stay
          (c.loop-token.invariant.come other before stay come));
    }

pub returns-clause-come : goal.returns-clause-come
returns-clause-come c other before stay come =
    subst (λ ts. HasComeTo c.args.walk.site.marked.system.now other
    c.args.walk.site.marked.table.now.marking c.args.walk.site.marked.depth
    c.args.walk.site.instance c.args.walk.site.place
    c.loop-token.end (before ++ ts) c.loop-token.shares.items)
    (take_all c.loop-token.token-index c.args.tokens.now (omega (arith, c.loop-token-test.false)))
    (c.loop-token.invariant.come other before stay come)
