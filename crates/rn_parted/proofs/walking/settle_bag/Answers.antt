use Rattle.std.proofs.Common.{◌<◌, ◌≤◌, length, take, sym, subst, arith, rules}
use Rattle.std.specs.Prelude.{Contains}
use Rattle.std.proofs.lemmas.List.{take_all}
use Rattle.rn_parted.specs.Parted.{AreShares}
use Rattle.rn_parted.specs.link.Walks.{HasComeTo}
use Rattle.rn_parted.proofs.CutLemmas.{run_taken, run_within}
use Rattle.rn_parted.proofs.WalkLemmas.{come_nowhere, come_through}
use Rattle.rn_parted.proofs.walking.settle_bag.Goals as goal

pub runs-init : goal.runs-init
runs-init c = record {
  within = omega arith;
  low = omega arith;
  come = λ other stay were. come_nowhere c.args.walk.site.marked.system.now other
      c.args.walk.site.marked.table.now.marking c.args.walk.site.marked.depth
      c.args.walk.site.instance c.args.walk.site.place
      c.args.shares.now.items were;
}

pub settle_all-requires-clause-there : goal.settle_all-requires-clause-there
settle_all-requires-clause-there c v has =
    let low : c.runs.index < length c.args.bag.now = search rules in
    subst (λ vs. Contains vs v) c.requires.bag
    (run_within c.args.bag.now c.run_from-tokens.result.now c.runs.index
    (c.run_from-tokens.ensures.bound low) c.run_from-tokens.ensures.tokens v has)

pub runs-preserved : goal.runs-preserved
runs-preserved c =
    let bag = c.args.bag.now in
    let i = c.runs.index in
    let run = c.run_from-tokens.result.now in
    let low : i < length bag = search rules in
    let within = c.run_from-tokens.ensures.bound low in
    record {
      within = c.in_ok-cursor.ensures.within;
      low = within;
      come = λ other stay were.
          subst (λ ts. HasComeTo c.args.walk.site.marked.system.now other
          c.args.walk.site.marked.table.now.marking c.args.walk.site.marked.depth
          c.args.walk.site.instance c.args.walk.site.place
          c.in_ok-cursor.cursor ts c.settle_all.new.shares.items)
          (sym (run_taken bag run i within c.run_from-tokens.ensures.tokens))
          (c.in_ok-cursor.ensures.come other (take i bag) stay
          (c.runs.invariant.come other stay were));
    }

pub returns : goal.returns
returns c other stay were =
    let bag = c.args.bag.now in
    let end : length bag ≤ c.runs.index = search rules in
    subst (λ xs. AreShares c.args.walk.site.marked.system.now
    c.args.walk.site.marked.table.now.marking c.args.walk.site.marked.depth
    c.args.walk.site.instance c.args.walk.site.place bag xs) (sym c.truncate.ensures.items)
    (subst (λ ts. AreShares c.args.walk.site.marked.system.now
    c.args.walk.site.marked.table.now.marking c.args.walk.site.marked.depth
    c.args.walk.site.instance c.args.walk.site.place ts (take c.runs.cursor c.runs.shares.items))
    (take_all c.runs.index bag end)
    (come_through c.args.walk.site.marked.system.now other
    c.args.walk.site.marked.table.now.marking c.args.walk.site.marked.depth
    c.args.walk.site.instance c.args.walk.site.place
    c.runs.cursor (take c.runs.index bag) c.runs.shares.items
    (c.runs.invariant.come other stay were)))
