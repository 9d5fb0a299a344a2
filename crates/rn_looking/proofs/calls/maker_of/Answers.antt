-- One decision more is passed in each turn.
use Rattle.std.proofs.Common.{◌≡◌, ◌||◌, ◌∙◌, ap, sym, subst, arith, get_or, take, false}
use Rattle.std.proofs.lemmas.List.{take_all}
use Rattle.std.proofs.lemmas.List.Folds.{list_any_more}
use Rattle.std.specs.List.{list_any}
use Rattle.rn_growing.proofs.Growth.{stands_at}
use Rattle.rn_search.specs.Making.{makes}
use Rattle.rn_looking.proofs.calls.maker_of.Goals as goal

pub returns-then-makes : goal.returns-then-makes
returns-then-makes c = (
  c.index-decisions-k.result,
  stands_at c.args.decisions.now c.loop-k.k c.index-decisions-k.result (omega arith)
      c.index-decisions-k.is,
  sym c.makes.ensures ∙ c.if-makes.true,
)

pub loop-k-preserved : goal.loop-k-preserved
loop-k-preserved c =
    let test = makes c.args.system.now c.args.path.now c.args.j in
    let ds = c.args.decisions.now in
    let d = c.index-decisions-k.result in
    list_any_more test ds c.loop-k.k d (omega arith)
    ∙ ap (λ b. b || test (get_or ds c.loop-k.k d)) c.loop-k.invariant
    ∙ ap test (sym c.index-decisions-k.is) ∙ sym c.makes.ensures ∙ c.if-makes.false

pub returns : goal.returns
returns c =
    let all : take c.loop-k.k c.args.decisions.now ≡ c.args.decisions.now =
    take_all c.loop-k.k c.args.decisions.now (omega arith) in
    subst (λ ds. list_any (makes c.args.system.now c.args.path.now c.args.j) ds ≡ false) all
    c.loop-k.invariant
