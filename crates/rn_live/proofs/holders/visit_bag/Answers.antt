use Rattle.std.proofs.Common.{◌≡◌, ◌<◌, ◌≤◌, ◌+◌, ◌∙◌, ◌||◌, ℕ, List, length, map, take, sym, ap, arith, rules}
use Rattle.std.specs.Prelude.{Some, slice_get}
use Rattle.std.specs.List.{list_any}
use Rattle.rn_value.specs.declared.value.Value.{Value}
use Rattle.rn_model.specs.Liveness.{mentions}
use Rattle.rn_live.proofs.FindLemmas.{then, through}
use Rattle.rn_live.proofs.TokenLemmas.{any_mapped, run_got, same_run}
use Rattle.rn_live.proofs.holders.visit_bag.Goals as goal

pub runs-preserved-in-Some : goal.runs-preserved-in-Some
runs-preserved-in-Some c =
    let m = c.args.table.now.marking in
    let tokens = c.args.bag.now in
    let i = c.runs.index in
    let j = c.next_other-index.result in
    let token = c.in-Some.token.now in
    let low : i < length tokens = search rules in
    let at : i ≡ i + 0 = omega arith in
    let first : slice_get tokens i ≡ Some token =
    ap (slice_get tokens) at ∙ c.run_from-run.ensures.tokens 0 (c.run_from-run.ensures.some low) ∙ c.in-Some.ensures in
    record {
      within = c.next_other-index.ensures.bound;
      finds = then m (λ n. list_any (λ token. mentions token n) (take i tokens)) (mentions token) (λ n. list_any (λ token. mentions token n) (take j tokens))
          (λ n. same_run (λ token. mentions token n) tokens token i j (c.next_other-index.ensures.later low) first c.next_other-index.ensures.equal)
          c.runs.invariant.finds c.visit.ensures;
    }

pub runs-preserved : goal.runs-preserved
runs-preserved c =
    let tokens = c.args.bag.now in
    let i = c.runs.index in
    let run = c.run_from-run.result.now in
    let low : i < length tokens = search rules in
    record {
      within = c.run_from-run.ensures.bound low;
      finds = then c.args.table.now.marking (λ n. list_any (λ token. mentions token n) (take i tokens)) (λ n. list_any (λ test. test n) (map mentions run)) (λ n. list_any (λ token. mentions token n) (take (i + length run) tokens))
          (λ n. run_got (λ token. mentions token n) tokens run i c.run_from-run.ensures.tokens ∙ ap (λ b. list_any (λ token. mentions token n) (take i tokens) || b) (sym (any_mapped mentions run n)))
          c.runs.invariant.finds c.visit_all.ensures;
    }

pub returns : goal.returns
returns c =
    let tokens = c.args.bag.now in
    let i = c.runs.index in
    let end : length tokens ≤ i = search rules in
    through c.args.table.now.marking (λ (tokens : List Value) (n : ℕ). list_any (λ token. mentions token n) tokens) tokens i end c.runs.invariant.finds
