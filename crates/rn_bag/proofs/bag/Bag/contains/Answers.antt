use Rattle.std.proofs.Common.{◌≡◌, ◌∙◌, Some, None, ap, sym}
use Rattle.rn_bag.proofs.CursorLemmas.{there_at_cut}
use Rattle.rn_bag.proofs.bag.Bag.contains.Goals as goal

pub returns-in-Some : goal.returns-in-Some
returns-in-Some c =
    let there = there_at_cut c.args.value.now c.args.self.now c.cut_at.result c.cut_at.ensures.ascend c.cut_at.ensures.before c.cut_at.ensures.rest in (
      λ yes. there.0 (sym c.in-Some.ensures ∙ ap (λ v. Some v) (c.same.ensures.0 yes)),
      λ some. c.same.ensures.1 (let e : Some c.in-Some.other.now ≡ Some c.args.value.now = c.in-Some.ensures ∙ there.1 some in cc),
    )

pub returns-in-None : goal.returns-in-None
returns-in-None c =
    let there = there_at_cut c.args.value.now c.args.self.now c.cut_at.result c.cut_at.ensures.ascend c.cut_at.ensures.before c.cut_at.ensures.rest in (
      λ yes. absurd (let no : ⊥ = cc in no),
      λ some. absurd (let e : None ≡ Some c.args.value.now = c.in-None.ensures ∙ there.1 some in let no : ⊥ = cc in no),
    )
