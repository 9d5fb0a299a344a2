use Rattle.std.proofs.Common.{rules, ◌≡◌, true, false, sym, ap, ◌∙◌, ◌<◌, cond, refl, subst}
use Rattle.std.specs.Bool.{OnTrue, OnFalse}
use Rattle.rn_table.specs.link.Steps.{Step, moved}
use Rattle.rn_table.proofs.StepLemmas.{absent_stays}
use Rattle.rn_model.specs.Lists.{count_of, with_value, without_one}
use Rattle.std.specs.Prelude.{IsTrue}
use Rattle.rn_table.proofs.bags.edit_bag.Goals as goal

no_true : IsTrue false → ⊥
no_true h = search rules

pub returns : goal.returns
returns c =
    let s = c.args.edit.now in
    let takes : s.puts ≡ false = ap (λ (t : Step). t.puts) (sym c.edit.view_is) ∙ c.if-edit.false in
    let value : c.edit.inside.value.now ≡ s.value = ap (λ (t : Step). t.value) c.edit.view_is in
    elim (c.remove.result) as (λ r. c.remove.result ≡ r → c.remove.new.self ≡ moved s c.args.bag.now) [
      | true ↦ λ e. (let taken : c.remove.new.self ≡ without_one c.args.bag.now c.edit.inside.value.now = subst (λ b. OnTrue b (c.remove.new.self ≡ without_one c.args.bag.now c.edit.inside.value.now)) e c.remove.ensures.taken in
          taken ∙ ap (without_one c.args.bag.now) value ∙ sym (ap (λ b. cond b (with_value s.value c.args.bag.now) (without_one c.args.bag.now s.value)) takes))
      | false ↦ λ e. (let same : c.remove.new.self ≡ c.args.bag.now = subst (λ b. OnFalse b (c.remove.new.self ≡ c.args.bag.now)) e c.remove.ensures.absent in
          same ∙ absent_stays s c.args.bag.now takes (λ some. no_true (subst IsTrue e (c.remove.ensures.found.1 (subst (λ v. 0 < count_of v c.args.bag.now) (sym value) some)))))
    ] refl
