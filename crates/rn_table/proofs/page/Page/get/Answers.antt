use Rattle.std.proofs.Common.{◌≡◌, Some, sym, ap, ◌∙◌}
use Rattle.rn_model.specs.Markings.{Instance}
use Rattle.rn_table.proofs.InstanceLemmas.{numbered_none, numbered_at, read_value}
use Rattle.rn_table.proofs.page.Page.get.Goals as goal

pub returns-in-None : goal.returns-in-None
returns-in-None c = sym (numbered_none c.args.number c.args.self.now c.in-None.ensures.none)

pub returns-in-Some : goal.returns-in-Some
returns-in-Some c =
    let here = read_value (λ a. a.value) c.self.inside.instances.items c.args.self.now c.in-Some.index c.index.result.now c.self.view_is c.in-Some.ensures.inside c.index.ensures in
    let number : c.index.result.now.value.number ≡ c.args.number = ap (λ (i : Instance). i.number) here ∙ c.in-Some.ensures.here c.index.result.now.value in
    ap (λ i. Some i) c.deref.ensures ∙ sym (numbered_at c.args.number c.args.self.now c.in-Some.index c.index.result.now.value c.requires c.in-Some.ensures.inside here number)
