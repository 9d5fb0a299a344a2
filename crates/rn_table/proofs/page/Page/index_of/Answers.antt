use Rattle.std.proofs.Common.{◌≡◌, length, sym, ap, ◌∙◌, arith}
use Rattle.std.proofs.lemmas.List.{get_or_read, length-map}
use Rattle.rn_model.specs.Markings.{Instance}
use Rattle.rn_table.proofs.InstanceLemmas.{none_has, read_value}
use Rattle.rn_table.proofs.page.Page.index_of.Goals.{else-low-len-via-then-low-len+else-number, else-low-len-via-else-low-len}
use Rattle.rn_table.proofs.page.Page.index_of.Goals as goal

pub returns-clause-none : goal.returns-clause-none
returns-clause-none c =
    none_has c.args.number c.args.self.now c.first_from-low.result c.requires c.first_from-low.ensures.below c.first_from-low.ensures.rest
    (λ x inside x_is same. elim c.else-low-len.branch [
      | else-low-len-via-then-low-len+else-number w ↦ (
          let here = read_value (λ a. a.value) c.self.inside.instances.items c.args.self.now c.first_from-low.result w.index.result.now c.self.view_is inside w.index.ensures in
          let one : w.index.result.now.value ≡ x = here ∙ sym (get_or_read c.args.self.now c.first_from-low.result x inside x_is w.index.result.now.value) in
          w.if-number.false (w.number.ensures ∙ ap (λ (i : Instance). i.number) (w.deref.ensures ∙ one) ∙ same))
      | else-low-len-via-else-low-len w ↦ omega (arith, w.if-low-len.false, inside, ap length c.self.view_is, length-map c.self.inside.instances.items (λ a. a.value), c.len.ensures)
    ])
