use Rattle.std.proofs.Common.{rules, ◌≡◌, ◌↔◌, [], length, IsTrue, ap, sym, ◌∙◌}
use Rattle.rn_model.specs.Repeats.{values_of}
use Rattle.rn_model.proofs.RepeatedValues.{none_parted}
use Rattle.std.proofs.lemmas.List.{nil_from_length}
use Rattle.rn_model.proofs.repeats.Repeats.is_empty.Goals as goal

pub returns : goal.returns
returns c =
    let parts = c.self.inside.parts in
    let none = none_parted parts.items c.self.invariant in
    let zero : IsTrue c.is_empty.result ↔ (length parts.items ≡ 0) = search rules in
    let empty : IsTrue c.is_empty.result → parts.items ≡ [] = λ t. nil_from_length parts.items (zero.0 t) in
    (λ t. sym c.self.view_is ∙ ap values_of (empty t), λ e. zero.1 (ap length (none (c.self.view_is ∙ e))))
