-- The name stands at the end, and the table finds it there.
use Rattle.std.proofs.Common.{◌≡◌, ◌∙◌, ◌∷◌, [], ◌++◌, false, sym, subst, ap}
use Rattle.std.proofs.lemmas.List.{length-map}
use Rattle.std.specs.Prelude.{string_bytes}
use Rattle.std.specs.List.{list_any}
use Rattle.rn_declared.specs.Names.{same_name}
use Rattle.rn_declared.specs.link.Tables.{found_in}
use Rattle.rn_numbered.proofs.NumberLemmas.{text_put, all_texts, found_with}
use Rattle.rn_numbered.proofs.numbers.NameNumbers.with.Goals as goal

pub invariant_of-result : goal.invariant_of-result
invariant_of-result c =
    let name = c.args.name.now in
    let keys = c.self.inside.names.keys in
    let new = subst (λ names. list_any (λ declared. same_name declared name) names ≡ false) (sym c.self.view_is) c.requires in
    found_with (found_in c.self.inside.numbers) (found_in c.declare.new.self) (all_texts keys)
    (all_texts c.insert.new.self.keys) name c.len-number.result
    (c.len-number.ensures.len ∙ sym (length-map keys string_bytes))
    (text_put keys c.insert.new.self.keys c.in_ok-from_str.field-0 name
    (c.in_ok-from_str.ensures.ok ∙ c.as_str.ensures) c.in_ok-insert.ensures.keys new)
    c.self.invariant c.in_ok-declare.ensures.found

pub returns : goal.returns
returns c =
    let name = c.args.name.now in
    let keys = c.self.inside.names.keys in
    let new = subst (λ names. list_any (λ declared. same_name declared name) names ≡ false) (sym c.self.view_is) c.requires in
    text_put keys c.insert.new.self.keys c.in_ok-from_str.field-0 name
    (c.in_ok-from_str.ensures.ok ∙ c.as_str.ensures) c.in_ok-insert.ensures.keys new
    ∙ ap (λ names. names ++ name ∷ []) c.self.view_is
