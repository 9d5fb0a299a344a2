-- Values whose instances have their numbers.
use Rattle.std.proofs.Common.{◌≡◌, ℕ, List, ap, ◌∙◌}
use Rattle.rn_value.specs.declared.value.InstRef.{InstRef}
use Rattle.rn_value.specs.declared.value.Value.{Value}
use Rattle.rn_value.specs.Text.{inst_text, value_text}
use Rattle.rn_spell.specs.Spelling.{spelled}
use Rattle.rn_spell.proofs.Spelling.{spelled_names}

-- where each instance is written as it is, the value is
pub spelled_numbered : (v : Value) (names : List (List ℕ)) (rename : InstRef → InstRef) →
    ((i : InstRef) → inst_text names (rename i) ≡ inst_text names i) →
    spelled v (λ i. inst_text names (rename i)) ≡ value_text v names
spelled_numbered v names rename same =
    let all : (λ i. inst_text names (rename i)) ≡ inst_text names = λ j i. same i j in
    ap (spelled v) all ∙ spelled_names v names
