-- The codes that let a marking be the value of a type's model.
use Rattle.std.specs.Prelude.{ℕ, List, refl}
use Rattle.std.specs.Coded.{Coded, code_by, coded×, coded_ℕ, coded_list}
use Rattle.rn_value.specs.declared.value.Value.{Value}
use Rattle.rn_value.specs.contracts.value.Value as token
use Rattle.rn_model.specs.Markings.{Marking, Instance}

-- an instance is coded as its number, its net and its places
abbrev pub instance_code : Coded Instance
instance_code =
    code_by (ℕ × (ℕ × List (List Value)))
    (coded× coded_ℕ (coded× coded_ℕ (coded_list (coded_list token.the_row.coded))))
    (λ i. (i.number, (i.net, i.places)))
    (λ p. record { number = p.0; net = p.1.0; places = p.1.1 })
    (λ _. refl)

-- a marking is coded as its next number and its instances
abbrev pub marking_code : Coded Marking
marking_code =
    code_by (ℕ × List Instance) (coded× coded_ℕ (coded_list instance_code))
    (λ m. (m.next, m.instances))
    (λ p. record { next = p.0; instances = p.1 })
    (λ _. refl)
