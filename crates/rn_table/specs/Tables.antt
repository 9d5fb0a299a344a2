-- What contracts see of a table.
use Rattle.std.specs.Prelude.{ℕ, ◌≡◌, List, map, filter, refl}
use Rattle.std.specs.Coded.{Coded, code_by, coded×, coded_ℕ, coded_list}
use Rattle.std.specs.List.{enumerate_from}
use Rattle.rn_model.specs.declared.system.System.{System}
use Rattle.rn_model.specs.Markings.{Marking}
use Rattle.rn_model.specs.link.MarkingCodes.{marking_code}
use Rattle.rn_model.specs.Systems.{may_start}

-- A table: the marking of its kept instances, and the numbers of those that may start a firing by
-- the system that they were made with, in order.
pub record Kept : Type 0 where
  pub marking : Marking
  pub starting : List ℕ

abbrev pub kept_code : Coded Kept
kept_code =
    code_by (Marking × List ℕ) (coded× marking_code (coded_list coded_ℕ))
    (λ t. (t.marking, t.starting))
    (λ p. record { marking = p.0; starting = p.1 })
    (λ _. refl)

-- the numbers of the instances whose net has a transition without uplink, in order
abbrev pub starting_in : System → Marking → List ℕ
starting_in system m = map (λ i. i.number) (filter (λ i. may_start system i.net) m.instances)

-- a table knows just those of its instances that may start a firing of this system
abbrev pub IsTableOf : System → Kept → Type 0
IsTableOf system t = t.starting ≡ starting_in system t.marking

-- the numbers of new instances that may start, where the first gets this number
abbrev pub started : System → ℕ → List ℕ → List ℕ
started system next made =
    map (λ p. p.0) (filter (λ p. may_start system p.1) (enumerate_from next made))
