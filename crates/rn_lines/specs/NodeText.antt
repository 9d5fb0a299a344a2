-- The text of a node in a record: its instance, its transition, and variables with their values, by
-- the names that stand there. Whether the system has these names is another question.
--
-- Of the bytes below 32 is a space, 46 `.` and 61 `=`.
use Rattle.std.specs.Prelude.{◌<◌, ◌≤◌, ◌^◌, ℕ, List, [], ◌∷◌, ◌++◌}
use Rattle.rn_value.specs.Grammar.{IsNumeral}
use Rattle.rn_value.specs.Words.{IsName}
use Rattle.rn_value.specs.declared.value.Value.{Value}
use Rattle.rn_lines.specs.ValueText.{Said, IsValue, most_brackets}

-- a variable with its value, by its name, and the instances that the value's text names
pub record Given : Type 0 where
  pub variable : List ℕ
  pub value : Value
  pub named : List Said

-- a node, by the names of its net, its transition and its variables
pub record NodeSaid : Type 0 where
  pub inst : Said
  pub transition : List ℕ
  pub given : List Given

-- An instance is the name of its net, and its number from 1 in `[` and `]`.
pub data IsInstance : Said → List ℕ → Type 0 where
  instance : {name digits : List ℕ} {number : ℕ} → IsName name → 1 ≤ number → number < 2 ^ 32 →
      IsNumeral number digits →
      IsInstance (record { name = name; number = number }) (name ++ (91 ∷ digits ++ 93 ∷ []))

-- Variables stand one after the other, each after a space, with `=` and its value behind its name.
pub data AreGiven : List Given → List ℕ → Type 0 where
  none : AreGiven [] []
  some : {name text rest : List ℕ} {v : Value} {named : List Said} {given : List Given} →
      IsName name → IsValue most_brackets v named text → AreGiven given rest →
      AreGiven (record { variable = name; value = v; named = named } ∷ given)
      (32 ∷ (name ++ (61 ∷ (text ++ rest))))

-- A node is its instance, a point, the name of its transition, and its variables.
pub data IsNode : NodeSaid → List ℕ → Type 0 where
  node : {inst : Said} {given : List Given} {text transition rest : List ℕ} →
      IsInstance inst text → IsName transition → AreGiven given rest →
      IsNode (record { inst = inst; transition = transition; given = given })
      (text ++ (46 ∷ (transition ++ rest)))
