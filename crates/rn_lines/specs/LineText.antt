-- The lines of a record, each by itself, without its line feed: which bytes are a line, and what the
-- line says by the names that stand in it. What stands before and after it is another question.
--
-- Of the bytes below 32 is a space, 33 `!`, 42 `*`, 43 `+`, 46 `.`, 62 `>` and 119 `w`.
use Rattle.std.specs.Prelude.{◌≤◌, ℕ, List, [], ◌∷◌, ◌++◌, codes}
use Rattle.rn_value.specs.Grammar.{IsNumeral}
use Rattle.rn_value.specs.Words.{IsName}
use Rattle.rn_value.specs.declared.value.Value.{Value}
use Rattle.rn_lines.specs.ValueText.{Said, IsValue, most_brackets}
use Rattle.rn_lines.specs.NodeText.{NodeSaid, IsInstance, IsNode}
use Rattle.rn_value.specs.Characters.{number_after}
use Rattle.rn_lines.specs.declared.lines.Ending.{Ending}
use Rattle.rn_lines.specs.declared.lines.Ending.TheVariants.{Dead, Steps, Memory, ActionFault, InstancesFault}

-- the greatest number of a worker
abbrev pub greatest_worker : ℕ
greatest_worker = 64

-- how the lines of a firing begin: the digits of its step, which may be too long for a machine's
-- number, and the number of its worker
pub record LeadSaid : Type 0 where
  pub step : List ℕ
  pub worker : ℕ

-- a value, and the instances that its text names
pub record Token : Type 0 where
  pub value : Value
  pub named : List Said

-- The step of a firing is a numeral. Its worker, from 1 to 64, stands behind ` w`, before a space.
pub data IsLead : LeadSaid → List ℕ → Type 0 where
  lead : {n worker : ℕ} {step digits : List ℕ} → IsNumeral n step → 1 ≤ worker →
      worker ≤ greatest_worker → IsNumeral worker digits →
      IsLead (record { step = step; worker = worker }) (step ++ (32 ∷ 119 ∷ (digits ++ 32 ∷ [])))

-- a value in a mark, and the digits of the count behind it, none where no count is written; a count
-- may be too long for a machine's number
pub record Held : Type 0 where
  pub token : Token
  pub times : List ℕ

-- how often these digits say that a value stands there: once where there are none
abbrev pub count_of : List ℕ → ℕ
count_of [] = 1
count_of (d ∷ ds) = number_after 0 (d ∷ ds)

-- how often a value stands in a mark
abbrev pub times_of : Held → ℕ
times_of h = count_of h.times

-- Behind a value stands nothing, or `*` and the numeral of a count from 2 on.
pub data IsCount : List ℕ → List ℕ → Type 0 where
  once : IsCount [] []
  often : {n : ℕ} {times : List ℕ} → 2 ≤ n → IsNumeral n times → IsCount times (42 ∷ times)

-- Items stand one after the other, each after a space: a value, and what counts it.
pub data AreItems : List Held → List ℕ → Type 0 where
  none : AreItems [] []
  some : {text count rest times : List ℕ} {v : Value} {named : List Said} {items : List Held} →
      IsValue most_brackets v named text → IsCount times count → AreItems items rest →
      AreItems (record { token = record { value = v; named = named }; times = times } ∷ items)
      (32 ∷ (text ++ (count ++ rest)))

-- what a line says
pub data LineSaid : Type 0 where
  fires calls : LeadSaid → NodeSaid → LineSaid
  prints : LeadSaid → Token → LineSaid
  ends : Ending → LineSaid
  would_fire would_call : NodeSaid → LineSaid
  holds : Said → List ℕ → List Held → LineSaid

-- the line of an end
abbrev pub ending_text : Ending → List ℕ
ending_text Dead = codes "end dead"
ending_text Steps = codes "end steps"
ending_text Memory = codes "end memory"
ending_text ActionFault = codes "end fault action"
ending_text InstancesFault = codes "end fault instances"

-- A line is of a firing: its first node, a further node behind `+ `, or a printed value behind
-- `> `. It is of an end: one of five texts, or of a fault the first node behind `! ` or a further
-- one behind `! + `. Or it is a mark: a place of an instance with items, at least one.
pub data IsLine : LineSaid → List ℕ → Type 0 where
  fires : {l : LeadSaid} {n : NodeSaid} {a b : List ℕ} → IsLead l a → IsNode n b →
      IsLine (LineSaid.fires l n) (a ++ b)
  calls : {l : LeadSaid} {n : NodeSaid} {a b : List ℕ} → IsLead l a → IsNode n b →
      IsLine (LineSaid.calls l n) (a ++ (43 ∷ 32 ∷ b))
  prints : {l : LeadSaid} {v : Value} {named : List Said} {a b : List ℕ} → IsLead l a →
      IsValue most_brackets v named b →
      IsLine (LineSaid.prints l (record { value = v; named = named })) (a ++ (62 ∷ 32 ∷ b))
  ends : {e : Ending} → IsLine (LineSaid.ends e) (ending_text e)
  would_fire : {n : NodeSaid} {b : List ℕ} → IsNode n b →
      IsLine (LineSaid.would_fire n) (33 ∷ 32 ∷ b)
  would_call : {n : NodeSaid} {b : List ℕ} → IsNode n b →
      IsLine (LineSaid.would_call n) (33 ∷ 32 ∷ 43 ∷ 32 ∷ b)
  holds : {inst : Said} {place a b : List ℕ} {h : Held} {items : List Held} →
      IsInstance inst a → IsName place → AreItems (h ∷ items) b →
      IsLine (LineSaid.holds inst place (h ∷ items)) (a ++ (46 ∷ (place ++ b)))
