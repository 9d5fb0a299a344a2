-- No line of a record holds a line feed.
use Rattle.std.proofs.Common.{◌≡◌, ◌≢◌, ℕ, true, not, nat_eq, List, [], ◌∷◌, ◌++◌, refl, sym, ap, ◌∙◌, arith}
use Rattle.std.proofs.lemmas.Bool.{false≢true}
use Rattle.std.proofs.lemmas.List.Elements.{All-from_recursion}
use Rattle.std.specs.List.{list_all}
use Rattle.rn_value.specs.Grammar.{IsNumeral, IsWholeNumber}
use Rattle.rn_value.specs.Characters.{is_letter, is_name_byte}
use Rattle.rn_value.specs.Words.{begins_with, is_identifier, is_reserved, IsName}
use Rattle.rn_value.specs.declared.value.Value.{Value}
use Rattle.rn_items.proofs.Bools.{and_left, and_right}
use Rattle.rn_value.proofs.OneLine.{OneLine, joined, numeral_line, bracketed, inside_line}
use Rattle.rn_value.proofs.OneLine.{name_line as bytes_line}
use Rattle.rn_lines.specs.Laws.{LinesHoldNoLineFeed}
use Rattle.rn_lines.specs.LineText.{LeadSaid, Held, LineSaid, IsLead, IsCount, AreItems, IsLine, ending_text}
use Rattle.rn_lines.specs.NodeText.{Given, NodeSaid, IsInstance, AreGiven, IsNode}
use Rattle.rn_lines.specs.ValueText.{Said, IsValue, IsRow, IsTail}
use Rattle.rn_lines.specs.declared.lines.Ending.{Ending}
use Rattle.rn_lines.specs.declared.lines.Ending.TheVariants.{Dead, Steps, Memory, ActionFault, InstancesFault}

name_line : (name : List ℕ) → IsName name → OneLine name
name_line name is = bytes_line name (and_right (begins_with is_letter name) (list_all is_name_byte name) (and_left (is_identifier name) (not (is_reserved name)) is))

instance_line : (name digits : List ℕ) {number : ℕ} → IsName name → IsNumeral number digits → OneLine (name ++ (91 ∷ digits ++ 93 ∷ []))
instance_line name digits is p = joined name (91 ∷ digits ++ 93 ∷ []) (name_line name is) (bracketed 91 93 digits (λ e. omega arith) (λ e. omega arith) (numeral_line p))

mutual
  value_line : {depth : ℕ} {v : Value} {said : List Said} {a : List ℕ} → IsValue depth v said a → OneLine a
  value_line (IsValue.number fits (IsWholeNumber.positive p)) = numeral_line p
  value_line (IsValue.number fits (IsWholeNumber.negative p)) = ((λ e. omega arith), numeral_line p)
  value_line (IsValue.text {bytes = a} utf8 s) = bracketed 34 34 a (λ e. omega arith) (λ e. omega arith) (inside_line s)
  value_line (IsValue.tuple {bytes = a} row) = bracketed 91 93 a (λ e. omega arith) (λ e. omega arith) (row_line row)
  value_line (IsValue.list {bytes = a} row) = bracketed 123 125 a (λ e. omega arith) (λ e. omega arith) (row_line row)
  value_line (IsValue.instance {name = name} {digits = digits} is low high p) = instance_line name digits is p

  row_line : {depth : ℕ} {vs : List Value} {said : List Said} {a : List ℕ} → IsRow depth vs said a → OneLine a
  row_line IsRow.none = tt
  row_line (IsRow.some {bytes = a} {rest = b} t others) = joined a b (value_line t) (tail_line others)

  tail_line : {depth : ℕ} {vs : List Value} {said : List Said} {a : List ℕ} → IsTail depth vs said a → OneLine a
  tail_line IsTail.end = tt
  tail_line (IsTail.comma {bytes = a} {rest = b} t others) = ((λ e. omega arith), joined a b (value_line t) (tail_line others))

given_line : {gs : List Given} {a : List ℕ} → AreGiven gs a → OneLine a
given_line AreGiven.none = tt
given_line (AreGiven.some {name = name} {text = text} {rest = rest} is t others) =
    ((λ e. omega arith), joined name (61 ∷ (text ++ rest)) (name_line name is) ((λ e. omega arith), joined text rest (value_line t) (given_line others)))

node_line : {n : NodeSaid} {a : List ℕ} → IsNode n a → OneLine a
node_line (IsNode.node {transition = transition} {rest = rest} (IsInstance.instance {name = name} {digits = digits} is low high p) named all) =
    joined (name ++ (91 ∷ digits ++ 93 ∷ [])) (46 ∷ (transition ++ rest)) (instance_line name digits is p) ((λ e. omega arith), joined transition rest (name_line transition named) (given_line all))

lead_line : {l : LeadSaid} {a : List ℕ} → IsLead l a → OneLine a
lead_line (IsLead.lead {step = step} {digits = digits} p low high q) =
    joined step (32 ∷ 119 ∷ (digits ++ 32 ∷ [])) (numeral_line p) ((λ e. omega arith), ((λ e. omega arith), joined digits (32 ∷ []) (numeral_line q) ((λ e. omega arith), tt)))

count_line : {times a : List ℕ} → IsCount times a → OneLine a
count_line IsCount.once = tt
count_line (IsCount.often low p) = ((λ e. omega arith), numeral_line p)

items_line : {hs : List Held} {a : List ℕ} → AreItems hs a → OneLine a
items_line AreItems.none = tt
items_line (AreItems.some {text = text} {count = count} {rest = rest} t c others) =
    ((λ e. omega arith), joined text (count ++ rest) (value_line t) (joined count rest (count_line c) (items_line others)))

-- the bytes of an end's line, by a test that computes
passing : (a : List ℕ) → list_all (λ c. not (nat_eq c 10)) a ≡ true → OneLine a
passing [] all = tt
passing (c ∷ a) all = (
  (λ e. false≢true (sym (ap (λ c. not (nat_eq c 10)) e) ∙ and_left (not (nat_eq c 10)) (list_all (λ c. not (nat_eq c 10)) a) all)),
  passing a (and_right (not (nat_eq c 10)) (list_all (λ c. not (nat_eq c 10)) a) all),
)

ending_line : (e : Ending) → OneLine (ending_text e)
ending_line Dead = passing (ending_text Dead) refl
ending_line Steps = passing (ending_text Steps) refl
ending_line Memory = passing (ending_text Memory) refl
ending_line ActionFault = passing (ending_text ActionFault) refl
ending_line InstancesFault = passing (ending_text InstancesFault) refl

one_line : {x : LineSaid} {a : List ℕ} → IsLine x a → OneLine a
one_line (IsLine.fires {a = a} {b = b} begins others) = joined a b (lead_line begins) (node_line others)
one_line (IsLine.calls {a = a} {b = b} begins others) = joined a (43 ∷ 32 ∷ b) (lead_line begins) ((λ e. omega arith), ((λ e. omega arith), node_line others))
one_line (IsLine.prints {a = a} {b = b} begins value) = joined a (62 ∷ 32 ∷ b) (lead_line begins) ((λ e. omega arith), ((λ e. omega arith), value_line value))
one_line (IsLine.ends {e = e}) = ending_line e
one_line (IsLine.would_fire others) = ((λ e. omega arith), ((λ e. omega arith), node_line others))
one_line (IsLine.would_call others) = ((λ e. omega arith), ((λ e. omega arith), ((λ e. omega arith), ((λ e. omega arith), node_line others))))
one_line (IsLine.holds {place = place} {b = b} (IsInstance.instance {name = name} {digits = digits} is low high p) named all) =
    joined (name ++ (91 ∷ digits ++ 93 ∷ [])) (46 ∷ (place ++ b)) (instance_line name digits is p) ((λ e. omega arith), joined place b (name_line place named) (items_line all))

-- no line holds a line feed
pub no_line_feed : LinesHoldNoLineFeed
no_line_feed x a is = All-from_recursion (λ c. c ≢ 10) a (one_line is)
