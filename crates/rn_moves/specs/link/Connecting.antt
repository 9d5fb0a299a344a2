-- What the steps of the code give. This only connects the code to the definitions.
use Rattle.std.specs.Prelude.{ℕ, suc, ◌≡◌, ◌+◌, List, [], ◌∷◌, ◌++◌, length, map, All, codes, ⊤}
use Rattle.rn_value.specs.declared.value.InstRef.TheVariants.{Old}
use Rattle.rn_value.specs.declared.value.Value.{Value}
use Rattle.rn_value.specs.Text.{numeral}
use Rattle.rn_model.specs.declared.system.System.{System}
use Rattle.rn_model.specs.declared.system.Place.{Place}
use Rattle.rn_model.specs.declared.binding.Binding.{Binding}
use Rattle.rn_model.specs.declared.log.Entry.{Entry}
use Rattle.rn_model.specs.declared.log.Entry.TheVariants.{Fire, End}
use Rattle.rn_model.specs.Bindings.{IsNodeOf}
use Rattle.rn_model.specs.Firing.{creations_of}
use Rattle.rn_model.specs.NodeText.{instance_text}
use Rattle.rn_model.specs.Systems.{net_at}
use Rattle.rn_record.specs.RecordText.{place_name}
use Rattle.rn_table.specs.declared.change.Row.{Row}
use Rattle.rn_moves.specs.declared.lead.Lead.{Lead}
use Rattle.rn_moves.specs.declared.token.Token.{Token}
use Rattle.rn_moves.specs.declared.token.Moves.{Moves}
use Rattle.rn_moves.specs.Moves.{AreMovesFrom, AreMovesOf}
use Rattle.rn_moves.specs.MovesText.{all_lines, moves_lines, net_numbered}

-- these values as tokens of a place of an instance
abbrev pub tokens_at_place : ℕ → ℕ → List Value → List Token
tokens_at_place n place vs = map (λ v. record { inst = n; place = place; value = v }) vs

-- the tokens of a row
abbrev pub row_tokens : Row → List Token
row_tokens row = tokens_at_place row.inst row.place row.values

-- the initial tokens of an instance, from the place with this number on
abbrev pub initial_tokens : ℕ → ℕ → List Place → List Token
initial_tokens n place [] = []
initial_tokens n place (p ∷ ps) =
    tokens_at_place n place p.initial ++ initial_tokens n (place + 1) ps

-- the initial tokens of new instances of these nets, of which the first has this number
abbrev pub made_tokens : System → ℕ → List ℕ → List Token
made_tokens system next [] = []
made_tokens system next (net ∷ nets) =
    initial_tokens next 0 (net_at system net).places ++ made_tokens system (next + 1) nets

-- how the lines of a place of an instance begin, by a number and a sign
abbrev pub line_lead : System → List ℕ → ℕ → List ℕ → ℕ → ℕ → List ℕ
line_lead system nets step sign n place =
    numeral step ++ (sign ++ ((instance_text (net_at system (net_numbered nets n)).name (Old n)
    ++ codes "." ++ place_name (net_at system (net_numbered nets n)) place) ++ codes " "))

-- the lines of its place begin so
abbrev pub IsLead : System → List ℕ → ℕ → List ℕ → Lead → Type 0
IsLead system nets step sign lead =
    lead.text.items ≡ line_lead system nets step sign lead.inst lead.place

-- the lines of a firing are written, and the numbers go on
pub record WritesMoves (system : System) (nets : List ℕ) (names : List (List ℕ)) (next step : ℕ)
    (b : Binding) (next' step' : ℕ) (before after : List ℕ) : Type 0 where
  pub moves : Moves
  pub are : AreMovesOf system next step b moves
  pub text : after ≡ before ++ moves_lines system nets names step moves
  pub next_is : next' ≡ next + length (creations_of system b)
  pub step_is : step' ≡ suc step

-- the same of an entry; an end has no lines
abbrev pub WritesEntry : System → List ℕ → List (List ℕ) → ℕ → ℕ → Entry → ℕ → ℕ → List ℕ →
    List ℕ → Type 0
WritesEntry system nets names next step (Fire worker b outs) next' step' before after =
    WritesMoves system nets names next step b next' step' before after
WritesEntry system nets names next step (End reason) next' step' before after =
    (next' ≡ next) × (step' ≡ step) × (after ≡ before)

-- each node of a firing is one of the system
abbrev pub HasEntryNodes : System → Entry → Type 0
HasEntryNodes system (Fire worker b outs) = All (IsNodeOf system) b.nodes
HasEntryNodes system (End reason) = ⊤

-- the lines of all entries are written
pub record WritesAll (system : System) (nets : List ℕ) (names : List (List ℕ))
    (entries : List Entry) (before after : List ℕ) : Type 0 where
  pub moves : List Moves
  pub are : AreMovesFrom system 2 1 entries moves
  pub text : after ≡ before ++ all_lines system nets names 1 moves
