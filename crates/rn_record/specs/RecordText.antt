-- The text of a run: the lines of its firings, of its end, and of its marks.
--
-- A firing names the instances that it makes by the numbers that follow those of all instances
-- made before. So each text is stated by the names of the nets of these instances, in order.
use Rattle.std.specs.Prelude.{ℕ, ◌≡◌, ◌⊎◌, ◌+◌, List, [], ◌∷◌, ◌++◌, length, map, codes}
use Rattle.std.specs.Prelude.{slice_get, flat_map, nat_eq, if◌then◌else◌}
use Rattle.std.specs.Option.{option_map_or}
use Rattle.rn_value.specs.declared.value.InstRef.TheVariants.{Old}
use Rattle.rn_value.specs.declared.value.Value.{Value}
use Rattle.rn_value.specs.Text.{numeral, value_text}
use Rattle.rn_model.specs.declared.system.System.{System}
use Rattle.rn_model.specs.declared.system.Net.{Net}
use Rattle.rn_model.specs.declared.binding.Node.{Node}
use Rattle.rn_model.specs.declared.binding.Binding.{Binding}
use Rattle.rn_model.specs.declared.log.FaultKind.{FaultKind}
use Rattle.rn_model.specs.declared.log.FaultKind.TheVariants.{Action, Instances}
use Rattle.rn_model.specs.declared.log.Reason.{Reason}
use Rattle.rn_model.specs.declared.log.Reason.TheVariants.{Dead, Steps, Fault, Memory}
use Rattle.rn_model.specs.declared.log.Entry.{Entry}
use Rattle.rn_model.specs.declared.log.Entry.TheVariants.{Fire, End}
use Rattle.rn_model.specs.declared.log.MarkLine.{MarkLine}
use Rattle.rn_model.specs.declared.log.Told.{Told}
use Rattle.rn_model.specs.declared.repeats.Repeat.{Repeat}
use Rattle.rn_model.specs.Systems.{net_at, transition_of}
use Rattle.rn_model.specs.Firing.{named}
use Rattle.rn_model.specs.NodeText.{instance_text, node_lines}
use Rattle.rn_model.specs.Repeats.{repeats_of}

-- There are two formats of records.
abbrev pub IsFormat : ℕ → Type 0
IsFormat format = (format ≡ 1) ⊎ (format ≡ 2)

-- the names of the nets of the instances that a node makes
abbrev pub names_by : System → Node → List (List ℕ)
names_by system node =
    map (λ c. (net_at system c.net).name) (transition_of system node).creations

-- the names after a binding: those before it, and those of the instances that it makes
abbrev pub names_after : System → List (List ℕ) → Binding → List (List ℕ)
names_after system names b = names ++ flat_map (names_by system) b.nodes

-- the nodes of a binding, with the numbers of the instances that it makes
abbrev pub numbered_nodes : System → List (List ℕ) → Binding → List Node
numbered_nodes system names b = (named system b (length names + 1)).nodes

-- the lines of the nodes of a binding, each after this lead
abbrev pub binding_text : System → List (List ℕ) → List ℕ → Binding → List ℕ
binding_text system names lead b =
    node_lines system (names_after system names b) lead (numbered_nodes system names b)

-- the lead of each line of the firing with this number, by its worker, as `3 w1 `
abbrev pub firing_lead : ℕ → ℕ → List ℕ
firing_lead step worker = numeral step ++ codes " w" ++ numeral worker ++ codes " "

-- a line that a firing printed, as `3 w1 > [10,"a"]`
abbrev pub printed_line : List (List ℕ) → List ℕ → Value → List ℕ
printed_line names lead v = lead ++ codes "> " ++ value_text v names ++ codes "\n"

-- the cause of a fault, by one word
abbrev pub cause_text : FaultKind → List ℕ
cause_text Action = codes "action"
cause_text Instances = codes "instances"

-- the first line of a fault
abbrev pub fault_line : FaultKind → List ℕ
fault_line cause = codes "end fault " ++ cause_text cause ++ codes "\n"

-- the lines of the end of a run; a fault has those of its binding
abbrev pub end_text : System → List (List ℕ) → Reason → List ℕ
end_text system names Dead = codes "end dead\n"
end_text system names Steps = codes "end steps\n"
end_text system names Memory = codes "end memory\n"
end_text system names (Fault cause b) =
    fault_line cause ++ binding_text system names (codes "! ") b

-- the lines of the entry with this number: of a firing those of its nodes, and what it printed
abbrev pub entry_text : System → List (List ℕ) → ℕ → Entry → List ℕ
entry_text system names step (Fire worker b outs) =
    binding_text system names (firing_lead step worker) b
    ++ flat_map (printed_line (names_after system names b) (firing_lead step worker)) outs
entry_text system names step (End reason) = end_text system names reason

-- the names after an entry: a firing makes instances, an end makes none
abbrev pub names_past : System → List (List ℕ) → Entry → List (List ℕ)
names_past system names (Fire worker b outs) = names_after system names b
names_past system names (End reason) = names

-- the names after entries
abbrev pub names_at_end : System → List (List ℕ) → List Entry → List (List ℕ)
names_at_end system names [] = names
names_at_end system names (entry ∷ entries) =
    names_at_end system (names_past system names entry) entries

-- the lines of entries, the first with this number
abbrev pub entries_text : System → List (List ℕ) → ℕ → List Entry → List ℕ
entries_text system names step [] = []
entries_text system names step (entry ∷ entries) =
    entry_text system names step entry
    ++ entries_text system (names_past system names entry) (step + 1) entries

-- the name of a place of a net
abbrev pub place_name : Net → ℕ → List ℕ
place_name net p = option_map_or (λ place. place.name) (slice_get net.places p) []

-- a value after a space
abbrev pub token_text : List (List ℕ) → Value → List ℕ
token_text names v = codes " " ++ value_text v names

-- a place of an instance, as `main[1].q`
abbrev pub place_text : System → MarkLine → List ℕ
place_text system line =
    instance_text (net_at system line.net).name (Old line.inst) ++ codes "."
    ++ place_name (net_at system line.net) line.place

-- how often a value stands there, after it: nothing where it is once
abbrev pub count_text : ℕ → List ℕ
count_text n = if nat_eq n 1 then [] else codes "*" ++ numeral n

-- a value after a space, and how often it stands there, as ` 5*3`
abbrev pub item_text : List (List ℕ) → Repeat → List ℕ
item_text names r = token_text names r.value ++ count_text r.count

-- Tokens in a row: in format 1 each by itself, in format 2 equal neighbours once, with their number.
abbrev pub tokens_text : ℕ → List (List ℕ) → List Value → List ℕ
tokens_text format names vs =
    if nat_eq format 1 then flat_map (token_text names) vs
    else flat_map (item_text names) (repeats_of vs)

-- a place of an instance, with its tokens, as `main[1].q [] []`, or `main[1].q []*2`
abbrev pub mark_text : ℕ → System → List (List ℕ) → MarkLine → List ℕ
mark_text format system names line =
    place_text system line ++ tokens_text format names line.values ++ codes "\n"

-- the names at the start, where the instance of `main` is the only one
abbrev pub first_names : List (List ℕ)
first_names = codes "main" ∷ []

-- the first line of a record: in format 1 there is none, and format 2 is named
abbrev pub header_text : ℕ → List ℕ
header_text format = if nat_eq format 1 then [] else codes "run 2\n"

-- The text of a run: its entries, numbered from 1, and then its marks.
abbrev pub record_text : ℕ → System → Told → List ℕ
record_text format system told =
    header_text format ++ entries_text system first_names 1 told.entries
    ++ flat_map (mark_text format system (names_at_end system first_names told.entries)) told.marks
