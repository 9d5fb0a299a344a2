-- What the readers of lines give, as functions on lists of bytes. (They connect the code to the
-- grammar of `LineText`; the promise of `read_line` is stated by the grammar alone.)
use Rattle.std.specs.Prelude.{ℕ, zero, suc, List, [], ◌∷◌, length, take, drop, Bool, true, false, nat_eq, nat_lt, bytes_eq, if◌then◌else◌, Option, Some, None}
use Rattle.std.specs.List.{prefix_len}
use Rattle.rn_value.specs.Characters.{is_digit}
use Rattle.rn_lines.specs.LineText.{LeadSaid, Token, Held, LineSaid, greatest_worker, ending_text}
use Rattle.rn_lines.specs.NodeReading.{node_at}
use Rattle.rn_lines.specs.Reading.{◌>>=◌, are_plain, numeral_at, byte_at, name_at, inst_at, front_at, seen_at}
use Rattle.rn_lines.specs.declared.lines.Ending.{Ending}
use Rattle.rn_lines.specs.declared.lines.Ending.TheVariants.{Dead, Steps, Memory, ActionFault, InstancesFault}

-- the digits of a numeral of any length
abbrev pub step_at : List ℕ → Option (List ℕ × List ℕ)
step_at bytes =
    if are_plain (take (prefix_len is_digit bytes) bytes)
    then Some (take (prefix_len is_digit bytes) bytes, drop (prefix_len is_digit bytes) bytes)
    else None

-- a worker's number, before a space
abbrev pub worker_at : List ℕ → Option (ℕ × List ℕ)
worker_at bytes =
    numeral_at greatest_worker bytes >>= λ n.
    if nat_eq n.0 0 then None else (byte_at 32 n.1 >>= λ rest. Some (n.0, rest))

-- how a line of a firing begins
abbrev pub lead_at : List ℕ → Option (LeadSaid × List ℕ)
lead_at bytes =
    step_at bytes >>= λ step.
    byte_at 32 step.1 >>= λ sign.
    byte_at 119 sign >>= λ digits.
    worker_at digits >>= λ worker.
    Some (record { step = step.0; worker = worker.0 }, worker.1)

-- a value up to the end
abbrev pub last_at : List ℕ → Option Token
last_at bytes =
    seen_at bytes >>= λ v.
    if nat_eq (length v.rest) 0 then Some (record { value = v.value; named = v.named }) else None

-- whether plain digits are there, of a number from 2 on
abbrev pub is_several : List ℕ → Bool
is_several [] = false
is_several (d ∷ []) = nat_lt 49 d
is_several (d ∷ e ∷ ds) = true

-- the digits of a numeral of a number from 2 on
abbrev pub several_at : List ℕ → Option (List ℕ × List ℕ)
several_at bytes = step_at bytes >>= λ n. if is_several n.0 then Some n else None

-- the digits of a count behind `*`, and none where no `*` stands first
abbrev pub count_at : List ℕ → Option (List ℕ × List ℕ)
count_at [] = Some ([], [])
count_at (c ∷ bytes) = if nat_eq c 42 then several_at bytes else Some ([], c ∷ bytes)

-- an item behind a space
abbrev pub item_at : List ℕ → Option (Held × List ℕ)
item_at bytes =
    byte_at 32 bytes >>= λ text.
    front_at text >>= λ v.
    count_at v.rest >>= λ n.
    Some (record { token = record { value = v.value; named = v.named }; times = n.0 }, n.1)

-- items up to the end, at most this many
abbrev pub items_at : ℕ → List ℕ → Option (List Held)
items_at most [] = Some []
items_at zero (c ∷ bytes) = None
items_at (suc most) (c ∷ bytes) =
    item_at (c ∷ bytes) >>= λ h.
    items_at most h.1 >>= λ items.
    Some (h.0 ∷ items)

-- a mark
abbrev pub mark_at : List ℕ → Option LineSaid
mark_at bytes =
    inst_at bytes >>= λ inst.
    byte_at 46 inst.1 >>= λ word.
    name_at word >>= λ place.
    items_at (length place.1) place.1 >>= λ items.
    if nat_eq (length items) 0 then None else Some (LineSaid.holds inst.0 place.0 items)

-- what follows the lead of a firing
abbrev pub firing_at : LeadSaid → List ℕ → Option LineSaid
firing_at lead [] = None
firing_at lead (c ∷ bytes) =
    if nat_eq c 43 then (byte_at 32 bytes >>= λ rest. node_at rest >>= λ n. Some (LineSaid.calls lead n))
    else if nat_eq c 62
    then (byte_at 32 bytes >>= λ rest. last_at rest >>= λ t. Some (LineSaid.prints lead t))
    else (node_at (c ∷ bytes) >>= λ n. Some (LineSaid.fires lead n))

-- what follows the sign of a fault's node
abbrev pub fault_at : List ℕ → Option LineSaid
fault_at [] = None
fault_at (c ∷ bytes) =
    if nat_eq c 43
    then (byte_at 32 bytes >>= λ rest. node_at rest >>= λ n. Some (LineSaid.would_call n))
    else (node_at (c ∷ bytes) >>= λ n. Some (LineSaid.would_fire n))

-- the line of an end
abbrev pub ending_at : List ℕ → Option Ending
ending_at bytes =
    if bytes_eq bytes (ending_text Dead) then Some Dead
    else if bytes_eq bytes (ending_text Steps) then Some Steps
    else if bytes_eq bytes (ending_text Memory) then Some Memory
    else if bytes_eq bytes (ending_text ActionFault) then Some ActionFault
    else if bytes_eq bytes (ending_text InstancesFault) then Some InstancesFault
    else None

-- the line of an end, or else a mark
abbrev pub end_or : Option Ending → Option LineSaid → Option LineSaid
end_or None mark = mark
end_or (Some e) mark = Some (LineSaid.ends e)

-- a line
abbrev pub line_at : List ℕ → Option LineSaid
line_at [] = None
line_at (c ∷ bytes) =
    if nat_eq c 33 then (byte_at 32 bytes >>= fault_at)
    else if is_digit c then (lead_at (c ∷ bytes) >>= λ lead. firing_at lead.0 lead.1)
    else end_or (ending_at (c ∷ bytes)) (mark_at (c ∷ bytes))
