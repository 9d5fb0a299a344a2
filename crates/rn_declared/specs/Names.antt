-- Names: their numbers in the order of the text, and what the rules ask of them where they are
-- declared.
use Rattle.std.specs.Prelude.{ℕ, ◌+◌, Bool, not, nat_le, nat_eq, List, [], ◌∷◌, ◌++◌}
use Rattle.std.specs.Prelude.{length, map, Option, Some, None, if◌then◌else◌}
use Rattle.std.specs.List.{list_any}
use Rattle.std.specs.Cmp.Lexicographic.{pointwise}
use Rattle.rn_inscript.specs.declared.inscriptions.PName.{PName}
use Rattle.rn_model.specs.Limits.{longest_name}
use Rattle.rn_declared.specs.declared.fault.Rule.TheVariants as Rule
use Rattle.rn_declared.specs.declared.fault.Fault.{Fault}
use Rattle.rn_declared.specs.Faults.{broken_if, past_limit}

-- whether two names are the same
abbrev pub same_name : List ℕ → List ℕ → Bool
same_name = pointwise nat_eq

-- the number of the first declaration of a name among these, of which the first has this number
abbrev pub number_from : ℕ → List (List ℕ) → List ℕ → Option ℕ
number_from n [] name = None
number_from n (declared ∷ others) name =
    if same_name declared name then Some n else number_from (n + 1) others name

-- the number of the first declaration of a name, from 0, where it is declared
abbrev pub number_among : List (List ℕ) → List ℕ → Option ℕ
number_among = number_from 0

-- Where one name is declared, after these: it isn't too long, and none of these is the same.
abbrev pub name_faults : List (List ℕ) → PName → List Fault
name_faults before name =
    broken_if (not (nat_le (length name.text) longest_name)) Rule.Limit name.spot
    ++ broken_if (list_any (λ declared. same_name declared name.text) before) Rule.Once name.spot

-- the same of each of these names, which are declared after those
abbrev pub names_faults : List (List ℕ) → List PName → List Fault
names_faults before [] = []
names_faults before (name ∷ names) =
    name_faults before name ++ names_faults (before ++ name.text ∷ []) names

-- what is broken where these names of one name space are declared: that each is short and new, and
-- that there aren't more than so many
abbrev pub declared_faults : ℕ → List PName → List Fault
declared_faults most names =
    names_faults [] names ++ past_limit most (map (λ name. name.spot) names)
