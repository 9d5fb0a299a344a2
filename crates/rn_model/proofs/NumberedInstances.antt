-- Instances are numbered by the keys of creations as by the creations.
use Rattle.std.proofs.Common.{◌≡◌, ℕ, List, [], ◌∷◌, length, map, refl, ap, ◌∙◌, ◌+◌, subst}
use Rattle.std.specs.Prelude.{Bool, true, false, Some, None, cond, nat_lt}
use Rattle.std.specs.List.{position_from, position_or_len}
use Rattle.std.specs.Option.{option_map_or}
use Rattle.rn_value.specs.declared.value.InstRef.{InstRef}
use Rattle.rn_value.specs.declared.value.InstRef.TheVariants.{Old, New}
use Rattle.rn_value.specs.declared.value.Value.{Value, fold_out-Value}
use Rattle.rn_value.specs.declared.value.Value.TheVariants as Value
use Rattle.rn_model.specs.declared.binding.Binding.{Binding}
use Rattle.rn_model.specs.declared.system.System.{System}
use Rattle.rn_model.specs.declared.numbers.MadeBy.{MadeBy}
use Rattle.rn_model.specs.Firing.{Made, creations_of, numbered_inst, renamed_value, renamed_step, renamed_node, named}
use Rattle.rn_model.specs.declared.numbers.Numbers.{Numbers}
use Rattle.rn_model.specs.Numbers.{AreNumbersOf, key_of, makes, numbered_by}
use Rattle.rn_model.proofs.CreationNumbers.{counted_from}
use Rattle.rn_model.proofs.NamingRules.{renamed_value-Int, renamed_value-Inst, renamed_value-Tuple, renamed_value-List}

-- the parts of a value, each renamed
parts : (vs : List Value) (name : InstRef → InstRef) → map (λ part. part name) (map renamed_value vs) ≡ map (λ v. renamed_value v name) vs
parts [] name = refl
parts (v ∷ vs) name = ap (λ ws. renamed_value v name ∷ ws) (parts vs name)

-- a text, a tuple and a list with their instances renamed
pub renamed-Text : (s : List ℕ) (name : InstRef → InstRef) → renamed_value (Value.Text s) name ≡ Value.Text s
renamed-Text s name = ap (λ f. f name) (fold_out-Value ((InstRef → InstRef) → Value) renamed_step (Value.Text s)) ∙ rw (Value.outs-Text s)

pub renamed-Tuple : (vs : List Value) (name : InstRef → InstRef) → renamed_value (Value.Tuple vs) name ≡ Value.Tuple (map (λ v. renamed_value v name) vs)
renamed-Tuple vs name = renamed_value-Tuple vs name ∙ ap (λ ws. Value.Tuple ws) (parts vs name)

pub renamed-List : (vs : List Value) (name : InstRef → InstRef) → renamed_value (Value.List vs) name ≡ Value.List (map (λ v. renamed_value v name) vs)
renamed-List vs name = renamed_value-List vs name ∙ ap (λ ws. Value.List ws) (parts vs name)

pub ruleset renaming_rules = (renamed_value-Int, renamed-Text, renamed_value-Inst, renamed-Tuple, renamed-List)

-- where the first creation stands that passes
first_of_keys : (p : MadeBy → Bool) (n : ℕ) (cs : List Made) → position_from p n (map key_of cs) ≡ position_from (λ c. p (key_of c)) n cs
first_of_keys p n [] = refl
first_of_keys p n (c ∷ cs) = ap (λ o. cond (p (key_of c)) (Some n) o) (first_of_keys p (n + 1) cs)

as_number : (test : Bool) (n k : ℕ) (inst : InstRef) → option_map_or (λ m. Old m) (cond test (Some (n + k)) None) inst ≡ option_map_or (λ m. Old (n + m)) (cond test (Some k) None) inst
as_number true n k inst = refl
as_number false n k inst = refl

by_keys : (cs : List Made) (next : ℕ) (numbers : Numbers) → AreNumbersOf (map key_of cs) next numbers → (i : InstRef) → numbered_by numbers i ≡ numbered_inst cs next i
by_keys cs next numbers are (Old n) = refl
by_keys cs next numbers are (New path j) =
    let test : Made → Bool = λ c. makes path j (key_of c) in
    ap (λ o. option_map_or (λ n. Old n) o (New path j)) (are path j ∙ first_of_keys (makes path j) next cs ∙ counted_from test next cs)
    ∙ as_number (nat_lt (position_or_len test cs) (length cs)) next (position_or_len test cs) (New path j)

-- a binding whose instances are numbered so is the named one
pub named_by_numbers : (system : System) (b : Binding) (next : ℕ) (made : List MadeBy) (numbers : Numbers) (named_as : Binding) → made ≡ map key_of (creations_of system b) → AreNumbersOf made next numbers →
    named_as.nodes ≡ map (renamed_node (numbered_by numbers)) b.nodes → named_as ≡ named system b next
named_by_numbers system b next made numbers named_as is are nodes =
    let own = subst (λ keys. AreNumbersOf keys next numbers) is are in
    (λ i. record { nodes = nodes i }) ∙ ap (λ name. record { nodes = map (renamed_node name) b.nodes }) (λ i inst. by_keys (creations_of system b) next numbers own inst i)
