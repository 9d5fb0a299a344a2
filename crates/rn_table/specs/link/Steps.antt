-- A change as single tokens that are taken or put, one after another. It only connects the code to
-- the change.
use Rattle.std.specs.Prelude.{ℕ, ◌≡◌, ◌≤◌, ◌+◌, ◌&&◌, Bool, true, false, not, nat_eq}
use Rattle.std.specs.Prelude.{if◌then◌else◌, List, [], ◌∷◌, ◌++◌, map, flat_map, refl}
use Rattle.std.specs.Prelude.{slice_index_or, slice_set}
use Rattle.std.specs.Coded.{Coded, code_by, coded×, coded_ℕ, coded_bool}
use Rattle.std.specs.List.{sum_by}
use Rattle.rn_value.specs.declared.value.Value.{Value}
use Rattle.rn_value.specs.contracts.value.Value as token
use Rattle.rn_model.specs.Lists.{same_value, with_value, without_one}
use Rattle.rn_model.specs.Markings.{Instance}
use Rattle.rn_model.specs.Firing.{changed_instance}
use Rattle.rn_table.specs.declared.change.Row.{Row}
use Rattle.rn_table.specs.declared.change.Change.{Change}

-- One token that is taken from a place of an instance, or put there. Where it is alone, the place
-- is emptied first.
pub record Step : Type 0 where
  pub inst : ℕ
  pub place : ℕ
  pub value : Value
  pub puts : Bool
  pub alone : Bool

abbrev pub step_code : Coded Step
step_code =
    code_by (ℕ × (ℕ × (Value × (Bool × Bool))))
    (coded× coded_ℕ (coded× coded_ℕ (coded× token.the_row.coded (coded× coded_bool coded_bool))))
    (λ s. (s.inst, (s.place, (s.value, (s.puts, s.alone)))))
    (λ p.
    record {
      inst = p.0;
      place = p.1.0;
      value = p.1.1.0;
      puts = p.1.1.1.0;
      alone = p.1.1.1.1;
    })
    (λ _. refl)

-- tokens where the one of a step is taken or put
abbrev pub moved : Step → List Value → List Value
moved s vs = if s.puts then with_value s.value vs else without_one vs s.value

-- the tokens of its place after a step
abbrev pub stepped : Step → List Value → List Value
stepped s vs = moved s (if s.alone then [] else vs)

-- the tokens of places after a step at the place of an index
abbrev pub with_step : Step → ℕ → List (List Value) → List (List Value)
with_step s k places = slice_set places k (stepped s (slice_index_or places k []))

-- the tokens of any place after it
abbrev pub step_at : Step → ℕ → ℕ → List Value → List Value
step_at s n place vs =
    if nat_eq n s.inst && nat_eq place s.place then stepped s vs else vs

-- an instance after it
abbrev pub after_step : Step → Instance → Instance
after_step s i = changed_instance (step_at s i.number) i

-- the tokens of a place after steps
abbrev pub steps_at : List Step → ℕ → ℕ → List Value → List Value
steps_at [] n place vs = vs
steps_at (s ∷ ss) n place vs = steps_at ss n place (step_at s n place vs)

-- instances after steps
abbrev pub after_steps : List Step → List Instance → List Instance
after_steps [] is = is
after_steps (s ∷ ss) is = after_steps ss (map (after_step s) is)

-- the steps of a row, and of rows
abbrev pub steps_of : Bool → Row → List Step
steps_of puts row =
    map
    (λ v. record { inst = row.inst; place = row.place; value = v; puts = puts; alone = false })
    row.values

abbrev pub steps_in : Bool → List Row → List Step
steps_in puts = flat_map (steps_of puts)

-- the steps of a change
abbrev pub all_steps : Change → List Step
all_steps change =
    (steps_in false change.taken ++ steps_in false change.cleared) ++ steps_in true change.put

-- whether a step takes, or puts, this value at this place
abbrev pub is_at : Bool → ℕ → ℕ → Value → Step → Bool
is_at puts n place v s =
    (nat_eq n s.inst && nat_eq place s.place)
    && (same_value v s.value && (if puts then s.puts else not s.puts))

-- how often steps take it, or put it
abbrev pub step_count : Bool → ℕ → ℕ → Value → List Step → ℕ
step_count puts n place v = sum_by (λ s. if is_at puts n place v s then 1 else 0)

-- how many steps empty their place first
abbrev pub alone_count : List Step → ℕ
alone_count = sum_by (λ s. if s.alone then 1 else 0)

-- one step undoes another
pub record Cancels (s t : Step) : Type 0 where
  pub inst : s.inst ≡ t.inst
  pub place : s.place ≡ t.place
  pub value : s.value ≡ t.value
  pub other : s.puts ≡ not t.puts

-- steps that come to the same as others, take no more, and empty no more places
pub record AreNet (before after : List Step) : Type 0 where
  pub balance : (n place : ℕ) (v : Value) →
      step_count false n place v after + step_count true n place v before
      ≡ step_count false n place v before + step_count true n place v after
  pub fewer : (n place : ℕ) (v : Value) →
      step_count false n place v after ≤ step_count false n place v before
  pub lone : alone_count after ≤ alone_count before
