-- What a change makes of a marking.
use Rattle.std.specs.Prelude.{ℕ, ◌≡◌, ◌<◌, ◌≤◌, ◌+◌, ◌&&◌, nat_eq, if◌then◌else◌, List, [], ◌++◌}
use Rattle.std.specs.Prelude.{length, map, flat_map, All, Some}
use Rattle.std.specs.List.{enumerate_from}
use Rattle.rn_value.specs.declared.value.Value.{Value}
use Rattle.rn_model.specs.declared.system.System.{System}
use Rattle.rn_model.specs.Lists.{IsWithin, ordered_values, without_each}
use Rattle.rn_model.specs.Markings.{Instance, Marking, fresh_instance, instance_at, tokens_at}
use Rattle.rn_model.specs.Firing.{changed_instance}
use Rattle.rn_model.specs.Limits.{greatest_instance}
use Rattle.rn_table.specs.declared.change.Row.{Row}
use Rattle.rn_table.specs.declared.change.Change.{Change}

-- new instances of these nets, the first with this number
abbrev pub new_from : System → ℕ → List ℕ → List Instance
new_from system next made = map (λ p. fresh_instance system p.0 p.1) (enumerate_from next made)

-- the marking with new instances, which come with the initial tokens of their nets
abbrev pub with_made : System → List ℕ → Marking → Marking
with_made system made m = record {
  next = m.next + length made;
  instances = m.instances ++ new_from system m.next made;
}

-- the values of the rows of a place of an instance, one row after another
abbrev pub values_at : List Row → ℕ → ℕ → List Value
values_at rows n place =
    flat_map
    (λ row. if nat_eq n row.inst && nat_eq place row.place then row.values else [])
    rows

-- the tokens of a place of an instance, less what is taken and what is cleared there, and then with
-- what is put there
abbrev pub changed_tokens : Change → ℕ → ℕ → List Value → List Value
changed_tokens change n place vs =
    ordered_values
    (without_each (without_each vs (values_at change.taken n place))
    (values_at change.cleared n place)
    ++ values_at change.put n place)

-- The marking after a change: the new instances come with their initial tokens, and each place of
-- each instance changes by its rows.
abbrev pub changed : System → Change → Marking → Marking
changed system change m =
    record (with_made system change.made m) {
      instances =
          map (λ i. changed_instance (changed_tokens change i.number) i)
          (with_made system change.made m).instances;
    }

-- each row stands at a place of an instance that is there
abbrev pub ArePlaced : Marking → List Row → Type 0
ArePlaced m rows =
    All
    (λ row. (i : Instance) × (instance_at m row.inst ≡ Some i) × (row.place < length i.places))
    rows

-- When a change may come: all that is taken and cleared is there, with the new instances; their nets
-- are nets of the system; each row stands at a place of an instance that is kept or new; and the
-- next number stays within the greatest.
pub record MayCome (system : System) (change : Change) (m : Marking) : Type 0 where
  pub there : (n place : ℕ) →
      IsWithin (values_at change.taken n place ++ values_at change.cleared n place)
      (tokens_at (with_made system change.made m) n place)
  pub nets : All (λ net. net < length system.nets) change.made
  pub taken : ArePlaced (with_made system change.made m) change.taken
  pub cleared : ArePlaced (with_made system change.made m) change.cleared
  pub put : ArePlaced (with_made system change.made m) change.put
  pub room : m.next + length change.made ≤ greatest_instance + 1
