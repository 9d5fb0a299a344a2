-- The variables of a transition: those that occur in it, but for those that its actions set.
use Rattle.std.specs.Prelude.{ℕ, Bool, ◌&&◌, not, nat_eq, List, flat_map, filter}
use Rattle.std.specs.List.{list_any, range_with_len}
use Rattle.rn_model.specs.declared.system.Transition.{Transition}
use Rattle.rn_model.specs.Good.{occurring, set_var}

-- whether a number is among these
abbrev pub is_among : List ℕ → ℕ → Bool
is_among xs x = list_any (nat_eq x) xs

-- a transition of a net with so many variables, where those on the left of actions are its action
-- variables, and all others that occur its variables, both ascending
abbrev pub with_vars : ℕ → Transition → Transition
with_vars count t =
    let acted : List ℕ = flat_map set_var t.actions in
    record t {
      vars = filter (λ x. is_among (occurring t) x && not (is_among acted x))
          (range_with_len 0 count);
      action_vars = filter (is_among acted) (range_with_len 0 count);
    }
