-- A marking in which one place of an instance holds these tokens alone.
use Rattle.std.specs.Prelude.{ℕ, if◌then◌else◌, nat_eq, List, map, slice_set}
use Rattle.rn_value.specs.declared.value.Value.{Value}
use Rattle.rn_model.specs.Markings.{Marking, Instance}

-- an instance with these tokens in a place, and its other places as they are
abbrev pub with_tokens : ℕ → List Value → Instance → Instance
with_tokens place vs i =
    record { number = i.number; net = i.net; places = slice_set i.places place vs }

-- a marking with these tokens alone in one place of an instance, and all else as it is
abbrev pub alone : ℕ → ℕ → List Value → Marking → Marking
alone n place vs m = record {
  next = m.next;
  instances = map (λ i. if nat_eq i.number n then with_tokens place vs i else i) m.instances;
}
