-- What a mapped option was made of.
use Rattle.std.proofs.Common.{◌≡◌, refl}
use Rattle.std.specs.Prelude.{Option, Some, None, option_map}

-- a mapped option with this value was made of an option with a value that is mapped to it
pub option_map_some : {A B P : Type 0} (f : A → B) (o : Option A) (y : B) →
    option_map f o ≡ Some y → ((x : A) → o ≡ Some x → Some (f x) ≡ Some y → P) → P
option_map_some f None y e k = absurd (let no : ⊥ = cc in no)
option_map_some f (Some x) y e k = k x refl e
