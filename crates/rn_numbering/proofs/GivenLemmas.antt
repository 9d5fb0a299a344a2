-- What a loop over a vector that it owns is given.
use Rattle.std.proofs.Common.{◌≡◌, List, Option, Some, None, length, sym, subst, ◌∙◌}
use Rattle.std.specs.Prelude.{All}
use Rattle.std.specs.Iterator.{Yields}
use Rattle.std.specs.Vec.Iter.{into_iter_items, into_iter_len, into_iter_steps}
use Rattle.std.specs.declared.vec.IntoIter.{IntoIter}
use Rattle.std.proofs.lemmas.List.{map-id}
use Rattle.std.proofs.lemmas.List.Elements.{All-get_or}
use Rattle.std.proofs.lemmas.Iterator.Adapters.{YieldsList-from_vec}
use Rattle.std.proofs.lemmas.Iterator.Consumers.{YieldsList-turn, YieldsList-end}

-- what a vector gave at its end is all that was in it
pub all_given : {A Z : Type 0} (s t u : IntoIter A Z) (r : Option A) (xs : List A) →
    into_iter_items s ≡ xs → into_iter_len s ≡ length xs → (ys : List A) →
    Yields (into_iter_steps {X = A} {Z = Z}) s ys t → r ≡ None →
    into_iter_steps {X = A} {Z = Z} t r u → ys ≡ xs
all_given s t u r xs items len ys given none step =
    sym (map-id ys) ∙ (YieldsList-end (YieldsList-from_vec xs items len) ys t given r u none step).0

-- each that it gives has what all in it have
pub each_given : {A Z : Type 0} (P : A → Type 0) (s t u : IntoIter A Z) (r : Option A) (x : A)
    (xs : List A) → into_iter_items s ≡ xs → into_iter_len s ≡ length xs → (ys : List A) →
    Yields (into_iter_steps {X = A} {Z = Z}) s ys t → r ≡ Some x →
    into_iter_steps {X = A} {Z = Z} t r u → All P xs → P x
each_given P s t u r x xs items len ys given some step all =
    let turn = YieldsList-turn (YieldsList-from_vec xs items len) ys t given r u x some step in
    subst P (sym turn.1) (All-get_or P xs (length ys) x turn.0 all)
