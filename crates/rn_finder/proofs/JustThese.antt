-- Lists of just the enabled bindings of which something holds.
use Rattle.std.proofs.Common.{◌≢◌, ◌<◌, ◌≤◌, ◌-◌, ℕ, List, [], ◌++◌, length, get_or, subst}
use Rattle.std.proofs.Common.{sym, refl, arith, ⊎_elim, ◌⊎◌}
use Rattle.std.specs.Prelude.{Contains, AllPairs, ⊤, ◌↔◌}
use Rattle.std.specs.List.Sorted.{IsPermutation}
use Rattle.std.proofs.lemmas.List.{get_or_append_left, get_or-append_right, length-append}
use Rattle.std.proofs.lemmas.List.Elements.{Contains-append_left, Contains-append_right}
use Rattle.std.proofs.lemmas.List.Elements.{Contains-append_cases, Contains-get_or}
use Rattle.std.proofs.lemmas.List.Sorted.{Contains-permutation, IsPermutation-sym}
use Rattle.rn_model.specs.declared.system.System.{System}
use Rattle.rn_model.specs.declared.binding.Binding.{Binding}
use Rattle.rn_model.specs.Enabling.{Enabled}
use Rattle.rn_model.specs.Markings.{Marking}
use Rattle.rn_model.proofs.EnablingLemmas.{not_in_nil}
use Rattle.rn_finder.specs.Starting.{AreJust}
use Rattle.rn_finder.proofs.Numbers.{less_or_not}

-- pairs of two lists, of which no element of the one is one of the other
apart : {X : Type 0} (xs ys : List X) → AllPairs (λ x y. x ≢ y) xs → AllPairs (λ x y. x ≢ y) ys →
    ((x : X) → Contains xs x → Contains ys x → ⊥) → AllPairs (λ x y. x ≢ y) (xs ++ ys)
apart {X} xs ys one other differ i j d less within =
    let long = length-append xs ys in
    ⊎_elim
    (λ (before : j < length xs).
    subst (λ x. x ≢ get_or (xs ++ ys) j d) (sym (get_or_append_left xs ys d i (omega arith)))
    (subst (λ y. get_or xs i d ≢ y) (sym (get_or_append_left xs ys d j before))
    (one i j d less before)))
    (λ (past : length xs ≤ j).
    subst (λ y. get_or (xs ++ ys) i d ≢ y)
    (sym (get_or-append_right xs ys (length xs) j d refl past))
    (from_second i j less past (omega arith)))
    (less_or_not j (length xs))
  where
    from_second : (i j : ℕ) → i < j → length xs ≤ j → j - length xs < length ys →
        get_or (xs ++ ys) i d ≢ get_or ys (j - length xs) d
    from_second i j less past within = ⊎_elim
        (λ (before : i < length xs).
        subst (λ x. x ≢ get_or ys (j - length xs) d) (sym (get_or_append_left xs ys d i before))
        (λ same. differ (get_or xs i d) (Contains-get_or xs i d before)
        (subst (Contains ys) (sym same) (Contains-get_or ys (j - length xs) d within))))
        (λ (after : length xs ≤ i).
        subst (λ x. x ≢ get_or ys (j - length xs) d)
        (sym (get_or-append_right xs ys (length xs) i d refl after))
        (other (i - length xs) (j - length xs) d (omega arith) within))
        (less_or_not i (length xs))

module _ (system : System) (m : Marking) (depth : ℕ) where
  abbrev Just : (Binding → Type 0) → List Binding → Type 0
  Just = AreJust system m depth

  abbrev Is : Binding → Type 0
  Is b = Enabled system m b depth

  -- none
  pub just_none : (Of : Binding → Type 0) → ((b : Binding) → Is b → ¬ Of b) → Just Of []
  just_none Of none = record {
    so = λ b there. absurd (not_in_nil b there);
    all = λ b enabled of. absurd (none b enabled of);
    once = λ i j d less within. absurd (omega (arith, within));
  }

  -- what holds of the same ones
  pub just_same : (Of All : Binding → Type 0) (found : List Binding) →
      ((b : Binding) → Is b → Of b → All b) → ((b : Binding) → Is b → All b → Of b) →
      Just Of found → Just All found
  just_same Of All found there back just = record {
    so = λ b has. let so = just.so b has in (so.0, there b so.0 so.1);
    all = λ b enabled all. just.all b enabled (back b enabled all);
    once = just.once;
  }

  -- with others
  pub just_more : (Of More All : Binding → Type 0) (found more : List Binding) →
      ((b : Binding) → Of b → All b) → ((b : Binding) → More b → All b) →
      ((b : Binding) → Is b → All b → Of b ⊎ More b) → ((b : Binding) → Of b → More b → ⊥) →
      Just Of found → Just More more → Just All (found ++ more)
  just_more Of More All found more of_all more_all cases differ just others = record {
    so = λ b there. ⊎_elim
        (λ has. let so = just.so b has in (so.0, of_all b so.1))
        (λ has. let so = others.so b has in (so.0, more_all b so.1))
        (Contains-append_cases found more b there);
    all = λ b enabled all. ⊎_elim
        (λ of. Contains-append_left found more b (just.all b enabled of))
        (λ of. Contains-append_right found more b (others.all b enabled of))
        (cases b enabled all);
    once = apart found more just.once others.once
        (λ b has also. differ b (just.so b has).1 (others.so b also).1);
  }

  -- those of them, in any order
  pub just_sorted : (Of : Binding → Type 0) (found sorted : List Binding) → Just Of found →
      IsPermutation found sorted → (b : Binding) → Contains sorted b ↔ (Is b × Of b)
  just_sorted Of found sorted just moved b = (
    λ has. just.so b (Contains-permutation sorted found b
        (IsPermutation-sym found sorted moved) has),
    λ is. Contains-permutation found sorted b moved (just.all b is.0 is.1),
  )

  -- all of them, in any order
  pub just_enabled : (found sorted : List Binding) → Just (λ b. ⊤) found →
      IsPermutation found sorted → (b : Binding) → Contains sorted b ↔ Is b
  just_enabled found sorted just moved b = (
    λ has. (just.so b (Contains-permutation sorted found b
        (IsPermutation-sym found sorted moved) has)).0,
    λ enabled. Contains-permutation found sorted b moved (just.all b enabled tt),
  )
