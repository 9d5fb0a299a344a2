-- The bindings of a list of all that are enabled, by their numbers.
use Rattle.std.proofs.Common.{◌≡◌, ◌+◌, ◌-◌, ◌<◌, ◌≤◌, Bool, true, false, ℕ, zero, suc, List, [], length, take, get_or, refl, sym, ap, ◌∙◌, subst, inr, arith}
use Rattle.std.specs.Prelude.{Contains, Some, nat_eq, nat_lt}
use Rattle.std.proofs.lemmas.Option.{slice_get-get_or}
use Rattle.std.specs.List.{AllAdjacentBelow}
use Rattle.std.specs.Ordering.{ordering_reverse}
use Rattle.std.specs.declared.cmp.Ordering.{Ordering}
use Rattle.std.specs.declared.cmp.Ordering.TheVariants.{Less, Equal, Greater}
use Rattle.std.proofs.lemmas.List.{get_or-take, get_or_default, length-take-le}
use Rattle.std.proofs.lemmas.Bool.{eqb-true}
use Rattle.std.proofs.lemmas.Bool.Decides.{nat_tests}
use Rattle.rn_model.specs.declared.binding.Binding.{Binding}
use Rattle.rn_model.specs.declared.system.System.{System}
use Rattle.rn_model.specs.Enabling.{DeadAt, Enabled}
use Rattle.rn_model.specs.Markings.{Marking}
use Rattle.rn_model.specs.Order.{binding_cmp}
use Rattle.rn_model.specs.link.OrderLaws.{binding_cmp-total}
use Rattle.rn_served.specs.Listed.{AreEnabled, IsBelow, IsNumbered, NoneIsNumbered, NumbersAreOfList}

-- in a list where each is below the next, each is below all later ones
far : (xs : List Binding) → AllAdjacentBelow IsBelow xs (length xs) → (i n : ℕ) (d : Binding) →
    i + suc n < length xs → IsBelow (get_or xs i d) (get_or xs (i + suc n) d)
far xs up i zero d within =
    let next : i + 1 ≡ i + suc zero = omega arith in
    subst (λ j. IsBelow (get_or xs i d) (get_or xs j d)) next (up i d (omega (arith, within)))
far xs up i (suc n) d within =
    let next : i + suc n + 1 ≡ i + suc (suc n) = omega arith in
    binding_cmp-total.trans (get_or xs i d) (get_or xs (i + suc n) d) (get_or xs (i + suc (suc n)) d) (far xs up i n d (omega (arith, within)))
    (subst (λ j. IsBelow (get_or xs (i + suc n) d) (get_or xs j d)) next
    (up (i + suc n) d (omega (arith, within))))

pub later_is_above : (xs : List Binding) → AllAdjacentBelow IsBelow xs (length xs) → (i j : ℕ)
    (d : Binding) → i < j → j < length xs → IsBelow (get_or xs i d) (get_or xs j d)
later_is_above xs up i j d before within =
    let n = j - suc i in
    let is : i + suc n ≡ j = omega (arith, before) in
    subst (λ k. IsBelow (get_or xs i d) (get_or xs k d)) is (far xs up i n d (omega (arith, is, within)))

-- none is below itself, and of two only one is below the other
not_both : (o : Ordering) → o ≡ Less → ordering_reverse o ≡ Less → ⊥
not_both Less is back = cc
not_both Equal is back = cc
not_both Greater is back = cc

pub one_way : (a b : Binding) → IsBelow a b → ¬ IsBelow b a
one_way a b below back =
    not_both (binding_cmp a b) below (sym (binding_cmp-total.antisymm b a) ∙ back)

module _ (system : System) (m : Marking) (depth : ℕ) where
  -- The binding at an index of the list has the number after it.
  module _ (found : List Binding) (enabled : AreEnabled system m depth found) (k : ℕ) (b : Binding)
      (within : k < length found) (at : get_or found k b ≡ b) where
    few : length (take k found) ≡ k
    few = length-take-le k found (omega (arith, within))

    -- those before it are below it
    earlier : (c : Binding) → Contains (take k found) c → Enabled system m c depth × IsBelow c b
    earlier c (j, low, is) =
        let below : j < k = omega (arith, low, few) in
        let there : get_or found j c ≡ c = sym (get_or-take k found j c below) ∙ is in
        let is_here : get_or found k c ≡ b = get_or_default found k c b within ∙ at in (
          (enabled.just c).0 (j, omega (arith, below, within), there),
          subst (λ x. IsBelow x b) there (subst (IsBelow (get_or found j c)) is_here
              (later_is_above found enabled.ascending j k c below within)),
        )

    here : (c : Binding) → get_or found k c ≡ b
    here c = get_or_default found k c b within ∙ at

    -- none that is below it stands there or later
    not_there : (c : Binding) (j : ℕ) → IsBelow c b → j < length found → get_or found j c ≡ c →
        k ≤ j → (same : Bool) → nat_eq k j ≡ same → ⊥
    not_there c j below low there later true e =
        let alike : b ≡ c = sym (here c) ∙ ap (λ i. get_or found i c) (eqb-true k j e) ∙ there in
        let itself : IsBelow b b = subst (λ x. IsBelow x b) (sym alike) below in
        one_way b b itself itself
    not_there c j below low there later false e =
        let more : k < j = grind (arith, nat_tests) in
        one_way c b below (subst (λ x. IsBelow x c) (here c)
        (subst (IsBelow (get_or found k c)) there (later_is_above found enabled.ascending k j c more low)))

    -- so no others are
    by_order : (c : Binding) (j : ℕ) → IsBelow c b → j < length found → get_or found j c ≡ c →
        (before : Bool) → nat_lt j k ≡ before → Contains (take k found) c
    by_order c j below low there true e =
        let less : j < k = grind (arith, nat_tests) in
        (j, omega (arith, less, few), get_or-take k found j c less ∙ there)
    by_order c j below low there false e =
        let later : k ≤ j = grind (arith, nat_tests) in
        absurd (not_there c j below low there later (nat_eq k j) refl)

    only_earlier : (c : Binding) → Enabled system m c depth → IsBelow c b → Contains (take k found) c
    only_earlier c is below =
        let at_c = (enabled.just c).1 is in
        by_order c at_c.0 below at_c.1 at_c.2 (nat_lt at_c.0 k) refl

    -- the binding at an index, from 0, has the number one above it
    pub at_is_numbered : IsNumbered system m depth (suc k) b
    at_is_numbered = record {
      enabled = (enabled.just b).0 (k, within, at);
      before = take k found;
      just = λ c. (earlier c, λ both. only_earlier c both.0 both.1);
      ascending = λ j d low.
          let below : j + 1 < k = omega (arith, low, few) in
          subst (λ x. IsBelow x (get_or (take k found) (j + 1) d)) (sym (get_or-take k found j d (omega (arith, below))))
          (subst (IsBelow (get_or found j d)) (sym (get_or-take k found (j + 1) d below))
          (enabled.ascending j d (omega (arith, below, within))));
      count = ap suc few;
    }

  -- the least of all has the number 1
  pub least_is_first : (b : Binding) → Enabled system m b depth →
      ((c : Binding) → Enabled system m c depth → ¬ (binding_cmp b c ≡ Greater)) →
      IsNumbered system m depth 1 b
  least_is_first b is least = record {
    enabled = is;
    before = [];
    just = λ c. (
      λ has. absurd (let no : ⊥ = omega (arith, has.1) in no),
      λ both. absurd (least c both.0 (binding_cmp-total.antisymm b c ∙ ap ordering_reverse both.1)),
    );
    ascending = λ j d low. absurd (let no : ⊥ = omega (arith, low) in no);
    count = refl;
  }

  -- where none is enabled none has the number 1
  pub none_is_first : DeadAt system m depth → NoneIsNumbered system m depth 1
  none_is_first dead = inr ([], none, omega arith)
    where
      none : AreEnabled system m depth []
      none = record {
        just = λ b. (λ has. absurd (let no : ⊥ = omega (arith, has.1) in no), λ is. absurd (dead b is));
        ascending = λ j d low. absurd (let no : ⊥ = omega (arith, low) in no);
      }

-- the same, of what a lookup gives
pub numbers_are_of_list : NumbersAreOfList
numbers_are_of_list system m depth k found b enabled within got =
    at_is_numbered system m depth found enabled k b within
    (let both : Some (get_or found k b) ≡ Some b = sym (slice_get-get_or found k b within) ∙ got in
    let same : get_or found k b ≡ b = cc in same)
