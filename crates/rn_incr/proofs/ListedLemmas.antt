-- Lists of bindings, one for each instance: how many there are, and which is the first.
use Rattle.std.proofs.Common.{◌≡◌, ◌≢◌, ◌<◌, ◌≤◌, ◌+◌, ◌-◌, ℕ, zero, suc, List, [], ◌∷◌, ◌++◌, length, get_or}
use Rattle.std.proofs.Common.{refl, sym, ap, subst, ◌∙◌, arith, inl, inr, ⊎_elim}
use Rattle.std.specs.Prelude.{Contains, ◌↔◌, Option, Some, None, IsNone, IfSome, IfNone, flat_map}
use Rattle.std.specs.List.{AllAdjacentBelow}
use Rattle.std.specs.List.Sorted.{IsSorted}
use Rattle.std.specs.Ordering.{is_lt, ordering_reverse}
use Rattle.std.specs.declared.cmp.Ordering.TheVariants.{Less, Greater}
use Rattle.std.proofs.lemmas.List.{length-append, get_or_append_left, get_or-append_right}
use Rattle.rn_model.specs.declared.binding.Binding.{Binding}
use Rattle.rn_model.specs.declared.system.System.{System}
use Rattle.rn_model.specs.Enabling.{Enabled, DeadAt}
use Rattle.rn_model.specs.Markings.{Marking}
use Rattle.rn_model.specs.Order.{binding_cmp}
use Rattle.rn_model.specs.link.OrderLaws.{binding_cmp-total}
use Rattle.rn_model.proofs.EnablingLemmas.{not_in_nil}
use Rattle.rn_least.specs.LeastRuns.{IsLeast}
use Rattle.rn_finder.specs.Starting.{AreJust, HasStartIn}
use Rattle.rn_finder.proofs.JustThese.{just_more, just_none}
use Rattle.rn_finder.proofs.Numbers.{less_or_not}
use Rattle.rn_finder.proofs.Ordered.{sorted_is_least}
use Rattle.rn_finder.proofs.StartingBindings.{one_number, starts_in}
use Rattle.rn_incr.specs.Lists.{IsListOf, IsCount}
use Rattle.rn_incr.proofs.OrderLemmas.{adjacent_apart, lower_is_less}

-- where each is less than the next, none is less than the first
first_is_least : (xs : List Binding) (first c : Binding) →
    AllAdjacentBelow (λ b c. binding_cmp b c ≡ Less) xs (length xs) → first ≡ get_or xs 0 first →
    Contains xs c → binding_cmp first c ≢ Greater
first_is_least xs first c up is has =
    let rising : IsSorted binding_cmp xs = λ i d low more.
    ap is_lt (binding_cmp-total.antisymm (get_or xs (i + 1) d) (get_or xs i d)
    ∙ ap ordering_reverse (up i d more)) in
    sorted_is_least xs first c rising is has

-- all bindings of lists
abbrev pub joined : List (List Binding) → List Binding
joined = flat_map (λ bs. bs)

-- past the last there is no list
pub past_default : (lists : List (List Binding)) (n : ℕ) → length lists ≤ n → get_or lists n [] ≡ []
past_default [] n h = refl
past_default (xs ∷ lists) zero h = absurd (let no : ⊥ = omega (arith, h) in no)
past_default (xs ∷ lists) (suc n) h = past_default lists n (omega (arith, h))

module _ (P : ℕ → List Binding → Type 0) where
  -- what holds of each list and of one more at the end
  pub one_listed : (lists after : List (List Binding)) (list : List Binding) (i : ℕ) →
      length lists ≡ i → ((n : ℕ) → n < i → P n (get_or lists n [])) → P i list →
      after ≡ lists ++ list ∷ [] →
      (length after ≡ i + 1) × ((n : ℕ) → n < i + 1 → P n (get_or after n []))
  one_listed lists after list i long each this is = (
    ap length is ∙ length-append lists (list ∷ []) ∙ ap (λ k. k + 1) long,
    λ n low. ⊎_elim
        (λ (before : n < i).
        subst (P n)
        (sym (ap (λ xs. get_or xs n []) is ∙ get_or_append_left lists (list ∷ []) [] n
        (omega (arith, before, long))))
        (each n before))
        (λ (not_before : i ≤ n).
        let same : i ≡ n = omega (arith, low, not_before) in
        let at : n - length lists ≡ 0 = omega (arith, same, long) in
        subst (P n)
        (sym (ap (λ xs. get_or xs n []) is
        ∙ get_or-append_right lists (list ∷ []) (length lists) n [] refl (omega (arith, same, long))
        ∙ ap (λ k. get_or (list ∷ []) k []) at))
        (subst (λ k. P k list) same this))
        (less_or_not n i),
  )

  pub all_listed : (lists : List (List Binding)) (i : ℕ) → length lists ≡ i →
      ((n : ℕ) → n < i → P n (get_or lists n [])) → ((n : ℕ) → i ≤ n → P n []) →
      (n : ℕ) → P n (get_or lists n [])
  all_listed lists i long each none n = ⊎_elim
      (λ (before : n < i). each n before)
      (λ (not_before : i ≤ n).
      subst (P n) (sym (past_default lists n (omega (arith, not_before, long)))) (none n not_before))
      (less_or_not n i)

-- a binding starts in an instance from a number on
abbrev HasStartFrom : ℕ → Binding → Type 0
HasStartFrom from b = (n : ℕ) × (from ≤ n) × HasStartIn n b

module _ (system : System) (m : Marking) (depth : ℕ) where
  abbrev Is : Binding → Type 0
  Is b = Enabled system m b depth

  -- a list of an instance
  just_of : (n : ℕ) (bs : List Binding) → IsListOf system m depth n bs →
      AreJust system m depth (HasStartIn n) bs
  just_of n bs is = record {
    so = λ b has. (is.just b).0 has;
    all = λ b enabled starts. (is.just b).1 (enabled, starts);
    once = adjacent_apart bs is.ascending;
  }

  just_joined : (lists : List (List Binding)) (from : ℕ) →
      ((n : ℕ) → IsListOf system m depth (from + n) (get_or lists n [])) →
      AreJust system m depth (HasStartFrom from) (joined lists)
  just_joined [] from are = just_none system m depth (HasStartFrom from)
      (λ b enabled (n, low, starts).
      let place : from + (n - from) ≡ n = omega (arith, low) in
      not_in_nil b (((are (n - from)).just b).1
      (enabled, subst (λ k. HasStartIn k b) (sym place) starts)))
  just_joined (xs ∷ lists) from are =
      let here : from + 0 ≡ from = omega arith in
      let rest = just_joined lists (from + 1) (λ n.
      let place : from + suc n ≡ from + 1 + n = omega arith in
      subst (λ k. IsListOf system m depth k (get_or lists n [])) place (are (suc n))) in
      just_more system m depth (HasStartIn from) (HasStartFrom (from + 1)) (HasStartFrom from)
      xs (joined lists)
      (λ b starts. (from, omega arith, starts))
      (λ b (n, low, starts). (n, omega (arith, low), starts))
      (λ b enabled (n, low, starts). ⊎_elim
      (λ (less : n < from + 1).
      let same : n ≡ from = omega (arith, low, less) in
      inl (subst (λ k. HasStartIn k b) same starts))
      (λ (not_less : from + 1 ≤ n). inr (n, not_less, starts))
      (less_or_not n (from + 1)))
      (λ b one (n, low, starts).
      let same = one_number b from n one starts in
      let no : ⊥ = omega (arith, low, same) in no)
      (just_of from xs (subst (λ k. IsListOf system m depth k xs) here (are 0)))
      rest

  -- the number of all
  pub count_is : (lists : List (List Binding)) (count : ℕ) →
      ((n : ℕ) → IsListOf system m depth n (get_or lists n [])) → count ≡ length (joined lists) →
      IsCount system m depth count
  count_is lists count are is =
      let just = just_joined lists 0 (λ n.
      let place : n ≡ 0 + n = omega arith in
      subst (λ k. IsListOf system m depth k (get_or lists n [])) place (are n)) in (
        joined lists,
        λ b. (
          λ has. (just.so b has).0,
          λ enabled.
              let starts = starts_in system m depth b enabled in
              just.all b enabled (starts.0, omega arith, starts.1),
        ),
        just.once,
        is,
      )

  module _ (lists : List (List Binding)) (are : (n : ℕ) → IsListOf system m depth n (get_or lists n []))
    where
      -- the list with an enabled binding
      listed : (b : Binding) → Is b → (n : ℕ) × HasStartIn n b × Contains (get_or lists n []) b
      listed b enabled =
          let starts = starts_in system m depth b enabled in
          (starts.0, starts.1, ((are starts.0).just b).1 (enabled, starts.1))

      -- the first of the first list that isn't empty
      pub least_is : (i : ℕ) (first : Binding) → ((n : ℕ) → n < i → get_or lists n [] ≡ []) →
          0 < length (get_or lists i []) → first ≡ get_or (get_or lists i []) 0 first →
          IsLeast system m depth first
      least_is i first none some is =
          let bs = get_or lists i [] in
          let its = ((are i).just first).0 (0, some, sym is) in
          record {
            enabled = its.0;
            first = λ c enabled.
                let at = listed c enabled in
                ⊎_elim
                (λ (before : at.0 < i). absurd (not_in_nil c
                (subst (λ xs. Contains xs c) (none at.0 before) at.2)))
                (λ (not_before : i ≤ at.0). ⊎_elim
                (λ (same : at.0 < i + 1).
                let here : at.0 ≡ i = omega (arith, not_before, same) in
                first_is_least bs first c (are i).ascending is
                (subst (λ k. Contains (get_or lists k []) c) here at.2))
                (λ (after : i + 1 ≤ at.0).
                let less = lower_is_less system m depth first c i at.0 its.0 enabled its.1 at.1
                (omega (arith, after)) in
                λ greater. let no : ⊥ = cc in no)
                (less_or_not at.0 (i + 1)))
                (less_or_not at.0 i);
          }

      -- none of empty lists
      pub dead_is : ((n : ℕ) → get_or lists n [] ≡ []) → DeadAt system m depth
      dead_is none b enabled =
          let at = listed b enabled in
          not_in_nil b (subst (λ xs. Contains xs b) (none at.0) at.2)

  -- what is found first in lists
  abbrev IsFirstIn : List (List Binding) → Binding → Type 0
  IsFirstIn lists b = (i : ℕ) × ((n : ℕ) → n < i → get_or lists n [] ≡ [])
      × (0 < length (get_or lists i [])) × (b ≡ get_or (get_or lists i []) 0 b)

  pub first_is_least_of : (lists : List (List Binding)) →
      ((n : ℕ) → IsListOf system m depth n (get_or lists n [])) → (found : Option Binding) →
      IfSome found (IsFirstIn lists) → IfSome found (IsLeast system m depth)
  first_is_least_of lists are None first = tt
  first_is_least_of lists are (Some b) (i, none, some, is) = least_is lists are i b none some is

  -- where none is found, none is enabled, and only there
  pub dead_unless : (lists : List (List Binding)) →
      ((n : ℕ) → IsListOf system m depth n (get_or lists n [])) → (found : Option Binding) →
      IfSome found (IsFirstIn lists) → IfNone found ((n : ℕ) → get_or lists n [] ≡ []) →
      IsNone found ↔ DeadAt system m depth
  dead_unless lists are None first none = (λ _. dead_is lists are none, λ _. refl)
  dead_unless lists are (Some b) (i, none, some, is) empty = (
    λ e. absurd (let never : ⊥ = cc in never),
    λ dead. absurd (dead b (((are i).just b).0 (0, some, sym is)).0),
  )
