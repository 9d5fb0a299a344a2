-- What is new to decisions, by tests for what was decided.
use Rattle.std.proofs.Common.{◌≡◌, ℕ, zero, suc, ◌&&◌, ◌||◌, Bool, true, false, List, []}
use Rattle.std.proofs.Common.{◌∷◌, refl, sym, ap, ◌∙◌, subst, arith}
use Rattle.std.specs.Prelude.{Contains, nat_eq, ◌↔◌}
use Rattle.std.specs.List.{list_any}
use Rattle.std.specs.Cmp.Lexicographic.{pointwise}
use Rattle.std.proofs.lemmas.Bool.{eqb-true, eq-eqb}
use Rattle.rn_growing.specs.declared.decision.Decision.{Decision}
use Rattle.rn_growing.specs.declared.decision.Decision.TheVariants.{Entered, Found, Computed}
use Rattle.rn_growing.specs.Decided.{enters, finds, computes}
use Rattle.rn_growing.specs.Decisions.{site_of}
use Rattle.rn_growing.specs.Following.{NewEntries, NewFinds, NewValues}
use Rattle.rn_growing.specs.Grown.{IsNew}
use Rattle.rn_growing.specs.link.Layouts.{same_site}
use Rattle.rn_growing.specs.Turns.{SameThing}
use Rattle.rn_growing.proofs.SameUnknowns.{site_is}
use Rattle.rn_growing.proofs.SameUnknowns.{site_itself, as_site, site_of-is}
use Rattle.rn_items.proofs.Numbers.{same_numbers, numbers_themselves}
use Rattle.rn_items.proofs.Bools.{both_true}

-- some element passes a test, or none does
abbrev pub Passes : {A : Type 0} → (A → Bool) → List A → Type 0
Passes {A} p xs = (x : A) × Contains xs x × (p x ≡ true)

by_first : {A : Type 0} (p : A → Bool) (x : A) (xs : List A) (first : Bool) → p x ≡ first →
    (list_any p xs ≡ true → Passes p xs) → (first || list_any p xs) ≡ true → Passes p (x ∷ xs)
by_first p x xs true here others e = (x, (0, omega arith, refl), here)
by_first p x xs false here others e =
    let rest = others e in
    let room = rest.1.1 in
    (rest.0, (suc rest.1.0, omega (arith, room), rest.1.2), rest.2)

-- where some element passes, one that does is in the list
pub some_passes : {A : Type 0} (p : A → Bool) (xs : List A) → list_any p xs ≡ true → Passes p xs
some_passes p [] e = absurd (let no : ⊥ = cc in no)
some_passes p (x ∷ xs) e = by_first p x xs (p x) refl (some_passes p xs) e

after_first : (first rest : Bool) → (first || rest) ≡ false → rest ≡ false
after_first true rest e = absurd (let no : ⊥ = cc in no)
after_first false rest e = e

-- where none passes, no element of the list does
pub none_passes : {A : Type 0} (p : A → Bool) (xs : List A) (x : A) → list_any p xs ≡ false →
    Contains xs x → p x ≡ true → ⊥
none_passes p [] x e (k, h, is) passes = let no : ⊥ = omega (arith, h) in no
none_passes p (y ∷ ys) x e (zero, h, is) passes =
    let first : p y ≡ true = ap p is ∙ passes in
    let any : list_any p (y ∷ ys) ≡ true = ap (λ v. v || list_any p ys) first in
    let no : ⊥ = cc in no
none_passes p (y ∷ ys) x e (suc k, h, is) passes =
    none_passes p ys x (after_first (p y) (list_any p ys) e) (k, omega (arith, h), is) passes

-- a path that is the same on both sides
pub alike : (p q : List ℕ) → p ≡ q → pointwise nat_eq p q ≡ true
alike p q e = subst (λ r. pointwise nat_eq p r ≡ true) e (numbers_themselves p)

-- a conjunction of true tests is true
pub both_are : (p q : Bool) → p ≡ true → q ≡ true → p && q ≡ true
both_are true q e f = f
both_are false q e f = absurd (let no : ⊥ = cc in no)

-- A test that just the decisions on the thing of this one pass.
module _ (d : Decision) (test : Decision → Bool)
    (passes : (e : Decision) → SameThing e d → test e ≡ true)
    (fails : (e : Decision) → test e ≡ true → SameThing e d) where
  of_answer : (decisions : List Decision) (b : Bool) → list_any test decisions ≡ b →
      IsNew decisions d → list_any test decisions ≡ false
  of_answer decisions true e fresh =
      let one = some_passes test decisions e in absurd (fresh one.0 one.1 (fails one.0 one.2))
  of_answer decisions false e fresh = e

  pub new_by_test : (decisions : List Decision) →
      IsNew decisions d ↔ (list_any test decisions ≡ false)
  new_by_test decisions = (
    of_answer decisions (list_any test decisions) refl,
    λ none e there same. none_passes test decisions e none there (passes e same),
  )

-- an entry is new just where no decision enters a node on its path
pub new_entries : NewEntries
new_entries decisions head caller =
    new_by_test (Entered head caller) (enters head.path) passes fails decisions
  where
    passes : (e : Decision) → SameThing e (Entered head caller) → enters head.path e ≡ true
    passes (Entered other from) same = alike other.path head.path same
    passes (Found other j w) same = absurd same
    passes (Computed other at along w) same = absurd same

    fails : (e : Decision) → enters head.path e ≡ true → SameThing e (Entered head caller)
    fails (Entered other from) is = same_numbers other.path head.path is
    fails (Found other j w) is = absurd (let no : ⊥ = cc in no)
    fails (Computed other at along w) is = absurd (let no : ⊥ = cc in no)

-- what an arc finds is new just where no decision is on that arc of its node
pub new_finds : NewFinds
new_finds decisions head k v =
    new_by_test (Found head k v) (finds head.path k) passes fails decisions
  where
    passes : (e : Decision) → SameThing e (Found head k v) → finds head.path k e ≡ true
    passes (Found other j w) same =
        both_are (pointwise nat_eq other.path head.path) (nat_eq j k)
        (alike other.path head.path same.0) (eq-eqb j k same.1)
    passes (Entered other from) same = absurd same
    passes (Computed other at along w) same = absurd same

    fails : (e : Decision) → finds head.path k e ≡ true → SameThing e (Found head k v)
    fails (Found other j w) is =
        let both = both_true (pointwise nat_eq other.path head.path) (nat_eq j k) is in
        (same_numbers other.path head.path both.0, eqb-true j k both.1)
    fails (Entered other from) is = absurd (let no : ⊥ = cc in no)
    fails (Computed other at along w) is = absurd (let no : ⊥ = cc in no)

-- the value of an operator application is new just where no decision is on that
pub new_values : NewValues
new_values decisions head site way v =
    new_by_test (Computed head site way v) (computes head.path site way) passes fails decisions
  where
    passes : (e : Decision) → SameThing e (Computed head site way v) →
        computes head.path site way e ≡ true
    passes (Computed other at along w) same =
        both_are (pointwise nat_eq other.path head.path)
        (same_site at site && pointwise nat_eq along way) (alike other.path head.path same.0)
        (both_are (same_site at site) (pointwise nat_eq along way)
        (subst (λ s. same_site s site ≡ true)
        (sym (sym (site_of-is at) ∙ ap as_site same.1 ∙ site_of-is site)) (site_itself site))
        (alike along way same.2))
    passes (Entered other from) same = absurd same
    passes (Found other j w) same = absurd same

    fails : (e : Decision) → computes head.path site way e ≡ true →
        SameThing e (Computed head site way v)
    fails (Computed other at along w) is =
        let both = both_true (pointwise nat_eq other.path head.path)
        (same_site at site && pointwise nat_eq along way) is in
        let rest = both_true (same_site at site) (pointwise nat_eq along way) both.1 in (
          same_numbers other.path head.path both.0,
          ap site_of (site_is at site rest.0),
          same_numbers along way rest.1,
        )
    fails (Entered other from) is = absurd (let no : ⊥ = cc in no)
    fails (Found other j w) is = absurd (let no : ⊥ = cc in no)
