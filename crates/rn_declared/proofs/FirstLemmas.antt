-- The first of faults: none of them counts before it, and there is one alone.
use Rattle.std.proofs.Common.{◌≡◌, ℕ, zero, suc, Bool, true, false, ◌&&◌, ◌||◌, List, [], ◌∷◌, get_or}
use Rattle.std.proofs.Common.{refl, sym, ap, ◌∙◌, subst, Option, Some, None, arith, cond, ◌⊎◌, inl, inr}
use Rattle.std.specs.Prelude.{nat_lt, nat_eq, Contains, ◌↔◌}
use Rattle.std.proofs.lemmas.Bool.Decides.{nat_tests}
use Rattle.rn_declared.specs.declared.fault.Rule.{Rule}
use Rattle.rn_declared.specs.declared.fault.Rule.TheVariants as R
use Rattle.rn_declared.specs.declared.fault.Fault.{Fault}
use Rattle.rn_declared.specs.Faults.{number_of, counts_before, first_from, IsFirstOf}

-- one triple of numbers before another, from the first number on
less : ℕ → ℕ → ℕ → ℕ → ℕ → ℕ → Bool
less a b c x y z = (nat_lt a x || (nat_eq a x && nat_lt b y)) || ((nat_eq a x && nat_eq b y) && nat_lt c z)

less_through : (a b c x y z p q r : ℕ) → less x y z a b c ≡ false → less p q r x y z ≡ false →
    less p q r a b c ≡ false
unfolding less
less_through a b c x y z p q r h k = grind (arith, nat_tests)

less_back : (a b c x y z : ℕ) → less a b c x y z ≡ true → less x y z a b c ≡ false
unfolding less
less_back a b c x y z h = grind (arith, nat_tests)

less_itself : (a b c : ℕ) → less a b c a b c ≡ false
unfolding less
less_itself a b c = grind (arith, nat_tests)

less_apart : (a b c x y z : ℕ) → less a b c x y z ≡ false → less x y z a b c ≡ false →
    (a ≡ x) × (b ≡ y) × (c ≡ z)
unfolding less
less_apart a b c x y z h k = (grind (arith, nat_tests), grind (arith, nat_tests), grind (arith, nat_tests))

-- what comes before a fault that doesn't count after another doesn't count after it
not_after : (f k x : Fault) → counts_before k f ≡ false → counts_before x k ≡ false → counts_before x f ≡ false
unfolding less
not_after f k x h g =
    less_through f.spot.line f.spot.column (number_of f.rule) k.spot.line k.spot.column (number_of k.rule)
    x.spot.line x.spot.column (number_of x.rule) h g

not_back : (x k : Fault) → counts_before x k ≡ true → counts_before k x ≡ false
unfolding less
not_back x k h =
    less_back x.spot.line x.spot.column (number_of x.rule) k.spot.line k.spot.column (number_of k.rule) h

not_itself : (f : Fault) → counts_before f f ≡ false
unfolding less
not_itself f = less_itself f.spot.line f.spot.column (number_of f.rule)

-- the rule of a number
rule_of : ℕ → Rule
rule_of n =
    get_or
    (R.Known ∷ R.Known ∷ R.Once ∷ R.Main ∷ R.Kinds ∷ R.Uplink ∷ R.Actions ∷ R.Inscription ∷ R.Channel ∷ R.Limit
    ∷ R.Creation ∷ R.Comparison ∷ R.Capacity ∷ R.Counted ∷ [])
    n R.Known

rule_is : (r : Rule) → rule_of (number_of r) ≡ r
unfolding rule_of
rule_is R.Known = refl
rule_is R.Once = refl
rule_is R.Main = refl
rule_is R.Kinds = refl
rule_is R.Uplink = refl
rule_is R.Actions = refl
rule_is R.Inscription = refl
rule_is R.Channel = refl
rule_is R.Limit = refl
rule_is R.Creation = refl
rule_is R.Comparison = refl
rule_is R.Capacity = refl
rule_is R.Counted = refl

-- two faults of which none counts before the other are the same
same_fault : (f g : Fault) → counts_before f g ≡ false → counts_before g f ≡ false → f ≡ g
unfolding less
same_fault f g h k =
    let all : (f.spot.line ≡ g.spot.line) × (f.spot.column ≡ g.spot.column) × (number_of f.rule ≡ number_of g.rule) =
    less_apart f.spot.line f.spot.column (number_of f.rule) g.spot.line g.spot.column (number_of g.rule) h k in
    let rules : f.rule ≡ g.rule = sym (rule_is f.rule) ∙ ap rule_of all.2 ∙ rule_is g.rule in
    λ i. record { rule = rules i; spot = record { line = all.0 i; column = all.1 i } }

here : (x : Fault) (xs : List Fault) → Contains (x ∷ xs) x
here x xs = (0, omega arith, refl)

there : (x f : Fault) (xs : List Fault) → Contains xs f → Contains (x ∷ xs) f
there x f xs (k, h, e) = (suc k, omega arith, e)

cases : (x f : Fault) (xs : List Fault) → Contains (x ∷ xs) f → (x ≡ f) ⊎ Contains xs f
cases x f xs (zero, h, e) = inl e
cases x f xs (suc k, h, e) = inr (k, omega arith, e)

-- what is first of one fault and more
record IsFirst (known : Fault) (faults : List Fault) (f : Fault) : Type 0 where
  found : (known ≡ f) ⊎ Contains faults f
  own : counts_before known f ≡ false
  others : (other : Fault) → Contains faults other → counts_before other f ≡ false

some_same : (a b : Fault) → Some a ≡ Some b → a ≡ b
some_same a b e = cc

first_among : (known : Fault) (faults : List Fault) (f : Fault) → first_from (Some known) faults ≡ Some f →
    IsFirst known faults f
first_among known [] f e =
    let same : known ≡ f = some_same known f e in
    record {
      found = inl same;
      own = subst (λ g. counts_before known g ≡ false) same (not_itself known);
      others = λ other (k, h, is). absurd (let no : ⊥ = omega (arith, h) in no);
    }
first_among known (x ∷ xs) f e =
    go (counts_before x known) refl
    (λ is. first_among x xs f is)
    (λ is. first_among known xs f is) e
  where
    go : (b : Bool) → counts_before x known ≡ b →
        (first_from (Some x) xs ≡ Some f → IsFirst x xs f) →
        (first_from (Some known) xs ≡ Some f → IsFirst known xs f) →
        first_from (cond b (Some x) (Some known)) xs ≡ Some f → IsFirst known (x ∷ xs) f
    go true was before after is =
        let next : IsFirst x xs f = before is in
        record {
          found = inr (elim next.found [ inl same ↦ subst (λ g. Contains (x ∷ xs) g) same (here x xs) | inr in_rest ↦ there x f xs in_rest ]);
          own = not_after f x known next.own (not_back x known was);
          others = λ other c. elim (cases x other xs c) [
            | inl same ↦ subst (λ g. counts_before g f ≡ false) same next.own
            | inr in_rest ↦ next.others other in_rest
          ];
        }
    go false was before after is =
        let next : IsFirst known xs f = after is in
        record {
          found = elim next.found [ inl same ↦ inl same | inr in_rest ↦ inr (there x f xs in_rest) ];
          own = next.own;
          others = λ other c. elim (cases x other xs c) [
            | inl same ↦ subst (λ g. counts_before g f ≡ false) same (not_after f known x next.own was)
            | inr in_rest ↦ next.others other in_rest
          ];
        }

first_is : (faults : List Fault) (f : Fault) → first_from None faults ≡ Some f → IsFirstOf faults f
first_is [] f e = absurd (let no : ⊥ = cc in no)
first_is (x ∷ xs) f e =
    let all : IsFirst x xs f = first_among x xs f e in
    record {
      there = elim all.found [ inl same ↦ subst (λ g. Contains (x ∷ xs) g) same (here x xs) | inr in_rest ↦ there x f xs in_rest ];
      first = λ other c. elim (cases x other xs c) [
        | inl same ↦ subst (λ g. counts_before g f ≡ false) same all.own
        | inr in_rest ↦ all.others other in_rest
      ];
    }

-- once there is a fault, there is a first
stays : (known : Fault) (faults : List Fault) → (f : Fault) × (first_from (Some known) faults ≡ Some f)
stays known [] = (known, refl)
stays known (x ∷ xs) = go (counts_before x known) (stays x xs) (stays known xs)
  where
    go : (b : Bool) → (f : Fault) × (first_from (Some x) xs ≡ Some f) →
        (f : Fault) × (first_from (Some known) xs ≡ Some f) →
        (f : Fault) × (first_from (cond b (Some x) (Some known)) xs ≡ Some f)
    go true one other = one
    go false one other = other

-- none was reported exactly where there is none
pub none_iff : (faults : List Fault) → (first_from None faults ≡ None) ↔ (faults ≡ [])
none_iff [] = ((λ e. refl), (λ e. refl))
none_iff (x ∷ xs) = (
  (λ e. let some : (f : Fault) × (first_from (Some x) xs ≡ Some f) = stays x xs in
      absurd (apart some.0 (sym e ∙ some.1))),
  (λ e. absurd (let no : ⊥ = cc in no)),
)
  where
    apart : (f : Fault) → None ≡ Some f → ⊥
    apart f e = cc

-- a fault was kept exactly where it is the first of them
pub first_iff : (faults : List Fault) (f : Fault) → (first_from None faults ≡ Some f) ↔ IsFirstOf faults f
first_iff faults f = (first_is faults f, back faults)
  where
    back : (fs : List Fault) → IsFirstOf fs f → first_from None fs ≡ Some f
    back [] is = absurd (let no : ⊥ = omega (arith, is.there.1) in no)
    back (x ∷ xs) is =
        let some : (g : Fault) × (first_from (Some x) xs ≡ Some g) = stays x xs in
        let other : IsFirstOf (x ∷ xs) some.0 = first_is (x ∷ xs) some.0 some.1 in
        some.1 ∙ ap Some (same_fault some.0 f (is.first some.0 other.there) (other.first f is.there))

settled : (f : Fault) (faults : List Fault) →
    ((other : Fault) → Contains faults other → counts_before other f ≡ false) →
    first_from (Some f) faults ≡ Some f
settled f [] none = refl
settled f (x ∷ xs) none =
    ap (λ b. first_from (cond b (Some x) (Some f)) xs) (none x (here x xs))
    ∙ settled f xs (λ other c. none other (there x other xs c))

again_after : (known : Fault) (faults : List Fault) →
    first_from (first_from (Some known) faults) faults ≡ first_from (Some known) faults
again_after known faults =
    let some : (f : Fault) × (first_from (Some known) faults ≡ Some f) = stays known faults in
    ap (λ k. first_from k faults) some.1
    ∙ settled some.0 faults (first_among known faults some.0 some.1).others ∙ sym some.1

again_itself : (x : Fault) (xs : List Fault) →
    first_from (first_from (Some x) xs) (x ∷ xs) ≡ first_from (Some x) xs
again_itself x xs =
    let some : (f : Fault) × (first_from (Some x) xs ≡ Some f) = stays x xs in
    let all : IsFirstOf (x ∷ xs) some.0 = first_is (x ∷ xs) some.0 some.1 in
    ap (λ k. first_from k (x ∷ xs)) some.1 ∙ settled some.0 (x ∷ xs) all.first ∙ sym some.1

-- what was reported once adds nothing when it is reported again
pub told_again : (known : Option Fault) (faults : List Fault) →
    first_from (first_from known faults) faults ≡ first_from known faults
told_again None [] = refl
told_again None (x ∷ xs) = again_itself x xs
told_again (Some known) faults = again_after known faults
