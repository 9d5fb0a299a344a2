-- Broken rules whose spots are put at the first byte.
use Rattle.std.proofs.Common.{◌≡◌, ℕ, Bool, true, false, List, [], ◌∷◌, ◌++◌, map, refl, sym, ap, ◌∙◌}
use Rattle.std.proofs.Common.{Option, Some, None, ◌||◌}
use Rattle.std.specs.Prelude.{flat_map, slice_get, option_map}
use Rattle.std.specs.List.{list_any}
use Rattle.std.specs.Option.{option_map_or}
use Rattle.std.proofs.lemmas.List.{map-append}
use Rattle.std.proofs.lemmas.Option.{slice_get-map}
use Rattle.rn_notation.specs.declared.token.Spot.{Spot}
use Rattle.rn_declared.specs.declared.fault.Rule.{Rule}
use Rattle.rn_declared.specs.declared.fault.Rule.TheVariants as Rule
use Rattle.rn_declared.specs.declared.fault.Fault.{Fault}
use Rattle.rn_declared.specs.Faults.{broken, broken_if, past, past_limit}
use Rattle.rn_print.specs.SameButSpots.{first_spot}

abbrev pub moved : Fault → Fault
moved fault = broken fault.rule first_spot

abbrev pub all_moved : List Fault → List Fault
all_moved faults = map moved faults

-- where a function after another one is a third after it, so it is in lists
pub each : {A B C : Type 0} (f : A → B) (f2 : A → C) (u : A → A) (w : B → C) (xs : List A) →
    ((x : A) → f2 (u x) ≡ w (f x)) → map f2 (map u xs) ≡ map w (map f xs)
each f f2 u w [] is = refl
each f f2 u w (x ∷ xs) is =
    ap (λ y. y ∷ map f2 (map u xs)) (is x) ∙ ap (λ ys. w (f x) ∷ ys) (each f f2 u w xs is)

-- and where it doesn't see the other one
pub kept : {A B : Type 0} (f : A → B) (u : A → A) (xs : List A) →
    ((x : A) → f (u x) ≡ f x) → map f (map u xs) ≡ map f xs
kept f u [] is = refl
kept f u (x ∷ xs) is =
    ap (λ y. y ∷ map f (map u xs)) (is x) ∙ ap (λ ys. f x ∷ ys) (kept f u xs is)

pub any_kept : {A : Type 0} (test test2 : A → Bool) (u : A → A) (xs : List A) →
    ((x : A) → test2 (u x) ≡ test x) → list_any test2 (map u xs) ≡ list_any test xs
any_kept test test2 u [] is = refl
any_kept test test2 u (x ∷ xs) is =
    ap (λ b. b || list_any test2 (map u xs)) (is x)
    ∙ ap (λ b. test x || b) (any_kept test test2 u xs is)

pub joined_kept : {A B : Type 0} (f : A → List B) (u : A → A) (xs : List A) →
    ((x : A) → f (u x) ≡ f x) → flat_map f (map u xs) ≡ flat_map f xs
joined_kept f u [] is = refl
joined_kept f u (x ∷ xs) is =
    ap (λ ys. ys ++ flat_map f (map u xs)) (is x) ∙ ap (λ ys. f x ++ ys) (joined_kept f u xs is)

-- lists of faults one after another
pub both : (a b a2 b2 : List Fault) → a2 ≡ all_moved a → b2 ≡ all_moved b →
    a2 ++ b2 ≡ all_moved (a ++ b)
both a b a2 b2 x y =
    ap (λ l. l ++ b2) x ∙ ap (λ l. all_moved a ++ l) y ∙ sym (map-append moved a b)

pub flat : {A : Type 0} (f f2 : A → List Fault) (u : A → A) (xs : List A) →
    ((x : A) → f2 (u x) ≡ all_moved (f x)) → flat_map f2 (map u xs) ≡ all_moved (flat_map f xs)
flat f f2 u [] is = refl
flat f f2 u (x ∷ xs) is =
    both (f x) (flat_map f xs) (f2 (u x)) (flat_map f2 (map u xs)) (is x) (flat f f2 u xs is)

-- the rule that is broken under a condition
pub if_so : (b : Bool) (rule : Rule) (s : Spot) →
    broken_if b rule first_spot ≡ all_moved (broken_if b rule s)
if_so true rule s = refl
if_so false rule s = refl

pub if_same : (b b2 : Bool) (rule : Rule) (s : Spot) → b2 ≡ b →
    broken_if b2 rule first_spot ≡ all_moved (broken_if b rule s)
if_same b b2 rule s is = ap (λ c. broken_if c rule first_spot) is ∙ if_so b rule s

at_option : (rule : Rule) (o : Option Spot) →
    option_map_or (λ s. broken rule s ∷ []) (option_map (λ s. first_spot) o) []
    ≡ all_moved (option_map_or (λ s. broken rule s ∷ []) o [])
at_option rule None = refl
at_option rule (Some s) = refl

-- the rule that is broken past so many
pub past_of : {A : Type 0} (rule : Rule) (most : ℕ) (f f2 : A → Spot) (u : A → A) (xs : List A) →
    ((x : A) → f2 (u x) ≡ first_spot) →
    past rule most (map f2 (map u xs)) ≡ all_moved (past rule most (map f xs))
past_of rule most f f2 u xs is =
    ap (past rule most) (each f f2 u (λ s. first_spot) xs is)
    ∙ ap (λ o. option_map_or (λ s. broken rule s ∷ []) o [])
    (slice_get-map (λ s. first_spot) (map f xs) most)
    ∙ at_option rule (slice_get (map f xs) most)

pub limit_of : {A : Type 0} (most : ℕ) (f f2 : A → Spot) (u : A → A) (xs : List A) →
    ((x : A) → f2 (u x) ≡ first_spot) →
    past_limit most (map f2 (map u xs)) ≡ all_moved (past_limit most (map f xs))
limit_of most f f2 u xs is = past_of Rule.Limit most f f2 u xs is

-- nothing is broken where nothing is
pub none_moved : (faults : List Fault) → all_moved faults ≡ [] → faults ≡ []
none_moved [] e = refl
none_moved (f ∷ fs) e = let no : ⊥ = cc in absurd no
