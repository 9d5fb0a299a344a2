-- Paths that part, in order, and those of children among them.
use Rattle.std.proofs.Common.{◌≡◌, ℕ, zero, suc, ◌+◌, ◌<◌, ◌⊎◌, inl, inr, List, [], ◌∷◌, ◌++◌, refl, sym, ap, ◌∙◌, subst, append_assoc, arith}
use Rattle.std.specs.Prelude.{Contains, ⊤}
use Rattle.std.specs.List.{AllByRecursion}
use Rattle.std.specs.Cmp.{nat_cmp_is, tied_itself}
use Rattle.std.specs.Cmp.Lexicographic.{slice_cmp}
use Rattle.std.specs.Ordering.{nat_cmp, ordering_then}
use Rattle.std.specs.declared.cmp.Ordering.TheVariants.{Less, Equal}
use Rattle.std.proofs.lemmas.Cmp.{nat_cmp_total, nat_list_cmp_total}
use Rattle.rn_model.proofs.EachElement.{each_append, each_weaker}
use Rattle.rn_model.proofs.EnablingLemmas.{not_in_nil}
use Rattle.rn_record_reader.specs.Paths.{children_from}
use Rattle.rn_model.proofs.AskedValues.{later}

-- one path is before another
abbrev pub IsBefore : List ℕ → List ℕ → Type 0
IsBefore p q = slice_cmp nat_cmp p q ≡ Less

pub never : {A : Type 0} (p : List ℕ) → IsBefore p p → A
never p less =
    let tied : slice_cmp nat_cmp p p ≡ Equal = tied_itself nat_list_cmp_total p in
    absurd (let no : ⊥ = cc in no)

-- neither of two paths is before the other at once
pub crossed : {A : Type 0} (p q : List ℕ) → IsBefore p q → IsBefore q p → A
crossed p q less more = never p (nat_list_cmp_total.trans p q p less more)

front_same : (n : ℕ) → nat_cmp n n ≡ Equal
front_same n = tied_itself nat_cmp_total n

-- a path is before those that go on from it
pub goes_on : (p : List ℕ) (i : ℕ) → IsBefore p (p ++ i ∷ [])
goes_on [] i = refl
goes_on (n ∷ p) i = ap (λ o. ordering_then o (slice_cmp nat_cmp p (p ++ i ∷ []))) (front_same n) ∙ goes_on p i

-- Paths that part, the first one before.
pub record Ahead (p q : List ℕ) : Type 0 where
  from : List ℕ
  i : ℕ
  j : ℕ
  s : List ℕ
  t : List ℕ
  first : p ≡ from ++ i ∷ s
  second : q ≡ from ++ j ∷ t
  low : i < j

parted : (from : List ℕ) (i j : ℕ) (s t : List ℕ) → i < j → IsBefore (from ++ i ∷ s) (from ++ j ∷ t)
parted [] i j s t low = ap (λ o. ordering_then o (slice_cmp nat_cmp s t)) (sym (nat_cmp_is i j Less low))
parted (n ∷ from) i j s t low =
    ap (λ o. ordering_then o (slice_cmp nat_cmp (from ++ i ∷ s) (from ++ j ∷ t))) (front_same n) ∙ parted from i j s t low

pub ahead_before : (p q : List ℕ) → Ahead p q → IsBefore p q
ahead_before p q a =
    subst (λ x. IsBefore x q) (sym a.first) (subst (IsBefore (a.from ++ a.i ∷ a.s)) (sym a.second) (parted a.from a.i a.j a.s a.t a.low))

abbrev pub AllAhead : List (List ℕ) → Type 0
AllAhead [] = ⊤
AllAhead (p ∷ ps) = AllByRecursion (Ahead p) ps × AllAhead ps

siblings : (path : List ℕ) (i j more : ℕ) → i < j → AllByRecursion (Ahead (path ++ i ∷ [])) (children_from path j more)
siblings path i j zero low = tt
siblings path i j (suc more) low = (
  record { from = path; i = i; j = j; s = []; t = []; first = refl; second = refl; low = low },
  siblings path i (j + 1) more (omega (arith, low)),
)

child_ahead : (path : List ℕ) (i : ℕ) (q : List ℕ) → Ahead path q → Ahead (path ++ i ∷ []) q
child_ahead path i q a = record {
  from = a.from;
  i = a.i;
  j = a.j;
  s = a.s ++ i ∷ [];
  t = a.t;
  first = ap (λ p. p ++ i ∷ []) a.first ∙ append_assoc a.from (a.i ∷ a.s) (i ∷ []);
  second = a.second;
  low = a.low;
}

pub children_ahead : (path : List ℕ) (i more : ℕ) (due : List (List ℕ)) → AllByRecursion (Ahead path) due → AllAhead due →
    AllAhead (children_from path i more ++ due)
children_ahead path i zero due here all = all
children_ahead path i (suc more) due here all = (
  each_append (Ahead (path ++ i ∷ [])) (children_from path (i + 1) more) due (siblings path i (i + 1) more (omega arith))
      (each_weaker (Ahead path) (Ahead (path ++ i ∷ [])) (child_ahead path i) due here),
  children_ahead path (i + 1) more due here all,
)

pub in_cons : {X : Type 0} (x : X) (xs : List X) (y : X) → Contains (x ∷ xs) y → (x ≡ y) ⊎ Contains xs y
in_cons x xs y (zero, h, e) = inl e
in_cons x xs y (suc k, h, e) = inr (k, omega (arith, h), e)

pub each_of : {X : Type 0} (P : X → Type 0) (xs : List X) (y : X) → AllByRecursion P xs → Contains xs y → P y
each_of P [] y all there = absurd (not_in_nil y there)
each_of P (x ∷ xs) y all there = elim (in_cons x xs y there) as (λ _. P y) [
  | inl same ↦ subst P same all.0
  | inr rest ↦ each_of P xs y all.1 rest
]

-- the paths among children
pub is_child : (path : List ℕ) (i more : ℕ) (q : List ℕ) → Contains (children_from path i more) q →
    (j : ℕ) × (j < i + more) × (q ≡ path ++ j ∷ [])
is_child path i zero q there = absurd (not_in_nil q there)
is_child path i (suc more) q there = elim (in_cons (path ++ i ∷ []) (children_from path (i + 1) more) q there) as (λ _. (j : ℕ) × (j < i + suc more) × (q ≡ path ++ j ∷ [])) [
  | inl same ↦ (i, omega arith, sym same)
  | inr rest ↦ let found = is_child path (i + 1) more q rest in let low = found.1 in (found.0, omega (arith, low), found.2)
]

pub child_there : (path : List ℕ) (i more k : ℕ) → k < more → Contains (children_from path i more) (path ++ (i + k) ∷ [])
child_there path i zero k low = let no : ⊥ = omega (arith, low) in absurd no
child_there path i (suc more) zero low =
    let first : i ≡ i + 0 = omega arith in
    subst (λ j. Contains (children_from path i (suc more)) (path ++ j ∷ [])) first (0, omega arith, refl)
child_there path i (suc more) (suc k) low =
    let next : (i + 1) + k ≡ i + suc k = omega arith in
    subst (λ j. Contains (children_from path i (suc more)) (path ++ j ∷ [])) next
    (later (path ++ i ∷ []) (path ++ ((i + 1) + k) ∷ []) (children_from path (i + 1) more) (child_there path (i + 1) more k (omega (arith, low))))
