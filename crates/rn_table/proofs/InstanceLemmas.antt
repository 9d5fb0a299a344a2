-- Lists of instances, and the one of a number.
use Rattle.std.proofs.Common.{◌≡◌, ◌≢◌, ℕ, zero, suc, ◌<◌, ◌≤◌, nat_eq, Bool, true, false, cond, Some, None, List, [], ◌∷◌, ◌++◌, length, take, drop, get_or, map, refl, sym, ap, ◌∙◌, subst, arith, inl, inr}
use Rattle.std.specs.Prelude.{filter, ◌&&◌}
use Rattle.std.proofs.lemmas.Bool.{false≢true, true≢false, eqb-true, eqb-false, cases_lt}
use Rattle.std.specs.List.{AllByRecursion}
use Rattle.rn_model.specs.Markings.{Instance}
use Rattle.rn_model.proofs.EachElement.{each_append}
use Rattle.rn_table.specs.link.Leaves.{Ascending, numbered}

-- a number is equal to itself
pub same_number : (n : ℕ) → nat_eq n n ≡ true
same_number n = elim (nat_eq n n) as (λ t. nat_eq n n ≡ t → t ≡ true) [
  | true ↦ λ _. refl
  | false ↦ λ e. absurd (eqb-false n n e refl)
] refl

-- different numbers aren't equal
pub other_number : (a b : ℕ) → a ≢ b → nat_eq a b ≡ false
other_number a b differ = elim (nat_eq a b) as (λ t. nat_eq a b ≡ t → t ≡ false) [
  | true ↦ λ e. absurd (differ (eqb-true a b e))
  | false ↦ λ _. refl
] refl

-- what holds of all holds of one that is read
pub all_get : {A : Type 0} (P : A → Type 0) (xs : List A) (k : ℕ) (x : A) → AllByRecursion P xs → k < length xs → x ≡ get_or xs k x → P x
all_get P [] k x all inside is = absurd (omega arith)
all_get P (y ∷ ys) zero x all inside is = subst P (sym is) all.0
all_get P (y ∷ ys) (suc k) x all inside is = all_get P ys k x all.1 (omega arith) is

pub all_map : {A : Type 0} (P Q : A → Type 0) (xs : List A) → ((x : A) → P x → Q x) → AllByRecursion P xs → AllByRecursion Q xs
all_map P Q [] f all = tt
all_map P Q (x ∷ xs) f all = (f x all.0, all_map P Q xs f all.1)

all_cond : {A : Type 0} (P : A → Type 0) (b : Bool) (x : A) (xs : List A) → P x → AllByRecursion P xs → AllByRecursion P (cond b (x ∷ xs) xs)
all_cond P true x xs here rest = (here, rest)
all_cond P false x xs here rest = rest

ascending_cond : (b : Bool) (i : Instance) (is : List Instance) → AllByRecursion (λ j. i.number < j.number) is → Ascending is → Ascending (cond b (i ∷ is) is)
ascending_cond true i is all up = (all, up)
ascending_cond false i is all up = up

above_it : (a n : ℕ) → n ≤ a → a ≢ n → n < a
above_it a n high differ = elim (cases_lt n a) [
  | inl less ↦ less
  | inr past ↦ absurd (differ (omega (arith, high, past)))
]

all_other : (n : ℕ) (is : List Instance) → AllByRecursion (λ i. n < i.number) is → AllByRecursion (λ i. nat_eq i.number n ≡ false) is
all_other n is high = all_map (λ i. n < i.number) (λ i. nat_eq i.number n ≡ false) is (λ i h. other_number i.number n (λ e. omega (arith, e, h))) high

-- instances with lower numbers don't have this one
pub all_lower : (n : ℕ) (is : List Instance) → AllByRecursion (λ i. i.number < n) is → AllByRecursion (λ i. nat_eq i.number n ≡ false) is
all_lower n is low = all_map (λ i. i.number < n) (λ i. nat_eq i.number n ≡ false) is (λ i h. other_number i.number n (λ e. omega (arith, e, h))) low

-- no instance of these has this number
abbrev pub NoneHas : ℕ → List Instance → Type 0
NoneHas n = AllByRecursion (λ i. nat_eq i.number n ≡ false)

pub numbered_none : (n : ℕ) (is : List Instance) → NoneHas n is → numbered n is ≡ None
numbered_none n [] none = refl
numbered_none n (i ∷ is) none = ap (λ b. cond b (Some i) (numbered n is)) none.0 ∙ numbered_none n is none.1

-- the one of a number that the first ones don't have is among the others
pub numbered_later : (n : ℕ) (is js : List Instance) → NoneHas n is → numbered n (is ++ js) ≡ numbered n js
numbered_later n [] js none = refl
numbered_later n (i ∷ is) js none = ap (λ b. cond b (Some i) (numbered n (is ++ js))) none.0 ∙ numbered_later n is js none.1

pub numbered_earlier : (n : ℕ) (is js : List Instance) → NoneHas n js → numbered n (is ++ js) ≡ numbered n is
numbered_earlier n [] js none = numbered_none n js none
numbered_earlier n (i ∷ is) js none = ap (λ r. cond (nat_eq i.number n) (Some i) r) (numbered_earlier n is js none)

-- the one of a number stays the same where others come after
pub numbered_kept : (n : ℕ) (is js : List Instance) (x : Instance) → numbered n is ≡ Some x → numbered n (is ++ js) ≡ Some x
numbered_kept n [] js x e = absurd (let no : ⊥ = cc in no)
numbered_kept n (i ∷ is) js x e = elim (nat_eq i.number n) as (λ b. cond b (Some i) (numbered n is) ≡ Some x → cond b (Some i) (numbered n (is ++ js)) ≡ Some x) [
  | true ↦ λ h. h
  | false ↦ λ h. numbered_kept n is js x h
] e

-- the one of an index, where numbers ascend
pub numbered_at : (n : ℕ) (is : List Instance) (k : ℕ) (x : Instance) → Ascending is → k < length is → x ≡ get_or is k x → x.number ≡ n → numbered n is ≡ Some x
numbered_at n [] k x up inside is_x is_n = absurd (omega arith)
numbered_at n (i ∷ is) zero x up inside is_x is_n =
    let here : nat_eq i.number n ≡ true = ap (λ (j : Instance). nat_eq j.number n) (sym is_x) ∙ ap (λ m. nat_eq m n) is_n ∙ same_number n in
    ap (λ b. cond b (Some i) (numbered n is)) here ∙ ap (λ j. Some j) (sym is_x)
numbered_at n (i ∷ is) (suc k) x up inside is_x is_n =
    let later : i.number < x.number = all_get (λ j. i.number < j.number) is k x up.0 (omega arith) is_x in
    let other : nat_eq i.number n ≡ false = other_number i.number n (λ e. omega (arith, e, later, is_n)) in
    ap (λ b. cond b (Some i) (numbered n is)) other ∙ numbered_at n is k x up.1 (omega arith) is_x is_n

-- where those before an index have lower numbers, and those from it on others and higher ones
pub none_has : (n : ℕ) (is : List Instance) (k : ℕ) → Ascending is → AllByRecursion (λ i. i.number < n) (take k is) → AllByRecursion (λ i. n ≤ i.number) (drop k is) → ((x : Instance) → k < length is → x ≡ get_or is k x → x.number ≢ n) → NoneHas n is
none_has n [] k up low high other = tt
none_has n (i ∷ is) zero up low high other =
    let more : n < i.number = above_it i.number n high.0 (other i (omega arith) refl) in
    (other_number i.number n (λ e. omega (arith, e, more)), all_other n is (all_map (λ j. i.number < j.number) (λ j. n < j.number) is (λ j h. omega (arith, h, more)) up.0))
none_has n (i ∷ is) (suc k) up low high other =
    (other_number i.number n (λ e. omega (arith, e, low.0)), none_has n is k up.1 low.1 high (λ x inside is_x. other x (omega arith) is_x))

-- a step of halving
pub halved_up : (n : ℕ) (is : List Instance) (k : ℕ) (x : Instance) → Ascending is → k < length is → x ≡ get_or is k x → x.number < n → AllByRecursion (λ i. i.number < n) (take (suc k) is)
halved_up n [] k x up inside is_x low = absurd (omega arith)
halved_up n (i ∷ is) zero x up inside is_x low = (subst (λ (j : Instance). j.number < n) is_x low, tt)
halved_up n (i ∷ is) (suc k) x up inside is_x low =
    let later : i.number < x.number = all_get (λ j. i.number < j.number) is k x up.0 (omega arith) is_x in
    (omega (arith, later, low), halved_up n is k x up.1 (omega arith) is_x low)

pub halved_down : (n : ℕ) (is : List Instance) (k : ℕ) (x : Instance) → Ascending is → k < length is → x ≡ get_or is k x → n ≤ x.number → AllByRecursion (λ i. n ≤ i.number) (drop k is)
halved_down n [] k x up inside is_x high = absurd (omega arith)
halved_down n (i ∷ is) zero x up inside is_x high =
    let here : n ≤ i.number = subst (λ (j : Instance). n ≤ j.number) is_x high in
    (here, all_map (λ j. i.number < j.number) (λ j. n ≤ j.number) is (λ j h. omega (arith, h, here)) up.0)
halved_down n (i ∷ is) (suc k) x up inside is_x high = halved_down n is k x up.1 (omega arith) is_x high

-- filters by numbers
module _ (T : ℕ → Bool) where
  kept_case : (n : ℕ) (b e : Bool) (i : Instance) (f is : List Instance) → nat_eq i.number n ≡ e → (e ≡ true → b ≡ true) → numbered n f ≡ numbered n is → numbered n (cond b (i ∷ f) f) ≡ cond e (Some i) (numbered n is)
  kept_case n true e i f is e_is implied rest = ap (λ c. cond c (Some i) (numbered n f)) e_is ∙ ap (λ r. cond e (Some i) r) rest
  kept_case n false true i f is e_is implied rest = absurd (false≢true (implied refl))
  kept_case n false false i f is e_is implied rest = rest

  pub numbered_passed : (n : ℕ) (is : List Instance) → T n ≡ true → numbered n (filter (λ i. T i.number) is) ≡ numbered n is
  numbered_passed n [] set = refl
  numbered_passed n (i ∷ is) set =
      kept_case n (T i.number) (nat_eq i.number n) i (filter (λ i. T i.number) is) is refl (λ e. ap T (eqb-true i.number n e) ∙ set) (numbered_passed n is set)

  out_case : (n : ℕ) (b e : Bool) (i : Instance) (f : List Instance) → nat_eq i.number n ≡ e → (e ≡ true → b ≡ false) → numbered n f ≡ None → numbered n (cond b (i ∷ f) f) ≡ None
  out_case n false e i f e_is implied rest = rest
  out_case n true true i f e_is implied rest = absurd (true≢false (implied refl))
  out_case n true false i f e_is implied rest = ap (λ c. cond c (Some i) (numbered n f)) e_is ∙ rest

  pub numbered_out : (n : ℕ) (is : List Instance) → T n ≡ false → numbered n (filter (λ i. T i.number) is) ≡ None
  numbered_out n [] unset = refl
  numbered_out n (i ∷ is) unset =
      out_case n (T i.number) (nat_eq i.number n) i (filter (λ i. T i.number) is) refl (λ e. ap T (eqb-true i.number n e) ∙ unset) (numbered_out n is unset)

-- filters
pub filter_same : {A : Type 0} (t u : A → Bool) (xs : List A) → AllByRecursion (λ x. t x ≡ u x) xs → filter t xs ≡ filter u xs
filter_same t u [] same = refl
filter_same t u (x ∷ xs) same = ap (λ b. cond b (x ∷ filter t xs) (filter t xs)) same.0 ∙ ap (λ r. cond (u x) (x ∷ r) r) (filter_same t u xs same.1)

both_case : {A : Type 0} (s : A → Bool) (a b : Bool) (x : A) (f g : List A) → s x ≡ a → f ≡ filter s g → cond (a && b) (x ∷ f) f ≡ filter s (cond b (x ∷ g) g)
both_case s true true x f g a_is rest = ap (λ r. x ∷ r) rest ∙ ap (λ c. cond c (x ∷ filter s g) (filter s g)) (sym a_is)
both_case s true false x f g a_is rest = rest
both_case s false true x f g a_is rest = rest ∙ ap (λ c. cond c (x ∷ filter s g) (filter s g)) (sym a_is)
both_case s false false x f g a_is rest = rest

pub filter_both : {A : Type 0} (s t u : A → Bool) (xs : List A) → AllByRecursion (λ x. u x ≡ (s x && t x)) xs → filter u xs ≡ filter s (filter t xs)
filter_both s t u [] same = refl
filter_both s t u (x ∷ xs) same =
    ap (λ b. cond b (x ∷ filter u xs) (filter u xs)) same.0 ∙ both_case s (s x) (t x) x (filter u xs) (filter t xs) refl (filter_both s t u xs same.1)

and_itself : (b : Bool) → b ≡ (b && b)
and_itself true = refl
and_itself false = refl

pub all_true : {A : Type 0} (P : A → Type 0) → ((x : A) → P x) → (xs : List A) → AllByRecursion P xs
all_true P f [] = tt
all_true P f (x ∷ xs) = (f x, all_true P f xs)

pub filter_again : {A : Type 0} (t : A → Bool) (xs : List A) → filter t (filter t xs) ≡ filter t xs
filter_again t xs = sym (filter_both t t t xs (all_true (λ x. t x ≡ (t x && t x)) (λ x. and_itself (t x)) xs))

pub filter_all : {A : Type 0} (t : A → Bool) (xs : List A) → AllByRecursion (λ x. t x ≡ true) xs → filter t xs ≡ xs
filter_all t [] all = refl
filter_all t (x ∷ xs) all = ap (λ b. cond b (x ∷ filter t xs) (filter t xs)) all.0 ∙ ap (λ r. x ∷ r) (filter_all t xs all.1)

pub filter_none : {A : Type 0} (t : A → Bool) (xs : List A) → AllByRecursion (λ x. t x ≡ false) xs → filter t xs ≡ []
filter_none t [] none = refl
filter_none t (x ∷ xs) none = ap (λ b. cond b (x ∷ filter t xs) (filter t xs)) none.0 ∙ filter_none t xs none.1

pub all_filtered : {A : Type 0} (P : A → Type 0) (t : A → Bool) (xs : List A) → AllByRecursion P xs → AllByRecursion P (filter t xs)
all_filtered P t [] all = tt
all_filtered P t (x ∷ xs) all = all_cond P (t x) x (filter t xs) all.0 (all_filtered P t xs all.1)

pub ascending_filtered : (t : Instance → Bool) (is : List Instance) → Ascending is → Ascending (filter t is)
ascending_filtered t [] up = tt
ascending_filtered t (i ∷ is) up =
    ascending_cond (t i) i (filter t is) (all_filtered (λ j. i.number < j.number) t is up.0) (ascending_filtered t is up.1)

-- one more instance with a higher number
pub ascending_more : (is : List Instance) (x : Instance) → Ascending is → AllByRecursion (λ i. i.number < x.number) is → Ascending (is ++ x ∷ [])
ascending_more [] x up low = (tt, tt)
ascending_more (i ∷ is) x up low = (each_append (λ j. i.number < j.number) is (x ∷ []) up.0 (low.0, tt), ascending_more is x up.1 low.1)

-- what is found has the number, and what holds of all
pub numbered_is : (P : Instance → Type 0) (n : ℕ) (is : List Instance) (x : Instance) → AllByRecursion P is → numbered n is ≡ Some x → (x.number ≡ n) × P x
numbered_is P n [] x all e = absurd (let none : ⊥ = cc in none)
numbered_is P n (i ∷ is) x all e = elim (nat_eq i.number n) as (λ b. nat_eq i.number n ≡ b → cond b (Some i) (numbered n is) ≡ Some x → (x.number ≡ n) × P x) [
  | true ↦ λ b h. (let same : i ≡ x = cc in (ap (λ (j : Instance). j.number) (sym same) ∙ eqb-true i.number n b, subst P same all.0))
  | false ↦ λ b h. numbered_is P n is x all.1 h
] refl e

-- an instance that is read through a list of pointers
read_here : {A : Type 0} (f : A → Instance) (xs : List A) (i : ℕ) (a : A) → i < length (map f xs) → a ≡ get_or xs i a → f a ≡ get_or (map f xs) i (f a)
read_here f [] i a inside is = absurd (omega arith)
read_here f (x ∷ xs) zero a inside is = ap f is
read_here f (x ∷ xs) (suc i) a inside is = read_here f xs i a (omega arith) is

pub read_value : {A : Type 0} (f : A → Instance) (xs : List A) (is : List Instance) (i : ℕ) (a : A) → map f xs ≡ is → i < length is → a ≡ get_or xs i a → f a ≡ get_or is i (f a)
read_value f xs is i a seen inside a_is =
    subst (λ (l : List Instance). f a ≡ get_or l i (f a)) seen (read_here f xs i a (subst (λ (l : List Instance). i < length l) (sym seen) inside) a_is)
