-- The numbers of a page that may start, by the bits of a word.
use Rattle.std.proofs.Common.{◌≡◌, ◌≢◌, ℕ, zero, suc, ◌+◌, ◌<◌, ◌≤◌, nat_eq, Bool, true, false, cond, List, [], ◌∷◌, ◌++◌, refl, sym, ap, ◌∙◌, subst, arith, inl, inr}
use Rattle.std.specs.Prelude.{filter, not}
use Rattle.std.proofs.lemmas.Bool.{true≢false, eqb-true, cases_lt}
use Rattle.std.specs.List.{AllByRecursion}
use Rattle.rn_bag.specs.Words.{has_bit}
use Rattle.rn_bag.specs.Slots.{there_from}
use Rattle.rn_table.specs.link.Leaves.{upward}
use Rattle.rn_table.proofs.InstanceLemmas.{same_number}

drop_case : (t u e : Bool) (x n : ℕ) (r s : List ℕ) → nat_eq x n ≡ e → (e ≡ true → u ≡ false) → (e ≡ false → u ≡ t) → r ≡ filter (λ y. not (nat_eq y n)) s → cond u (x ∷ r) r ≡ filter (λ y. not (nat_eq y n)) (cond t (x ∷ s) s)
drop_case true u true x n r s is gone same rest =
    ap (λ b. cond b (x ∷ r) r) (gone refl) ∙ rest ∙ sym (ap (λ e. cond (not e) (x ∷ filter (λ y. not (nat_eq y n)) s) (filter (λ y. not (nat_eq y n)) s)) is)
drop_case false u true x n r s is gone same rest = ap (λ b. cond b (x ∷ r) r) (gone refl) ∙ rest
drop_case true u false x n r s is gone same rest =
    ap (λ b. cond b (x ∷ r) r) (same refl) ∙ ap (λ z. x ∷ z) rest ∙ sym (ap (λ e. cond (not e) (x ∷ filter (λ y. not (nat_eq y n)) s) (filter (λ y. not (nat_eq y n)) s)) is)
drop_case false u false x n r s is gone same rest = ap (λ b. cond b (x ∷ r) r) (same refl) ∙ rest

-- one number less
pub bit_dropped : (t u : ℕ → Bool) (a b m count : ℕ) → u b ≡ false → ((i : ℕ) → i < m + count → i ≢ b → u i ≡ t i) → there_from u m (upward (a + m) count) ≡ filter (λ y. not (nat_eq y (a + b))) (there_from t m (upward (a + m) count))
unfolding upward
bit_dropped t u a b m zero gone same = refl
bit_dropped t u a b m (suc count) gone same =
    let next : suc (a + m) ≡ a + suc m = omega arith in
    let rest : there_from u (suc m) (upward (suc (a + m)) count) ≡ filter (λ y. not (nat_eq y (a + b))) (there_from t (suc m) (upward (suc (a + m)) count)) =
    subst (λ k. there_from u (suc m) (upward k count) ≡ filter (λ y. not (nat_eq y (a + b))) (there_from t (suc m) (upward k count))) (sym next)
    (bit_dropped t u a b (suc m) count gone (λ i low differ. same i (omega (arith, low)) differ)) in
    drop_case (t m) (u m) (nat_eq (a + m) (a + b)) (a + m) (a + b) (there_from u (suc m) (upward (suc (a + m)) count)) (there_from t (suc m) (upward (suc (a + m)) count)) refl
    (λ e. let is : m ≡ b = omega (arith, eqb-true (a + m) (a + b) e) in ap u is ∙ gone)
    (λ e. same m (omega arith) (λ is. true≢false (sym (ap (λ k. nat_eq (a + m) (a + k)) (sym is) ∙ same_number (a + m)) ∙ e)))
    rest

none_from : (t : ℕ → Bool) (a m count : ℕ) → ((i : ℕ) → m ≤ i → i < m + count → t i ≡ false) → there_from t m (upward a count) ≡ []
unfolding upward
none_from t a m zero none = refl
none_from t a m (suc count) none =
    ap (λ b. cond b (a ∷ there_from t (suc m) (upward (suc a) count)) (there_from t (suc m) (upward (suc a) count))) (none m (omega arith) (omega arith))
    ∙ none_from t (suc a) (suc m) count (λ i low high. none i (omega (arith, low)) (omega (arith, high)))

add_case : (t u : Bool) (x : ℕ) (r s more : List ℕ) → u ≡ t → r ≡ s ++ more → cond u (x ∷ r) r ≡ cond t (x ∷ s) s ++ more
add_case true u x r s more same rest = ap (λ b. cond b (x ∷ r) r) same ∙ ap (λ z. x ∷ z) rest
add_case false u x r s more same rest = ap (λ b. cond b (x ∷ r) r) same ∙ rest

-- one number more, above all that are there
pub bit_added : (t u : ℕ → Bool) (a b m count : ℕ) → m ≤ b → b < m + count → u b ≡ true → ((i : ℕ) → i < m + count → i ≢ b → u i ≡ t i) → ((i : ℕ) → b ≤ i → i < m + count → t i ≡ false) →
    there_from u m (upward (a + m) count) ≡ there_from t m (upward (a + m) count) ++ (a + b) ∷ []
unfolding upward
bit_added t u a b m zero low high there same none = absurd (omega arith)
bit_added t u a b m (suc count) low high there same none = elim (cases_lt m b) [
  | inl less ↦ (let next : suc (a + m) ≡ a + suc m = omega arith in
      let rest : there_from u (suc m) (upward (suc (a + m)) count) ≡ there_from t (suc m) (upward (suc (a + m)) count) ++ (a + b) ∷ [] =
      subst (λ k. there_from u (suc m) (upward k count) ≡ there_from t (suc m) (upward k count) ++ (a + b) ∷ []) (sym next)
      (bit_added t u a b (suc m) count (omega (arith, less)) (omega (arith, high)) there (λ i i_high differ. same i (omega (arith, i_high)) differ) (λ i i_low i_high. none i i_low (omega (arith, i_high)))) in
      add_case (t m) (u m) (a + m) (there_from u (suc m) (upward (suc (a + m)) count)) (there_from t (suc m) (upward (suc (a + m)) count)) ((a + b) ∷ []) (same m (omega arith) (λ e. omega (arith, e, less))) rest)
  | inr past ↦ (let is : m ≡ b = omega (arith, low, past) in
      let new : there_from u (suc m) (upward (suc (a + m)) count) ≡ [] = none_from u (suc (a + m)) (suc m) count (λ i i_low i_high. same i (omega (arith, i_high)) (λ e. omega (arith, e, is, i_low)) ∙ none i (omega (arith, is, i_low)) (omega (arith, i_high))) in
      let old : there_from t (suc m) (upward (suc (a + m)) count) ≡ [] = none_from t (suc (a + m)) (suc m) count (λ i i_low i_high. none i (omega (arith, is, i_low)) (omega (arith, i_high))) in
      ap (λ c. cond c ((a + m) ∷ there_from u (suc m) (upward (suc (a + m)) count)) (there_from u (suc m) (upward (suc (a + m)) count))) (ap u is ∙ there)
      ∙ ap (λ r. (a + m) ∷ r) new ∙ ap (λ k. (a + k) ∷ []) is
      ∙ sym (ap (λ c. cond c ((a + m) ∷ there_from t (suc m) (upward (suc (a + m)) count)) (there_from t (suc m) (upward (suc (a + m)) count)) ++ (a + b) ∷ []) (none m (omega (arith, is)) (omega arith)) ∙ ap (λ r. r ++ (a + b) ∷ []) old))
]

-- what holds of each of some numbers
pub numbers_all : (P : ℕ → Type 0) (a count : ℕ) → ((m : ℕ) → a ≤ m → m < a + count → P m) → AllByRecursion P (upward a count)
unfolding upward
numbers_all P a zero each = tt
numbers_all P a (suc count) each = (each a (omega arith) (omega arith), numbers_all P (suc a) count (λ m low high. each m (omega (arith, low)) (omega (arith, high))))

-- no number starts where no bit is set
pub no_starts : (w a count : ℕ) → ((i : ℕ) → has_bit w i ≡ false) → there_from (has_bit w) 0 (upward a count) ≡ []
no_starts w a count none = none_from (has_bit w) a 0 count (λ i low high. none i)
