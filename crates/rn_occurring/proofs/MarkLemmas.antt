-- Marks of numbers, and the numbers that are marked.
use Rattle.std.proofs.Common.{◌≡◌, ℕ, zero, suc, ◌+◌, ◌<◌, Bool, true, false, ◌&&◌, not, cond, List, [], ◌∷◌, ◌++◌}
use Rattle.std.proofs.Common.{set, get_or, refl, sym, ap, ◌∙◌, arith, zero-add}
use Rattle.std.specs.Prelude.{filter, flat_map}
use Rattle.rn_model.specs.declared.system.Transition.{Transition}
use Rattle.rn_model.specs.Good.{occurring, set_var}
use Rattle.std.specs.List.{range_with_len}
use Rattle.std.proofs.lemmas.List.{map-id, append-nil}
use Rattle.std.proofs.lemmas.List.Elements.{filter-append}
use Rattle.std.proofs.lemmas.List.FromFn.{map-range_with_len_more}
use Rattle.rn_occurring.specs.TransitionVars.{is_among, with_vars}

abbrev pub AreMarked : List Bool → ℕ → List ℕ → Type 0
AreMarked marks count xs = (x : ℕ) → x < count → get_or marks x false ≡ is_among xs x

-- the numbers so far that pass a test, and one more
pub passing_more : (p : ℕ → Bool) (n : ℕ) →
    filter p (range_with_len 0 (n + 1)) ≡ filter p (range_with_len 0 n) ++ cond (p n) (n ∷ []) []
passing_more p n =
    ap (filter p)
    (sym (map-id (range_with_len 0 (n + 1))) ∙ map-range_with_len_more (λ x. x) 0 n n (zero-add n)
    ∙ ap (λ xs. xs ++ n ∷ []) (map-id (range_with_len 0 n)))
    ∙ filter-append p (range_with_len 0 n) (n ∷ [])

pub passed : (p : ℕ → Bool) (n : ℕ) (before now : List ℕ) → before ≡ filter p (range_with_len 0 n) →
    p n ≡ true → now ≡ before ++ n ∷ [] → now ≡ filter p (range_with_len 0 (n + 1))
passed p n before now is passes pushed =
    pushed ∙ ap (λ xs. xs ++ n ∷ []) is
    ∙ sym (passing_more p n ∙ ap (λ b. filter p (range_with_len 0 n) ++ cond b (n ∷ []) []) passes)

pub passed_over : (p : ℕ → Bool) (n : ℕ) (before : List ℕ) → before ≡ filter p (range_with_len 0 n) →
    p n ≡ false → before ≡ filter p (range_with_len 0 (n + 1))
passed_over p n before is fails =
    is
    ∙ sym (passing_more p n ∙ ap (λ b. filter p (range_with_len 0 n) ++ cond b (n ∷ []) []) fails
    ∙ append-nil (filter p (range_with_len 0 n)))

-- where two tests agree, so do the numbers that pass them
pub passing_alike : (p q : ℕ → Bool) (a n : ℕ) → ((x : ℕ) → x < a + n → p x ≡ q x) →
    filter p (range_with_len a n) ≡ filter q (range_with_len a n)
passing_alike p q a zero alike = refl
passing_alike p q a (suc n) alike =
    ap (λ b. cond b (a ∷ filter p (range_with_len (a + 1) n)) (filter p (range_with_len (a + 1) n))) (alike a (omega arith))
    ∙ ap (λ xs. cond (q a) (a ∷ xs) xs) (passing_alike p q (a + 1) n (λ x h. alike x (omega (arith, h))))

-- the transition with the variables that were marked
pub with_vars_is : (t : Transition) (count : ℕ) (occurs acts : List Bool) (vars acted : List ℕ) →
    AreMarked occurs count (occurring t) → AreMarked acts count (flat_map set_var t.actions) →
    vars
    ≡ filter (λ x. get_or occurs x false && not (get_or acts x false)) (range_with_len 0 count) →
    acted ≡ filter (λ x. get_or acts x false) (range_with_len 0 count) →
    record t { vars = vars; action_vars = acted } ≡ with_vars count t
with_vars_is t count occurs acts vars acted occur act alone marked =
    let set : List ℕ = flat_map set_var t.actions in
    let all : vars ≡ filter (λ x. is_among (occurring t) x && not (is_among set x)) (range_with_len 0 count) =
    alone
    ∙ passing_alike (λ x. get_or occurs x false && not (get_or acts x false))
    (λ x. is_among (occurring t) x && not (is_among set x)) 0 count
    (λ x h.
    let below : x < count = omega (arith, h) in
    ap (λ b. b && not (get_or acts x false)) (occur x below)
    ∙ ap (λ b. is_among (occurring t) x && not b) (act x below)) in
    let some : acted ≡ filter (is_among set) (range_with_len 0 count) =
    marked
    ∙ passing_alike (λ x. get_or acts x false) (is_among set) 0 count (λ x h. act x (omega (arith, h))) in
    ap (λ xs. record t { vars = xs; action_vars = acted }) all
    ∙ ap
    (λ xs. record t {
      vars = filter (λ x. is_among (occurring t) x && not (is_among set x)) (range_with_len 0 count);
      action_vars = xs;
    }) some
