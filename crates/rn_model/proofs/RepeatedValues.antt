-- Values in a row, of which equal neighbours stand once.
use Rattle.std.proofs.Common.{◌≡◌, ℕ, zero, suc, ◌+◌, ◌-◌, ◌<◌, Bool, true, false, cond, List, [], ◌∷◌, ◌++◌, length, replicate, refl, sym, ap, ◌∙◌, subst, arith}
use Rattle.std.proofs.lemmas.List.{append-nil, append_assoc}
use Rattle.std.specs.Prelude.{Some, slice_get, slice_set}
use Rattle.rn_value.specs.declared.value.Value.{Value}
use Rattle.rn_model.specs.declared.repeats.Repeat.{Repeat}
use Rattle.rn_model.specs.Lists.{same_value}
use Rattle.rn_model.specs.Repeats.{times, values_of, with_first, repeats_of, BeginsOtherwise, AreParted, RepeatsHoldValues, RepeatsAreParted, EndsIn, more_of_last}
use Rattle.rn_model.proofs.AskedValues.{same_itself}
use Rattle.rn_model.proofs.ValueLists.{same_is}

-- the last of some is there
pub ends_by_last : (rs : List Repeat) (r : Repeat) (v : Value) → slice_get rs (length rs - 1) ≡ Some r →
    (r.value ≡ v → EndsIn v rs) × (EndsIn v rs → r.value ≡ v)
ends_by_last [] r v e = absurd (let no : ⊥ = cc in no)
ends_by_last (x ∷ []) r v e =
    let same : x ≡ r = cc in
    (λ is. ap (λ y. y.value) same ∙ is, λ ends. ap (λ y. y.value) (sym same) ∙ ends)
ends_by_last (x ∷ y ∷ rs) r v e =
    let at : length (x ∷ y ∷ rs) - 1 ≡ suc (length (y ∷ rs) - 1) = omega arith in
    ends_by_last (y ∷ rs) r v (ap (slice_get (x ∷ y ∷ rs)) (sym at) ∙ e)

pub last_is_set : (rs : List Repeat) (r : Repeat) (n : ℕ) → slice_get rs (length rs - 1) ≡ Some r →
    slice_set rs (length rs - 1) (record { value = r.value; count = r.count + n }) ≡ more_of_last n rs
last_is_set [] r n e = absurd (let no : ⊥ = cc in no)
last_is_set (x ∷ []) r n e =
    let same : r ≡ x = cc in
    ap (λ y. record { value = y.value; count = y.count + n } ∷ []) same
last_is_set (x ∷ y ∷ rs) r n e =
    let at : length (x ∷ y ∷ rs) - 1 ≡ suc (length (y ∷ rs) - 1) = omega arith in
    let s : Repeat = record { value = r.value; count = r.count + n } in
    ap (λ i. slice_set (x ∷ y ∷ rs) i s) at
    ∙ ap (λ l. x ∷ l) (last_is_set (y ∷ rs) r n (ap (slice_get (x ∷ y ∷ rs)) (sym at) ∙ e))

replicate_joined : (m n : ℕ) (v : Value) → replicate (m + n) v ≡ replicate m v ++ replicate n v
replicate_joined zero n v = ap (λ k. replicate k v) (let z : zero + n ≡ n = omega arith in z)
replicate_joined (suc m) n v =
    let at : suc m + n ≡ suc (m + n) = omega arith in
    ap (λ k. replicate k v) at ∙ ap (λ l. v ∷ l) (replicate_joined m n v)

pub more_values : (rs : List Repeat) (v : Value) (n : ℕ) → EndsIn v rs →
    values_of (more_of_last n rs) ≡ values_of rs ++ replicate n v
more_values [] v n e = absurd e
more_values (r ∷ []) v n e =
    append-nil (replicate (r.count + n) r.value)
    ∙ replicate_joined r.count n r.value
    ∙ ap (λ w. replicate r.count r.value ++ replicate n w) e
    ∙ ap (λ l. l ++ replicate n v) (sym (append-nil (times r)))
more_values (r ∷ s ∷ rs) v n e =
    ap (λ l. times r ++ l) (more_values (s ∷ rs) v n e)
    ∙ sym (append_assoc (times r) (values_of (s ∷ rs)) (replicate n v))

more_begins : (v : Value) (r : Repeat) (rs : List Repeat) (n : ℕ) → BeginsOtherwise v (r ∷ rs) → BeginsOtherwise v (more_of_last n (r ∷ rs))
more_begins v r [] n b = b
more_begins v r (s ∷ rs) n b = b

pub more_are_parted : (rs : List Repeat) (n : ℕ) → AreParted rs → AreParted (more_of_last n rs)
more_are_parted [] n p = tt
more_are_parted (r ∷ []) n p = (omega (arith, p.0), tt, tt)
more_are_parted (r ∷ s ∷ rs) n p =
    (p.0, more_begins r.value s rs n p.1, more_are_parted (s ∷ rs) n p.2)

pub another_at_end : (rs : List Repeat) (v : Value) (n : ℕ) → AreParted rs → (EndsIn v rs → ⊥) → 0 < n →
    AreParted (rs ++ record { value = v; count = n } ∷ [])
another_at_end [] v n p other some = (some, tt, tt)
another_at_end (r ∷ []) v n p other some = (p.0, other, (some, tt, tt))
another_at_end (r ∷ s ∷ rs) v n p other some =
    (p.0, p.1, another_at_end (s ∷ rs) v n p.2 other some)

-- one more value before others
one_before_others : (v : Value) (rs : List Repeat) → BeginsOtherwise v rs → with_first v rs ≡ record { value = v; count = 1 } ∷ rs
one_before_others v [] b = refl
one_before_others v (r ∷ rs) b = by (same_value v r.value) refl
  where
    by : (same : Bool) → same_value v r.value ≡ same → cond same (record { value = v; count = suc r.count } ∷ rs) (record { value = v; count = 1 } ∷ r ∷ rs) ≡ record { value = v; count = 1 } ∷ r ∷ rs
    by true e = absurd (b (same_is v r.value e))
    by false e = refl

counted_with_first : (v : Value) (n : ℕ) (rs : List Repeat) → with_first v (record { value = v; count = n } ∷ rs) ≡ record { value = v; count = suc n } ∷ rs
counted_with_first v n rs =
    ap (λ same. cond same (record { value = v; count = suc n } ∷ rs) (record { value = v; count = 1 } ∷ record { value = v; count = n } ∷ rs)) (same_itself v)

some_before_others : (n : ℕ) (v : Value) (vs : List Value) (rs : List Repeat) → repeats_of vs ≡ rs → BeginsOtherwise v rs →
    repeats_of (replicate (suc n) v ++ vs) ≡ record { value = v; count = suc n } ∷ rs
some_before_others zero v vs rs e b = ap (with_first v) e ∙ one_before_others v rs b
some_before_others (suc n) v vs rs e b =
    ap (with_first v) (some_before_others n v vs rs e b) ∙ counted_with_first v (suc n) rs

first_parted : (r : Repeat) (rs : List Repeat) (vs : List Value) (n : ℕ) → r.count ≡ n → 0 < r.count →
    BeginsOtherwise r.value rs → repeats_of vs ≡ rs → repeats_of (times r ++ vs) ≡ r ∷ rs
first_parted r rs vs zero e some b rest = absurd (let no : ⊥ = omega (arith, some, e) in no)
first_parted r rs vs (suc n) e some b rest =
    ap (λ k. repeats_of (replicate k r.value ++ vs)) e
    ∙ some_before_others n r.value vs rs rest b
    ∙ ap (λ k. record { value = r.value; count = k } ∷ rs) (sym e)

-- parted repeats are the repeats of their values
pub parted_again : (rs : List Repeat) → AreParted rs → repeats_of (values_of rs) ≡ rs
parted_again [] p = refl
parted_again (r ∷ rs) p =
    first_parted r rs (values_of rs) r.count refl p.0 p.1 (parted_again rs p.2)

pub none_parted : (rs : List Repeat) → AreParted rs → values_of rs ≡ [] → rs ≡ []
none_parted rs p e = sym (parted_again rs p) ∙ ap repeats_of e

with_first_values : (v : Value) (rs : List Repeat) → values_of (with_first v rs) ≡ v ∷ values_of rs
with_first_values v [] = refl
with_first_values v (r ∷ rs) = by (same_value v r.value) refl
  where
    by : (same : Bool) → same_value v r.value ≡ same → values_of (cond same (record { value = v; count = suc r.count } ∷ rs) (record { value = v; count = 1 } ∷ r ∷ rs)) ≡ v ∷ values_of (r ∷ rs)
    by true e = ap (λ w. v ∷ (replicate r.count w ++ values_of rs)) (same_is v r.value e)
    by false e = refl

-- values in a row are those of their repeats
pub repeats_hold_values : RepeatsHoldValues
repeats_hold_values [] = refl
repeats_hold_values (v ∷ vs) =
    with_first_values v (repeats_of vs) ∙ ap (λ l. v ∷ l) (repeats_hold_values vs)

with_first_parted : (v : Value) (rs : List Repeat) → AreParted rs → AreParted (with_first v rs)
with_first_parted v [] p = (omega arith, tt, tt)
with_first_parted v (r ∷ rs) p = by (same_value v r.value) refl
  where
    by : (same : Bool) → same_value v r.value ≡ same → AreParted (cond same (record { value = v; count = suc r.count } ∷ rs) (record { value = v; count = 1 } ∷ r ∷ rs))
    by true e = (omega arith, subst (λ w. BeginsOtherwise w rs) (sym (same_is v r.value e)) p.1, p.2)
    by false e = (omega arith, (λ is. let same = ap (λ w. same_value v w) (sym is) ∙ same_itself v in let no : ⊥ = cc in no), p)

-- and these repeats are parted
pub repeats_are_parted : RepeatsAreParted
repeats_are_parted [] = tt
repeats_are_parted (v ∷ vs) = with_first_parted v (repeats_of vs) (repeats_are_parted vs)
