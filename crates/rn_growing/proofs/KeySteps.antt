-- Looking something up by its key.
use Rattle.std.proofs.Common.{◌≡◌, ◌≤◌, ◌<◌, ◌+◌, ℕ, zero, suc, Bool, true, false, ◌||◌}
use Rattle.std.proofs.Common.{List, [], ◌∷◌, ◌++◌, length, take, get_or, map, refl, sym, ap}
use Rattle.std.proofs.Common.{◌∙◌, subst, arith, ltb, inl, inr}
use Rattle.std.specs.Prelude.{Option, Some, None, slice_get, if◌then◌else◌, nat_eq, option_map}
use Rattle.std.specs.List.{list_any}
use Rattle.std.specs.Cmp.Lexicographic.{pointwise}
use Rattle.std.proofs.Math.Seq.{take-append_seam}
use Rattle.std.proofs.lemmas.Bool.{ltb-true, ltb-false}
use Rattle.std.proofs.lemmas.List.{length-map, map-append, take-append-le, take-map, take-take}
use Rattle.std.proofs.lemmas.List.{take_all}
use Rattle.std.proofs.lemmas.Option.{slice_get-map, slice_get_within}
use Rattle.std.proofs.lemmas.Option.{get_or_from_slice_get}
use Rattle.rn_growing.specs.declared.slot.Slot.{Slot}
use Rattle.rn_growing.specs.declared.slot.Unknown.{Unknown}
use Rattle.rn_chains.specs.link.Chains.{IsUpToLast}
use Rattle.rn_growing.specs.link.Keys.{slot_key, unknown_key}
use Rattle.rn_growing.specs.link.Layouts.{id_of, same_unknown}
use Rattle.rn_growing.specs.link.Indexed.{AreIndexed, IsSought, is_slot}
use Rattle.rn_chains.proofs.ChainSteps.{either}
use Rattle.rn_growing.proofs.Growth.{either_at, front_at}
use Rattle.rn_growing.proofs.SameUnknowns.{unknown_is}
use Rattle.rn_items.proofs.Numbers.{same_numbers}
use Rattle.rn_items.proofs.Bools.{both_true}

is_false : (b : Bool) → ¬ (b ≡ true) → b ≡ false
is_false true never = absurd (never refl)
is_false false never = refl

-- the key of what stands at an index
pub key_at : {A : Type 0} (key_of : A → ℕ) (xs : List A) (keys : List ℕ) (i : ℕ) (x : A) →
    keys ≡ map key_of xs → slice_get xs i ≡ Some x → get_or keys i 0 ≡ key_of x
key_at key_of xs keys i x keyed at =
    get_or_from_slice_get keys i (key_of x) 0
    (ap (λ ks. slice_get ks i) keyed ∙ slice_get-map key_of xs i ∙ ap (option_map key_of) at)

-- Things of which each has a key, and a test that only those with one key pass.
module _ {A : Type 0} (key_of : A → ℕ) (xs : List A) (keys : List ℕ)
    (keyed : keys ≡ map key_of xs) (key : ℕ) (is : A → Bool)
    (alike : (x : A) → is x ≡ true → key_of x ≡ key) where
  as_long : length keys ≡ length xs
  as_long = ap length keyed ∙ length-map xs key_of

  pub sought_first : (told : ℕ) → IsUpToLast (λ k. k ≡ key) keys (length keys) told →
      IsSought keys key is xs told
  sought_first told last = record {
    within = let h = last.within in omega (arith, h, as_long);
    so = last.so;
    none = λ i x from at. is_false (is x) (λ passes.
        last.after i from
        (let h : i < length xs = slice_get_within xs i x at in omega (arith, h, as_long))
        (key_at key_of xs keys i x keyed at ∙ alike x passes));
  }

  pub sought_next : (left i told : ℕ) (x : A) → IsSought keys key is xs left → i + 1 ≡ left →
      slice_get xs i ≡ Some x → is x ≡ false → IsUpToLast (λ k. k ≡ get_or keys i 0) keys i told →
      IsSought keys key is xs told
  sought_next left i told x was one at fails last = record {
    within = let h = last.within in let g = was.within in omega (arith, h, g, one);
    so = λ j end. last.so j end ∙ was.so i one;
    none = λ j y from there. either j i
        (λ same. let e : Some y ≡ Some x = sym there ∙ ap (slice_get xs) same ∙ at in
        ap is (let f : y ≡ x = cc in f) ∙ fails)
        (λ apart. by j y from there apart);
  }
    where
      by_side : (j : ℕ) (y : A) → told ≤ j → slice_get xs j ≡ Some y → ¬ (j ≡ i) →
          is y ≡ true → (b : Bool) → ltb j i ≡ b → ⊥
      by_side j y from there apart passes true e =
          last.after j from (ltb-true j i e)
          (key_at key_of xs keys j y keyed there ∙ alike y passes ∙ sym (was.so i one))
      by_side j y from there apart passes false e =
          let above : left ≤ j = omega (arith, ltb-false j i e, apart, one) in
          let fails_too : is y ≡ false = was.none j y above there in
          let no : ⊥ = (let e : true ≡ false = sym passes ∙ fails_too in cc) in no

      by : (j : ℕ) (y : A) → told ≤ j → slice_get xs j ≡ Some y → ¬ (j ≡ i) → is y ≡ false
      by j y from there apart =
          is_false (is y) (λ passes. by_side j y from there apart passes (ltb j i) refl)

  -- what passes a test, or that none does
  pub none_any : IsSought keys key is xs 0 → list_any is xs ≡ false
  none_any was = none_in xs (λ i x at. was.none i x (omega arith) at)
    where
      none_in : (ys : List A) → ((i : ℕ) (y : A) → slice_get ys i ≡ Some y → is y ≡ false) →
          list_any is ys ≡ false
      none_in [] none = refl
      none_in (y ∷ ys) none = ap (λ b. b || list_any is ys) (none 0 y refl)
          ∙ none_in ys (λ i z at. none (suc i) z at)

pub some_any : {A : Type 0} (is : A → Bool) (xs : List A) (i : ℕ) (x : A) →
    slice_get xs i ≡ Some x → is x ≡ true → list_any is xs ≡ true
some_any is [] i x at passes = absurd (let no : ⊥ = cc in no)
some_any is (y ∷ xs) zero x at passes =
    let same : y ≡ x = cc in ap (λ b. b || list_any is xs) (ap is same ∙ passes)
some_any is (y ∷ xs) (suc i) x at passes = by (is y) (some_any is xs i x at passes)
  where
    by : (b : Bool) → list_any is xs ≡ true → (b || list_any is xs) ≡ true
    by true e = refl
    by false e = e

-- Slots of unknowns.
module _ (path : List ℕ) (u : Unknown) where
  pub slot_alike : (slot : Slot) → is_slot path u slot ≡ true → slot_key slot ≡ unknown_key path u
  slot_alike slot passes =
      let both = both_true (same_unknown slot.unknown u) (pointwise nat_eq slot.path path)
      passes in
      ap (λ p. unknown_key p slot.unknown) (same_numbers slot.path path both.1)
      ∙ ap (unknown_key path) (unknown_is slot.unknown u both.0)

  pub no_id : (slots : List Slot) →
      ((i : ℕ) (slot : Slot) → slice_get slots i ≡ Some slot → is_slot path u slot ≡ false) →
      id_of slots path u ≡ None
  no_id [] none = refl
  no_id (slot ∷ slots) none =
      ap (λ b. if b then Some slot.id else id_of slots path u) (none 0 slot refl)
      ∙ no_id slots (λ i other at. none (suc i) other at)

  chosen : (b : Bool) (id : ℕ) (rest : Option ℕ) → (if b then Some id else rest) ≡ None →
      (b ≡ false) × (rest ≡ None)
  chosen true id rest e = absurd (let no : ⊥ = cc in no)
  chosen false id rest e = (refl, e)

  pub first_id : (slots : List Slot) (i : ℕ) (slot : Slot) → slice_get slots i ≡ Some slot →
      id_of (take i slots) path u ≡ None → is_slot path u slot ≡ true →
      id_of slots path u ≡ Some slot.id
  first_id [] i slot at none passes = absurd (let no : ⊥ = cc in no)
  first_id (other ∷ slots) zero slot at none passes =
      let same : other ≡ slot = cc in
      ap (λ s. if is_slot path u s then Some s.id else id_of slots path u) same
      ∙ ap (λ b. if b then Some slot.id else id_of slots path u) passes
  first_id (other ∷ slots) (suc i) slot at none passes =
      let both = chosen (is_slot path u other) other.id (id_of (take i slots) path u) none in
      ap (λ b. if b then Some other.id else id_of slots path u) both.0
      ∙ first_id slots i slot at both.1 passes

pub slot_found : (slots : List Slot) (keys : List ℕ) (path : List ℕ) (u : Unknown) (i : ℕ)
    (slot : Slot) → AreIndexed slots keys → slice_get slots i ≡ Some slot →
    is_slot path u slot ≡ true → id_of slots path u ≡ Some slot.id
slot_found slots keys path u i slot are at passes =
    let both = both_true (same_unknown slot.unknown u) (pointwise nat_eq slot.path path) passes in
    first_id path u slots i slot at
    (ap (λ v. id_of (take i slots) path v) (sym (unknown_is slot.unknown u both.0))
    ∙ ap (λ p. id_of (take i slots) p slot.unknown) (sym (same_numbers slot.path path both.1))
    ∙ are.apart i slot at) passes

pub slot_pushed : (slots : List Slot) (keys : List ℕ) (slot : Slot) → AreIndexed slots keys →
    id_of slots slot.path slot.unknown ≡ None →
    AreIndexed (slots ++ slot ∷ []) (keys ++ slot_key slot ∷ [])
slot_pushed slots keys slot are none = record {
  keyed = ap (λ ks. ks ++ slot_key slot ∷ []) are.keyed
      ∙ sym (map-append slot_key slots (slot ∷ []));
  apart = λ i other at. elim (either_at slots slot i other at) [
    | inl before ↦
        ap (λ ss. id_of ss other.path other.unknown)
        (take-append-le i slots (slot ∷ []) (let h = before.0 in omega (arith, h)))
        ∙ are.apart i other before.1
    | inr last ↦
        ap (λ n. id_of (take n (slots ++ slot ∷ [])) other.path other.unknown) last.0
        ∙ ap (λ ss. id_of ss other.path other.unknown) (take-append_seam slots (slot ∷ []))
        ∙ subst (λ s. id_of slots s.path s.unknown ≡ None) (sym last.1) none
  ];
}

pub slots_taken : (slots : List Slot) (keys : List ℕ) (n : ℕ) → AreIndexed slots keys →
    AreIndexed (take n slots) (take n keys)
slots_taken slots keys n are = record {
  keyed = ap (take n) are.keyed ∙ take-map slot_key n slots;
  apart = λ i slot at. by i slot at (ltb n (length slots)) refl;
}
  where
    by : (i : ℕ) (slot : Slot) → slice_get (take n slots) i ≡ Some slot → (b : Bool) →
        ltb n (length slots) ≡ b → id_of (take i (take n slots)) slot.path slot.unknown ≡ None
    by i slot at true e =
        let room : n < length slots = ltb-true n (length slots) e in
        let front = front_at slots n i slot at (omega (arith, room)) in
        let within = front.0 in
        ap (λ ss. id_of ss slot.path slot.unknown) (take-take i n slots (omega (arith, within)))
        ∙ are.apart i slot front.1
    by i slot at false e =
        let all : take n slots ≡ slots = take_all n slots (ltb-false n (length slots) e) in
        ap (λ ss. id_of (take i ss) slot.path slot.unknown) all
        ∙ are.apart i slot (ap (λ ss. slice_get ss i) (sym all) ∙ at)
