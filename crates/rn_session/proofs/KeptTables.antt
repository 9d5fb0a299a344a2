-- The tables that a session keeps, with one entry more and without the last ones.
use Rattle.std.proofs.Common.{◌≡◌, ℕ, ◌+◌, ◌<◌, ◌≤◌, Bool, true, false, List, [], ◌∷◌, ◌++◌, length, take, get_or, refl, sym, ap, ◌∙◌, subst, arith}
use Rattle.std.specs.Prelude.{drop, nat_lt}
use Rattle.std.proofs.lemmas.Bool.Decides.{nat_tests}
use Rattle.std.proofs.lemmas.List.{append_assoc, get_or_append_left, length-append, length-take-le, take-append-drop, take-append-le}
use Rattle.std.proofs.Math.Seq.{get_or-append_seam, take-length}
use Rattle.rn_model.specs.Runs.{Firing, end_of}
use Rattle.rn_table.specs.Tables.{Kept, IsTableOf}
use Rattle.rn_fire.specs.declared.setup.Setup.{Setup}
use Rattle.rn_fire.specs.States.{State, end_marking, logged}
use Rattle.rn_session.specs.link.Keeping.{AreTablesBefore, IsTableAfter}

-- a table after firings that both states have
still_after : (old new : State) (k : ℕ) (t : Kept) → new.setup ≡ old.setup →
    take k new.fired ≡ take k old.fired → IsTableAfter old k t → IsTableAfter new k t
still_after old new k t setup same is = record {
  marking = is.marking ∙ ap (λ fs. end_of old.setup.system fs) (sym same)
      ∙ ap (λ (x : Setup). end_of x.system (take k new.fired)) (sym setup);
  of_system = subst (λ (x : Setup). IsTableOf x.system t) (sym setup) is.of_system;
}

-- the table of a state whose log goes on is that after all its firings
pub table_now : (s : State) → s.table.marking ≡ end_marking s → IsTableOf s.setup.system s.table →
    IsTableAfter s (length s.fired) s.table
table_now s all of = record {
  marking = all ∙ ap (λ fs. end_of s.setup.system fs) (sym (take-length s.fired));
  of_system = of;
}

-- one entry more
module _ (old new : State) (kept : List Kept) (t : Kept) (setup : new.setup ≡ old.setup)
    (gs : List Firing) (more : new.fired ≡ old.fired ++ gs)
    (going : length (logged old) ≡ length old.fired)
    (count : length (logged new) ≡ length old.fired + 1)
    (now : IsTableAfter old (length old.fired) t) (before : AreTablesBefore old kept) where
  same : (k : ℕ) → k ≤ length old.fired → take k new.fired ≡ take k old.fired
  same k low = ap (take k) more ∙ take-append-le k old.fired gs low

  long : length kept ≡ length old.fired
  long = before.count ∙ going

  at : (k : ℕ) (d : Kept) → k < length (kept ++ t ∷ []) → (low : Bool) → nat_lt k (length kept) ≡ low →
      IsTableAfter new k (get_or (kept ++ t ∷ []) k d)
  at k d within true e =
      let low : k < length kept = grind (arith, nat_tests) in
      subst (IsTableAfter new k) (sym (get_or_append_left kept (t ∷ []) d k low))
      (still_after old new k (get_or kept k d) setup (same k (omega (arith, low, long))) (before.each k d low))
  at k d within false e =
      let high : length kept ≤ k = grind (arith, nat_tests) in
      let all = length-append kept (t ∷ []) in
      let last : k ≡ length kept = omega (arith, high, all, within) in
      let firings : k ≡ length old.fired = last ∙ long in
      let here : get_or (kept ++ t ∷ []) k d ≡ t =
      ap (λ j. get_or (kept ++ t ∷ []) j d) last ∙ get_or-append_seam kept t [] d in
      subst (IsTableAfter new k) (sym here)
      (still_after old new k t setup (same k (omega (arith, firings)))
      (subst (λ j. IsTableAfter old j t) (sym firings) now))

  pub one_more : AreTablesBefore new (kept ++ t ∷ [])
  one_more = record {
    count = let all = length-append kept (t ∷ []) in omega (arith, all, long, count);
    each = λ k d within. at k d within (nat_lt k (length kept)) refl;
  }

-- without the last entries
module _ (old new : State) (kept left : List Kept) (t : Kept) (count : ℕ)
    (setup : new.setup ≡ old.setup) (first : new.fired ≡ take count old.fired)
    (within : count ≤ length old.fired) (there : count < length kept)
    (entries : length (logged new) ≡ length new.fired)
    (parted : take (count + 1) kept ≡ left ++ t ∷ []) (before : AreTablesBefore old kept) where
  as_long : length left ≡ count
  as_long =
      let taken = length-take-le (count + 1) kept (omega (arith, there)) in
      let both = ap length parted in
      let all = length-append left (t ∷ []) in
      omega (arith, taken, both, all)

  whole : kept ≡ left ++ (t ∷ drop (count + 1) kept)
  whole =
      sym (take-append-drop (count + 1) kept) ∙ ap (λ xs. xs ++ drop (count + 1) kept) parted
      ∙ append_assoc left (t ∷ []) (drop (count + 1) kept)

  alike : (k : ℕ) → k ≤ count → take k new.fired ≡ take k old.fired
  alike k low =
      let firings = length-take-le count old.fired within in
      ap (take k) first
      ∙ sym (take-append-le k (take count old.fired) (drop count old.fired) (omega (arith, low, firings)))
      ∙ ap (take k) (take-append-drop count old.fired)

  pub the_table : IsTableAfter old count t
  the_table =
      let here : get_or kept count t ≡ t =
      ap (λ xs. get_or xs count t) whole
      ∙ ap (λ j. get_or (left ++ (t ∷ drop (count + 1) kept)) j t) (sym as_long)
      ∙ get_or-append_seam left t (drop (count + 1) kept) t in
      subst (IsTableAfter old count) here (before.each count t there)

  pub fewer : AreTablesBefore new left
  fewer = record {
    count =
        let firings = length-take-le count old.fired within in
        let new_firings = ap length first in
        omega (arith, as_long, entries, firings, new_firings);
    each = λ k d low.
        let here : get_or kept k d ≡ get_or left k d =
        ap (λ xs. get_or xs k d) whole ∙ get_or_append_left left (t ∷ drop (count + 1) kept) d k low in
        still_after old new k (get_or left k d) setup (alike k (omega (arith, low, as_long)))
        (subst (IsTableAfter old k) here (before.each k d (omega (arith, low, as_long, there))));
  }
