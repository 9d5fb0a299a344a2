-- Decisions stay sound as they come and go.
use Rattle.std.proofs.Common.{◌≡◌, ℕ, zero, suc, ◌<◌, ◌≤◌, List, [], ◌∷◌, ◌++◌, length, take, drop}
use Rattle.std.proofs.Common.{refl, sym, ap, ◌∙◌, subst, inl, inr, arith, ◌⊎◌}
use Rattle.std.specs.Prelude.{Some, slice_get, Contains}
use Rattle.std.proofs.lemmas.List.{take-take, take-append-le, take-append-drop}
use Rattle.std.proofs.lemmas.List.Elements.{Contains-append_cases, Contains-append_left}
use Rattle.std.proofs.lemmas.Option.{slice_get-get_or}
use Rattle.std.proofs.Math.Seq.{take-append_seam}
use Rattle.rn_growing.specs.declared.decision.Decision.{Decision}
use Rattle.rn_growing.proofs.Growth.{front_at, only_one, turns_front, turns_more}
use Rattle.rn_model.proofs.EnablingLemmas.{not_in_nil}
use Rattle.rn_search.specs.Points.{node_on}
use Rattle.rn_search.specs.Making.{NamesMade}
use Rattle.rn_search.specs.Ending.{IsRight}
use Rattle.rn_growing.specs.Kinded.{IsKinded}
use Rattle.rn_search.specs.Standing.{IsHead, IsOfItsNet, NoneAreSound, SoundByOne}
use Rattle.rn_search.specs.Standing.{SoundByFewer, SoundAreRight}
use Rattle.rn_search.proofs.Made.{names_by_more}
use Rattle.rn_search.proofs.Built.{right_by_more}

-- What is said of each decision by those before it.
abbrev Each : (List Decision → Decision → Type 0) → List Decision → Type 0
Each P ds = (k : ℕ) (d : Decision) → slice_get ds k ≡ Some d → P (take k ds) d

pub before_or_last : {X : Type 0} (xs : List X) (y : X) (k : ℕ) (x : X) →
    slice_get (xs ++ y ∷ []) k ≡ Some x →
    ((k < length xs) × (slice_get xs k ≡ Some x)) ⊎ ((k ≡ length xs) × (x ≡ y))
before_or_last [] y zero x at = inr (refl, let e : x ≡ y = cc in e)
before_or_last [] y (suc k) x at = absurd (let no : ⊥ = cc in no)
before_or_last (z ∷ xs) y zero x at = inl (omega arith, at)
before_or_last (z ∷ xs) y (suc k) x at =
    elim (before_or_last xs y k x at) [
      | inl before ↦ inl (omega (arith, before.0), before.1)
      | inr last ↦ inr (omega (arith, last.0), last.1)
    ]

module _ (P : List Decision → Decision → Type 0) (ds : List Decision) where
  each_more : (d : Decision) → Each P ds → P ds d → Each P (ds ++ d ∷ [])
  each_more d each last k e at = elim (before_or_last ds d k e at) [
    | inl before ↦
        let early : k ≤ length ds = let h = before.0 in omega (arith, h) in
        subst (λ front. P front e) (sym (take-append-le k ds (d ∷ []) early)) (each k e before.1)
    | inr end ↦
        subst (λ j. P (take j (ds ++ d ∷ [])) e) (sym end.0)
        (subst (λ front. P front e) (sym (take-append_seam ds (d ∷ [])))
        (subst (P ds) (sym end.1) last))
  ]

  each_front : (n : ℕ) → n ≤ length ds → Each P ds → Each P (take n ds)
  each_front n room each k d at =
      let there = front_at ds n k d at room in
      let early : k ≤ n = let h = there.0 in omega (arith, h) in
      subst (λ front. P front d) (sym (take-take k n ds early)) (each k d there.1)

  each_whole : (by_more : (es more : List Decision) (d : Decision) → P es d → P (es ++ more) d) →
      Each P ds → (d : Decision) → Contains ds d → P ds d
  each_whole by_more each d there =
      let at : slice_get ds there.0 ≡ Some d =
      slice_get-get_or ds there.0 d there.1 ∙ ap Some there.2 in
      subst (λ es. P es d) (take-append-drop there.0 ds)
      (by_more (take there.0 ds) (drop there.0 ds) d (each there.0 d at))

-- the empty list of decisions is sound
pub none_are_sound : NoneAreSound
none_are_sound system m depth = record {
  turns = record {
    came = λ k d at. absurd (let no : ⊥ = cc in no);
    once = λ j k d e less at other. absurd (let no : ⊥ = cc in no);
  };
  heads = λ d there. absurd (not_in_nil d there);
  placed = λ d there. absurd (not_in_nil d there);
  kinded = λ d there. absurd (not_in_nil d there);
  made = λ k d at. absurd (let no : ⊥ = cc in no);
  right = λ k d at. absurd (let no : ⊥ = cc in no);
}

-- what holds of each, and of one more, holds of all of them
by_last : (P : Decision → Type 0) (ds : List Decision) (d : Decision) →
    ((e : Decision) → Contains ds e → P e) → P d → (e : Decision) → Contains (ds ++ d ∷ []) e → P e
by_last P ds d each last e there = elim (Contains-append_cases ds (d ∷ []) e there) as (λ _. P e) [
  | inl before ↦ each e before
  | inr end ↦ subst P (only_one d e end) last
]

-- sound decisions stay so with one more that may be made
pub sound_by_one : SoundByOne
sound_by_one system m depth ds d sound may = record {
  turns = turns_more system ds d sound.turns may.may may.fresh;
  heads = by_last (λ e. IsHead system depth (node_on e)) ds d sound.heads may.head;
  placed = by_last (λ e. IsOfItsNet m (node_on e)) ds d sound.placed may.placed;
  kinded = by_last (IsKinded system) ds d sound.kinded may.kinded;
  made = each_more (NamesMade system) ds d sound.made may.made;
  right = each_more (IsRight system) ds d sound.right may.right;
}

in_front_in : (n : ℕ) (ds : List Decision) (d : Decision) → Contains (take n ds) d → Contains ds d
in_front_in n ds d there =
    subst (λ es. Contains es d) (take-append-drop n ds)
    (Contains-append_left (take n ds) (drop n ds) d there)

-- and where the last ones are taken back
pub sound_by_fewer : SoundByFewer
sound_by_fewer system m depth n ds room sound = record {
  turns = turns_front system ds n room sound.turns;
  heads = λ d there. sound.heads d (in_front_in n ds d there);
  placed = λ d there. sound.placed d (in_front_in n ds d there);
  kinded = λ d there. sound.kinded d (in_front_in n ds d there);
  made = each_front (NamesMade system) ds n room sound.made;
  right = each_front (IsRight system) ds n room sound.right;
}

-- all of them name what was made, and are right
pub sound_are_right : SoundAreRight
sound_are_right system m depth ds sound = (
  each_whole (NamesMade system) ds (names_by_more system) sound.made,
  each_whole (IsRight system) ds (right_by_more system) sound.right,
)
