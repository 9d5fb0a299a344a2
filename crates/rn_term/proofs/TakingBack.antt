-- One note is taken back after the other.
use Rattle.std.proofs.Common.{◌≡◌, ◌<◌, ◌≤◌, ◌+◌, ℕ, List, [], ◌∷◌, ◌++◌, arith, length}
use Rattle.std.proofs.Common.{sym, ◌∙◌, ap}
use Rattle.std.proofs.Common.{subst, get_or, set, take, length-append}
use Rattle.std.specs.Prelude.{Option, None}
use Rattle.std.proofs.lemmas.List.{get_or-take, length-set, take-take}
use Rattle.std.proofs.Math.Seq.{take-append_seam, get_or-append_seam}
use Rattle.rn_term.specs.Stores.{link_of}
use Rattle.rn_term.specs.link.Kept.{IsFresh}
use Rattle.rn_term.proofs.LinkLemmas.{unset_link}

-- how far the notes were taken back, and the links of those that are left
pub record IsTakenBack
    (all notes : List (ℕ × ℕ)) (links : List (Option ℕ)) (size left : ℕ) : Type 0 where
  pub prefix : notes ≡ take (length notes) all
  pub within : length notes ≤ length all
  pub enough : left ≤ length notes
  pub each : length links ≡ size
  pub linked : (id : ℕ) → get_or links id None ≡ link_of notes id

-- the last note is the one that stands at its index
last_note : (all rest : List (ℕ × ℕ)) (note : ℕ × ℕ) →
    rest ++ note ∷ [] ≡ take (length (rest ++ note ∷ [])) all →
    get_or all (length rest) (0, 0) ≡ note
last_note all rest note prefix =
    let long : length (rest ++ note ∷ []) ≡ length rest + 1 = length-append rest (note ∷ []) in
    sym (get_or-take (length (rest ++ note ∷ [])) all (length rest) (0, 0) (omega (arith, long)))
    ∙ ap (λ ns. get_or ns (length rest) (0, 0)) (sym prefix)
    ∙ get_or-append_seam rest note [] (0, 0)

shorter_prefix : (all rest : List (ℕ × ℕ)) (note : ℕ × ℕ) →
    rest ++ note ∷ [] ≡ take (length (rest ++ note ∷ [])) all →
    rest ≡ take (length rest) all
shorter_prefix all rest note prefix =
    let long : length (rest ++ note ∷ []) ≡ length rest + 1 = length-append rest (note ∷ []) in
    sym (take-append_seam rest (note ∷ []))
    ∙ ap (take (length rest)) prefix
    ∙ take-take (length rest) (length (rest ++ note ∷ [])) all (omega (arith, long))

-- one note less
pub taken_back : (all notes rest : List (ℕ × ℕ)) (links : List (Option ℕ)) (size left var to : ℕ) →
    ((k : ℕ) → k < length all → IsFresh size (take k all) (get_or all k (0, 0))) →
    IsTakenBack all notes links size left → left < length notes → notes ≡ rest ++ (var, to) ∷ [] →
    IsTakenBack all rest (set links var None) size left
taken_back all notes rest links size left var to noted before more is =
    let long : length (rest ++ (var, to) ∷ []) ≡ length rest + 1 =
    length-append rest ((var, to) ∷ []) in
    let now : IsTakenBack all (rest ++ (var, to) ∷ []) links size left =
    subst (λ ns. IsTakenBack all ns links size left) is before in
    let room : left < length (rest ++ (var, to) ∷ []) = subst (λ ns. left < length ns) is more in
    let fresh : IsFresh size (take (length rest) all) (var, to) =
    subst (λ n. IsFresh size (take (length rest) all) n) (last_note all rest (var, to) now.prefix)
    (noted (length rest) (omega (arith, now.within, long))) in
    record {
      prefix = shorter_prefix all rest (var, to) now.prefix;
      within = omega (arith, now.within, long);
      enough = omega (arith, room, long);
      each = length-set links var None ∙ now.each;
      linked = unset_link links rest var to now.linked (rw now.each fresh.within)
          (ap (λ ns. link_of ns var) (shorter_prefix all rest (var, to) now.prefix) ∙ fresh.fresh);
    }
