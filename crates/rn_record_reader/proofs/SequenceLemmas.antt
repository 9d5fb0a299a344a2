-- What is read one after the other, and why it ends.
use Rattle.std.proofs.Common.{◌≡◌, List, [], ◌++◌, sym, ap, ◌∙◌}
use Rattle.std.proofs.lemmas.List.{append-nil}

module _ {X E : Type 0} (xs : List X) (here all : List X × E) where
  -- no more is read
  pub one_ends : (s t : E) → here ≡ ([], s) → t ≡ s → (xs ++ here.0, here.1) ≡ all → (xs, t) ≡ all
  one_ends s t is same so_far =
      ap (λ t. (xs, t)) same
      ∙ ap (λ zs. (zs, s)) (sym (append-nil xs))
      ∙ ap (λ h. (xs ++ h.0, h.1)) (sym is)
      ∙ so_far
