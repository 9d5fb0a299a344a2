-- The text of a condition by those of its parts.
use Rattle.std.proofs.Common.{◌≡◌, ◌≤◌, ◌-◌, ◌++◌, ℕ, List, [], ◌∷◌, map, length, get_or, take, drop}
use Rattle.std.proofs.Common.{ap, ◌∙◌, append_assoc, arith}
use Rattle.std.specs.Prelude.{codes}
use Rattle.std.specs.List.{join_by, flat_map}
use Rattle.std.proofs.lemmas.List.{take_all}
use Rattle.rn_inscript.specs.declared.conds.PCond.{PCond, out-PCond, fold_out-PCond}
use Rattle.rn_print.specs.Conditions.{cond_text, simple_text, simple_step, cond_step, all_step}

pub cond_text-out : (cond : PCond) →
    cond_text cond ≡ join_by all_step (codes " || ") (map (map simple_text) (out-PCond cond).any)
cond_text-out cond = fold_out-PCond (List ℕ) (List ℕ) simple_step cond_step cond

-- all but the first, as a slice pattern gives them
abbrev pub others : {A : Type 0} → List A → List A
others all = take (length all - 1) (drop 1 all)

others-cons : {A : Type 0} (x : A) (xs : List A) → others (x ∷ xs) ≡ xs
others-cons x xs = take_all (length (x ∷ xs) - 1) xs (omega arith)

-- Where the first is written and then the others, each after a separator, all are written.
pub all_written : {A B : Type 0} (f : B → List ℕ) (g : A → B) (separator : List ℕ) (all : List A)
    (n : ℕ) (first : A) (before one done : List ℕ) →
    1 ≤ length all → first ≡ get_or all 0 first → one ≡ before ++ f (g first) →
    length (others all) ≤ n →
    done ≡ one ++ flat_map (λ x. separator ++ f x) (map g (take n (others all))) →
    done ≡ before ++ join_by f separator (map g all)
all_written f g separator [] n first before one done some at_first one_is ends done_is =
    absurd (omega arith)
all_written f g separator (x ∷ xs) n first before one done some at_first one_is ends done_is =
    let rest : take n (others (x ∷ xs)) ≡ xs =
    take_all n (others (x ∷ xs)) ends ∙ others-cons x xs in
    let later : List ℕ = flat_map (λ x. separator ++ f x) (map g xs) in
    done_is
    ∙ ap (λ xs. one ++ flat_map (λ x. separator ++ f x) (map g xs)) rest
    ∙ ap (λ one. one ++ later) (one_is ∙ ap (λ first. before ++ f (g first)) at_first)
    ∙ append_assoc before (f (g x)) later
