-- The first line of a text, and those after it.
use Rattle.std.proofs.Common.{◌≡◌, ◌≢◌, ◌<◌, ◌∙◌, ℕ, List, [], ◌∷◌, ◌++◌, length, refl, ap, arith, if◌then◌else◌}
use Rattle.std.specs.Prelude.{All}
use Rattle.std.proofs.lemmas.List.Elements.{All-head, All-tail}
use borrow.Author.Tests.{ne_eqb}
use Rattle.renew_rows.specs.Lines.{lines_of, longer_by}

up_to : (line rest : List ℕ) → All (λ c. c ≢ 10) line →
    lines_of (line ++ 10 ∷ rest) ≡ line ∷ lines_of rest
up_to [] rest none = refl
up_to (c ∷ line) rest none =
    ap (λ b. if b then [] ∷ lines_of (line ++ 10 ∷ rest) else longer_by c (lines_of (line ++ 10 ∷ rest)))
    (ne_eqb c 10 (All-head (λ c. c ≢ 10) c line none))
    ∙ ap (longer_by c) (up_to line rest (All-tail (λ c. c ≢ 10) c line none))

-- what stands before the first line feed is the first line
pub parted_is : (text line rest : List ℕ) → text ≡ line ++ 10 ∷ rest →
    All (λ c. c ≢ 10) line → lines_of text ≡ line ∷ lines_of rest
parted_is text line rest is none = ap lines_of is ∙ up_to line rest none

all_of : (c : ℕ) (line : List ℕ) → All (λ c. c ≢ 10) (c ∷ line) →
    lines_of (c ∷ line) ≡ (c ∷ line) ∷ []
all_of c [] none =
    ap (λ b. if b then [] ∷ [] else longer_by c [])
    (ne_eqb c 10 (All-head (λ c. c ≢ 10) c [] none))
all_of c (d ∷ line) none =
    ap (λ b. if b then [] ∷ lines_of (d ∷ line) else longer_by c (lines_of (d ∷ line)))
    (ne_eqb c 10 (All-head (λ c. c ≢ 10) c (d ∷ line) none))
    ∙ ap (longer_by c) (all_of d line (All-tail (λ c. c ≢ 10) c (d ∷ line) none))

-- without a line feed all is one line
pub whole_is : (text : List ℕ) → 0 < length text → All (λ c. c ≢ 10) text →
    lines_of text ≡ text ∷ []
whole_is [] some none = absurd (omega (arith, some))
whole_is (c ∷ line) some none = all_of c line none

pub ruleset first_lines = (parted_is, whole_is)
