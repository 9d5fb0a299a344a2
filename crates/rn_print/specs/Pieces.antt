-- What canonical texts are put together from.
use Rattle.std.specs.Prelude.{ℕ, List, ◌++◌, codes}
use Rattle.std.specs.List.{join_by}

-- these texts one after another, with a text between any two of them
abbrev pub separated : List ℕ → List (List ℕ) → List ℕ
separated separator texts = join_by (λ text. text) separator texts

-- these texts with commas between them, and no spaces
abbrev pub listed : List (List ℕ) → List ℕ
listed texts = separated (codes ",") texts

-- a text in parentheses
abbrev pub in_parentheses : List ℕ → List ℕ
in_parentheses text = codes "(" ++ text ++ codes ")"
