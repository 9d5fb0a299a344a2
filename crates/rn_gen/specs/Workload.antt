-- The workload text.
use Rattle.std.specs.Prelude.{ℕ, List, [], ◌∷◌, ◌++◌, codes}
use Rattle.std.specs.List.{flat_map}
use Rattle.std.specs.Fmt.{decimal}

-- how many copies of net `worker` a workload text makes at most
abbrev pub most_copies : ℕ
most_copies = 10000

-- these lines, each with its end
abbrev pub lines : List (List ℕ) → List ℕ
lines = flat_map (λ line. line ++ 10 ∷ [])

-- the lines before the one with the number of workers
abbrev pub first_lines : List (List ℕ)
first_lines =
    codes "channel go(int);"
    ∷ codes "channel done();"
    ∷ codes "net main {"
    ∷ codes "  var n: int;"
    ∷ codes "  var k: int;"
    ∷ codes "  var w: net;"
    ∷ []

-- the lines after it
abbrev pub last_lines : List (List ℕ)
last_lines =
    codes "  place busy: net;"
    ∷ codes "  trans make {"
    ∷ codes "    in c: n;"
    ∷ codes "    guard n > 0;"
    ∷ codes "    w: new worker;"
    ∷ codes "    out c: n - 1;"
    ∷ codes "    out busy: w;"
    ∷ codes "  }"
    ∷ codes "  trans step {"
    ∷ codes "    in busy: w;"
    ∷ codes "    w:go(k);"
    ∷ codes "    out busy: w;"
    ∷ codes "  }"
    ∷ codes "  trans finish {"
    ∷ codes "    in busy: w;"
    ∷ codes "    w:done();"
    ∷ codes "  }"
    ∷ codes "}"
    ∷ codes "net worker {"
    ∷ codes "  var k: int;"
    ∷ codes "  place s: int = 0;"
    ∷ codes "  trans go {"
    ∷ codes "    :go(k);"
    ∷ codes "    in s: k;"
    ∷ codes "    guard k < 3;"
    ∷ codes "    out s: k + 1;"
    ∷ codes "  }"
    ∷ codes "  trans done {"
    ∷ codes "    :done();"
    ∷ codes "    in s: 3;"
    ∷ codes "  }"
    ∷ codes "}"
    ∷ []

-- the text up to the number of workers
abbrev pub start_text : List ℕ
start_text = lines first_lines ++ codes "  place c: int = "

-- the text after it
abbrev pub rest_text : List ℕ
rest_text = lines (codes ";" ∷ last_lines)

-- the workload text of n workers
abbrev pub workload : ℕ → List ℕ
workload n = start_text ++ decimal n ++ rest_text
