-- The paths that are due, by the way to the first of them. It connects the code with the
-- definitions, and states no rule.
use Rattle.std.specs.Prelude.{ℕ, ◌+◌, List, [], ◌∷◌, ◌++◌, map, if◌then◌else◌}
use Rattle.rn_record_reader.specs.Paths.{children_from}
use Rattle.rn_record_reader.specs.declared.level.Level.{Level}
use Rattle.rn_record_reader.specs.declared.due.Due.{Due}

-- the numbers of a way
abbrev pub numbers : List Level → List ℕ
numbers = map (λ level. level.index)

-- the paths that are due after the end of a way that goes on from this path
abbrev pub later : List ℕ → List Level → List (List ℕ)
later path [] = []
later path (level ∷ levels) =
    later (path ++ level.index ∷ []) levels ++ children_from path (level.index + 1) level.after

-- the path that is due first
abbrev pub path_due : Due → List ℕ
path_due due = numbers due.levels.items

-- all paths that are due
abbrev pub due_paths : Due → List (List ℕ)
due_paths due = if due.done then [] else path_due due ∷ later [] due.levels.items
