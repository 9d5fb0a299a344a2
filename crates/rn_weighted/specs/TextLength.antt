-- How long the text of the reference net is that stands for a weighted net: `net main {`, a line
-- for each place, the lines of each transition, and `}`. Each line ends with a line feed, and an
-- indent is two spaces.
use Rattle.std.specs.Prelude.{ℕ, ◌+◌, ◌-◌, ◌*◌, nat_eq, List, [], length, map, get_or, sum_by}
use Rattle.std.specs.Prelude.{if◌then◌else◌}
use Rattle.rn_model.specs.declared.system.ArcKind.{ArcKind}
use Rattle.rn_model.specs.declared.system.ArcKind.TheVariants.{Input, Output}
use Rattle.rn_weighted.specs.declared.weighted.Weighted.{Weighted}
use Rattle.rn_weighted.specs.declared.weighted.WPlace.{WPlace}
use Rattle.rn_weighted.specs.declared.weighted.WTransition.{WTransition}
use Rattle.rn_weighted.specs.declared.weighted.WArc.{WArc}

-- `[]` so many times, with a separator of so many bytes between any two
abbrev pub black_length : ℕ → ℕ → ℕ
black_length separator count = count * 2 + (count - 1) * separator

-- ` = [], []`, or nothing where there are no tokens
abbrev pub initial_length : ℕ → ℕ
initial_length count = if nat_eq count 0 then 0 else 3 + black_length 2 count

-- `  place p: [] = [], [];`
abbrev pub place_length : WPlace → ℕ
place_length place = 8 + length place.name + 4 + initial_length place.initial + 2

-- the word of an arc of this kind, with the space after it: `in `, `out ` or `inhibit `, and for a
-- weight above 1 `flexin ` or `flexout `
abbrev pub word_length : ArcKind → ℕ → ℕ
word_length Input weight = if nat_eq weight 1 then 3 else 7
word_length Output weight = if nat_eq weight 1 then 4 else 8
word_length _ weight = 8

-- `[]`, and for a weight above 1 `{[],[]}`
abbrev pub inscription_length : ℕ → ℕ
inscription_length weight = if nat_eq weight 1 then 2 else 2 + black_length 1 weight

-- `    in p: [];`, with the names of the places
abbrev pub arc_length : List (List ℕ) → WArc → ℕ
arc_length names arc =
    4 + word_length arc.kind arc.weight + length (get_or names arc.place []) + 2
    + inscription_length arc.weight + 2

-- `  trans t {`, the lines of its arcs, and `  }`
abbrev pub transition_length : List (List ℕ) → WTransition → ℕ
transition_length names t = 8 + length t.name + 3 + sum_by (arc_length names) t.arcs + 4

-- how many bytes the text has
abbrev pub text_length : Weighted → ℕ
text_length net =
    11 + sum_by place_length net.places
    + sum_by (transition_length (map (λ p. p.name) net.places)) net.transitions + 2
