-- The lines of marks by place and by instance. It only connects the code to the live part.
use Rattle.std.specs.Prelude.{ℕ, zero, suc, ◌≡◌, ◌≢◌, ◌<◌, ◌+◌, Bool, cond}
use Rattle.std.specs.Prelude.{List, [], ◌∷◌, ◌++◌, length, Some}
use Rattle.std.specs.Option.{option_map_or}
use Rattle.rn_value.specs.declared.value.Value.{Value}
use Rattle.rn_model.specs.declared.log.MarkLine.{MarkLine}
use Rattle.rn_model.specs.declared.system.System.{System}
use Rattle.rn_model.specs.Markings.{Marking, net_of, tokens_at}
use Rattle.rn_live.specs.Rooms.{is_marked}
use Rattle.rn_live.specs.link.Marks.{places_of}
use Rattle.rn_window.specs.Windows.{top}
use Rattle.rn_end_marking.specs.MarkTexts.{line_text}

-- the line of a place, by the instance's number and net, where it holds tokens
abbrev pub line_of : ℕ → ℕ → ℕ → List Value → List MarkLine
line_of n net place [] = []
line_of n net place (v ∷ vs) =
    record { inst = n; net = net; place = place; values = v ∷ vs } ∷ []

-- the lines of places, of which the first has this number
abbrev pub lines_from : ℕ → ℕ → ℕ → List (List Value) → List MarkLine
lines_from n net place [] = []
lines_from n net place (vs ∷ places) =
    line_of n net place vs ++ lines_from n net (place + 1) places

-- the lines of an instance, and none where it isn't there
abbrev pub lines_at : Marking → ℕ → List MarkLine
lines_at m n = option_map_or (λ net. lines_from n net 0 (places_of m n)) (net_of m n) []

-- the lines of an instance where its number is marked
abbrev pub marked_lines : Marking → List Bool → ℕ → List MarkLine
marked_lines m marks n = cond (is_marked marks n) (lines_at m n) []

-- the lines of the marked instances below an end
abbrev pub lines_below : Marking → List Bool → ℕ → List MarkLine
lines_below m marks zero = []
lines_below m marks (suc end) = lines_below m marks end ++ marked_lines m marks end

-- the lines of an instance are short
abbrev pub AreShortAt : ℕ → System → List ℕ → Marking → ℕ → Type 0
AreShortAt format system nets m n = (net place : ℕ) → net_of m n ≡ Some net →
    tokens_at m n place ≢ [] → length (line_text format system nets
    (record { inst = n; net = net; place = place; values = tokens_at m n place })) < top
