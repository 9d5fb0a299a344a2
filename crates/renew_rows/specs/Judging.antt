-- Whether rows are as they must be.
use Rattle.std.specs.Prelude.{ℕ, ◌≡◌, ◌+◌, ◌↔◌, Bool, List, [], ◌∷◌, ◌++◌, map, string_bytes}
use Rattle.std.specs.Prelude.{Option, Some, IsTrue}
use Rattle.rn_app.specs.TopCall.{IsOwnStatus, IsStatus, Writes}
use Rattle.renew_rows.specs.declared.calling.Found.{Found}
use Rattle.renew_rows.specs.declared.judging.Judged.{Judged}
use Rattle.renew_rows.specs.declared.row.Call.{Call}
use Rattle.renew_rows.specs.declared.row.Row.{Row}
use Rattle.renew_rows.specs.declared.row.Wanted.{Wanted}
use Rattle.renew_rows.specs.Rows.{heading_of}

-- What came of a call is what the top call promises of the call's words and input: its status, and
-- what the outputs hold, of which both were empty.
abbrev pub Comes : Call → Found → Type 0
Comes call found = IsStatus found.status
    × (IsOwnStatus found.status → (left : Option (List ℕ)) ×
    Writes (map string_bytes call.words.items) (Some call.input.items) left found.status
    (Some []) (Some found.out.held) (Some []) (Some found.err.held))

-- it is what is wanted: the status, and what each of the outputs holds, byte by byte
abbrev pub Agrees : Found → Wanted → Type 0
Agrees found wanted = (found.status ≡ wanted.status)
    × (found.out.held ≡ wanted.out.items) × (found.err.held ≡ wanted.err.items)

-- a row isn't as it must be: it agrees, and must differ, or else doesn't agree
abbrev pub IsWrong : Judged → Type 0
IsWrong judged = Agrees judged.found judged.wanted ↔ IsTrue judged.must_differ

-- the call of a row was made, and nothing else of it was changed
abbrev pub IsOfRow : Row → Judged → Type 0
IsOfRow row judged = (judged.name.items ≡ row.name.items)
    × (judged.must_differ ≡ row.must_differ) × (judged.wanted ≡ row.wanted)
    × Comes row.call judged.found

-- So many rows have these first lines, one after another, and so many of them are wrong.
pub data AreJudged : List (List ℕ × Bool) → ℕ → ℕ → Type 0 where
  none : AreJudged [] 0 0
  right : {headings : List (List ℕ × Bool)} {rows differ : ℕ} (row : Row) (judged : Judged) →
      AreJudged headings rows differ → IsOfRow row judged → ¬ IsWrong judged →
      AreJudged (headings ++ heading_of row ∷ []) (rows + 1) differ
  wrong : {headings : List (List ℕ × Bool)} {rows differ : ℕ} (row : Row) (judged : Judged) →
      AreJudged headings rows differ → IsOfRow row judged → IsWrong judged →
      AreJudged (headings ++ heading_of row ∷ []) (rows + 1) (differ + 1)
