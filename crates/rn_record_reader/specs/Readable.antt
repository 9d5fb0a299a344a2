-- Values that can stand in a record, whatever instances they name.
use Rattle.std.specs.Prelude.{ℕ, zero, suc, Bool, true, false, All, IsTrue, ⊤}
use Rattle.std.specs.List.{list_all}
use Rattle.std.specs.Str.{is_utf8}
use Rattle.rn_value.specs.declared.value.Value.{Value, fold-Value}
use Rattle.rn_value.specs.declared.value.Value.TheOpen as V
use Rattle.rn_model.specs.declared.binding.Binding.{Binding}
use Rattle.rn_model.specs.declared.log.Entry.{Entry}
use Rattle.rn_model.specs.declared.log.Entry.TheVariants.{Fire, End}
use Rattle.rn_model.specs.declared.log.Reason.{Reason}
use Rattle.rn_model.specs.declared.log.Told.{Told}
use Rattle.rn_lines.specs.Laws.{has_sixty_four_bits}
use Rattle.rn_lines.specs.ValueText.{most_brackets}

-- Whole numbers have 64 bits, texts are UTF-8, and at most this many brackets are open at once.
-- Instances are no matter here. (This is one layer.)
abbrev pub readable_step : V.Value-F (ℕ → Bool) → ℕ → Bool
readable_step (V.Int n) depth = has_sixty_four_bits n
readable_step (V.Text s) depth = is_utf8 s
readable_step (V.Tuple items) zero = false
readable_step (V.Tuple items) (suc depth) = list_all (λ readable. readable depth) items
readable_step (V.List items) zero = false
readable_step (V.List items) (suc depth) = list_all (λ readable. readable depth) items
readable_step (V.Inst i) depth = true

-- whether a value can be read again, with at most this many brackets open at once
abbrev pub readable_within : Value → ℕ → Bool
readable_within = fold-Value (ℕ → Bool) readable_step

-- A value can be read again once it is written in a record.
abbrev pub IsReadable : Value → Type 0
IsReadable v = IsTrue (readable_within v most_brackets)

-- the values of a binding can
abbrev pub HasReadableValues : Binding → Type 0
HasReadableValues b = All (λ node. All IsReadable node.values) b.nodes

-- those of an end can, which has some where it is a fault
abbrev pub IsReadableEnd : Reason → Type 0
IsReadableEnd (Reason.Fault cause b) = HasReadableValues b
IsReadableEnd _ = ⊤

-- those of an entry can: of its binding, and what it printed
abbrev pub IsReadableEntry : Entry → Type 0
IsReadableEntry (Fire worker b outs) = HasReadableValues b × All IsReadable outs
IsReadableEntry (End reason) = IsReadableEnd reason

-- All values of a run and its marks can be read again.
pub record IsReadableRun (told : Told) : Type 0 where
  pub entries : All IsReadableEntry told.entries
  pub marks : All (λ line. All IsReadable line.values) told.marks
