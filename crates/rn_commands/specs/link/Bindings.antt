-- Bindings at the start that can be written.
use Rattle.rn_model.specs.declared.system.System.{System}
use Rattle.rn_model.specs.declared.binding.Binding.{Binding}
use Rattle.rn_record.specs.RecordText.{first_names}
use Rattle.rn_record.specs.Writable.{HasLines}

-- the lines of a binding at the start can be written
abbrev pub HasFirstLines : System → Binding → Type 0
HasFirstLines system b = HasLines system first_names b
