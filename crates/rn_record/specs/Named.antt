-- The names under which an entry is written: those before it, and those that its binding makes.
use Rattle.std.specs.Prelude.{ℕ, Bool, List}
use Rattle.std.specs.Coded.{Unit-prop, le_prop, Coded-set, coded_ℕ, coded_bool}
use Rattle.rn_model.specs.declared.system.System.{System}
use Rattle.rn_model.specs.declared.binding.Binding.{Binding}
use Rattle.rn_model.specs.declared.log.Reason.{Reason}
use Rattle.rn_model.specs.declared.log.Reason.TheVariants.{Dead, Steps, Fault, Memory}
use Rattle.rn_model.specs.declared.log.Entry.{Entry}
use Rattle.rn_model.specs.declared.log.Entry.TheVariants.{Fire, End}
use Rattle.rn_record.specs.RecordText.{names_after}
use Rattle.rn_record.specs.Writable.{HasLines, HasEnd, HasEntry}

-- the names with those that a fault's binding would make
abbrev pub names_with_end : System → List (List ℕ) → Reason → List (List ℕ)
names_with_end system names (Fault cause b) = names_after system names b
names_with_end system names _ = names

-- the names with those that an entry's binding makes, or would make
abbrev pub names_with : System → List (List ℕ) → Entry → List (List ℕ)
names_with system names (Fire worker b outs) = names_after system names b
names_with system names (End reason) = names_with_end system names reason

numbers : IsSet ℕ
numbers = Coded-set coded_ℕ

truths : IsSet Bool
truths = Coded-set coded_bool

-- a fact on lines that can be written has one proof at most
pub HasLines-prop : (system : System) (names : List (List ℕ)) (b : Binding) →
    IsProp (HasLines system names b)
HasLines-prop system names b = Prim.hlevel (numbers, truths, Unit-prop, le_prop)

-- so has one on an end
pub HasEnd-prop : (system : System) (names : List (List ℕ)) (reason : Reason) →
    IsProp (HasEnd system names reason)
HasEnd-prop system names Dead = Unit-prop
HasEnd-prop system names Steps = Unit-prop
HasEnd-prop system names (Fault cause b) = HasLines-prop system names b
HasEnd-prop system names Memory = Unit-prop

-- and one on an entry
pub HasEntry-prop : (system : System) (names : List (List ℕ)) (entry : Entry) →
    IsProp (HasEntry system names entry)
HasEntry-prop system names (Fire worker b outs) = Prim.hlevel (numbers, truths, Unit-prop, le_prop)
HasEntry-prop system names (End reason) = HasEnd-prop system names reason
