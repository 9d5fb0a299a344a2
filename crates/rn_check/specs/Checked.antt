-- What the checker accepts.
use Rattle.std.specs.Prelude.{◌≡◌, [], Result, Err}
use Rattle.rn_net.specs.declared.plain.Plain.{Plain}
use Rattle.rn_model.specs.declared.system.System.{System}
use Rattle.rn_declared.specs.declared.fault.CheckFault.{CheckFault}
use Rattle.rn_declared.specs.declared.fault.CheckFault.TheVariants as C
use Rattle.rn_rules.specs.Systems.{system_faults}
use Rattle.rn_numbering.specs.Numbering.{system_of}

-- No rule is broken, and the system is the plain form with numbers in place of names.
pub record Checked (plain : Plain) (system : System) : Type 0 where
  pub unbroken : system_faults plain ≡ []
  pub means : system ≡ system_of plain

-- this is the answer, unless memory ran out
abbrev pub Answers : Result System CheckFault → Result System CheckFault → Type 0
Answers (Err (C.NoMemory _)) expected = Unit {0}
Answers result expected = result ≡ expected
