-- What migrating a record comes to.
use Rattle.std.specs.Prelude.{ℕ, ◌≡◌, List}
use Rattle.rn_model.specs.declared.system.System.{System}
use Rattle.rn_model.specs.declared.log.Told.{Told}
use Rattle.rn_record.specs.RecordText.{record_text}
use Rattle.rn_record_reader.specs.Runs.{Verdict, TellsRecord}

-- the bytes are the text in format 2 of what these tell in format 1, and tell the same
pub record MigratesRecord (system : System) (bytes text : List ℕ) : Type 0 where
  pub told : Told
  pub tells : TellsRecord system 1 bytes (Verdict.tells told.entries told.marks)
  pub is : text ≡ record_text 2 system told
  pub again : TellsRecord system 2 text (Verdict.tells told.entries told.marks)
