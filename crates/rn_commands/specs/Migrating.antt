-- What `migrate` comes to on its input.
use Rattle.std.specs.Prelude.{ℕ, ◌≡◌, ◌≢◌, ◌⊎◌, ◌++◌, List, codes}
use Rattle.rn_model.specs.declared.system.System.{System}
use Rattle.rn_model.specs.declared.log.Told.{Told}
use Rattle.rn_lookup.specs.declared.refusal.Refusal.{Refusal}
use Rattle.rn_record.specs.RecordText.{record_text}
use Rattle.rn_record_reader.specs.Runs.{Verdict, TellsRecord}
use Rattle.rn_net.specs.declared.plain.Plain.{Plain}
use Rattle.rn_migrate.specs.Migrated.{migrated_text}
use Rattle.rn_answering.specs.declared.answer.Answer.{Answer}
use Rattle.rn_answering.specs.declared.status.TheConstants.{NET_REFUSED, RECORD_REFUSED}
use Rattle.rn_answering.specs.Lines.{number_line}
use Rattle.rn_answering.specs.NetTexts.{Accepted, RefusesNet}
use Rattle.rn_answering.specs.Refusing.{done, refusal}
use Rattle.rn_commands.specs.Parts.{HasParts}
use Rattle.rn_commands.specs.Replaying.{line_code}

-- the line of a net text that is in notation 2 already
abbrev pub already_line : List ℕ
already_line = codes "M1 1:1\n"

-- the migrated text of a net, the line that parts, and the migrated record
abbrev pub migrated_pair : Plain → System → Told → List ℕ
migrated_pair plain system told =
    migrated_text plain ++ codes "---\n" ++ record_text 2 system told

-- What `migrate` comes to on an accepted net text of this plain form, and on what stands after it in
-- the input. A text of notation 2 is refused. One of notation 1 is written in notation 2, alone where
-- no line parts it from a record. Else the record tells a run with its marks, whether it is true or
-- not, and this follows in format 2; or a line of the record is the first that is bad.
pub data NetMigratesTo (plain : Plain) (system : System) (bytes net rest : List ℕ)
    : Answer → Type 0 where
  already : plain.notation ≡ 2 →
      NetMigratesTo plain system bytes net rest (refusal NET_REFUSED already_line)
  alone : plain.notation ≡ 1 → net ≡ bytes →
      NetMigratesTo plain system bytes net rest (done (migrated_text plain))
  unread : plain.notation ≡ 1 → net ≢ bytes → (line : ℕ) (why : Refusal) →
      TellsRecord system 1 rest (Verdict.bad line why) →
      NetMigratesTo plain system bytes net rest
      (refusal RECORD_REFUSED (number_line (line_code why) line))
  both : plain.notation ≡ 1 → net ≢ bytes → (told : Told) →
      TellsRecord system 1 rest (Verdict.tells told.entries told.marks) →
      NetMigratesTo plain system bytes net rest (done (migrated_pair plain system told))

-- an accepted net text, and what stands after it
abbrev pub MigratesTo : List ℕ → List ℕ → List ℕ → Answer → Type 0
MigratesTo bytes net rest a = (system : System) × (accepted : Accepted net system)
    × NetMigratesTo accepted.plain system bytes net rest a

-- what `migrate` comes to on its input, which has the form of that of `replay`
abbrev pub MigrateComesTo : List ℕ → Answer → Type 0
MigrateComesTo bytes a = (net : List ℕ) × (rest : List ℕ) × HasParts bytes net rest
    × (RefusesNet net a ⊎ MigratesTo bytes net rest a)
