-- What `migrate` comes to.
use Rattle.std.proofs.Common.{◌≡◌, ◌≢◌, ◌∙◌, ◌<◌, ◌+◌, ◌∷◌, ◌++◌, ◌⊎◌, ℕ, List, [], codes, length, inl, inr, refl, sym, ap, subst, arith}
use Rattle.std.specs.Prelude.{IsTrue, false, nat_eq}
use Rattle.std.proofs.lemmas.Bool.{false≢true}
use borrow.Author.Tests.{eq-eqb}
use Rattle.std.proofs.lemmas.List.{length-append, take-append-drop}
use Rattle.rn_items.specs.Memory.{no_memory}
use Rattle.rn_value.proofs.Numerals.{numeral_digit}
use Rattle.rn_model.specs.declared.system.System.{System}
use Rattle.rn_model.specs.declared.log.Told.{Told}
use Rattle.rn_lookup.specs.declared.refusal.Refusal.{Refusal}
use Rattle.rn_lookup.specs.declared.refusal.Refusal.TheVariants.{Form, Name, Step, Many}
use Rattle.rn_record_reader.specs.Runs.{Verdict, TellsRecord}
use Rattle.rn_record_reader.specs.link.RunsAhead.{FaultTells}
use Rattle.rn_record_reader.specs.declared.fault.RecordFault.{RecordFault}
use Rattle.rn_record_reader.specs.declared.fault.RecordFault.TheVariants.{Q1, Q2, Q3, Q4}
use Rattle.rn_record_reader.specs.declared.fault.RecordFault.TheVariants as Q
use Rattle.rn_net.specs.declared.plain.Plain.{Plain}
use Rattle.rn_net.specs.Texts.{IsNotation, Spells}
use Rattle.rn_check.specs.Checked.{Checked}
use Rattle.rn_migrate.specs.Migrated.{migrated_text}
use Rattle.rn_answering.specs.declared.answer.Answer.{Answer}
use Rattle.rn_answering.specs.declared.stopped.Stopped.{Stopped}
use Rattle.rn_answering.specs.declared.stopped.Stopped.TheVariants.{Refused, ReadFault, NoMemory}
use Rattle.rn_answering.specs.declared.status.TheConstants.{NET_REFUSED, RECORD_REFUSED}
use Rattle.rn_answering.specs.Lines.{number_line, spot_line}
use Rattle.rn_answering.specs.NetTexts.{RefusesNet, RefusesPlain}
use Rattle.rn_answering.specs.Refusing.{Stops, done, refusal}
use Rattle.rn_answering.proofs.Causes.{net_refused}
use Rattle.rn_commands.specs.Migrating.{MigrateComesTo, NetMigratesTo, migrated_pair}
use Rattle.rn_commands.specs.Parts.{HasParts, after_line, first_line, is_parting, line_length}
use Rattle.rn_commands.specs.Replaying.{line_code}
use Rattle.rn_commands.specs.link.Replaying.{record_line}

-- all of the input is net text, or the net text is shorter than it
pub all_or_shorter : {bytes net rest : List ℕ} → HasParts bytes net rest → (net ≡ bytes) ⊎ (length net < length bytes)
all_or_shorter HasParts.whole = inl refl
all_or_shorter (HasParts.parted {bytes = bytes} parting) = by bytes parting
  where
    by : (bytes : List ℕ) → IsTrue (is_parting (first_line bytes)) → ([] ≡ bytes) ⊎ (0 < length bytes)
    by [] parting = inl refl
    by (c ∷ bytes) parting = inr (omega arith)
all_or_shorter (HasParts.further {bytes = bytes} {net = net} some other has) = by (all_or_shorter has)
  where
    whole : first_line bytes ++ after_line bytes ≡ bytes
    whole = take-append-drop (line_length bytes) bytes

    by : (net ≡ after_line bytes) ⊎ (length net < length (after_line bytes)) →
        (first_line bytes ++ net ≡ bytes) ⊎ (length (first_line bytes ++ net) < length bytes)
    by (inl all) = inl (ap (λ xs. first_line bytes ++ xs) all ∙ whole)
    by (inr short) =
        inr (omega (arith, short, length-append (first_line bytes) net, length-append (first_line bytes) (after_line bytes), ap length whole))

-- where it is as long as the input it is all of it
pub all_of : {bytes net rest : List ℕ} → HasParts bytes net rest → length net ≡ length bytes → net ≡ bytes
all_of {bytes} {net} parts same = elim (all_or_shorter parts) as (λ _. net ≡ bytes) [
  | inl all ↦ all
  | inr short ↦ absurd (omega (arith, short, same))
]

-- a notation that isn't 2 is 1
pub first_notation : (n : ℕ) → IsNotation n → nat_eq n 2 ≡ false → n ≡ 1
first_notation n (inl one) other = one
first_notation n (inr two) other = absurd (false≢true (sym other ∙ eq-eqb n 2 two))

module _ (bytes net rest : List ℕ) (parts : HasParts bytes net rest) where
  -- a refusal of the net text
  pub net_stops_migrating : (s : Stopped) → Stops (RefusesNet net) s → Stops (MigrateComesTo bytes) s
  net_stops_migrating (Refused a) refuses = (net, rest, parts, inl refuses)
  net_stops_migrating ReadFault refuses = refuses
  net_stops_migrating (NoMemory _) refuses = tt

  module _ (plain : Plain) (spelled : Spells net plain) where
    pub plain_stops_migrating : (s : Stopped) → Stops (RefusesPlain plain) s → Stops (MigrateComesTo bytes) s
    plain_stops_migrating s refuses = net_stops_migrating s (net_refused net plain s spelled refuses)

    module _ (system : System) (checked : Checked plain system) where
      migrates : (a : Answer) → NetMigratesTo plain system bytes net rest a → MigrateComesTo bytes a
      migrates a to = (net, rest, parts, inr (system, record { plain = plain; spelled = spelled; checked = checked }, to))

      -- it is in notation 2
      pub already_stops : plain.notation ≡ 2 → (s : Stopped) →
          Stops (λ a. a ≡ refusal NET_REFUSED (spot_line (codes "M1") (record { line = 1; column = 1 }))) s → Stops (MigrateComesTo bytes) s
      already_stops second (Refused a) is =
          let line = is ∙ ap (λ digits. refusal NET_REFUSED (codes "M1" ++ codes " " ++ digits ++ codes ":" ++ digits ++ codes "\n")) (numeral_digit 1 (omega arith)) in
          migrates a (subst (NetMigratesTo plain system bytes net rest) (sym line) (NetMigratesTo.already second))
      already_stops second ReadFault is = is
      already_stops second (NoMemory _) is = tt

      -- there is no record
      pub alone_done : plain.notation ≡ 1 → length net ≡ length bytes → (text : List ℕ) → text ≡ migrated_text plain → MigrateComesTo bytes (done text)
      alone_done first same text is =
          migrates (done text) (subst (λ t. NetMigratesTo plain system bytes net rest (done t)) (sym is) (NetMigratesTo.alone first (all_of parts same)))

      -- the record is migrated
      pub both_done : plain.notation ≡ 1 → ¬ (length net ≡ length bytes) → (told : Told) →
          TellsRecord system 1 rest (Verdict.tells told.entries told.marks) → (text : List ℕ) → text ≡ migrated_pair plain system told → MigrateComesTo bytes (done text)
      both_done first longer told tells text is =
          migrates (done text) (subst (λ t. NetMigratesTo plain system bytes net rest (done t)) (sym is)
          (NetMigratesTo.both first (λ all. longer (ap length all)) told tells))

      -- a line of it is bad
      pub record_stops_migrating : plain.notation ≡ 1 → ¬ (length net ≡ length bytes) → (fault : RecordFault) (s : Stopped) →
          FaultTells (TellsRecord system 1 rest) fault → (fault ≡ Q.NoMemory no_memory → s ≡ NoMemory no_memory) →
          Stops (λ a. a ≡ refusal RECORD_REFUSED (record_line fault)) s → Stops (MigrateComesTo bytes) s
      record_stops_migrating first longer fault (Refused a) tells memory is = by fault tells memory is
        where
          refused : (line : ℕ) (why : Refusal) → TellsRecord system 1 rest (Verdict.bad line why) → a ≡ refusal RECORD_REFUSED (number_line (line_code why) line) → MigrateComesTo bytes a
          refused line why bad is =
              migrates a (subst (NetMigratesTo plain system bytes net rest) (sym is) (NetMigratesTo.unread first (λ all. longer (ap length all)) line why bad))

          by : (fault : RecordFault) → FaultTells (TellsRecord system 1 rest) fault → (fault ≡ Q.NoMemory no_memory → Refused a ≡ NoMemory no_memory) →
              a ≡ refusal RECORD_REFUSED (record_line fault) → MigrateComesTo bytes a
          by (Q1 n) tells memory is = refused n Form tells is
          by (Q2 n) tells memory is = refused n Name tells is
          by (Q3 n) tells memory is = refused n Step tells is
          by (Q4 n) tells memory is = refused n Many tells is
          by (Q.NoMemory _) tells memory is = let never : Refused a ≡ NoMemory no_memory = memory refl in absurd cc
      record_stops_migrating first longer fault ReadFault tells memory is = is
      record_stops_migrating first longer fault (NoMemory _) tells memory is = tt
