-- Each cause has its status, whether an answer is written or none is.
use Rattle.std.proofs.Common.{◌≡◌, ◌≢◌, ◌⊎◌, ℕ, List, Option, Some, None, Ok, Err, Result, inl, inr, refl, sym, subst, arith}
use Rattle.std.specs.Prelude.{IfSome}
use Rattle.rn_model.specs.declared.log.Options.{Options}
use Rattle.rn_outside.specs.Faults.{Rose}
use Rattle.rn_words.specs.declared.command.Command.{Command}
use Rattle.rn_words.specs.declared.command.Command.TheVariants as command
use Rattle.rn_words.specs.declared.command.WordsFault.{WordsFault}
use Rattle.rn_words.specs.Commands.{WordsOk}
use Rattle.rn_words.specs.Reading.{reading}
use Rattle.rn_answering.specs.declared.answer.Answer.{Answer}
use Rattle.rn_answering.specs.declared.status.TheConstants.{DONE, FAULTED, NET_REFUSED, NO_MEMORY, RECORD_REFUSED, WORDS_REFUSED, WRITE_FAULT}
use Rattle.rn_answering.specs.declared.stopped.Stopped.{Stopped}
use Rattle.rn_answering.specs.declared.stopped.Stopped.TheVariants.{ReadFault, Refused}
use Rattle.rn_commands.specs.declared.jobs.Job.{Job}
use Rattle.rn_app.specs.declared.beginning.Begun.TheVariants.{Done, Working}
use Rattle.rn_app.specs.declared.preparing.Prepared.{Prepared}
use Rattle.rn_app.specs.declared.preparing.Prepared.TheVariants.{Answered}
use Rattle.rn_app.specs.link.Begun.{PreparesOrStops}
use Rattle.rn_app.specs.TopCall.{Comes, IsFaultStatus, IsFine, IsNoInput, IsNoRecord, IsUnread, MayFault}
use Rattle.rn_app.proofs.Causes.{IsDoneBut, Laws, RefusesRecords, fine_status, input_status, migrate_refuses, moves_refuse, record_status}
use Rattle.rn_app.proofs.Causes.{replay_refuses, words_status}
use Rattle.rn_app.proofs.Written.{Call, IsWritten, same_or_other, status_or_fault, write_fault_clause}

-- where there is an answer the words and the input come to it
pub came : (words : List (List ℕ)) (left left_after : Option (List ℕ)) (faults faults_after : ℕ) (r : Result Prepared Stopped) (a : Answer) → r ≡ Ok (Answered a) → PreparesOrStops words left left_after faults faults_after r → Comes words left left_after a
came words left left_after faults faults_after r a is comes = subst (PreparesOrStops words left left_after faults faults_after) is comes

pub came_refused : (words : List (List ℕ)) (left left_after : Option (List ℕ)) (faults faults_after : ℕ) (r : Result Prepared Stopped) (a : Answer) → r ≡ Err (Refused a) → PreparesOrStops words left left_after faults faults_after r → Comes words left left_after a
came_refused words left left_after faults faults_after r a is comes = subst (PreparesOrStops words left left_after faults faults_after) is comes

-- where a read failed the count of faults rose
pub read_failed : (words : List (List ℕ)) (left left_after : Option (List ℕ)) (faults faults_after : ℕ) (r : Result Prepared Stopped) → r ≡ Err ReadFault → PreparesOrStops words left left_after faults faults_after r → Rose faults faults_after
read_failed words left left_after faults faults_after r is comes = subst (PreparesOrStops words left left_after faults faults_after) is comes

-- a status that all is done with is this one
pub status_is : {n m : ℕ} → Done n ≡ Done m → n ≡ m
status_is is = cc

-- where a run is due not all is done
pub never_done : {job : Job} {status : ℕ} → Working job ≡ Done status → ⊥
never_done is = absurd cc

-- a refusal of the net text, or a fault, isn't the status of a run
pub run_is_undone : (status n : ℕ) → (n ≡ DONE) ⊎ (n ≡ FAULTED) → status ≡ n → (status ≡ NET_REFUSED) ⊎ IsFaultStatus status → ⊥
run_is_undone status n (inl done) is which = grind (arith, done, is, which)
run_is_undone status n (inr faulted) is which = grind (arith, faulted, is, which)

-- what holds of the bytes that are left, where these are known
pub if_some : (left : Option (List ℕ)) (P : List ℕ → Type 0) → ((bytes : List ℕ) → left ≡ Some bytes → P bytes) → IfSome left P
if_some None P given = tt
if_some (Some bytes) P given = given bytes refl

-- a status that comes in place of another does so for each input
pub in_place : (left : Option (List ℕ)) (P : List ℕ → Type 0) (n result : ℕ) → IsFaultStatus result → IfSome left (λ bytes. P bytes → (result ≡ n) ⊎ IsFaultStatus result)
in_place left P n result fault = if_some left (λ bytes. P bytes → (result ≡ n) ⊎ IsFaultStatus result) (λ bytes is p. inr fault)

-- a failed write comes in place of another status
or_fault : (n result : ℕ) → (result ≡ n) ⊎ (result ≡ WRITE_FAULT) → (result ≡ n) ⊎ IsFaultStatus result
or_fault n result (inl is) = inl is
or_fault n result (inr failed) = inr (inr (inl failed))

module _ {E : Type 0} (k : Call E) (a : Answer) (w : IsWritten k a) (laws : Laws) where
  pub words_clause : (fault : WordsFault) → reading k.words ≡ Err fault → (k.result ≡ WORDS_REFUSED) ⊎ ((k.result ≡ WRITE_FAULT) ⊎ (k.result ≡ NO_MEMORY))
  words_clause fault faulty = by_cases (status_or_fault k a w WORDS_REFUSED (words_status laws k.words k.left k.left_after a fault faulty w.comes))
    where
      by_cases : (k.result ≡ WORDS_REFUSED) ⊎ (k.result ≡ WRITE_FAULT) → (k.result ≡ WORDS_REFUSED) ⊎ ((k.result ≡ WRITE_FAULT) ⊎ (k.result ≡ NO_MEMORY))
      by_cases (inl is) = inl is
      by_cases (inr failed) = inr (inl failed)

  pub input_clause : (c : Command) → WordsOk k.words c → IfSome k.left (λ bytes. IsNoInput c bytes → (k.result ≡ NET_REFUSED) ⊎ IsFaultStatus k.result)
  input_clause c accepted = if_some k.left (λ bytes. IsNoInput c bytes → (k.result ≡ NET_REFUSED) ⊎ IsFaultStatus k.result) (λ bytes is wrong.
      let comes = subst (λ left. Comes k.words left k.left_after a) is w.comes in
      or_fault NET_REFUSED k.result (status_or_fault k a w NET_REFUSED (input_status laws k.words k.left_after bytes c a accepted wrong comes)))

  refused_record : (P : List ℕ → Type 0) (c : Command) → RefusesRecords P c → WordsOk k.words c → IfSome k.left (λ bytes. P bytes → (k.result ≡ RECORD_REFUSED) ⊎ IsFaultStatus k.result)
  refused_record P c reads accepted = if_some k.left (λ bytes. P bytes → (k.result ≡ RECORD_REFUSED) ⊎ IsFaultStatus k.result) (λ bytes is wrong.
      let comes = subst (λ left. Comes k.words left k.left_after a) is w.comes in
      or_fault RECORD_REFUSED k.result (status_or_fault k a w RECORD_REFUSED (record_status laws k.words k.left_after bytes P c a reads accepted wrong comes)))

  pub record_clause : (options : Options) → WordsOk k.words (command.Replay options) → IfSome k.left (λ bytes. IsNoRecord options bytes → (k.result ≡ RECORD_REFUSED) ⊎ IsFaultStatus k.result)
  record_clause options accepted = refused_record (IsNoRecord options) (command.Replay options) (replay_refuses options) accepted

  pub moves_clause : (options : Options) → WordsOk k.words (command.Moves options) → IfSome k.left (λ bytes. IsNoRecord options bytes → (k.result ≡ RECORD_REFUSED) ⊎ IsFaultStatus k.result)
  moves_clause options accepted = refused_record (IsNoRecord options) (command.Moves options) (moves_refuse options) accepted

  pub migrate_clause : WordsOk k.words command.Migrate → IfSome k.left (λ bytes. IsUnread bytes → (k.result ≡ RECORD_REFUSED) ⊎ IsFaultStatus k.result)
  migrate_clause accepted = refused_record IsUnread command.Migrate migrate_refuses accepted

  -- a net text that is refused
  pub refused_clause : a.status ≡ NET_REFUSED → (k.result ≡ NET_REFUSED) ⊎ IsFaultStatus k.result
  refused_clause is = or_fault NET_REFUSED k.result (status_or_fault k a w NET_REFUSED is)

  pub complete_clause : (c : Command) → WordsOk k.words c → IsFine c k.left → ¬ Rose k.out_faults k.out_faults_after → ¬ Rose k.err_faults k.err_faults_after →
      (k.result ≡ DONE) ⊎ ((k.result ≡ NO_MEMORY) ⊎ ((k.result ≡ FAULTED) × MayFault c))
  complete_clause c accepted fine out_works err_works = by_cases (same_or_other k.result WRITE_FAULT)
    where
      by_fault : k.result ≡ WRITE_FAULT → ⊥
      by_fault failed = elim (write_fault_clause k a w failed) [ inl first ↦ out_works first.0 | inr second ↦ err_works second.0 ]

      by_cases : (k.result ≡ WRITE_FAULT) ⊎ (k.result ≢ WRITE_FAULT) → (k.result ≡ DONE) ⊎ ((k.result ≡ NO_MEMORY) ⊎ ((k.result ≡ FAULTED) × MayFault c))
      by_cases (inl failed) = absurd (by_fault failed)
      by_cases (inr other) = subst (IsDoneBut c) (sym (w.written other).0) (fine_status laws k.words k.left k.left_after c a accepted fine w.comes)
