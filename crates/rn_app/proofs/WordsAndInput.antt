-- What words and input come to, by what their parts say.
use Rattle.std.proofs.Common.{◌≡◌, ◌+◌, ◌≤◌, ℕ, List, [], Option, Some, None, Result, Ok, Err, inl, length, refl, sym, ap, subst, arith}
use Rattle.rn_items.specs.Memory.{no_memory}
use Rattle.rn_notation.specs.Limits.{longest_text}
use Rattle.rn_outside.proofs.ByteLemmas.{Gives-nothing}
use Rattle.rn_outside.specs.Bytes.{Gives, GivesAll, GivesAtMost}
use Rattle.rn_words.specs.declared.command.Command.{Command}
use Rattle.rn_words.specs.declared.command.Command.TheVariants as command
use Rattle.rn_words.specs.declared.command.WordsFault.{WordsFault}
use Rattle.rn_words.specs.Commands.{WordsOk}
use Rattle.rn_words.specs.Laws.{ReadsWhatIsAccepted}
use Rattle.rn_words.specs.Reading.{reading}
use Rattle.rn_answering.specs.declared.answer.Answer.{Answer}
use Rattle.rn_answering.specs.declared.stopped.Stopped.{Stopped}
use Rattle.rn_answering.specs.declared.stopped.Stopped.TheVariants.{Refused, ReadFault, NoMemory}
use Rattle.rn_answering.specs.Input.{longest_input, IsUnread}
use Rattle.rn_answering.specs.declared.status.TheConstants.{NET_REFUSED, WORDS_REFUSED}
use Rattle.rn_answering.specs.Lines.{words_line}
use Rattle.rn_answering.specs.Refusing.{Stops, refusal}
use Rattle.rn_app.specs.declared.preparing.Prepared.{Prepared}
use Rattle.rn_app.specs.declared.preparing.Prepared.TheVariants.{Answered, Due}
use Rattle.rn_app.specs.Commands.{ComesTo}
use Rattle.rn_app.specs.Begun.{NeedsThreads}
use Rattle.rn_app.specs.link.Begun.{AnswersTo, IfAnswered, IsPrepared, IsStoppedBy, PreparesOrStops}
use Rattle.rn_app.specs.TopCall.{Comes}

-- accepted words give one command
pub one_command : ReadsWhatIsAccepted → (words : List (List ℕ)) (c d : Command) → WordsOk words c → WordsOk words d → c ≡ d
one_command law words c d first second =
    let one : reading words ≡ Ok c = (law words c).1 first in
    let other : reading words ≡ Ok d = (law words d).1 second in
    cc

-- and no fault
pub not_faulty : ReadsWhatIsAccepted → (words : List (List ℕ)) (c : Command) (fault : WordsFault) → WordsOk words c → reading words ≡ Err fault → ⊥
not_faulty law words c fault accepted faulty =
    let one : reading words ≡ Ok c = (law words c).1 accepted in
    absurd cc

-- words that have a fault come to its line
by_fault : (words : List (List ℕ)) (left : Option (List ℕ)) (faults : ℕ) (fault : WordsFault) (s : Stopped) → reading words ≡ Err fault → Stops (λ a. a ≡ refusal WORDS_REFUSED (words_line fault)) s → IsStoppedBy words left left faults faults s
by_fault words left faults fault (Refused a) faulty is = subst (Comes words left left) (sym is) (Comes.wordless fault faulty refl)
by_fault words left faults fault ReadFault faulty stops = absurd stops
by_fault words left faults fault (NoMemory _) faulty stops = tt

by_reading : (words : List (List ℕ)) (left : Option (List ℕ)) (faults : ℕ) (s : Stopped) (r : Result Command WordsFault) → reading words ≡ r → ((c : Command) → reading words ≡ Ok c → ⊥) →
    ((fault : WordsFault) → reading words ≡ Err fault → Stops (λ a. a ≡ refusal WORDS_REFUSED (words_line fault)) s) → IsStoppedBy words left left faults faults s
by_reading words left faults s (Ok c) is given refused = absurd (given c is)
by_reading words left faults s (Err fault) is given refused = by_fault words left faults fault s is (refused fault is)

-- words that give no command come to the line of their fault
pub wordless : (words : List (List ℕ)) (left : Option (List ℕ)) (faults : ℕ) (s : Stopped) → ((c : Command) → reading words ≡ Ok c → ⊥) →
    ((fault : WordsFault) → reading words ≡ Err fault → Stops (λ a. a ≡ refusal WORDS_REFUSED (words_line fault)) s) → IsStoppedBy words left left faults faults s
wordless words left faults s given refused = by_reading words left faults s (reading words) refl given refused

-- no read fails before the command is known
unread_by_fault : (fault : WordsFault) (s : Stopped) → Stops (λ a. a ≡ refusal WORDS_REFUSED (words_line fault)) s → s ≡ ReadFault → ⊥
unread_by_fault fault (Refused a) stops e = absurd cc
unread_by_fault fault ReadFault stops e = stops
unread_by_fault fault (NoMemory _) stops e = absurd cc

unread_by_reading : (words : List (List ℕ)) (s : Stopped) (r : Result Command WordsFault) → reading words ≡ r → ((c : Command) → reading words ≡ Ok c → ⊥) →
    ((fault : WordsFault) → reading words ≡ Err fault → Stops (λ a. a ≡ refusal WORDS_REFUSED (words_line fault)) s) → s ≡ ReadFault → ⊥
unread_by_reading words s (Ok c) is given refused = absurd (given c is)
unread_by_reading words s (Err fault) is given refused = unread_by_fault fault s (refused fault is)

pub no_read_words : (words : List (List ℕ)) (s : Stopped) (r : Result Prepared Stopped) → r ≡ Err s → ((c : Command) → reading words ≡ Ok c → ⊥) →
    ((fault : WordsFault) → reading words ≡ Err fault → Stops (λ a. a ≡ refusal WORDS_REFUSED (words_line fault)) s) → r ≡ Err ReadFault → ⊥
no_read_words words s r is given refused read = let same : s ≡ ReadFault = cc in unread_by_reading words s (reading words) refl given refused same

-- what a command comes to on all of its input is what the words and the input come to
pub done_on : (words : List (List ℕ)) (left left_after : Option (List ℕ)) (c : Command) (bytes : List ℕ) (a : Answer) (most : Option ℕ) → longest_input c ≡ most → WordsOk words c →
    (longest_input c ≡ None → (left_after ≡ left) × (bytes ≡ [])) → ((limit : ℕ) → longest_input c ≡ Some limit → GivesAll left bytes left_after × (length bytes ≤ limit)) → ComesTo c bytes a → Comes words left left_after a
done_on words left left_after c bytes a None is accepted none all comes = Comes.inputless a c accepted is (subst (λ b. ComesTo c b a) (none is).1 comes) (none is).0
done_on words left left_after c bytes a (Some limit) is accepted none all comes = Comes.whole a c limit bytes accepted is (all limit is).0 (all limit is).1 comes

-- what a command comes to without threads it comes to
answers_come : (c : Command) (bytes : List ℕ) (a : Answer) → AnswersTo c bytes a → ComesTo c bytes a
answers_come (command.Run options) bytes a refuses = inl refuses
answers_come (command.RunLeast options) bytes a refuses = inl refuses
answers_come (command.RunSeeded options seed) bytes a refuses = inl refuses
answers_come (command.Gen copies options) bytes a never = absurd never
answers_come (command.GenSeeded copies options seed) bytes a never = absurd never
answers_come command.Check bytes a comes = comes
answers_come command.Print bytes a comes = comes
answers_come (command.Enabled depth) bytes a comes = comes
answers_come (command.Replay options) bytes a comes = comes
answers_come (command.Session options) bytes a comes = comes
answers_come (command.Counts options) bytes a comes = comes
answers_come (command.Moves options) bytes a comes = comes
answers_come command.Pt bytes a comes = comes
answers_come command.Migrate bytes a comes = comes

-- and one that needs threads comes to a refusal
threads_refuse : (c : Command) (bytes : List ℕ) (a : Answer) → NeedsThreads c → AnswersTo c bytes a → a.status ≡ NET_REFUSED
threads_refuse (command.Run options) bytes a needs (line, why, is) = ap (λ x. x.status) is
threads_refuse (command.RunLeast options) bytes a needs (line, why, is) = ap (λ x. x.status) is
threads_refuse (command.RunSeeded options seed) bytes a needs (line, why, is) = ap (λ x. x.status) is
threads_refuse (command.Gen copies options) bytes a needs never = absurd never
threads_refuse (command.GenSeeded copies options seed) bytes a needs never = absurd never
threads_refuse command.Check bytes a needs comes = absurd needs
threads_refuse command.Print bytes a needs comes = absurd needs
threads_refuse (command.Enabled depth) bytes a needs comes = absurd needs
threads_refuse (command.Replay options) bytes a needs comes = absurd needs
threads_refuse (command.Session options) bytes a needs comes = absurd needs
threads_refuse (command.Counts options) bytes a needs comes = absurd needs
threads_refuse (command.Moves options) bytes a needs comes = absurd needs
threads_refuse command.Pt bytes a needs comes = absurd needs
threads_refuse command.Migrate bytes a needs comes = absurd needs

-- what is prepared of a command is what the words and the input come to, or a run that is due
pub prepares : (words : List (List ℕ)) (left left_after : Option (List ℕ)) (faults faults_after : ℕ) (c : Command) (bytes : List ℕ) (r : Result Prepared Stopped) → WordsOk words c →
    (longest_input c ≡ None → (left_after ≡ left) × (bytes ≡ [])) → ((limit : ℕ) → longest_input c ≡ Some limit → GivesAll left bytes left_after × (length bytes ≤ limit)) → IsPrepared c bytes r →
    PreparesOrStops words left left_after faults faults_after r
prepares words left left_after faults faults_after c bytes (Ok (Answered a)) accepted none all answers = done_on words left left_after c bytes a (longest_input c) refl accepted none all (answers_come c bytes a answers)
prepares words left left_after faults faults_after c bytes (Ok (Due job)) accepted none all (asked, can_run) =
    record { chosen = c; given = accepted; bytes = bytes; asked = asked; can_run = can_run; inputless = none; whole = all }
prepares words left left_after faults faults_after c bytes (Err (Refused a)) accepted none all answers = done_on words left left_after c bytes a (longest_input c) refl accepted none all (answers_come c bytes a answers)
prepares words left left_after faults faults_after c bytes (Err ReadFault) accepted none all never = absurd never
prepares words left left_after faults faults_after c bytes (Err (NoMemory _)) accepted none all given = tt

-- where no run is due a command that needs threads is refused
pub prepared_refused : (c : Command) (bytes : List ℕ) (r : Result Prepared Stopped) → NeedsThreads c → IsPrepared c bytes r → IfAnswered r (λ a. a.status ≡ NET_REFUSED)
prepared_refused c bytes (Ok (Answered a)) needs answers = threads_refuse c bytes a needs answers
prepared_refused c bytes (Ok (Due job)) needs is = tt
prepared_refused c bytes (Err (Refused a)) needs answers = threads_refuse c bytes a needs answers
prepared_refused c bytes (Err ReadFault) needs is = tt
prepared_refused c bytes (Err (NoMemory _)) needs is = tt

-- so it is where its input is too long
too_long_refused : (limit : ℕ) (left : Option (List ℕ)) (faults faults_after : ℕ) (s : Stopped) → IsUnread limit left faults faults_after s → IfAnswered (Err s) (λ a. a.status ≡ NET_REFUSED)
too_long_refused limit left faults faults_after (Refused a) (long, is) = ap (λ x. x.status) is
too_long_refused limit left faults faults_after ReadFault is = tt
too_long_refused limit left faults faults_after (NoMemory _) is = tt

pub unread_refused : (left : Option (List ℕ)) (faults faults_after : ℕ) (c : Command) (most : Option ℕ) (s : Stopped) → longest_input c ≡ most → (longest_input c ≡ None → ⊥) →
    ((limit : ℕ) → longest_input c ≡ Some limit → IsUnread limit left faults faults_after s) → IfAnswered (Err s) (λ a. a.status ≡ NET_REFUSED)
unread_refused left faults faults_after c None s is some why = absurd (some is)
unread_refused left faults faults_after c (Some limit) s is some why = too_long_refused limit left faults faults_after s (why limit is)

-- a command's work meets no read fault
pub no_read : (c : Command) (bytes : List ℕ) (r : Result Prepared Stopped) → IsPrepared c bytes r → r ≡ Err ReadFault → ⊥
no_read c bytes (Ok prepared) is e = absurd cc
no_read c bytes (Err (Refused a)) is e = absurd cc
no_read c bytes (Err ReadFault) is e = is
no_read c bytes (Err (NoMemory _)) is e = absurd cc

-- out of memory is no failed read
pub no_read_memory : {A : Type 0} (r : Result A Stopped) → r ≡ Err (NoMemory no_memory) → r ≡ Err ReadFault → ⊥
no_read_memory (Ok a) memory read = absurd cc
no_read_memory (Err (Refused a)) memory read = absurd cc
no_read_memory (Err ReadFault) memory read = absurd cc
no_read_memory (Err (NoMemory _)) memory read = absurd cc

-- input that isn't read is too long, or a read failed, or memory ran out
pub unread_by : (words : List (List ℕ)) (left left_after : Option (List ℕ)) (faults faults_after : ℕ) (c : Command) (limit : ℕ) (s : Stopped) → WordsOk words c → longest_input c ≡ Some limit →
    IsUnread limit left faults faults_after s → GivesAtMost (limit + 1) left left_after → IsStoppedBy words left left_after faults faults_after s
unread_by words left left_after faults faults_after c limit (Refused a) accepted is (long, told) gives = subst (Comes words left left_after) (sym told) (Comes.longer c limit accepted is long gives)
unread_by words left left_after faults faults_after c limit ReadFault accepted is why gives = why
unread_by words left left_after faults faults_after c limit (NoMemory _) accepted is why gives = tt

pub unread : (words : List (List ℕ)) (left left_after : Option (List ℕ)) (faults faults_after : ℕ) (c : Command) (most : Option ℕ) (s : Stopped) → longest_input c ≡ most → WordsOk words c → (longest_input c ≡ None → ⊥) →
    ((limit : ℕ) → longest_input c ≡ Some limit → IsUnread limit left faults faults_after s) → ((limit : ℕ) → longest_input c ≡ Some limit → GivesAtMost (limit + 1) left left_after) → IsStoppedBy words left left_after faults faults_after s
unread words left left_after faults faults_after c None s is accepted none why gives = absurd (none is)
unread words left left_after faults faults_after c (Some limit) s is accepted none why gives = unread_by words left left_after faults faults_after c limit s accepted is (why limit is) (gives limit is)

-- no command's input is longer than the longest text
limit_few : (c : Command) (limit : ℕ) → longest_input c ≡ Some limit → limit ≤ longest_text
limit_few c limit is = grind (arith, is)

pub few_bytes : (c : Command) (bytes : List ℕ) (most : Option ℕ) → longest_input c ≡ most → (longest_input c ≡ None → bytes ≡ []) → ((limit : ℕ) → longest_input c ≡ Some limit → length bytes ≤ limit) → length bytes ≤ longest_text
few_bytes c bytes None is none all = let empty : length bytes ≡ 0 = ap length (none is) in omega (arith, empty)
few_bytes c bytes (Some limit) is none all = omega (arith, all limit is, limit_few c limit is)

-- what is known of the input that one command took is known of each that the words give
pub of_command : (P : Command → Type 0) → ReadsWhatIsAccepted → (words : List (List ℕ)) (c : Command) → WordsOk words c → P c → (d : Command) → WordsOk words d → P d
of_command P law words c accepted p d given = subst P (one_command law words c d accepted given) p

-- where the words have a fault no command is read
pub of_fault : (P : Type 0) → ReadsWhatIsAccepted → (words : List (List ℕ)) (c : Command) → WordsOk words c → (fault : WordsFault) → reading words ≡ Err fault → P
of_fault P law words c accepted fault faulty = absurd (not_faulty law words c fault accepted faulty)

-- nothing is given within any limit
pub nothing_given : (most : ℕ) (left : Option (List ℕ)) → GivesAtMost most left left
nothing_given most left = record { prefix = []; few = omega arith; gives = Gives-nothing left }

-- what every limit allows the longest text does
pub taken_at_most : (c : Command) (left left_after : Option (List ℕ)) (reads reads_after : ℕ) (most : Option ℕ) → longest_input c ≡ most → (longest_input c ≡ None → (left_after ≡ left) × (reads_after ≡ reads)) →
    ((limit : ℕ) → longest_input c ≡ Some limit → GivesAtMost (limit + 1) left left_after × (reads_after ≤ reads + (limit + 1))) → GivesAtMost (longest_text + 1) left left_after × (reads_after ≤ reads + (longest_text + 1))
taken_at_most c left left_after reads reads_after None is none some =
    let (same, as_many) = none is in
    (record { prefix = []; few = omega arith; gives = subst (λ l. Gives left [] l) (sym same) (Gives-nothing left) }, omega (arith, as_many))
taken_at_most c left left_after reads reads_after (Some limit) is none some =
    let (gives, few) = some limit is in
    (record { prefix = gives.prefix; few = omega (arith, gives.few, limit_few c limit is); gives = gives.gives }, omega (arith, few, limit_few c limit is))
